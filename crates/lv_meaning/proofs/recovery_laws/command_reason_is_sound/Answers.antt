-- the laws of what is left, for the test of the first state that isn't sure
use Rattle.lv_meaning.proofs.CommandReasons.{reason_is_inside, reason_is_rising, reason_is_apart, reason_is_blocked, reason_is_needed}
use Rattle.lv_meaning.proofs.recovery_laws.command_reason_is_sound.Goals as goal

pub returns : goal.returns
returns c = record { part = reason_is_inside; rising = reason_is_rising; apart = reason_is_apart; blocked = reason_is_blocked; needed = reason_is_needed }
