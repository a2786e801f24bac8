-- each list of values is listed, and putting in order loses none
use Rattle.lv_meaning.proofs.CommandSets.{sets_rise, set_is_listed, listed_is_set}
use Rattle.lv_meaning.proofs.recovery_laws.command_sets_are_all.Goals as goal

pub returns : goal.returns
returns c = record { rising = sets_rise; listed = set_is_listed; are = listed_is_set }
