-- a step with all of the values is one with some of them
use Rattle.lv_meaning.proofs.NominalSteps.{part_reaches, reaches_without}
use Rattle.lv_meaning.proofs.recovery_laws.reaches_parts.Goals as goal

pub returns : goal.returns
returns c = record { among = part_reaches; one_left_out = reaches_without }
