use Rattle.lv_checker.proofs.FitsDrafts.{accepted_well}
use Rattle.lv_checker.proofs.laws.accepted_is_well_formed.Goals as goal

pub returns : goal.returns
returns c = accepted_well
