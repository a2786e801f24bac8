use Rattle.lv_probe.proofs.LawLemmas.{numbers_listed}
use Rattle.lv_probe.proofs.laws.numbers_are_listed.Goals as goal

pub returns : goal.returns
returns c = numbers_listed
