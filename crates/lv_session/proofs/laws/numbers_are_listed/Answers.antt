use Rattle.lv_session.proofs.Probing.{numbers_are}
use Rattle.lv_session.proofs.laws.numbers_are_listed.Goals as goal

pub returns : goal.returns
returns c = λ plant state sum other s plain. numbers_are plant state s plain sum other
