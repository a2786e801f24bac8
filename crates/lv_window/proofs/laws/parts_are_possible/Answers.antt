use Rattle.lv_window.specs.Lawful.{part_over}
use Rattle.lv_window.proofs.laws.parts_are_possible.Goals as goal

pub returns : goal.returns
returns c = λ plant steps part whole inside can. part_over plant steps part whole inside can
