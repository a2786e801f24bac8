-- nothing is left
use Rattle.lv_sat.proofs.FrontLemmas.{kept_nothing}
use Rattle.lv_sat.proofs.front.Front.forget.Goals as goal

pub returns : goal.returns
returns c = λ set. kept_nothing set c.clear.new.self.items c.take_back.new.self.trail.marks.items c.take_back.new.self.trail.entries.items c.clear.ensures.items c.take_back.ensures.entries
