-- what is left is shared
use Rattle.std.proofs.Common.{◌≡◌, ◌≤◌, length, subst, take}
use Rattle.lv_sat.specs.Front.{assumed}
use Rattle.lv_sat.proofs.FrontLemmas.{cut_shared}
use Rattle.lv_sat.proofs.front.Front.keep.Goals as goal

pub returns-clause-shared : goal.returns-clause-shared
returns-clause-shared c =
    cut_shared c.args.self.now.levels.items c.cut_to.new.self.levels.items c.args.assumptions.now c.count_shared-count.result (subst (λ ls. c.count_shared-count.result ≤ length ls) c.as_slice.ensures.value c.count_shared-count.ensures.levels) c.cut_to.ensures.levels
    (subst (λ ls. take c.count_shared-count.result (assumed ls) ≡ take c.count_shared-count.result c.args.assumptions.now) c.as_slice.ensures.value c.count_shared-count.ensures.shared)
