-- the first key is that of the first of what is left
use Rattle.std.proofs.Common.{List, sym, ◌∙◌, ap}
use Rattle.std.specs.Prelude.{slice_get}
use Rattle.lv_base.specs.declared.rank.Rank.{Rank}
use Rattle.lv_guide.proofs.GuideLemmas.{first_entry}
use Rattle.lv_guide.proofs.guide.GuideFrontier.first.Goals as goal

pub returns-in-Some : goal.returns-in-Some
returns-in-Some c =
    sym (ap (λ (left : List Rank). slice_get left 0) (sym c.self.view_is)
    ∙ first_entry c.self.inside.grid c.self.inside.known c.self.inside.queue.entries c.in-Some.rank.now c.in-Some.field-0-1.now c.self.invariant.ready c.in-Some.ensures.first c.in-Some.ensures.all_from)
