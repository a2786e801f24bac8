-- what the part leaves of the conflicts inside tells the same
use Rattle.std.proofs.Common.{◌∙◌, ap}
use Rattle.std.proofs.lemmas.Result.{IfOk-weaker}
use Rattle.lv_search_parts.specs.Slots.{only}
use Rattle.lv_search_guide.proofs.PartLemmas.{part_lowest}
use Rattle.lv_search_guide.proofs.problem.Problem.first_of_part.Goals as goal

pub returns : goal.returns
returns c =
    IfOk-weaker c.first-2.result _ _
    (λ first told. part_lowest c.args.self.now.grid.now c.in_ok-grid.grid c.args.self.now.conflicts.now c.in_ok-inner.inner.items c.in_ok-conflicts.conflicts c.args.marks.now c.args.masks.now c.as_slice-2.result.now c.from_vec.result first
    c.in_ok-grid.ensures (c.as_slice-2.ensures.value ∙ c.in_ok-words.ensures ∙ ap (only c.args.marks.now) c.as_slice.ensures) (c.from_vec.ensures ∙ c.in_ok-words.ensures ∙ ap (only c.args.marks.now) c.as_slice.ensures)
    c.in_ok-conflicts.ensures c.in_ok-inner.ensures told)
    c.first-2.ensures.first
