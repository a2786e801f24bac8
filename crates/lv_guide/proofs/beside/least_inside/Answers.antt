-- there is a choice for each slot
use Rattle.std.proofs.Common.{rules, ℕ, List, length, sym, ◌∙◌, ap}
use Rattle.lv_base.specs.declared.ids.Cost.{Cost}
use Rattle.lv_guide.proofs.BesideLemmas.{length-mixed}
use Rattle.lv_guide.proofs.beside.least_inside.Goals as goal

pub cost_of-cost-requires-clause-long : goal.cost_of-cost-requires-clause-long
cost_of-cost-requires-clause-long c =
    ap (λ (xs : List ℕ). length xs) (c.as_slice-in-Some.ensures.value ∙ c.in_ok-choices-in-Some.ensures)
    ∙ length-mixed c.args.marks.now c.as_slice.result.now c.args.others.now (search rules) (c.requires.others ∙ sym c.requires.marks)
    ∙ c.requires.marks
    ∙ sym (ap (λ (rows : List (List Cost)). length rows) c.slots-slots.ensures.slots)
