-- no literal is left, so nothing is marked
use Rattle.std.proofs.Common.{◌≤◌, length, ap, subst, ◌∙◌, arith}
use Rattle.std.proofs.lemmas.List.{drop_all}
use Rattle.lv_clauses.specs.Marks.{nothing}
use Rattle.lv_clauses.specs.Noted.{AreTaken}
use Rattle.lv_clauses.proofs.TakenLemmas.{nothing-from_taken}
use Rattle.lv_clauses.proofs.noted_marks.unmark_all.Goals as goal

pub returns : goal.returns
returns c =
    let past : length c.args.taken.now ≤ c.loop-lit.lit-index = omega arith in
    nothing-from_taken c.loop-lit.marks.items (subst (AreTaken c.loop-lit.marks.items) (drop_all c.loop-lit.lit-index c.args.taken.now past) c.loop-lit.invariant.taken)
    ∙ ap nothing c.loop-lit.invariant.len
