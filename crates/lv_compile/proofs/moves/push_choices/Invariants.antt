-- what was added and what the parts that are left ask for are all, and the numbers still fit
use Rattle.std.proofs.Common.{◌≡◌, ◌+◌, ◌<◌, ◌++◌, ◌^◌, drop, sum_by}
use Rattle.lv_model.specs.Lists.{part_moves}
use Rattle.lv_compile.specs.ModelClauses.{choices_clauses}
use Rattle.lv_compile.proofs.moves.push_choices.Given as goal

abbrev pub invariant-loop-part : goal.invariant-loop-part
invariant-loop-part l = record {
  rest : l.out.items ++ choices_clauses l.copies.before l.copies.after l.types l.choice (drop l.part-index l.parts) ≡ l.initial.out.items ++ choices_clauses l.copies.before l.copies.after l.types l.first l.parts;
  fit : l.choice + sum_by (part_moves l.types) (drop l.part-index l.parts) < 2 ^ 32;
}
