-- the literal found and those left that aren't false say what the clause says
use Rattle.std.proofs.Common.{◌≡◌, ◌++◌, drop, option_to_list}
use Rattle.lv_clauses.specs.Marks.{unmet, finding_of, look_at}
use Rattle.lv_clauses.proofs.marks.look.Given as goal

abbrev pub invariant-loop-lit : goal.invariant-loop-lit
invariant-loop-lit l = finding_of (option_to_list l.left ++ unmet l.marks (drop l.lit-index l.clause)) ≡ look_at l.marks l.clause
