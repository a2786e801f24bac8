-- what was added and the clauses of the parts that are left are all
use Rattle.std.proofs.Common.{◌≡◌, ◌++◌, drop}
use Rattle.std.specs.List.{flat_map}
use Rattle.lv_compile.specs.ModelClauses.{part_clauses}
use Rattle.lv_compile.proofs.copies.push_parts.Given as goal

abbrev pub invariant-loop-part : goal.invariant-loop-part
invariant-loop-part l = l.out.items ++ flat_map (part_clauses l.bools l.types) (drop l.part-index l.parts) ≡ l.initial.out.items ++ flat_map (part_clauses l.bools l.types) l.parts
