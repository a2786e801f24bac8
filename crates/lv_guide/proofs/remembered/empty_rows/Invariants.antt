-- nothing is kept in the rows so far
use Rattle.std.proofs.Common.{◌≡◌, true, is_none}
use Rattle.std.specs.List.{list_all}
use Rattle.lv_guide.proofs.remembered.empty_rows.Given as goal

abbrev pub invariant-loop-row : goal.invariant-loop-row
invariant-loop-row l = list_all is_none l.rows.items ≡ true
