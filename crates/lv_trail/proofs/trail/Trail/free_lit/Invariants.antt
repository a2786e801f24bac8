-- all booleans so far are marked
use Rattle.std.proofs.Common.{◌≡◌, true, take, is_some}
use Rattle.std.specs.List.{list_all}
use Rattle.lv_trail.proofs.trail.Trail.free_lit.Given as goal

abbrev pub invariant-loop-var : goal.invariant-loop-var
invariant-loop-var l = list_all is_some (take l.var l.self.marks.items) ≡ true
