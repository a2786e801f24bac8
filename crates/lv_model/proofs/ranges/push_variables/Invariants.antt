-- what was added and what is left are all ranges
use Rattle.std.proofs.Common.{◌≡◌, ◌++◌, drop, map}
use Rattle.lv_model.specs.Ranges.{variable_range}
use Rattle.lv_model.proofs.ranges.push_variables.Given as goal

abbrev pub invariant-loop-v : goal.invariant-loop-v
invariant-loop-v l = l.out.items ++ map (variable_range l.domains) (drop l.v-index l.variables) ≡ l.initial.out.items ++ map (variable_range l.domains) l.variables
