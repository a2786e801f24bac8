-- the sizes that stand there and those that are left are all
use Rattle.std.proofs.Common.{◌≡◌, ◌++◌, ◌∷◌, map, drop}
use Rattle.lv_base.specs.declared.limits.TheConstants.{MODES}
use Rattle.lv_model.specs.Counts.{variable_size}
use Rattle.lv_model.proofs.counts.formula_sizes.Given as goal

abbrev pub invariant-loop-v : goal.invariant-loop-v
invariant-loop-v l = l.out.items ++ map (variable_size l.domains) (drop l.v-index l.variables) ≡ MODES ∷ map (variable_size l.domains) l.variables
