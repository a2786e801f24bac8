-- what was added and the products of what is left are the product
use Rattle.std.proofs.Common.{◌≡◌, ◌++◌, drop}
use Rattle.std.specs.List.{flat_map}
use Rattle.lv_compile.specs.FormulaClauses.{each_after}
use Rattle.lv_compile.proofs.clause_lists.product.Given as goal

abbrev pub invariant-loop-front : goal.invariant-loop-front
invariant-loop-front l = l.out.items ++ flat_map (each_after l.backs) (drop l.front-index l.fronts) ≡ flat_map (each_after l.backs) l.fronts
