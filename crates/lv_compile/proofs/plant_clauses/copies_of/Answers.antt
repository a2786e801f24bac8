-- a well-formed plant has few values
use Rattle.std.proofs.Common.{ap, ◌∙◌, arith}
use Rattle.std.specs.List.{sum}
use Rattle.lv_compile.proofs.SumLemmas.{few_values}
use Rattle.lv_compile.proofs.plant_clauses.copies_of.Goals as goal

pub sum_of-values-requires : goal.sum_of-values-requires
sum_of-values-requires c =
    let few = few_values c.args.plant.now c.requires in
    let same = ap sum (c.as_slice.ensures.value ∙ c.in_ok-sizes.ensures) in
    omega (arith, few, same)

pub new-requires-2 : goal.new-requires-2
new-requires-2 c =
    let few = few_values c.args.plant.now c.requires in
    let same = ap sum (c.as_slice.ensures.value ∙ c.in_ok-sizes.ensures) in
    let values = c.sum_of-values.ensures in
    let again = ap sum c.in_ok-sizes-2.ensures in
    omega (arith, few, same, values, again)
