-- few copies have few booleans, and the formulas of a well-formed plant speak of values that have booleans
use Rattle.std.proofs.Common.{◌≡◌, ◌+◌, ◌++◌, ℕ, ap, ◌∙◌, arith}
use Rattle.std.specs.List.{sum}
use Rattle.lv_model.specs.Lists.{sizes}
use Rattle.lv_compile.specs.Booleans.{Booleans}
use Rattle.lv_compile.specs.ModelClauses.{copy_clauses}
use Rattle.lv_compile.proofs.SumLemmas.{few_values}
use Rattle.lv_compile.proofs.SpeakingLemmas.{system_speaks, parts_hold}
use Rattle.lv_compile.proofs.WindowLemmas.{copies_more, past_more}
use Rattle.lv_compile.proofs.windows.push_copies.Goals as goal

pub bools_from-requires : goal.bools_from-requires
bools_from-requires c =
    let few = few_values c.args.plant.now c.requires.well in
    let fit = c.copies.invariant.fit in
    let some = c.copies-test.true in
    let most = c.requires.few in
    omega (arith, few, fit, some, most)

pub push_copy-requires-clause-laws : goal.push_copy-requires-clause-laws
push_copy-requires-clause-laws c = system_speaks c.args.plant.now c.requires.well c.in_ok-bools.bools (ap (λ (b : Booleans). b.sizes) c.in_ok-bools.ensures)

pub push_copy-requires-clause-parts : goal.push_copy-requires-clause-parts
push_copy-requires-clause-parts c = parts_hold c.args.plant.now c.requires.well c.in_ok-bools.bools (ap (λ (b : Booleans). b.sizes) c.in_ok-bools.ensures)

pub copies-preserved : goal.copies-preserved
copies-preserved c =
    let plant = c.args.plant.now in
    let first = c.copies.first in
    let behind = first + c.sum_of-first.result in
    let left = c.copies.left in
    let some = c.copies-test.true in
    let few = few_values plant c.requires.well in
    let fit = c.copies.invariant.fit in
    let many : c.sum_of-first.result ≡ sum (sizes plant) = c.sum_of-first.ensures ∙ ap sum c.sizes.ensures.sizes ∙ ap (λ (b : Booleans). sum b.sizes) c.in_ok-bools.ensures in
    let is = ap (λ (n : ℕ). first + n) many in
    record {
      rest =
          copies_more plant first behind left c.copies.out.items c.push_copy.new.out.items _ some c.copies.invariant.rest
          (c.in_ok-push_copy.ensures ∙ ap (λ (b : Booleans). c.copies.out.items ++ copy_clauses b plant) c.in_ok-bools.ensures) is;
      past = past_more plant first behind left _ some c.copies.invariant.past is;
      fit = omega (arith, fit, some, many, few);
    }
