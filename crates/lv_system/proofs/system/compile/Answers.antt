-- the clauses of a well-formed plant are over its booleans, and these have numbers
use Rattle.std.proofs.Common.{◌≡◌, ◌+◌, true, subst, ap, ◌∙◌, arith}
use Rattle.std.specs.List.{sum}
use Rattle.lv_model.specs.declared.plant.Plant.{Plant}
use Rattle.lv_model.specs.WellFormed.{is_well_formed}
use Rattle.lv_compile.specs.Booleans.{booleans_now, booleans_next, first_choice}
use Rattle.lv_system.specs.Choices.{Choices}
use Rattle.lv_system.proofs.SystemLemmas.{all_over, system_of, kept_of, choices_fit, bools_are}
use Rattle.lv_system.proofs.system.compile.Goals as goal

pub sum_of-requires : goal.sum_of-requires
sum_of-requires c =
    let well = subst (λ (p : Plant). is_well_formed p ≡ true) c.plant.ensures.plant c.plant.ensures.well_formed in
    let first = c.in_ok-copies.ensures.choices ∙ ap first_choice c.plant.ensures.plant in
    let fit = choices_fit c.args.model.now well c.in_ok-copies.copies.first_choice first c.in_ok-counts.counts.items c.in_ok-counts.ensures.counts in
    let same = ap sum c.as_slice.ensures.value in
    omega (arith, fit, same)

pub overflow_add-bools : goal.overflow_add-bools
overflow_add-bools c =
    let well = subst (λ (p : Plant). is_well_formed p ≡ true) c.plant.ensures.plant c.plant.ensures.well_formed in
    let first = c.in_ok-copies.ensures.choices ∙ ap first_choice c.plant.ensures.plant in
    let fit = choices_fit c.args.model.now well c.in_ok-copies.copies.first_choice first c.in_ok-counts.counts.items c.in_ok-counts.ensures.counts in
    let same = ap sum c.as_slice.ensures.value in
    let total = c.sum_of.ensures in
    omega (arith, fit, same, total)

pub new-requires : goal.new-requires
new-requires c =
    let well = subst (λ (p : Plant). is_well_formed p ≡ true) c.plant.ensures.plant c.plant.ensures.well_formed in
    let first = c.in_ok-copies.ensures.choices ∙ ap first_choice c.plant.ensures.plant in
    choices_fit c.args.model.now well c.in_ok-copies.copies.first_choice first c.in_ok-counts.counts.items c.in_ok-counts.ensures.counts

pub number_all-requires : goal.number_all-requires
number_all-requires c =
    let well = subst (λ (p : Plant). is_well_formed p ≡ true) c.plant.ensures.plant c.plant.ensures.well_formed in
    let first = c.in_ok-copies.ensures.choices ∙ ap first_choice c.plant.ensures.plant in
    let total = c.sum_of.ensures ∙ ap sum c.as_slice.ensures.value in
    let bools = bools_are c.args.model.now c.in_ok-copies.copies.first_choice first c.in_ok-counts.counts.items c.in_ok-counts.ensures.counts c.sum_of.result total in
    all_over c.args.model.now well (c.in_ok-copies.copies.first_choice + c.sum_of.result) bools c.as_slice-2.result.now (c.as_slice-2.ensures.value ∙ c.in_ok-clauses.ensures)

pub invariant_of-result : goal.invariant_of-result
invariant_of-result c =
    let well = subst (λ (p : Plant). is_well_formed p ≡ true) c.plant.ensures.plant c.plant.ensures.well_formed in
    kept_of c.args.model.now well c.in_ok-numbered.numbered.set c.in_ok-numbered.numbered.ids.items c.as_slice-2.result.now (c.as_slice-2.ensures.value ∙ c.in_ok-clauses.ensures) c.in_ok-numbered.ensures.numbered

pub returns : goal.returns
returns c =
    let first = c.in_ok-copies.ensures.choices ∙ ap first_choice c.plant.ensures.plant in
    let total = c.sum_of.ensures ∙ ap sum c.as_slice.ensures.value in
    let bools = bools_are c.args.model.now c.in_ok-copies.copies.first_choice first c.in_ok-counts.counts.items c.in_ok-counts.ensures.counts c.sum_of.result total in
    system_of c.args.model.now _ (c.in_ok-copies.copies.first_choice + c.sum_of.result) c.in_ok-numbered.ensures.bools bools c.as_slice-2.result.now
    (c.as_slice-2.ensures.value ∙ c.in_ok-clauses.ensures) c.in_ok-numbered.ensures.numbered (c.in_ok-copies.ensures.before ∙ ap booleans_now c.plant.ensures.plant)
    (c.in_ok-copies.ensures.after ∙ ap booleans_next c.plant.ensures.plant) (ap (λ (x : Choices). x.first) c.in_ok-choices.ensures ∙ first)
    (ap (λ (x : Choices). x.counts) c.in_ok-choices.ensures ∙ c.in_ok-counts.ensures.counts)
