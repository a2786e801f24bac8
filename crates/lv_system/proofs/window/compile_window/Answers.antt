-- the clauses of a well-formed plant's window are over its booleans, and these have numbers
use Rattle.std.proofs.Common.{◌≡◌, ◌+◌, ℕ, true, suc, List, subst, ap, ap₂, ◌∙◌, arith}
use Rattle.std.specs.List.{sum}
use Rattle.lv_model.specs.declared.plant.Plant.{Plant}
use Rattle.lv_model.specs.WellFormed.{is_well_formed}
use Rattle.lv_compile.specs.Windows.{past_copies}
use Rattle.lv_system.specs.Windows.{copies_from}
use Rattle.lv_system.proofs.WindowLemmas.{window_fits, window_total, window_over, window_of}
use Rattle.lv_system.proofs.window.compile_window.Goals as goal

pub sum_of-requires : goal.sum_of-requires
sum_of-requires c =
    let well = subst (λ (p : Plant). is_well_formed p ≡ true) c.plant.ensures.plant c.plant.ensures.well_formed in
    let first = c.in_ok-all.ensures.past ∙ ap (λ (p : Plant). past_copies p 0 (suc c.args.steps)) c.plant.ensures.plant in
    let fit = window_fits c.args.model.now well c.args.steps c.in_ok-all.all.past c.requires first c.in_ok-counts.counts.items c.in_ok-counts.ensures in
    let same = ap (λ (ns : List ℕ). sum ns) c.as_slice.ensures.value in
    omega (arith, fit, same)

pub overflow_add-bools : goal.overflow_add-bools
overflow_add-bools c =
    let well = subst (λ (p : Plant). is_well_formed p ≡ true) c.plant.ensures.plant c.plant.ensures.well_formed in
    let first = c.in_ok-all.ensures.past ∙ ap (λ (p : Plant). past_copies p 0 (suc c.args.steps)) c.plant.ensures.plant in
    let fit = window_fits c.args.model.now well c.args.steps c.in_ok-all.all.past c.requires first c.in_ok-counts.counts.items c.in_ok-counts.ensures in
    let same = ap (λ (ns : List ℕ). sum ns) c.as_slice.ensures.value in
    let total = c.sum_of.ensures in
    omega (arith, fit, same, total)

pub new-requires : goal.new-requires
new-requires c =
    let well = subst (λ (p : Plant). is_well_formed p ≡ true) c.plant.ensures.plant c.plant.ensures.well_formed in
    let first = c.in_ok-all.ensures.past ∙ ap (λ (p : Plant). past_copies p 0 (suc c.args.steps)) c.plant.ensures.plant in
    window_fits c.args.model.now well c.args.steps c.in_ok-all.all.past c.requires first c.in_ok-counts.counts.items c.in_ok-counts.ensures

pub number_all-requires : goal.number_all-requires
number_all-requires c =
    let well = subst (λ (p : Plant). is_well_formed p ≡ true) c.plant.ensures.plant c.plant.ensures.well_formed in
    let first = c.in_ok-all.ensures.past ∙ ap (λ (p : Plant). past_copies p 0 (suc c.args.steps)) c.plant.ensures.plant in
    let total = c.sum_of.ensures ∙ ap (λ (ns : List ℕ). sum ns) (c.as_slice.ensures.value ∙ c.in_ok-counts.ensures) in
    window_over c.args.model.now well c.args.steps (c.in_ok-all.all.past + c.sum_of.result) (window_total c.args.model.now c.args.steps c.in_ok-all.all.past c.sum_of.result first total)
    c.as_slice-2.result.now (c.as_slice-2.ensures.value ∙ c.in_ok-clauses.ensures)

pub returns : goal.returns
returns c =
    let plant = c.args.model.now in
    let first = c.in_ok-all.ensures.past ∙ ap (λ (p : Plant). past_copies p 0 (suc c.args.steps)) c.plant.ensures.plant in
    let total = c.sum_of.ensures ∙ ap (λ (ns : List ℕ). sum ns) (c.as_slice.ensures.value ∙ c.in_ok-counts.ensures) in
    window_of plant c.args.steps _ (c.in_ok-all.all.past + c.sum_of.result) c.in_ok-numbered.ensures.bools (window_total plant c.args.steps c.in_ok-all.all.past c.sum_of.result first total)
    c.as_slice-2.result.now (c.as_slice-2.ensures.value ∙ c.in_ok-clauses.ensures) c.in_ok-numbered.numbered.ids.items c.in_ok-numbered.ensures.numbered
    (c.from_vec.ensures ∙ c.in_ok-all.ensures.copies ∙ ap (λ (p : Plant). copies_from p 0 (suc c.args.steps)) c.plant.ensures.plant)
    (c.in_ok-choices.ensures ∙ ap₂ (λ (n : ℕ) (ns : List ℕ). record { first = n; counts = ns }) first c.in_ok-counts.ensures)
