-- the literals of a nominal step, in their order
use Rattle.std.proofs.Common.{◌≡◌, ◌++◌, ◌∙◌, List, map, true, subst, sym, ap}
use Rattle.lv_base.specs.declared.ids.Lit.{Lit}
use Rattle.lv_base.specs.declared.ids.ValId.{ValId}
use Rattle.lv_search_zones.specs.lv_compile.Booleans.{booleans_now}
use Rattle.lv_model.specs.Ranges.{plant_ranges}
use Rattle.lv_meaning.specs.Ranges.{modes_fit}
use Rattle.lv_cert_laws.specs.lv_cert_meaning.Stated.{observed_literal}
use Rattle.lv_cert_laws.specs.lv_cert_meaning.Units.{units, mode_literals, no_fault_literals, control_literal, nominal_units}
use Rattle.lv_cert_recovery.specs.Asking.{Asked}
use Rattle.lv_cert_recovery.proofs.AskingLemmas.{modes_long, regrouped}
use Rattle.lv_cert_recovery.proofs.asking.Asking.nominal.Goals as goal

pub push_modes-requires-clause-whole : goal.push_modes-requires-clause-whole
push_modes-requires-clause-whole c =
    modes_long (plant_ranges c.self.inside.model.now) c.self.inside.model.now.parts c.as_slice.result.now
    (subst (λ (vs : List ValId). modes_fit (plant_ranges c.self.inside.model.now) c.self.inside.model.now.parts vs ≡ true) (sym c.as_slice.ensures)
    (subst (λ (a : Asked). modes_fit (plant_ranges a.plant) a.plant.parts c.args.state.now.modes ≡ true) (sym c.self.view_is) c.requires.fit))

pub returns : goal.returns
returns c =
    let plant = c.self.inside.model.now in
    let modes : List Lit = mode_literals plant plant.parts c.as_slice.result.now in
    let none : List Lit = no_fault_literals plant 0 plant.parts in
    let seen : List Lit = map (observed_literal (booleans_now plant)) c.as_slice-2.result.now in
    let held : List Lit = map (control_literal plant) c.args.pairs.now in
    let all : c.push_controls.new.lits.items ≡ (((c.new-lits.result.items ++ modes) ++ none) ++ seen) ++ held =
    c.in_ok-push_controls.ensures
    ∙ ap (λ (xs : List Lit). xs ++ held)
    (c.in_ok-push_seen.ensures ∙ ap (λ (xs : List Lit). xs ++ seen) (c.in_ok-push_no_faults.ensures ∙ ap (λ (xs : List Lit). xs ++ none) c.in_ok-push_modes.ensures))
    in
    c.in_ok-push_units.ensures
    ∙ ap (λ xs. xs ++ units c.as_slice-4.result.now) c.new-own.ensures.items
    ∙ ap units (c.as_slice-4.ensures.value ∙ regrouped c.new-lits.result.items modes none seen held c.push_controls.new.lits.items c.new-lits.ensures.items all)
    ∙ (λ i. units ((mode_literals plant plant.parts (c.as_slice.ensures i) ++ none) ++ (map (observed_literal (booleans_now plant)) (c.as_slice-2.ensures i) ++ held)))
    ∙ ap (λ (a : Asked). nominal_units a.plant c.args.state.now.modes (map (observed_literal (booleans_now a.plant)) a.aim.present) c.args.pairs.now) c.self.view_is
