-- what the search lists can be taken over
use Rattle.std.proofs.Common.{◌≡◌, true, List, map, sym, ap, subst, ◌∙◌}
use Rattle.lv_base.specs.declared.rank.Rank.{Rank}
use Rattle.lv_model.specs.declared.plant.Plant.{Plant}
use Rattle.lv_model.specs.WellFormed.{is_well_formed}
use Rattle.lv_session_state.specs.State.{SessionState, last_step}
use Rattle.lv_session_state.specs.States.{IsListOf}
use Rattle.lv_session_state.proofs.Kept.{diagnosis_listed, window_listed}
use Rattle.lv_session_state.proofs.state.State.commit.Goals as goal

pub take_over-requires-clause-list : goal.take_over-requires-clause-list
take_over-requires-clause-list c =
    let well : is_well_formed c.args.model.now ≡ true = subst (λ (p : Plant). is_well_formed p ≡ true) c.plant-plant.ensures.plant c.plant-plant.ensures.well_formed in
    let query = ap (λ (s : SessionState). s.query) (sym c.self.view_is) ∙ c.in-Diagnosis.is in
    subst (λ (rs : List Rank). IsListOf c.args.model.now c.args.self.now rs) (sym c.listed.ensures)
    (diagnosis_listed c.args.model.now c.args.self.now c.args.running.now c.in-Diagnosis.field-0 well c.requires.state c.args.self.now.query query c.requires.running)

pub take_over_last-requires-clause-list : goal.take_over_last-requires-clause-list
take_over_last-requires-clause-list c =
    let well : is_well_formed c.args.model.now ≡ true = subst (λ (p : Plant). is_well_formed p ≡ true) c.plant-plant.ensures.plant c.plant-plant.ensures.well_formed in
    let query = ap (λ (s : SessionState). s.query) (sym c.self.view_is) ∙ c.in-Window.is in
    subst (λ (rs : List Rank). IsListOf c.args.model.now c.args.self.now (map (last_step c.args.model.now) rs)) (sym c.listed-in-Window.ensures)
    (window_listed c.args.model.now c.args.self.now c.args.running.now c.in-Window.field-1 well c.requires.state c.args.self.now.query c.in-Window.field-0 query c.requires.running)
