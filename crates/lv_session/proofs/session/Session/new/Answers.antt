-- a session begins with no query
use Rattle.std.proofs.Common.{◌≡◌, true, sym, subst, ap, ◌∙◌}
use Rattle.lv_model.specs.declared.plant.Plant.{Plant}
use Rattle.lv_model.specs.WellFormed.{is_well_formed}
use Rattle.lv_session_state.specs.State.{SessionState, start}
use Rattle.lv_session_state.specs.States.{IsStateOf}
use Rattle.lv_session_state.specs.Current.{IsCurrent, KeepsSolverOf}
use Rattle.lv_session.specs.Kept.{IsLabellerOf}
use Rattle.lv_session.proofs.Keeping.{start_kept}
use Rattle.lv_session.proofs.session.Session.new.Goals as goal

pub of_kept-requires : goal.of_kept-requires
of_kept-requires c =
    let well : is_well_formed c.args.compiled.now ≡ true =
    subst (λ (p : Plant). is_well_formed p ≡ true) (c.plant-plant.ensures.plant ∙ c.compiled.view_is) c.plant-plant.ensures.well_formed in
    let is : c.in_ok-state.state.value ≡ start c.args.compiled.now = c.in_ok-state.ensures ∙ ap start c.compiled.view_is in
    record {
      labeller_is = subst (IsLabellerOf c.args.compiled.now) (sym c.in_ok-workings.ensures.labeller) tt;
      is_state = subst (IsStateOf c.args.compiled.now) (sym is) (start_kept c.args.compiled.now well);
      current = λ _. subst (λ (s : SessionState). IsCurrent c.args.compiled.now s c.in_ok-workings.workings.value.running) (sym is) tt;
      solver = λ _. subst (KeepsSolverOf c.args.compiled.now) (sym c.in_ok-workings.ensures.running) tt;
    }
