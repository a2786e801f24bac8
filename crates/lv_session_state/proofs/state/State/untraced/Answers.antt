-- what is known is of the plant and its values, and so is what was tracked
use Rattle.std.proofs.Common.{◌≤◌, List, length, sym, subst, ◌∙◌, All}
use Rattle.lv_model.specs.declared.state.TrackedState.{TrackedState}
use Rattle.lv_meaning.specs.declared.facts.Facts.{Facts}
use Rattle.lv_meaning.specs.Candidates.{IsTracked}
use Rattle.lv_system.specs.lv_compile.declared.windows.TheConstants.{WINDOW}
use Rattle.lv_window.specs.Known.{StepFits}
use Rattle.lv_session_state.proofs.WindowsAsked.{window_fits, some_steps, few_steps, base_fits}
use Rattle.lv_session_state.proofs.state.State.untraced.Goals as goal

pub window-requires-clause-some : goal.window-requires-clause-some
window-requires-clause-some c = subst (λ (fs : List Facts). 1 ≤ length fs) (sym c.in_ok-facts.ensures) (some_steps c.args.model.now c.args.self.now c.requires c.args.steps)

pub window-requires-clause-few_steps : goal.window-requires-clause-few_steps
window-requires-clause-few_steps c = subst (λ (fs : List Facts). length fs ≤ WINDOW) (sym c.in_ok-facts.ensures) (few_steps c.args.model.now c.args.self.now c.requires c.args.steps)

pub window-requires-clause-states : goal.window-requires-clause-states
window-requires-clause-states c = subst (λ (ss : List TrackedState). All (IsTracked (length c.args.model.now.parts)) ss) (sym (c.as_slice.ensures.states ∙ c.window_base-base.ensures)) (base_fits c.args.model.now c.args.self.now c.requires c.args.steps)

pub window-requires-clause-fits : goal.window-requires-clause-fits
window-requires-clause-fits c = subst (λ (fs : List Facts). All (StepFits c.args.model.now) fs) (sym c.in_ok-facts.ensures) (window_fits c.args.model.now c.args.self.now c.requires c.args.steps)
