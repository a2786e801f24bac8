-- what is asked is what a session asks, and the texts are those of the goals
use Rattle.std.proofs.Common.{◌≡◌, ◌≤◌, ℕ, List, length, map, All, sym, ap, subst, ◌∙◌}
use Rattle.lv_base.specs.declared.limits.TheConstants.{TRACKED}
use Rattle.lv_base.specs.Tree.{Tree}
use Rattle.lv_model.specs.declared.state.TrackedState.{TrackedState}
use Rattle.lv_session_state.specs.lv_tracker.Tracked.{IsWithinCost}
use Rattle.lv_session_state.specs.lv_meaning.declared.aim.Aim.{Aim}
use Rattle.lv_cert_diagnosis.specs.lv_cert_meaning.Certifying.{IsAsked, AreTexts}
use Rattle.lv_session_state.specs.lv_session_request.declared.goals.Goal.{Goal}
use Rattle.lv_session_state.specs.State.{text_of_goal, formula_of}
use Rattle.lv_session.proofs.Certifying.{are_states, is_asked, are_texts}
use Rattle.lv_session.proofs.certificates.recovery_certificate.Goals as goal

pub certify_recovery-cert-requires-clause-asked : goal.certify_recovery-cert-requires-clause-asked
certify_recovery-cert-requires-clause-asked c =
    let tracked : c.as_slice-tracked.result.now ≡ c.args.state.now.tracked = c.as_slice-tracked.ensures.states ∙ c.tracked.ensures in
    let states =
    are_states c.args.model.now c.args.state.now c.requires.state
    (subst (λ (ss : List TrackedState). 1 ≤ length ss) tracked c.as_slice-tracked.ensures.some)
    (subst (λ (ss : List TrackedState). length ss ≤ TRACKED) tracked c.as_slice-tracked.ensures.few)
    (subst (λ (ss : List TrackedState). All IsWithinCost ss) tracked c.as_slice-tracked.ensures.costs) in
    subst (IsAsked c.args.model.now) (sym c.in_ok-aim.ensures) (is_asked c.args.model.now c.args.state.now c.requires.state states c.requires.some)

pub certify_recovery-cert-requires-clause-texts : goal.certify_recovery-cert-requires-clause-texts
certify_recovery-cert-requires-clause-texts c =
    let goals : c.goals.result.now ≡ c.args.state.now.goals = c.goals.ensures in
    let texts : c.as_slice.result.now ≡ map text_of_goal c.args.state.now.goals =
    c.as_slice.ensures.value ∙ c.in_ok-texts.ensures ∙ ap (λ (gs : List Goal). map text_of_goal gs) goals in
    let formulas : c.in_ok-aim.aim.goals ≡ map formula_of c.args.state.now.goals = ap (λ (a : Aim). a.goals) c.in_ok-aim.ensures in
    subst (λ (ts : List (List ℕ)). AreTexts c.args.model.now ts c.in_ok-aim.aim.goals) (sym texts)
    (subst (λ (fs : List Tree). AreTexts c.args.model.now (map text_of_goal c.args.state.now.goals) fs) (sym formulas) (are_texts c.args.model.now c.args.state.now c.requires.state))
