-- what is kept of the query has come to the end of its walk, which is settled
use Rattle.std.proofs.Common.{◌≡◌, true, sym, subst, ◌∙◌}
use Rattle.lv_session_state.specs.declared.query.Query.{Query}
use Rattle.lv_session_state.specs.Current.{kept_walk, IsKeptOf}
use Rattle.lv_session.specs.Session.{is_certifiable}
use Rattle.lv_session_state.proofs.Kept.{diagnosis_came_to, recovery_came_to, some_goal}
use Rattle.lv_session.proofs.Certifying.{settled_diagnosis, settled_recovery}
use Rattle.lv_session.proofs.certificates.certificate_text.Goals as goal

pub diagnosis_text-requires-clause-settled : goal.diagnosis_text-requires-clause-settled
diagnosis_text-requires-clause-settled c =
    let query = sym c.query.ensures ∙ c.in-Diagnosis.is in
    settled_diagnosis c.args.model.now c.args.state.now c.in-Diagnosis.field-0 (kept_walk c.args.running.now)
    (diagnosis_came_to c.args.state.now.query c.args.model.now c.args.state.now c.args.running.now c.in-Diagnosis.field-0 query c.requires.running)
    (subst (λ (q : Query). is_certifiable q c.args.model.now c.args.state.now ≡ true) query c.requires.settled)

pub recovery_text-requires-clause-settled : goal.recovery_text-requires-clause-settled
recovery_text-requires-clause-settled c =
    let query = sym c.query.ensures ∙ c.in-Recovery.is in
    settled_recovery c.args.model.now c.args.state.now c.in-Recovery.field-0 (kept_walk c.args.running.now)
    (recovery_came_to c.args.state.now.query c.args.model.now c.args.state.now c.args.running.now c.in-Recovery.field-0 query c.requires.running)
    (subst (λ (q : Query). is_certifiable q c.args.model.now c.args.state.now ≡ true) query c.requires.settled)

pub recovery_text-requires-clause-some : goal.recovery_text-requires-clause-some
recovery_text-requires-clause-some c =
    some_goal c.args.model.now c.args.state.now c.in-Recovery.field-0 c.args.running.now
    (subst (λ (q : Query). IsKeptOf q c.args.model.now c.args.state.now c.args.running.now) (sym c.query.ensures ∙ c.in-Recovery.is) c.requires.running)
