-- the facts are such as a session holds
use Rattle.std.proofs.Common.{sym, subst}
use Rattle.lv_cert_diagnosis.specs.lv_cert_meaning.Certifying.{AreFacts}
use Rattle.lv_session.proofs.Certifying.{are_facts}
use Rattle.lv_session.proofs.certificates.diagnosis_certificate.Goals as goal

pub certify_diagnosis-cert-requires-clause-facts : goal.certify_diagnosis-cert-requires-clause-facts
certify_diagnosis-cert-requires-clause-facts c = subst (AreFacts c.args.model.now) (sym c.in_ok-facts.ensures) (are_facts c.args.model.now c.args.state.now c.requires.state)
