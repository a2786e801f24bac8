-- Certificates of the current query: which text may stand for one, and when one is told.
use Rattle.std.specs.Prelude.{◌≡◌, ℕ, List, true}
use Rattle.lv_model.specs.declared.plant.Plant.{Plant}
use Rattle.lv_cert.specs.declared.line.Line.{Line}
use Rattle.lv_cert.specs.Texts.{text_of}
use Rattle.lv_cert_diagnosis.specs.lv_cert_meaning.Certifying.{CertifiesDiagnosis, CertifiesRecovery, AreFormed}
use Rattle.lv_reply.specs.declared.reply.Reply.{Reply}
use Rattle.lv_reply.specs.declared.reply.Reply.TheVariants.{Certificate}
use Rattle.lv_reply.specs.Texts.{reply_text}
use Rattle.lv_session_state.specs.declared.query.Query.{Query}
use Rattle.lv_session_state.specs.declared.query.Query.TheVariants.{Absent, Diagnosis, Recovery, Test, Window}
use Rattle.lv_session_state.specs.State.{SessionState, facts_of, aim_of, walked, recovery}
use Rattle.lv_session.specs.Session.{is_certifiable}

-- the text of lines that certify what the diagnosis with so many trials lists
pub record CertifiesWalked (plant : Plant) (state : SessionState) (sum : ℕ) (text : List ℕ) : Type 0 where
  pub lines : List Line
  pub certifies : CertifiesDiagnosis plant state.tracked (facts_of state) state.k state.distinct (walked plant state sum).listed lines
  pub formed : AreFormed plant lines
  pub is : text ≡ text_of lines

-- the same of a recovery
pub record CertifiesRecovered (plant : Plant) (state : SessionState) (sum : ℕ) (text : List ℕ) : Type 0 where
  pub lines : List Line
  pub certifies : CertifiesRecovery plant (aim_of state) (recovery plant state sum).listed lines
  pub formed : AreFormed plant lines
  pub is : text ≡ text_of lines

-- the text of a certificate of the query
abbrev pub Certifies : Query → Plant → SessionState → List ℕ → Type 0
Certifies Absent plant state text = ⊥
Certifies (Diagnosis sum) plant state text = CertifiesWalked plant state sum text
Certifies (Recovery sum) plant state text = CertifiesRecovered plant state sum text
Certifies (Test x sum) plant state text = ⊥
Certifies (Window steps sum) plant state text = ⊥

-- the text may stand for the reply that came with this state: a certificate has one of those of the current query, and any other reply
-- has its own text
abbrev pub IsTextOf : Plant → SessionState → Reply → List ℕ → Type 0
IsTextOf plant state Certificate text = Certifies state.query plant state text
IsTextOf plant state reply text = text ≡ reply_text plant reply

-- a certificate is told of a settled query alone, and of no test
abbrev pub IsDue : Plant → SessionState → Reply → Type 0
IsDue plant state Certificate = is_certifiable state.query plant state ≡ true
IsDue plant state reply = Unit {0}
