-- The certificates that a session prints.
use Rattle.std.specs.Prelude.{◌≡◌, ℕ, List, [], ◌∷◌, ◌++◌, Option}
use Rattle.std.specs.Io.KnownBytes.{append_known}
use Rattle.lv_run_words.specs.lv_text.Lines.{lines_of}
use Rattle.lv_model.specs.declared.plant.Plant.{Plant}
use Rattle.lv_checker.specs.Verdicts.{IsVerdict, accepted}
use Rattle.lv_certcheck.specs.Verdicts.{IsVerdictOn}
use Rattle.lv_certcheck.specs.declared.check.Verdict.TheVariants.{Valid}
use Rattle.lv_plant.specs.lv_session.lv_reply.declared.reply.Reply.TheVariants.{Certificate}
use Rattle.lv_plant.specs.lv_session.lv_session_state.State.{SessionState, start}
use Rattle.lv_plant.specs.lv_session.Session.{stepped}
use Rattle.lv_plant.specs.lv_session.Certificates.{IsTextOf}
use Rattle.lv_plant.specs.lv_session.Transcript.{SessionStep}

-- whatever a session over the plant of an accepted text may print as a certificate is valid for that plant
abbrev pub PrintedCertificateIsValid : Type 0
PrintedCertificateIsValid =
    (text : List ℕ) (plant : Plant) → IsVerdict text (accepted plant)
    → (state : SessionState) (certificate : List ℕ) → IsTextOf plant state Certificate certificate → IsVerdictOn plant certificate Valid

-- the text is a transcript of these lines, from a state on, and each certificate in it is valid for the plant
pub data IsCertifiedFrom (plant : Plant) : SessionState → List (List ℕ) → List ℕ → Type 0 where
  all_told : {state : SessionState} → IsCertifiedFrom plant state [] []
  told : {state next : SessionState} {line : List ℕ} {lines : List (List ℕ)} {reply rest text : List ℕ}
      → SessionStep plant state line next reply
      → ((stepped plant state line).reply ≡ Certificate → IsVerdictOn plant reply Valid)
      → IsCertifiedFrom plant next lines rest
      → text ≡ reply ++ rest
      → IsCertifiedFrom plant state (line ∷ lines) text

-- such a transcript of the whole session was added to the text
pub record AddsCertified (plant : Plant) (session : List ℕ) (before after : Option (List ℕ)) : Type 0 where
  pub written : List ℕ
  pub is_certified : IsCertifiedFrom plant (start plant) (lines_of session) written
  pub added : after ≡ append_known before written
