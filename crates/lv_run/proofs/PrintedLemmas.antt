-- The certificates that a session prints are valid.
use Rattle.std.proofs.Common.{◌≡◌, ℕ, true, List, sym, ap, subst}
use Rattle.std.specs.Prelude.{Option}
use Rattle.std.specs.List.{list_all}
use Rattle.lv_model.specs.declared.plant.Plant.{Plant}
use Rattle.lv_checker.specs.Verdicts.{IsVerdict, accepted}
use Rattle.lv_certcheck.specs.lv_cert.declared.line.Line.{Line}
use Rattle.lv_certcheck.specs.lv_cert.Form.{is_formed}
use Rattle.lv_certcheck.specs.lv_cert.Texts.{text_of}
use Rattle.lv_certcheck.specs.lv_cert.Words.{is_word}
use Rattle.lv_certcheck.specs.lv_cert_meaning.Judging.{Judged}
use Rattle.lv_certcheck.specs.lv_cert_meaning.Laws.{IsValid}
use Rattle.lv_certcheck.specs.Verdicts.{verdict_of, IsVerdictOn, of_lines}
use Rattle.lv_certcheck.specs.declared.check.Verdict.TheVariants.{Valid}
use Rattle.lv_plant.specs.lv_session.lv_session_state.declared.query.Query.{Query}
use Rattle.lv_plant.specs.lv_session.lv_session_state.declared.query.Query.TheVariants.{Absent, Diagnosis, Recovery, Test, Window}
use Rattle.lv_plant.specs.lv_session.lv_session_state.State.{SessionState}
use Rattle.lv_plant.specs.lv_session.Certificates.{Certifies, IsTextOf}
use Rattle.lv_plant.specs.lv_session.Transcript.{IsTranscriptFrom, ends, goes_on, AddsTranscript}
use Rattle.lv_plant.specs.lv_session.lv_reply.declared.reply.Reply.{Reply}
use Rattle.lv_run.specs.Printed.{PrintedCertificateIsValid, IsCertifiedFrom, all_told, told, AddsCertified}
use Rattle.lv_run.proofs.NameLemmas.{accepted_name}

-- the text of valid lines in their form
valid_text : (plant : Plant) (lines : List Line) (j : Judged) (text : List ℕ) → IsValid plant lines j → list_all is_formed lines ≡ true → text ≡ text_of lines → IsVerdictOn plant text Valid
valid_text plant lines j text valid formed is = of_lines lines (record { text = is; formed = formed; order = valid.order }) (sym (ap verdict_of valid.good))

certificate_valid : (plant : Plant) (state : SessionState) (q : Query) (text : List ℕ) → is_word plant.name ≡ true → Certifies q plant state text → IsVerdictOn plant text Valid
certificate_valid plant state Absent text name is = absurd is
certificate_valid plant state (Diagnosis sum) text name is = valid_text plant is.lines is.certifies.judged text is.certifies.valid (is.formed name) is.is
certificate_valid plant state (Test x sum) text name is = absurd is
certificate_valid plant state (Window steps sum) text name is = absurd is
certificate_valid plant state (Recovery sum) text name is = valid_text plant is.lines is.certifies.judged text is.certifies.valid (is.formed name) is.is

pub printed_valid : PrintedCertificateIsValid
printed_valid text plant accepts state certificate is = certificate_valid plant state state.query certificate (accepted_name text plant accepts) is

certified_from : (source : List ℕ) (plant : Plant) → IsVerdict source (accepted plant) → {state : SessionState} {lines : List (List ℕ)} {written : List ℕ}
    → IsTranscriptFrom plant state lines written → IsCertifiedFrom plant state lines written
certified_from source plant accepts ends = all_told
certified_from source plant accepts (goes_on {state} {next} {line} {lines} {reply} {rest} {text} step others is) =
    told step (λ e. printed_valid source plant accepts next reply (subst (λ (r : Reply). IsTextOf plant next r reply) e step.says))
    (certified_from source plant accepts others) is

-- a transcript that was added for a plant whose text is accepted
pub adds_certified : (text : List ℕ) (plant : Plant) (session : List ℕ) (before after : Option (List ℕ))
    → IsVerdict text (accepted plant) → AddsTranscript plant session before after → AddsCertified plant session before after
adds_certified text plant session before after accepts adds =
    record { written = adds.written; is_certified = certified_from text plant accepts adds.is_transcript; added = adds.added }
