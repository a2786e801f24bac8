-- From what the parts of a call promise to what the whole does.
use Rattle.std.proofs.Common.{◌≡◌, ◌≢◌, ◌⊎◌, ℕ, List, ◌++◌, take, drop, Option, refl, sym, ◌∙◌, inl, inr, ap, subst}
use Rattle.std.specs.Prelude.{Some, IfSome, IsTrue, Result, Ok, Err}
use Rattle.std.specs.Io.KnownBytes.{append_known}
use Rattle.lv_io.specs.Outside.{Rose}
use Rattle.lv_io.specs.declared.Role.{Role}
use Rattle.lv_io.specs.declared.Role.TheVariants.{Model, Second}
use Rattle.lv_model.specs.declared.plant.Plant.{Plant}
use Rattle.std.proofs.lemmas.List.{take-append-drop, take-take}
use Rattle.lv_base.specs.declared.limits.TheConstants.{SESSION_BYTES}
use Rattle.lv_serve.proofs.Writing.{whole_front}
use Rattle.lv_serve.specs.Ends.{ended}
use Rattle.lv_serve.specs.Served.{within_limit}
use Rattle.lv_run_words.specs.declared.commands.Service.{Service}
use Rattle.lv_run.specs.Services.{AddsFrontOfReplies}
use Rattle.lv_run.proofs.ServiceLemmas.{whole_replies, front_of_longer, front_of_more}
use Rattle.lv_run_words.specs.Words.{Said, checks, command_of}
use Rattle.lv_certcheck.specs.Verdicts.{IsVerdictOn}
use Rattle.lv_certcheck.specs.declared.check.Verdict.{Verdict}
use Rattle.lv_certcheck.specs.declared.check.Verdict.TheVariants.{Valid as IsValid, Invalid as IsInvalid}
use Rattle.lv_certcheck.proofs.ProvingLemmas.{valid_proves}
use Rattle.lv_checker.proofs.FitsDrafts.{accepted_well}
use Rattle.lv_run.specs.Faults.{status_of, ended_status}
use Rattle.lv_run.specs.Telling.{Tells}
use Rattle.lv_run.specs.Expected.{IsJudged, EndsSo, HasEnded, TellsVerdict, Expected, serves, overruns, judges, exceeds, shows, fails, Expects, session_served, certificate_judged, model_printed, text_made, session_driven, status_expected, AddsAll, AddsSome, AddsRead, Meets, is_silent}
use Rattle.lv_run.specs.Judged.{verdict_line, verdict_status}
use Rattle.lv_run.specs.Statuses.{status_ended}
use Rattle.lv_run.specs.Top.{Asks, AsksToCheck, AsksForText, TellsItsVerdict, to_print, to_generate, to_drive, HasNoFault}
use Rattle.lv_run.specs.declared.status.Ended.{Ended}
use Rattle.lv_run.specs.declared.status.Status.{Status}
use Rattle.lv_run.specs.declared.status.Status.TheVariants.{Done, WordsRefused, ModelRefused, ModelUnread, SecondUnread, OutputFailed, SecondTooLong, OutOfMemory, Invalid}
use Rattle.lv_run.specs.declared.fault.RunFault.{RunFault}
use Rattle.lv_run.specs.declared.fault.RunFault.TheVariants.{WordsRefused as BadWords, ModelRefused as BadModel, ModelUnread as NoModel, SessionUnread as NoSession, CertificateUnread as NoCertificate, OutputFailed as NoOutput, SessionTooLong as LongSession, CertificateTooLong as LongCertificate, OutOfMemory as NoMemory}
use Rattle.lv_run.proofs.VerdictLemmas.{same_plant}
use Rattle.lv_run.proofs.ExpectedLemmas.{adds_none, of_told}

silent_front : (e : Expected) (before after : Option (List ℕ)) → after ≡ before → AddsSome e before after
silent_front e before after same = subst (AddsSome e before) (sym same) (adds_none e before)

all_front : (e : Expected) (before after : Option (List ℕ)) → AddsAll e before after → AddsSome e before after
all_front (serves service plant session) before after all = whole_replies service plant session before after all
all_front (overruns service plant session) before after all = whole_replies service plant (within_limit session) before after all
all_front (judges verdict) before after added = whole_front (verdict_line verdict) before after added
all_front exceeds before after same = same
all_front (shows text) before after added = whole_front text before after added
all_front (fails fault) before after same = same

-- the lines of what was read are a front of those due
read_front : (e : Expected) (before after : Option (List ℕ)) → AddsRead e before after → AddsSome e before after
read_front (serves service plant session) before after lines =
    subst (λ (l : List ℕ). AddsFrontOfReplies service plant l before after) (take-append-drop lines.count session)
    (front_of_more service plant (take lines.count session) (drop lines.count session) before after
    (whole_replies service plant (ended (take lines.count session)) before after lines.written))
read_front (overruns service plant session) before after lines =
    let inside : take lines.count (take SESSION_BYTES session) ≡ take lines.count session = take-take lines.count SESSION_BYTES session lines.within in
    subst (λ (l : List ℕ). AddsFrontOfReplies service plant (ended l) before after)
    (ap (λ (l : List ℕ). l ++ drop lines.count (take SESSION_BYTES session)) (sym inside) ∙ take-append-drop lines.count (take SESSION_BYTES session))
    (front_of_longer service plant (take lines.count session) (drop lines.count (take SESSION_BYTES session)) before after
    (whole_replies service plant (ended (take lines.count session)) before after lines.written))
read_front (judges verdict) before after same = silent_front (judges verdict) before after same
read_front exceeds before after same = same
read_front (shows text) before after lines = absurd lines
read_front (fails fault) before after lines = absurd lines

-- only a second file that was opened is read
read_not_refused : (e : Expected) (before after : Option (List ℕ)) → AddsRead e before after → status_expected e ≡ ModelRefused → ⊥
read_not_refused (serves service plant session) before after lines e = absurd (cc)
read_not_refused (overruns service plant session) before after lines e = absurd (cc)
read_not_refused (judges IsValid) before after same e = absurd (cc)
read_not_refused (judges (IsInvalid line)) before after same e = absurd (cc)
read_not_refused exceeds before after same e = absurd (cc)
read_not_refused (shows text) before after lines e = absurd lines
read_not_refused (fails fault) before after lines e = absurd lines

-- whatever the status, a front of what was expected was written
front_expected : (said : Option Said) (e : Expected) (before after : Option (List ℕ)) (status : Status)
    → (IsTrue (is_silent said status) → after ≡ before)
    → Meets e before after status
    → AddsSome e before after
front_expected said e before after Done same meets = all_front e before after meets.1
front_expected said e before after WordsRefused same meets = silent_front e before after (same refl)
front_expected said e before after ModelRefused same meets = silent_front e before after (same refl)
front_expected said e before after ModelUnread same meets = silent_front e before after (same refl)
front_expected said e before after SecondUnread same meets = read_front e before after meets
front_expected said e before after OutputFailed same meets = meets
front_expected said e before after SecondTooLong same meets = all_front e before after meets.1
front_expected said e before after OutOfMemory same meets = meets
front_expected said e before after Invalid same meets = all_front e before after meets.1

-- a status that another may only stand for where a write failed or memory was wanting
pub reported_meets : (said : Option Said) (d : Expected) (before after : Option (List ℕ)) (status result : Status)
    → (result ≢ OutputFailed → result ≢ OutOfMemory → result ≡ status)
    → (IsTrue (is_silent said status) → after ≡ before)
    → Meets d before after status
    → Meets d before after result
reported_meets said d before after status Done kept same meets = subst (Meets d before after) (sym (kept (λ e. cc) (λ e. cc))) meets
reported_meets said d before after status WordsRefused kept same meets = subst (Meets d before after) (sym (kept (λ e. cc) (λ e. cc))) meets
reported_meets said d before after status ModelRefused kept same meets = subst (Meets d before after) (sym (kept (λ e. cc) (λ e. cc))) meets
reported_meets said d before after status ModelUnread kept same meets = subst (Meets d before after) (sym (kept (λ e. cc) (λ e. cc))) meets
reported_meets said d before after status SecondUnread kept same meets = subst (Meets d before after) (sym (kept (λ e. cc) (λ e. cc))) meets
reported_meets said d before after status OutputFailed kept same meets = front_expected said d before after status same meets
reported_meets said d before after status SecondTooLong kept same meets = subst (Meets d before after) (sym (kept (λ e. cc) (λ e. cc))) meets
reported_meets said d before after status OutOfMemory kept same meets = front_expected said d before after status same meets
reported_meets said d before after status Invalid kept same meets = subst (Meets d before after) (sym (kept (λ e. cc) (λ e. cc))) meets

module _ {A : Type 0} (shelf shelf_after : Role → ℕ) (out out_after err err_after : ℕ) (before after : Option (List ℕ)) where
  -- with no fault the status is the one that is due, or memory was wanting
  pub status_due : (d : Expected) (result : Status)
      → (result ≡ ModelUnread → Rose (shelf Model) (shelf_after Model))
      → (result ≡ SecondUnread → Rose (shelf Second) (shelf_after Second))
      → (result ≡ OutputFailed → (Rose out out_after × A) ⊎ Rose err err_after)
      → Meets d before after result
      → HasNoFault shelf shelf_after out out_after err err_after
      → (result ≡ status_expected d) ⊎ (result ≡ OutOfMemory)
  status_due d Done model session output meets none = inl (sym meets.0)
  status_due d WordsRefused model session output meets none = inl (sym meets)
  status_due d ModelRefused model session output meets none = inl (sym meets)
  status_due d ModelUnread model session output meets none = absurd (none.of_shelf Model (model refl))
  status_due d SecondUnread model session output meets none = absurd (none.of_shelf Second (session refl))
  status_due d OutputFailed model session output meets none = absurd (neither none.of_output none.of_error (output refl))
    where
      neither : (Rose out out_after → ⊥) → (Rose err err_after → ⊥) → (Rose out out_after × A) ⊎ Rose err err_after → ⊥
      neither a b (inl x) = a x.0
      neither a b (inr y) = b y
  status_due d SecondTooLong model session output meets none = inl (sym meets.0)
  status_due d OutOfMemory model session output meets none = inr refl
  status_due d Invalid model session output meets none = inl (sym meets.0)

-- where the model was read without a fault and is refused, so is the call
pub refusal_due : (old new : ℕ) (d : Expected) (before after : Option (List ℕ)) (result : Status)
    → (result ≡ ModelUnread → Rose old new)
    → Meets d before after result
    → status_expected d ≡ ModelRefused
    → ¬ Rose old new
    → result ≢ OutputFailed
    → result ≢ OutOfMemory
    → result ≡ ModelRefused
refusal_due old new d before after Done model meets is none output memory = sym meets.0 ∙ is
refusal_due old new d before after WordsRefused model meets is none output memory = sym meets ∙ is
refusal_due old new d before after ModelRefused model meets is none output memory = refl
refusal_due old new d before after ModelUnread model meets is none output memory = absurd (none (model refl))
refusal_due old new d before after SecondUnread model meets is none output memory = absurd (read_not_refused d before after meets is)
refusal_due old new d before after OutputFailed model meets is none output memory = absurd (output refl)
refusal_due old new d before after SecondTooLong model meets is none output memory = sym meets.0 ∙ is
refusal_due old new d before after OutOfMemory model meets is none output memory = absurd (memory refl)
refusal_due old new d before after Invalid model meets is none output memory = sym meets.0 ∙ is

-- what is expected of a run that is asked for, and of a text
pub expected_run : (service : Service) (file : List ℕ → Option (List ℕ)) (words : List (List ℕ)) (plant : Plant) (session : List ℕ)
    → Asks service file words plant session
    → Expects file (command_of words) (serves service plant session)
expected_run service file words plant session asks =
    subst (λ (o : Option Said). Expects file o (serves service plant session)) (sym asks.asked)
    (session_served asks.text asks.model_told asks.verdict asks.session_told asks.within)

pub expected_check : (file : List ℕ → Option (List ℕ)) (words : List (List ℕ)) (plant : Plant) (certificate : List ℕ) (verdict : Verdict)
    → AsksToCheck file words plant certificate
    → IsVerdictOn plant certificate verdict
    → Expects file (command_of words) (judges verdict)
expected_check file words plant certificate verdict asks is =
    subst (λ (o : Option Said). Expects file o (judges verdict)) (sym asks.asked)
    (certificate_judged asks.text asks.model_told asks.accepts asks.cert_told asks.within is)

pub expected_text : (file : List ℕ → Option (List ℕ)) (words : List (List ℕ)) (text : List ℕ)
    → AsksForText file words text
    → Expects file (command_of words) (shows text)
expected_text file words text (to_print source asked told verdict canonical_is) =
    subst (λ (o : Option Said). Expects file o (shows text)) (sym asked) (model_printed source told verdict canonical_is)
expected_text file words text (to_generate asked) = subst (λ (o : Option Said). Expects file o (shows text)) (sym asked) text_made
expected_text file words text (to_drive asked verdict) = subst (λ (o : Option Said). Expects file o (shows text)) (sym asked) (session_driven verdict)

no_done : (fault : RunFault) → status_of fault ≡ Done → ⊥
no_done BadWords e = absurd (cc)
no_done (BadModel code line) e = absurd (cc)
no_done NoModel e = absurd (cc)
no_done NoSession e = absurd (cc)
no_done NoCertificate e = absurd (cc)
no_done NoOutput e = absurd (cc)
no_done LongSession e = absurd (cc)
no_done LongCertificate e = absurd (cc)
no_done NoMemory e = absurd (cc)

-- a call that is done tells nothing
pub ended_done : (ended : Result Ended RunFault) (err err_after : Option (List ℕ)) (result : Status)
    → (result ≢ OutputFailed → result ≢ OutOfMemory → result ≡ ended_status ended)
    → Tells ended err err_after result
    → result ≡ Done
    → err_after ≡ err
ended_done (Ok x) err err_after result kept tells done = tells.0
ended_done (Err fault) err err_after result kept tells done =
    absurd (no_done fault (sym (kept (λ e. let d : result ≡ Done = done in cc) (λ e. let d : result ≡ Done = done in cc)) ∙ done))

no_invalid : (fault : RunFault) → status_of fault ≡ Invalid → ⊥
no_invalid BadWords e = absurd (cc)
no_invalid (BadModel code line) e = absurd (cc)
no_invalid NoModel e = absurd (cc)
no_invalid NoSession e = absurd (cc)
no_invalid NoCertificate e = absurd (cc)
no_invalid NoOutput e = absurd (cc)
no_invalid LongSession e = absurd (cc)
no_invalid LongCertificate e = absurd (cc)
no_invalid NoMemory e = absurd (cc)

-- a call with a verdict was ended by no fault
no_fault : (fault : RunFault) (result : Status)
    → (result ≡ Done) ⊎ (result ≡ Invalid)
    → (result ≢ OutputFailed → result ≢ OutOfMemory → result ≡ status_of fault)
    → ⊥
no_fault fault result (inl done) kept =
    no_done fault (sym (kept (λ e. let d : result ≡ Done = done in cc) (λ e. let d : result ≡ Done = done in cc)) ∙ done)
no_fault fault result (inr bad) kept =
    no_invalid fault (sym (kept (λ e. let d : result ≡ Invalid = bad in cc) (λ e. let d : result ≡ Invalid = bad in cc)) ∙ bad)

-- what a check wrote that ended by its verdict
added_by : (verdict : Verdict) (before after : Option (List ℕ)) → Meets (judges verdict) before after (verdict_status verdict) → after ≡ append_known before (verdict_line verdict)
added_by IsValid before after meets = meets.1
added_by (IsInvalid line) before after meets = meets.1

-- the end that the verdict on the certificate asked for has
asked_end : (file : List ℕ → Option (List ℕ)) (words : List (List ℕ)) (plant : Plant) (certificate : List ℕ) (ended : Ended)
    → (asks : AsksToCheck file words plant certificate)
    → HasEnded file (command_of words) ended
    → IsJudged asks.text certificate ended
asked_end file words plant certificate ended asks has =
    let one : has.command ≡ checks asks.model_name asks.cert_name = some_one has.command (checks asks.model_name asks.cert_name) (sym has.asked ∙ asks.asked) in
    let is : EndsSo file (checks asks.model_name asks.cert_name) ended = subst (λ (s : Said). EndsSo file s ended) one has.is in
    of_told (λ t. IsJudged asks.text t ended) (file asks.cert_name) certificate asks.cert_told
    (of_told (λ t. IfSome (file asks.cert_name) (λ held. IsJudged t held ended)) (file asks.model_name) asks.text asks.model_told is)
  where
    some_one : (a b : Said) → Some a ≡ Some b → a ≡ b
    some_one a b e = cc

-- a check that no fault ended told the verdict
pub told_verdict : (file : List ℕ → Option (List ℕ)) (words : List (List ℕ)) (plant : Plant) (certificate : List ℕ) (ended : Result Ended RunFault)
    → (before after err err_after : Option (List ℕ)) (result : Status)
    → (result ≢ OutputFailed → result ≢ OutOfMemory → result ≡ ended_status ended)
    → TellsVerdict file (command_of words) ended
    → Tells ended err err_after result
    → ((e : Expected) → Expects file (command_of words) e → Meets e before after result)
    → AsksToCheck file words plant certificate
    → (result ≡ Done) ⊎ (result ≡ Invalid)
    → TellsItsVerdict plant certificate before after result × (err_after ≡ err)
told_verdict file words plant certificate (Err fault) before after err err_after result kept verdict tells meets asks is =
    absurd (no_fault fault result is kept)
told_verdict file words plant certificate (Ok ended) before after err err_after result kept verdict tells meets asks is =
    let judged : IsJudged asks.text certificate ended = asked_end file words plant certificate ended asks verdict in
    let one : judged.plant ≡ plant = same_plant asks.text judged.plant plant judged.accepts asks.accepts in
    let on : IsVerdictOn plant certificate judged.verdict = subst (λ (p : Plant). IsVerdictOn p certificate judged.verdict) one judged.is in
    let status_is : result ≡ verdict_status judged.verdict = tells.1 ∙ ap status_ended judged.ends in
    let due : Meets (judges judged.verdict) before after (verdict_status judged.verdict) =
    subst (λ (s : Status). Meets (judges judged.verdict) before after s) status_is
    (meets (judges judged.verdict) (expected_check file words plant certificate judged.verdict asks on)) in (
      record {
        verdict = judged.verdict;
        is = on;
        status_is = status_is;
        written = added_by judged.verdict before after due;
        proves = valid_proves plant (accepted_well asks.text plant asks.accepts) certificate judged.verdict on;
      },
      tells.0,
    )

-- a session that is served, and a certificate that is judged, isn't too long
pub session_not_long : (service : Service) (plant : Plant) (session : List ℕ) (before after : Option (List ℕ)) (result : Status)
    → Meets (serves service plant session) before after result
    → result ≢ SecondTooLong
session_not_long service plant session before after result meets long =
    let due : Done ≡ SecondTooLong = (subst (Meets (serves service plant session) before after) long meets).0 in
    absurd (cc due)

pub certificate_not_long : (verdict : Verdict) (before after : Option (List ℕ)) (result : Status)
    → Meets (judges verdict) before after result
    → result ≢ SecondTooLong
certificate_not_long verdict before after result meets long = by verdict (subst (Meets (judges verdict) before after) long meets).0
  where
    by : (v : Verdict) → verdict_status v ≡ SecondTooLong → ⊥
    by IsValid e = absurd (cc e)
    by (IsInvalid line) e = absurd (cc e)

-- a failure of the output is one of writing the transcript, or else one of telling the status
pub output_cause : {A B : Type 0} (status result : Status)
    → (status ≡ OutputFailed → A)
    → (result ≡ OutputFailed → status ≢ OutputFailed → B)
    → result ≡ OutputFailed
    → A ⊎ B
output_cause Done result first second is = inr (second is (λ e. cc))
output_cause WordsRefused result first second is = inr (second is (λ e. cc))
output_cause ModelRefused result first second is = inr (second is (λ e. cc))
output_cause ModelUnread result first second is = inr (second is (λ e. cc))
output_cause SecondUnread result first second is = inr (second is (λ e. cc))
output_cause OutputFailed result first second is = inl (first refl)
output_cause SecondTooLong result first second is = inr (second is (λ e. cc))
output_cause OutOfMemory result first second is = inr (second is (λ e. cc))
output_cause Invalid result first second is = inr (second is (λ e. cc))
