-- What was expected, where a command ended.
use Rattle.std.proofs.Common.{◌≡◌, ◌≢◌, ◌⊎◌, ◌∙◌, ℕ, ◌<◌, ◌≤◌, true, false, Option, None, Some, inl, inr, refl, sym, ap, subst, List, length, arith}
use Rattle.std.specs.Prelude.{IfSome, IfOk, IfErr, IsTrue, IsErrAnd, Result, Ok, Err}
use Rattle.std.specs.Io.KnownBytes.{append_known}
use Rattle.lv_base.specs.declared.limits.TheConstants.{CERTIFICATE_BYTES}
use Rattle.lv_model.specs.declared.plant.Plant.{Plant}
use Rattle.lv_serve.specs.Served.{within_limit}
use Rattle.lv_run.specs.Services.{fits}
use Rattle.lv_run_words.specs.declared.commands.Service.{Service}
use Rattle.lv_run.proofs.ServiceLemmas.{no_replies}
use Rattle.lv_gen.specs.Series.{model_text}
use Rattle.lv_run.specs.Drives.{drive_text}
use Rattle.lv_run_words.specs.declared.commands.Kind.{Kind}
use Rattle.lv_serve.proofs.Writing.{no_front}
use Rattle.lv_reader.specs.declared.code.ModelCode.{ModelCode}
use Rattle.lv_checker.specs.Verdicts.{IsVerdict, accepted, refused}
use Rattle.lv_certcheck.specs.Verdicts.{IsVerdictOn}
use Rattle.lv_certcheck.specs.declared.check.Verdict.{Verdict}
use Rattle.lv_certcheck.specs.declared.check.Verdict.TheVariants.{Valid as IsValid, Invalid as IsInvalid}
use Rattle.lv_run_words.specs.Words.{Said, runs, checks, prints, generates, drives}
use Rattle.lv_run_words.specs.declared.WordsFault.{WordsFault}
use Rattle.lv_run_words.specs.declared.WordsFault.TheVariants.{Refused, Memory as NoRoom}
use Rattle.lv_checker.specs.Standing.{IsPrinted}
use Rattle.lv_run.specs.Inputs.{model_told, made_text, IsDriven}
use Rattle.lv_run.specs.Faults.{EndsModel, EndsSession, EndsCheck, RefusesBy, status_of, ended_status, fault_of_sink, fault_of_words}
use Rattle.lv_run.specs.Judged.{verdict_line, verdict_end, TellsJudgement, JudgesTold}
use Rattle.lv_run.specs.Statuses.{status_ended}
use Rattle.lv_io.specs.Outside.{HasCause}
use Rattle.lv_io.specs.Whole.{AddsFront}
use Rattle.lv_io.specs.declared.IoFault.{IoFault}
use Rattle.lv_io.specs.declared.IoFault.TheVariants.{Failed, Memory}
use Rattle.lv_run.specs.Expected.{Expected, serves, overruns, judges, exceeds, shows, fails, Expects, words_refused, model_refused, session_served, session_too_long, certificate_judged, certificate_too_long, model_printed, text_made, session_driven, status_expected, AddsAll, AddsSome, ServesTold, Meets, Follows, IsAccepted, EndsSo, HasEnded, TellsVerdict, is_silent, is_check}
use Rattle.lv_run.specs.declared.status.Ended.{Ended}
use Rattle.lv_run.specs.declared.status.Ended.TheVariants.{Done as AllDone, Invalid as NotValid}
use Rattle.lv_run.specs.declared.status.Status.{Status}
use Rattle.lv_run.specs.declared.status.Status.TheVariants.{Done, WordsRefused, ModelRefused, ModelUnread, SecondUnread, OutputFailed, SecondTooLong, OutOfMemory}
use Rattle.lv_run.specs.declared.fault.RunFault.{RunFault}
use Rattle.lv_run.specs.declared.fault.RunFault.TheVariants.{WordsRefused as BadWords, ModelRefused as BadModel, ModelUnread as NoModel, SessionUnread as NoSession, CertificateUnread as NoCertificate, OutputFailed as NoOutput, SessionTooLong as LongSession, CertificateTooLong as LongCertificate, OutOfMemory as NoMemory}
use Rattle.lv_run.proofs.VerdictLemmas.{not_both, same_plant, same_refusal, same_canonical}
use Rattle.lv_certcheck.proofs.ProvingLemmas.{is_one}
use Rattle.lv_run.proofs.SecondLemmas.{EndsSecond, session_ends, check_ends}

pub some_weaker : {A : Type 0} {P Q : A → Type 0} (o : Option A) → ((x : A) → P x → Q x) → IfSome o P → IfSome o Q
some_weaker None goes given = tt
some_weaker (Some x) goes given = goes x given

pub of_told : (P : List ℕ → Type 0) (told : Option (List ℕ)) (text : List ℕ) → told ≡ Some text → IfSome told P → P text
of_told P told text is given = subst (λ (o : Option (List ℕ)). IfSome o P) is given

pub err_handed_on : (result : Result Ended RunFault) (fault : RunFault) → IsErrAnd result (λ e. e ≡ fault) → ended_status result ≡ status_of fault
err_handed_on (Ok x) fault handed = absurd handed
err_handed_on (Err e) fault handed = ap status_of handed

-- nothing is a front of whatever was expected
pub adds_none : (e : Expected) (text : Option (List ℕ)) → AddsSome e text text
adds_none (serves service plant session) text = no_replies service plant session text
adds_none (overruns service plant session) text = no_replies service plant (within_limit session) text
adds_none (judges verdict) text = no_front (verdict_line verdict) text
adds_none exceeds text = refl
adds_none (shows shown) text = no_front shown text
adds_none (fails fault) text = refl

-- the command speaks of a model
abbrev pub SpeaksOfModel : Said → Type 0
SpeaksOfModel (runs service model session) = Unit {0}
SpeaksOfModel (checks model cert) = Unit {0}
SpeaksOfModel (prints model) = Unit {0}
SpeaksOfModel (generates kind n) = ⊥
SpeaksOfModel (drives n) = Unit {0}

module _ (P : Expected → Type 0) (file : List ℕ → Option (List ℕ)) where
  -- of a command whose model is refused
  of_refused : (command : Said) (code : ModelCode) (line : ℕ)
      → SpeaksOfModel command
      → IfSome (model_told file command) (λ text. IsVerdict text (refused code line))
      → P (fails (BadModel code line))
      → (e : Expected) → Expects file (Some command) e → P e
  of_refused command code line speaks has given e (model_refused {code = c} {line = n} text told verdict) =
      subst P (same_refusal text code c line n (of_told _ (model_told file command) text told has) verdict) given
  of_refused command code line speaks has given e (session_served {plant} text told verdict session_told within) =
      not_both text plant code line verdict (of_told _ (model_told file command) text told has)
  of_refused command code line speaks has given e (session_too_long {plant} text told verdict session_told beyond) =
      not_both text plant code line verdict (of_told _ (model_told file command) text told has)
  of_refused command code line speaks has given e (certificate_judged {plant} text told verdict cert_told within judged) =
      not_both text plant code line verdict (of_told _ (model_told file command) text told has)
  of_refused command code line speaks has given e (certificate_too_long {plant} text told verdict cert_told beyond) =
      not_both text plant code line verdict (of_told _ (model_told file command) text told has)
  of_refused command code line speaks has given e (model_printed {plant} text told verdict canonical_is) =
      not_both text plant code line verdict (of_told _ (model_told file command) text told has)
  of_refused command code line speaks has given e text_made = absurd speaks
  of_refused command code line speaks has given e (session_driven {n} {plant} verdict) = not_both (model_text n) plant code line verdict has

  -- of a run whose model is accepted
  of_run : (service : Service) (model session : List ℕ) (plant : Plant)
      → IfSome (file model) (λ text. IsVerdict text (accepted plant))
      → ((served : List ℕ) → file session ≡ Some served → fits service plant served ≡ true → P (serves service plant served))
      → ((long : List ℕ) → file session ≡ Some long → fits service plant long ≡ false → P (overruns service plant long))
      → (e : Expected) → Expects file (Some (runs service model session)) e → P e
  of_run service model session plant has short long e (model_refused {code} {line} text told verdict) =
      not_both text plant code line (of_told _ (file model) text told has) verdict
  of_run service model session plant has short long e (session_served {served} {plant = p} text told verdict session_told within) =
      let one : plant ≡ p = same_plant text plant p (of_told _ (file model) text told has) verdict in
      subst (λ (q : Plant). P (serves service q served)) one (short served session_told (ap (λ (q : Plant). fits service q served) one ∙ within))
  of_run service model session plant has short long e (session_too_long {long = beyond_it} {plant = p} text told verdict session_told beyond) =
      let one : plant ≡ p = same_plant text plant p (of_told _ (file model) text told has) verdict in
      subst (λ (q : Plant). P (overruns service q beyond_it)) one (long beyond_it session_told (ap (λ (q : Plant). fits service q beyond_it) one ∙ beyond))

  -- of a certificate over an accepted model
  of_check : (model cert : List ℕ) (plant : Plant)
      → IfSome (file model) (λ text. IsVerdict text (accepted plant))
      → ((certificate : List ℕ) (verdict : Verdict) → file cert ≡ Some certificate → length certificate ≤ CERTIFICATE_BYTES
      → IsVerdictOn plant certificate verdict → P (judges verdict))
      → ((long : List ℕ) → file cert ≡ Some long → CERTIFICATE_BYTES < length long → P exceeds)
      → (e : Expected) → Expects file (Some (checks model cert)) e → P e
  of_check model cert plant has short long e (model_refused {code} {line} text told verdict) =
      not_both text plant code line (of_told _ (file model) text told has) verdict
  of_check model cert plant has short long e (certificate_judged {certificate} {plant = p} {verdict = v} text told verdict cert_told within judged) =
      let one : plant ≡ p = same_plant text plant p (of_told _ (file model) text told has) verdict in
      short certificate v cert_told within (subst (λ (q : Plant). IsVerdictOn q certificate v) (sym one) judged)
  of_check model cert plant has short long e (certificate_too_long {long = beyond_it} text told verdict cert_told beyond) = long beyond_it cert_told beyond

  -- of a model that is printed
  of_print : (model canonical : List ℕ)
      → IfSome (file model) (λ text. IsPrinted text canonical)
      → P (shows canonical)
      → (e : Expected) → Expects file (Some (prints model)) e → P e
  of_print model canonical has given e (model_refused {code} {line} text told verdict) =
      let printed = of_told (λ text. IsPrinted text canonical) (file model) text told has in
      not_both text printed.plant code line printed.verdict verdict
  of_print model canonical has given e (model_printed {canonical = c} text told verdict canonical_is) =
      let printed = of_told (λ text. IsPrinted text canonical) (file model) text told has in
      subst (λ (shown : List ℕ). P (shows shown)) (same_canonical text canonical c printed.canonical_is canonical_is) given

  -- of a text that is made
  of_made : (kind : Kind) (n : ℕ) → P (shows (made_text kind n)) → (e : Expected) → Expects file (Some (generates kind n)) e → P e
  of_made kind n given e (model_refused {code} {line} text told verdict) = absurd (cc)
  of_made kind n given e text_made = given

  -- of a session that is driven
  of_drive : (n : ℕ) (summary : List ℕ) → IsDriven n summary → P (shows summary) → (e : Expected) → Expects file (Some (drives n)) e → P e
  of_drive n summary driven given e (model_refused {code} {line} text told verdict) =
      let same : model_text n ≡ text = cc in
      not_both text driven.plant code line (subst (λ (t : List ℕ). IsVerdict t (accepted driven.plant)) same driven.verdict) verdict
  of_drive n summary driven given e (session_driven {plant = p} verdict) =
      subst (λ (shown : List ℕ). P (shows shown))
      (driven.summary_is ∙ ap (λ (q : Plant). drive_text q n) (same_plant (model_text n) driven.plant p driven.verdict verdict)) given

-- a command that was said is not refused for its words
not_of_words : (file : List ℕ → Option (List ℕ)) (command : Said) (e : Expected) → Expects file (Some command) e → status_expected e ≢ WordsRefused
not_of_words file command e (model_refused text told verdict) = λ x. cc
not_of_words file command e (session_served text told verdict session_told within) = λ x. cc
not_of_words file command e (session_too_long text told verdict session_told beyond) = λ x. cc
not_of_words file command e (certificate_judged {verdict = IsValid} text told verdict cert_told within judged) = λ x. cc
not_of_words file command e (certificate_judged {verdict = IsInvalid line} text told verdict cert_told within judged) = λ x. cc
not_of_words file command e (certificate_too_long text told verdict cert_told beyond) = λ x. cc
not_of_words file command e (model_printed text told verdict canonical_is) = λ x. cc
not_of_words file command e text_made = λ x. cc
not_of_words file command e (session_driven verdict) = λ x. cc

-- where the call ended at its words
none_said : (file : List ℕ → Option (List ℕ)) (e : Expected) → Expects file None e → status_expected e ≡ WordsRefused
none_said file e words_refused = refl

pub ended_at_words : {T : Type 0} (file : List ℕ → Option (List ℕ)) (said : Option Said) (fault : WordsFault) (result : Result Ended RunFault) (before : Option (List ℕ))
    → (◌≡◌ {A = Result T WordsFault} (Err fault) (Err Refused) → said ≡ None)
    → IsErrAnd result (λ e. e ≡ fault_of_words fault)
    → (e : Expected) → Expects file said e → Meets e before before (ended_status result)
ended_at_words file said Refused result before none handed e expects =
    subst (λ (s : Status). Meets e before before s) (sym (err_handed_on result BadWords handed))
    (none_said file e (subst (λ (o : Option Said). Expects file o e) (none refl) expects))
ended_at_words file said NoRoom result before none handed e expects =
    subst (λ (s : Status). Meets e before before s) (sym (err_handed_on result NoMemory handed)) (adds_none e before)

-- where it ended at the model's file
at_model : (file : List ℕ → Option (List ℕ)) (command : Said) (fault : RunFault) (before : Option (List ℕ))
    → SpeaksOfModel command
    → EndsModel fault
    → RefusesBy fault (model_told file command)
    → (e : Expected) → Expects file (Some command) e → Meets e before before (status_of fault)
at_model file command BadWords before speaks ends refuses e expects = absurd ends
at_model file command (BadModel code line) before speaks ends refuses e expects =
    of_refused (λ d. status_expected d ≡ ModelRefused) file command code line speaks refuses refl e expects
at_model file command NoModel before speaks ends refuses e expects = not_of_words file command e expects
at_model file command NoSession before speaks ends refuses e expects = absurd ends
at_model file command NoCertificate before speaks ends refuses e expects = absurd ends
at_model file command NoOutput before speaks ends refuses e expects = absurd ends
at_model file command LongSession before speaks ends refuses e expects = absurd ends
at_model file command LongCertificate before speaks ends refuses e expects = absurd ends
at_model file command NoMemory before speaks ends refuses e expects = adds_none e before

pub ended_at_model : (file : List ℕ → Option (List ℕ)) (command : Said) (fault : RunFault) (result : Result Ended RunFault) (before : Option (List ℕ))
    → SpeaksOfModel command
    → EndsModel fault
    → RefusesBy fault (model_told file command)
    → IsErrAnd result (λ e. e ≡ fault)
    → (e : Expected) → Expects file (Some command) e → Meets e before before (ended_status result)
ended_at_model file command fault result before speaks ends refuses handed e expects =
    subst (λ (s : Status). Meets e before before s) (sym (err_handed_on result fault handed)) (at_model file command fault before speaks ends refuses e expects)

model_follows : (file : List ℕ → Option (List ℕ)) (command : Said) (fault : RunFault)
    → EndsModel fault
    → RefusesBy fault (model_told file command)
    → Follows file (Some command) (status_of fault)
model_follows file command BadWords ends refuses = absurd ends
model_follows file command (BadModel code line) ends refuses =
    record { code = code; line = line; verdict = record { command = command; asked = refl; is = refuses } }
model_follows file command NoModel ends refuses = λ e. cc
model_follows file command NoSession ends refuses = absurd ends
model_follows file command NoCertificate ends refuses = absurd ends
model_follows file command NoOutput ends refuses = absurd ends
model_follows file command LongSession ends refuses = absurd ends
model_follows file command LongCertificate ends refuses = absurd ends
model_follows file command NoMemory ends refuses = tt

pub follows_at_model : (file : List ℕ → Option (List ℕ)) (command : Said) (fault : RunFault) (result : Result Ended RunFault)
    → EndsModel fault
    → RefusesBy fault (model_told file command)
    → IsErrAnd result (λ e. e ≡ fault)
    → Follows file (Some command) (ended_status result)
follows_at_model file command fault result ends refuses handed =
    subst (Follows file (Some command)) (sym (err_handed_on result fault handed)) (model_follows file command fault ends refuses)

-- a length is not both within the limit and beyond
too_long_not_within : (n : ℕ) → n ≤ CERTIFICATE_BYTES → CERTIFICATE_BYTES < n → ⊥
too_long_not_within n within beyond = omega (arith, within, beyond)

-- what holds of each text that is told
of_each : {P : List ℕ → Type 0} (told : Option (List ℕ)) → ((text : List ℕ) → told ≡ Some text → P text) → IfSome told P
of_each None goes = tt
of_each (Some text) goes = goes text refl

-- a verdict that was written as a whole
written_verdict : (verdict : Verdict) (before after : Option (List ℕ))
    → after ≡ append_known before (verdict_line verdict)
    → Meets (judges verdict) before after (status_ended (verdict_end verdict))
written_verdict IsValid before after written = (refl, written)
written_verdict (IsInvalid line) before after written = (refl, written)

whole_verdict : (verdict : Verdict) (before after : Option (List ℕ)) (ended : Ended) (other : Verdict)
    → other ≡ verdict
    → ended ≡ verdict_end other
    → after ≡ append_known before (verdict_line other)
    → Meets (judges verdict) before after (status_ended ended)
whole_verdict verdict before after ended other same ends written =
    subst (λ (x : Ended). Meets (judges verdict) before after (status_ended x)) (sym (ends ∙ ap verdict_end same))
    (written_verdict verdict before after (written ∙ ap (λ (v : Verdict). append_known before (verdict_line v)) same))

-- where a session was served, or was not
served_short : (service : Service) (plant : Plant) (text : List ℕ) (before after : Option (List ℕ)) (result : Result Ended RunFault)
    → fits service plant text ≡ true
    → ServesTold service plant text before after result
    → Meets (serves service plant text) before after (ended_status result)
served_short service plant text before after (Ok AllDone) short told = (refl, told.1)
served_short service plant text before after (Ok NotValid) short told = absurd told
served_short service plant text before after (Err BadWords) short told = absurd told
served_short service plant text before after (Err (BadModel code line)) short told = absurd told
served_short service plant text before after (Err NoModel) short told = absurd told
served_short service plant text before after (Err NoSession) short told = told
served_short service plant text before after (Err NoCertificate) short told = absurd told
served_short service plant text before after (Err NoOutput) short told = told.of_all short
served_short service plant text before after (Err LongSession) short told = let clash : true ≡ false = sym short ∙ told.0 in absurd (cc clash)
served_short service plant text before after (Err LongCertificate) short told = absurd told
served_short service plant text before after (Err NoMemory) short told = told.of_all short

served_long : (service : Service) (plant : Plant) (text : List ℕ) (before after : Option (List ℕ)) (result : Result Ended RunFault)
    → fits service plant text ≡ false
    → ServesTold service plant text before after result
    → Meets (overruns service plant text) before after (ended_status result)
served_long service plant text before after (Ok AllDone) long told = let clash : true ≡ false = sym told.0 ∙ long in absurd (cc clash)
served_long service plant text before after (Ok NotValid) long told = absurd told
served_long service plant text before after (Err BadWords) long told = absurd told
served_long service plant text before after (Err (BadModel code line)) long told = absurd told
served_long service plant text before after (Err NoModel) long told = absurd told
served_long service plant text before after (Err NoSession) long told = told
served_long service plant text before after (Err NoCertificate) long told = absurd told
served_long service plant text before after (Err NoOutput) long told = told.of_lines long
served_long service plant text before after (Err LongSession) long told = (refl, told.1)
served_long service plant text before after (Err LongCertificate) long told = absurd told
served_long service plant text before after (Err NoMemory) long told = told.of_lines long

pub served_meets : (service : Service) (file later : List ℕ → Option (List ℕ)) (model session : List ℕ) (plant : Plant) (before after : Option (List ℕ)) (result : Result Ended RunFault)
    → later ≡ file
    → IfSome (file model) (λ text. IsVerdict text (accepted plant))
    → ((text : List ℕ) → later session ≡ Some text → ServesTold service plant text before after result)
    → (e : Expected) → Expects file (Some (runs service model session)) e → Meets e before after (ended_status result)
served_meets service file later model session plant before after result same has told e expects =
    of_run (λ d. Meets d before after (ended_status result)) file service model session plant has
    (λ text is short. served_short service plant text before after result short (told text (ap (λ (f : List ℕ → Option (List ℕ)). f session) same ∙ is)))
    (λ text is long. served_long service plant text before after result long (told text (ap (λ (f : List ℕ → Option (List ℕ)). f session) same ∙ is)))
    e expects

pub is_accepted : (file : List ℕ → Option (List ℕ)) (command : Said) (plant : Plant)
    → IfSome (model_told file command) (λ text. IsVerdict text (accepted plant))
    → IsAccepted file (Some command)
is_accepted file command plant has = record {
  command = command;
  asked = refl;
  is = some_weaker (model_told file command) (λ (text : List ℕ) v. record { plant = plant; verdict = v }) has;
}

pub is_printed : (file : List ℕ → Option (List ℕ)) (model canonical : List ℕ)
    → IfSome (file model) (λ text. IsPrinted text canonical)
    → IsAccepted file (Some (prints model))
is_printed file model canonical has = record {
  command = prints model;
  asked = refl;
  is = some_weaker (file model) (λ (text : List ℕ) printed. record { plant = printed.plant; verdict = printed.verdict }) has;
}

second_follows : (file : List ℕ → Option (List ℕ)) (said : Option Said) (result : Result Ended RunFault)
    → IsAccepted file said
    → (result ≡ Ok NotValid → HasEnded file said NotValid)
    → IfErr result EndsSecond
    → Follows file said (ended_status result)
second_follows file said (Ok AllDone) given bad ends = given
second_follows file said (Ok NotValid) given bad ends = (given, bad refl)
second_follows file said (Err BadWords) given bad ends = absurd ends
second_follows file said (Err (BadModel code line)) given bad ends = absurd ends
second_follows file said (Err NoModel) given bad ends = absurd ends
second_follows file said (Err NoSession) given bad ends = given
second_follows file said (Err NoCertificate) given bad ends = given
second_follows file said (Err NoOutput) given bad ends = tt
second_follows file said (Err LongSession) given bad ends = given
second_follows file said (Err LongCertificate) given bad ends = given
second_follows file said (Err NoMemory) given bad ends = tt

never_invalid : {A : Type 0} (result : Result Ended RunFault) → IfOk result (λ ended. ended ≡ AllDone) → result ≡ Ok NotValid → A
never_invalid (Ok AllDone) done is = absurd (cc)
never_invalid (Ok NotValid) done is = absurd (cc)
never_invalid (Err fault) done is = absurd (cc)

pub served_follows : (service : Service) (file : List ℕ → Option (List ℕ)) (model session : List ℕ) (plant : Plant) (result : Result Ended RunFault)
    → IfSome (file model) (λ text. IsVerdict text (accepted plant))
    → IfOk result (λ ended. ended ≡ AllDone)
    → IfErr result EndsSession
    → Follows file (Some (runs service model session)) (ended_status result)
served_follows service file model session plant result has done ends =
    second_follows file (Some (runs service model session)) result (is_accepted file (runs service model session) plant has) (never_invalid result done) (session_ends result ends)

pub served_verdict : (service : Service) (file : List ℕ → Option (List ℕ)) (model session : List ℕ) (result : Result Ended RunFault)
    → IfOk result (λ ended. ended ≡ AllDone)
    → IfErr result EndsSession
    → TellsVerdict file (Some (runs service model session)) result
served_verdict service file model session (Ok x) done ends = record { command = runs service model session; asked = refl; is = done }
served_verdict service file model session (Err BadWords) done ends = absurd ends
served_verdict service file model session (Err (BadModel code line)) done ends = absurd ends
served_verdict service file model session (Err NoModel) done ends = absurd ends
served_verdict service file model session (Err NoSession) done ends = refl
served_verdict service file model session (Err NoCertificate) done ends = absurd ends
served_verdict service file model session (Err NoOutput) done ends = tt
served_verdict service file model session (Err LongSession) done ends = refl
served_verdict service file model session (Err LongCertificate) done ends = absurd ends
served_verdict service file model session (Err NoMemory) done ends = tt

-- where the second file is dealt with no status says that nothing was written, but those of a certificate that was not read
pub second_silent : (said : Option Said) (result : Result Ended RunFault) (before after : Option (List ℕ))
    → IfErr result EndsSecond
    → (IsTrue (is_check said) → ended_status result ≡ SecondUnread → after ≡ before)
    → (IsTrue (is_check said) → ended_status result ≡ SecondTooLong → after ≡ before)
    → IsTrue (is_silent said (ended_status result))
    → after ≡ before
second_silent said (Ok AllDone) before after ends unread long quiet = absurd (cc)
second_silent said (Ok NotValid) before after ends unread long quiet = absurd (cc)
second_silent said (Err BadWords) before after ends unread long quiet = absurd ends
second_silent said (Err (BadModel code line)) before after ends unread long quiet = absurd ends
second_silent said (Err NoModel) before after ends unread long quiet = absurd ends
second_silent said (Err NoSession) before after ends unread long quiet = unread quiet refl
second_silent said (Err NoCertificate) before after ends unread long quiet = unread quiet refl
second_silent said (Err NoOutput) before after ends unread long quiet = absurd (cc)
second_silent said (Err LongSession) before after ends unread long quiet = long quiet refl
second_silent said (Err LongCertificate) before after ends unread long quiet = long quiet refl
second_silent said (Err NoMemory) before after ends unread long quiet = absurd (cc)

-- of a run, none
pub served_silent : (service : Service) (model session : List ℕ) (result : Result Ended RunFault) (before after : Option (List ℕ))
    → IfErr result EndsSession
    → IsTrue (is_silent (Some (runs service model session)) (ended_status result))
    → after ≡ before
served_silent service model session result before after ends quiet =
    second_silent (Some (runs service model session)) result before after (session_ends result ends) (λ no_check is. absurd (cc)) (λ no_check is. absurd (cc)) quiet

pub second_no_model : (result : Result Ended RunFault) → IfErr result EndsSecond → ended_status result ≢ ModelUnread
second_no_model (Ok AllDone) ends = λ e. cc
second_no_model (Ok NotValid) ends = λ e. cc
second_no_model (Err BadWords) ends = absurd ends
second_no_model (Err (BadModel code line)) ends = absurd ends
second_no_model (Err NoModel) ends = absurd ends
second_no_model (Err NoSession) ends = λ e. cc
second_no_model (Err NoCertificate) ends = λ e. cc
second_no_model (Err NoOutput) ends = λ e. cc
second_no_model (Err LongSession) ends = λ e. cc
second_no_model (Err LongCertificate) ends = λ e. cc
second_no_model (Err NoMemory) ends = λ e. cc

-- where a certificate was judged, or was not
judged_short : (plant : Plant) (text : List ℕ) (verdict : Verdict) (before after : Option (List ℕ)) (result : Result Ended RunFault)
    → length text ≤ CERTIFICATE_BYTES
    → IsVerdictOn plant text verdict
    → JudgesTold plant text before after result
    → Meets (judges verdict) before after (ended_status result)
judged_short plant text verdict before after (Ok ended) within is told =
    whole_verdict verdict before after ended told.verdict (is_one plant text told.verdict verdict told.is is) told.ends told.written
judged_short plant text verdict before after (Err BadWords) within is told = absurd told
judged_short plant text verdict before after (Err (BadModel code line)) within is told = absurd told
judged_short plant text verdict before after (Err NoModel) within is told = absurd told
judged_short plant text verdict before after (Err NoSession) within is told = absurd told
judged_short plant text verdict before after (Err NoCertificate) within is told = told
judged_short plant text verdict before after (Err NoOutput) within is told = told.of_verdict verdict within is
judged_short plant text verdict before after (Err LongSession) within is told = absurd told
judged_short plant text verdict before after (Err LongCertificate) within is told = absurd (too_long_not_within (length text) within told.0)
judged_short plant text verdict before after (Err NoMemory) within is told = told.of_verdict verdict within is

judged_long : (plant : Plant) (text : List ℕ) (before after : Option (List ℕ)) (result : Result Ended RunFault)
    → CERTIFICATE_BYTES < length text
    → JudgesTold plant text before after result
    → Meets exceeds before after (ended_status result)
judged_long plant text before after (Ok ended) beyond told = absurd (too_long_not_within (length text) told.within beyond)
judged_long plant text before after (Err BadWords) beyond told = absurd told
judged_long plant text before after (Err (BadModel code line)) beyond told = absurd told
judged_long plant text before after (Err NoModel) beyond told = absurd told
judged_long plant text before after (Err NoSession) beyond told = absurd told
judged_long plant text before after (Err NoCertificate) beyond told = told
judged_long plant text before after (Err NoOutput) beyond told = told.of_long beyond
judged_long plant text before after (Err LongSession) beyond told = absurd told
judged_long plant text before after (Err LongCertificate) beyond told = (refl, told.1)
judged_long plant text before after (Err NoMemory) beyond told = told.of_long beyond

pub judged_meets : (file later : List ℕ → Option (List ℕ)) (model cert : List ℕ) (plant : Plant) (before after : Option (List ℕ)) (result : Result Ended RunFault)
    → later ≡ file
    → IfSome (file model) (λ text. IsVerdict text (accepted plant))
    → ((text : List ℕ) → later cert ≡ Some text → JudgesTold plant text before after result)
    → (e : Expected) → Expects file (Some (checks model cert)) e → Meets e before after (ended_status result)
judged_meets file later model cert plant before after result same has told e expects =
    of_check (λ d. Meets d before after (ended_status result)) file model cert plant has
    (λ text verdict is within judged.
    judged_short plant text verdict before after result within judged (told text (ap (λ (f : List ℕ → Option (List ℕ)). f cert) same ∙ is)))
    (λ text is beyond. judged_long plant text before after result beyond (told text (ap (λ (f : List ℕ → Option (List ℕ)). f cert) same ∙ is)))
    e expects

-- the end of a check is that of its certificate's verdict
is_judged : (file later : List ℕ → Option (List ℕ)) (model cert : List ℕ) (plant : Plant) (before after : Option (List ℕ)) (ended : Ended)
    → later ≡ file
    → IfSome (file model) (λ text. IsVerdict text (accepted plant))
    → ((text : List ℕ) → later cert ≡ Some text → TellsJudgement plant text before after ended)
    → EndsSo file (checks model cert) ended
is_judged file later model cert plant before after ended same has told =
    some_weaker (file model) (λ (text : List ℕ) accepts. of_each (file cert) (λ certificate is.
    let t = told certificate (ap (λ (f : List ℕ → Option (List ℕ)). f cert) same ∙ is) in
    record { plant = plant; accepts = accepts; verdict = t.verdict; is = t.is; ends = t.ends })) has

pub judged_verdict : (file later : List ℕ → Option (List ℕ)) (model cert : List ℕ) (plant : Plant) (before after : Option (List ℕ)) (result : Result Ended RunFault)
    → later ≡ file
    → IfSome (file model) (λ text. IsVerdict text (accepted plant))
    → ((text : List ℕ) → later cert ≡ Some text → JudgesTold plant text before after result)
    → IfErr result EndsCheck
    → TellsVerdict file (Some (checks model cert)) result
judged_verdict file later model cert plant before after (Ok ended) same has told ends =
    record { command = checks model cert; asked = refl; is = is_judged file later model cert plant before after ended same has told }
judged_verdict file later model cert plant before after (Err BadWords) same has told ends = absurd ends
judged_verdict file later model cert plant before after (Err (BadModel code line)) same has told ends = absurd ends
judged_verdict file later model cert plant before after (Err NoModel) same has told ends = absurd ends
judged_verdict file later model cert plant before after (Err NoSession) same has told ends = absurd ends
judged_verdict file later model cert plant before after (Err NoCertificate) same has told ends = refl
judged_verdict file later model cert plant before after (Err NoOutput) same has told ends = tt
judged_verdict file later model cert plant before after (Err LongSession) same has told ends = absurd ends
judged_verdict file later model cert plant before after (Err LongCertificate) same has told ends = refl
judged_verdict file later model cert plant before after (Err NoMemory) same has told ends = tt

pub judged_follows : (file : List ℕ → Option (List ℕ)) (model cert : List ℕ) (plant : Plant) (result : Result Ended RunFault)
    → IfSome (file model) (λ text. IsVerdict text (accepted plant))
    → TellsVerdict file (Some (checks model cert)) result
    → IfErr result EndsCheck
    → Follows file (Some (checks model cert)) (ended_status result)
judged_follows file model cert plant result has verdict ends =
    second_follows file (Some (checks model cert)) result (is_accepted file (checks model cert) plant has)
    (λ is. subst (TellsVerdict file (Some (checks model cert))) is verdict) (check_ends result ends)

-- where a text was written, or a front of it
either_way : (text : List ℕ) (before after : Option (List ℕ)) (status : Status)
    → (status ≡ OutputFailed) ⊎ (status ≡ OutOfMemory)
    → AddsFront text before after
    → Meets (shows text) before after status
either_way text before after status (inl is) added = subst (Meets (shows text) before after) (sym is) added
either_way text before after status (inr is) added = subst (Meets (shows text) before after) (sym is) added

pub shown_whole : (file : List ℕ → Option (List ℕ)) (model canonical : List ℕ) (before after : Option (List ℕ))
    → IfSome (file model) (λ text. IsPrinted text canonical)
    → after ≡ append_known before canonical
    → (e : Expected) → Expects file (Some (prints model)) e → (status_expected e ≡ Done) × AddsAll e before after
shown_whole file model canonical before after has added e expects =
    of_print (λ d. (status_expected d ≡ Done) × AddsAll d before after) file model canonical has (refl, added) e expects

pub shown_partly : (file : List ℕ → Option (List ℕ)) (model canonical : List ℕ) (before after : Option (List ℕ)) (status : Status)
    → IfSome (file model) (λ text. IsPrinted text canonical)
    → (status ≡ OutputFailed) ⊎ (status ≡ OutOfMemory)
    → AddsFront canonical before after
    → (e : Expected) → Expects file (Some (prints model)) e → Meets e before after status
shown_partly file model canonical before after status has ends added e expects =
    of_print (λ d. Meets d before after status) file model canonical has (either_way canonical before after status ends added) e expects

pub made_whole : (file : List ℕ → Option (List ℕ)) (kind : Kind) (n : ℕ) (text : List ℕ) (before after : Option (List ℕ))
    → text ≡ made_text kind n
    → after ≡ append_known before text
    → (e : Expected) → Expects file (Some (generates kind n)) e → (status_expected e ≡ Done) × AddsAll e before after
made_whole file kind n text before after is added e expects =
    of_made (λ d. (status_expected d ≡ Done) × AddsAll d before after) file kind n (refl, added ∙ ap (append_known before) is) e expects

pub made_partly : (file : List ℕ → Option (List ℕ)) (kind : Kind) (n : ℕ) (text : List ℕ) (before after : Option (List ℕ)) (status : Status)
    → text ≡ made_text kind n
    → (status ≡ OutputFailed) ⊎ (status ≡ OutOfMemory)
    → AddsFront text before after
    → (e : Expected) → Expects file (Some (generates kind n)) e → Meets e before after status
made_partly file kind n text before after status is ends added e expects =
    of_made (λ d. Meets d before after status) file kind n
    (either_way (made_text kind n) before after status ends (subst (λ (t : List ℕ). AddsFront t before after) is added)) e expects

pub driven_whole : (file : List ℕ → Option (List ℕ)) (n : ℕ) (summary : List ℕ) (before after : Option (List ℕ))
    → IsDriven n summary
    → after ≡ append_known before summary
    → (e : Expected) → Expects file (Some (drives n)) e → (status_expected e ≡ Done) × AddsAll e before after
driven_whole file n summary before after driven added e expects =
    of_drive (λ d. (status_expected d ≡ Done) × AddsAll d before after) file n summary driven (refl, added) e expects

pub driven_partly : (file : List ℕ → Option (List ℕ)) (n : ℕ) (summary : List ℕ) (before after : Option (List ℕ)) (status : Status)
    → IsDriven n summary
    → (status ≡ OutputFailed) ⊎ (status ≡ OutOfMemory)
    → AddsFront summary before after
    → (e : Expected) → Expects file (Some (drives n)) e → Meets e before after status
driven_partly file n summary before after status driven ends added e expects =
    of_drive (λ d. Meets d before after status) file n summary driven (either_way summary before after status ends added) e expects

-- the model of a number was accepted
pub is_driven : (file : List ℕ → Option (List ℕ)) (n : ℕ) (summary : List ℕ) → IsDriven n summary → IsAccepted file (Some (drives n))
is_driven file n summary driven = record {
  command = drives n;
  asked = refl;
  is = record { plant = driven.plant; verdict = driven.verdict };
}

-- a text was made, and no model asked for
pub is_made : (file : List ℕ → Option (List ℕ)) (kind : Kind) (n : ℕ) → IsAccepted file (Some (generates kind n))
is_made file kind n = record { command = generates kind n; asked = refl; is = tt }

-- a status of the output is not silent
pub not_silent : {A : Type 0} (said : Option Said) (status : Status) → (status ≡ OutputFailed) ⊎ (status ≡ OutOfMemory) → IsTrue (is_silent said status) → A
not_silent said status (inl is) quiet = let q : IsTrue (is_silent said OutputFailed) = subst (λ (s : Status). IsTrue (is_silent said s)) is quiet in absurd (cc)
not_silent said status (inr is) quiet = let q : IsTrue (is_silent said OutOfMemory) = subst (λ (s : Status). IsTrue (is_silent said s)) is quiet in absurd (cc)

pub sink_as_before : (result : Result Ended RunFault) (fault : IoFault) (old new : ℕ)
    → IsErrAnd result (λ e. e ≡ fault_of_sink fault)
    → HasCause {T = Unit {0}} old new (Err fault)
    → ended_status result ≢ OutputFailed
    → new ≡ old
sink_as_before (Ok x) fault old new is cause other = absurd is
sink_as_before (Err e) Failed old new is cause other = absurd (other (ap status_of is))
sink_as_before (Err e) Memory old new is cause other = cause

-- where memory was wanting before anything was written
pub memory_meets : (result : Result Ended RunFault) (e : Expected) (before : Option (List ℕ))
    → IsErrAnd result (λ f. f ≡ NoMemory)
    → Meets e before before (ended_status result)
memory_meets result e before handed = subst (Meets e before before) (sym (err_handed_on result NoMemory handed)) (adds_none e before)

-- a fault of the model of a text that is another's
pub refused_same : {T : Type 0} (result : Result T RunFault) (fault : RunFault) (bytes text : List ℕ)
    → IsErrAnd result (λ f. f ≡ fault)
    → RefusesBy fault (Some bytes)
    → bytes ≡ text
    → IfErr result (λ f. RefusesBy f (Some text))
refused_same (Ok x) fault bytes text handed refuses same = tt
refused_same (Err e) fault bytes text handed refuses same =
    subst (λ (f : RunFault). RefusesBy f (Some text)) (sym handed) (subst (λ (l : List ℕ). RefusesBy fault (Some l)) same refuses)
