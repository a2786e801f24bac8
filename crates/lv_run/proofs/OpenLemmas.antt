-- The opens of a run, by how it ended.
use Rattle.std.proofs.Common.{◌≡◌, ◌≢◌, ◌⊎◌, inl, inr, ℕ, zero, suc, List, [], ◌∷◌, ◌++◌, take, Result, Ok, Err, refl, sym, ◌∙◌, ap, subst, append_assoc, length, arith}
use Rattle.std.proofs.lemmas.List.{append-nil, take_all}
use Rattle.std.specs.Prelude.{IfErr, IsErrAnd}
use Rattle.lv_io.specs.Outside.{Opened}
use Rattle.lv_io.specs.declared.IoFault.{IoFault}
use Rattle.lv_io.specs.declared.IoFault.TheVariants.{Failed, Memory}
use Rattle.lv_run.specs.Inputs.{AddsOpens}
use Rattle.lv_run.specs.Opens.{HasOpened}
use Rattle.lv_run.specs.Faults.{EndsModel, status_of, ended_status, fault_of_sink}
use Rattle.lv_run.proofs.SecondLemmas.{EndsSecond}
use Rattle.lv_run.specs.declared.status.Ended.{Ended}
use Rattle.lv_run.specs.declared.status.Ended.TheVariants.{Done as AllDone, Invalid as NotValid}
use Rattle.lv_run.specs.declared.status.Status.{Status}
use Rattle.lv_run.specs.declared.status.Status.TheVariants.{Done, WordsRefused, ModelRefused, ModelUnread, SecondUnread, OutputFailed, SecondTooLong, OutOfMemory, Invalid}
use Rattle.lv_run.specs.declared.fault.RunFault.{RunFault}
use Rattle.lv_run.specs.declared.fault.RunFault.TheVariants.{WordsRefused as BadWords, ModelRefused as BadModel, ModelUnread as NoModel, SessionUnread as NoSession, CertificateUnread as NoCertificate, OutputFailed as NoOutput, SessionTooLong as LongSession, CertificateTooLong as LongCertificate, OutOfMemory as NoMemory}

none_taken : (n : ℕ) → take {A = Opened} n [] ≡ []
none_taken zero = refl
none_taken (suc n) = refl

first_at_most : (a : Opened) (more old new : List Opened) (n : ℕ)
    → new ≡ old ++ take n (a ∷ [])
    → AddsOpens old (a ∷ more) new
first_at_most a more old new zero added = record { count = 0; added = added }
first_at_most a more old new (suc n) added = record {
  count = 1;
  added = added ∙ ap (λ (rest : List Opened). old ++ a ∷ rest) (none_taken n);
}

first_and_more : (a b : Opened) (old middle new : List Opened) (n : ℕ)
    → middle ≡ old ++ a ∷ []
    → new ≡ middle ++ take n (b ∷ [])
    → AddsOpens old (a ∷ b ∷ []) new
first_and_more a b old middle new n first more = record {
  count = suc n;
  added = more ∙ ap (λ (m : List Opened). m ++ take n (b ∷ [])) first ∙ append_assoc old (a ∷ []) (take n (b ∷ []));
}

both : (a b : Opened) (old middle new : List Opened)
    → middle ≡ old ++ a ∷ []
    → new ≡ middle ++ b ∷ []
    → new ≡ old ++ a ∷ b ∷ []
both a b old middle new first second =
    second ∙ ap (λ (m : List Opened). m ++ b ∷ []) first ∙ append_assoc old (a ∷ []) (b ∷ [])

at_model : (a : Opened) (more old new : List Opened) (fault : RunFault)
    → EndsModel fault
    → AddsOpens old (a ∷ []) new
    → (fault ≢ NoMemory → new ≡ old ++ a ∷ [])
    → HasOpened (a ∷ more) old new (status_of fault)
at_model a more old new BadWords ends adds opened = absurd ends
at_model a more old new (BadModel code line) ends adds opened = opened (λ e. cc)
at_model a more old new NoModel ends adds opened = opened (λ e. cc)
at_model a more old new NoSession ends adds opened = absurd ends
at_model a more old new NoCertificate ends adds opened = absurd ends
at_model a more old new NoOutput ends adds opened = absurd ends
at_model a more old new LongSession ends adds opened = absurd ends
at_model a more old new LongCertificate ends adds opened = absurd ends
at_model a more old new NoMemory ends adds opened = first_at_most a more old new adds.count adds.added

handed : (result : Result Ended RunFault) (fault : RunFault) → IsErrAnd result (λ e. e ≡ fault) → ended_status result ≡ status_of fault
handed (Ok x) fault is = absurd is
handed (Err e) fault is = ap status_of is

-- where the call ended at the model's file
pub opened_at_model : (a : Opened) (more old new : List Opened) (fault : RunFault) (result : Result Ended RunFault)
    → EndsModel fault
    → IsErrAnd result (λ e. e ≡ fault)
    → AddsOpens old (a ∷ []) new
    → (fault ≢ NoMemory → new ≡ old ++ a ∷ [])
    → HasOpened (a ∷ more) old new (ended_status result)
opened_at_model a more old new fault result ends err adds opened =
    subst (HasOpened (a ∷ more) old new) (sym (handed result fault err)) (at_model a more old new fault ends adds opened)

front_of_both : (a b : Opened) (old middle new : List Opened)
    → middle ≡ old ++ a ∷ []
    → new ≡ middle ++ b ∷ []
    → AddsOpens old (a ∷ b ∷ []) new
front_of_both a b old middle new first second = record { count = 2; added = both a b old middle new first second }

-- where the second file was opened, or was not
pub opened_at_second : (a b : Opened) (old middle new : List Opened) (result : Result Ended RunFault)
    → IfErr result EndsSecond
    → middle ≡ old ++ a ∷ []
    → AddsOpens middle (b ∷ []) new
    → (ended_status result ≢ OutOfMemory → new ≡ middle ++ b ∷ [])
    → HasOpened (a ∷ b ∷ []) old new (ended_status result)
opened_at_second a b old middle new (Ok AllDone) ends first adds opened = both a b old middle new first (opened (λ e. cc))
opened_at_second a b old middle new (Ok NotValid) ends first adds opened = both a b old middle new first (opened (λ e. cc))
opened_at_second a b old middle new (Err BadWords) ends first adds opened = absurd ends
opened_at_second a b old middle new (Err (BadModel code line)) ends first adds opened = absurd ends
opened_at_second a b old middle new (Err NoModel) ends first adds opened = absurd ends
opened_at_second a b old middle new (Err NoSession) ends first adds opened = both a b old middle new first (opened (λ e. cc))
opened_at_second a b old middle new (Err NoCertificate) ends first adds opened = both a b old middle new first (opened (λ e. cc))
opened_at_second a b old middle new (Err NoOutput) ends first adds opened = front_of_both a b old middle new first (opened (λ e. cc))
opened_at_second a b old middle new (Err LongSession) ends first adds opened = both a b old middle new first (opened (λ e. cc))
opened_at_second a b old middle new (Err LongCertificate) ends first adds opened = both a b old middle new first (opened (λ e. cc))
opened_at_second a b old middle new (Err NoMemory) ends first adds opened = first_and_more a b old middle new adds.count first adds.added

-- where nothing is opened
none_opened : (old : List Opened) → old ≡ old ++ []
none_opened old = sym (append-nil old)

pub opens_nothing : (old : List Opened) (status : Status) → HasOpened [] old old status
opens_nothing old Done = none_opened old
opens_nothing old WordsRefused = refl
opens_nothing old ModelRefused = none_opened old
opens_nothing old ModelUnread = none_opened old
opens_nothing old SecondUnread = none_opened old
opens_nothing old OutputFailed = record { count = 0; added = none_opened old }
opens_nothing old SecondTooLong = none_opened old
opens_nothing old OutOfMemory = record { count = 0; added = none_opened old }
opens_nothing old Invalid = none_opened old

-- whatever the status, a front of what was asked for was opened
pub front_opened : (asks old new : List Opened) (status : Status) → HasOpened asks old new status → AddsOpens old asks new
front_opened asks old new Done opened = record { count = length asks; added = opened ∙ ap (λ (l : List Opened). old ++ l) (sym (take_all (length asks) asks (omega arith))) }
front_opened asks old new WordsRefused opened = record { count = 0; added = opened ∙ sym (append-nil old) }
front_opened asks old new ModelRefused opened = record { count = 1; added = opened }
front_opened asks old new ModelUnread opened = record { count = 1; added = opened }
front_opened asks old new SecondUnread opened = record { count = length asks; added = opened ∙ ap (λ (l : List Opened). old ++ l) (sym (take_all (length asks) asks (omega arith))) }
front_opened asks old new OutputFailed opened = opened
front_opened asks old new SecondTooLong opened = record { count = length asks; added = opened ∙ ap (λ (l : List Opened). old ++ l) (sym (take_all (length asks) asks (omega arith))) }
front_opened asks old new OutOfMemory opened = opened
front_opened asks old new Invalid opened = record { count = length asks; added = opened ∙ ap (λ (l : List Opened). old ++ l) (sym (take_all (length asks) asks (omega arith))) }

told_opened : (asks old new : List Opened) (status result : Status)
    → (result ≡ status) ⊎ ((result ≡ OutputFailed) ⊎ (result ≡ OutOfMemory))
    → HasOpened asks old new status
    → HasOpened asks old new result
told_opened asks old new status result (inl same) opened = subst (HasOpened asks old new) (sym same) opened
told_opened asks old new status result (inr (inl failed)) opened =
    subst (HasOpened asks old new) (sym failed) (front_opened asks old new status opened)
told_opened asks old new status result (inr (inr memory)) opened =
    subst (HasOpened asks old new) (sym memory) (front_opened asks old new status opened)

-- the status that a call ends with is the run's own, or one of telling it
pub kept_or_not : (status result : Status)
    → (result ≢ OutputFailed → result ≢ OutOfMemory → result ≡ status)
    → (result ≡ status) ⊎ ((result ≡ OutputFailed) ⊎ (result ≡ OutOfMemory))
kept_or_not status Done kept = inl (kept (λ e. cc) (λ e. cc))
kept_or_not status WordsRefused kept = inl (kept (λ e. cc) (λ e. cc))
kept_or_not status ModelRefused kept = inl (kept (λ e. cc) (λ e. cc))
kept_or_not status ModelUnread kept = inl (kept (λ e. cc) (λ e. cc))
kept_or_not status SecondUnread kept = inl (kept (λ e. cc) (λ e. cc))
kept_or_not status OutputFailed kept = inr (inl refl)
kept_or_not status SecondTooLong kept = inl (kept (λ e. cc) (λ e. cc))
kept_or_not status OutOfMemory kept = inr (inr refl)
kept_or_not status Invalid kept = inl (kept (λ e. cc) (λ e. cc))

pub all_opened : (asks old new : List Opened) (status result : Status)
    → (result ≢ OutputFailed → result ≢ OutOfMemory → result ≡ status)
    → HasOpened asks old new status
    → HasOpened asks old new result
all_opened asks old new status result kept opened = told_opened asks old new status result (kept_or_not status result kept) opened

-- a fault of the output ends a run with one of two statuses
pub sink_end : (result : Result Ended RunFault) (fault : IoFault)
    → IsErrAnd result (λ e. e ≡ fault_of_sink fault)
    → (ended_status result ≡ OutputFailed) ⊎ (ended_status result ≡ OutOfMemory)
sink_end (Ok x) fault is = absurd is
sink_end (Err e) Failed is = inl (ap status_of is)
sink_end (Err e) Memory is = inr (ap status_of is)
