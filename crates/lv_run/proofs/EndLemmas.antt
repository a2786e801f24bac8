-- Where the files that words speak of are told, something is expected of them, since every bytes have a verdict.
use Rattle.std.proofs.Common.{◌≡◌, ◌≤◌, ◌<◌, ℕ, Bool, true, false, nat_le, List, length, Option, None, Some, refl, sym, ◌∙◌, subst, arith}
use Rattle.std.specs.Prelude.{IfSome}
use Rattle.lv_base.specs.declared.limits.TheConstants.{CERTIFICATE_BYTES}
use Rattle.lv_model.specs.declared.plant.Plant.{Plant}
use Rattle.lv_reader.specs.declared.code.ModelCode.{ModelCode}
use Rattle.lv_reader.specs.CanonicalTexts.{canonical_model}
use Rattle.lv_checker.specs.Verdicts.{Verdict, accepted, refused, IsVerdict, not_read, is_checked}
use Rattle.lv_checker.proofs.VerdictLemmas.{verdict_one}
use Rattle.lv_checker.specs.Laws.{IsAccepted}
use Rattle.lv_checker.specs.Reading.{verdict_on}
use Rattle.lv_checker.proofs.ReadingLemmas.{exists as model_verdict}
use Rattle.lv_checker.proofs.SeriesLemmas.{series_accepted as series_are_accepted}
use Rattle.lv_certcheck.proofs.ProvingLemmas.{exists as certificate_verdict}
use Rattle.lv_gen.specs.Series.{model_text}
use Rattle.lv_run.specs.Drives.{drive_text}
use Rattle.lv_run_words.specs.Words.{Said, runs, checks, prints, generates, drives}
use Rattle.lv_run_words.specs.declared.commands.Service.{Service}
use Rattle.lv_checker.specs.Standing.{IsCanonical}
use Rattle.lv_run.specs.Inputs.{model_told, made_text}
use Rattle.lv_run.specs.Services.{fits}
use Rattle.lv_run.specs.Expected.{serves, overruns, judges, exceeds, shows, fails, words_refused, model_refused, session_served, session_too_long, certificate_judged, certificate_too_long, model_printed, text_made, session_driven, IsRefused}
use Rattle.lv_run.specs.declared.fault.RunFault.TheVariants.{WordsRefused, ModelRefused}
use Rattle.lv_run.specs.Ends.{IsExpected, SomethingIsExpected}

-- the text of an accepted model has a canonical text
pub record HasCanonical (text : List ℕ) : Type 0 where
  pub canonical : List ℕ
  pub is : IsCanonical text canonical

no_refusal : (plant : Plant) (code : ModelCode) (line : ℕ) → accepted plant ≡ refused code line → ⊥
no_refusal plant code line e = cc e

canonical_of : (text : List ℕ) (plant : Plant) → IsVerdict text (accepted plant) → HasCanonical text
canonical_of text plant (not_read code line fault e) = absurd (no_refusal plant code line e)
canonical_of text plant (is_checked t reads e) = record { canonical = canonical_model t; is = record { text = t; reads = reads; printed = refl } }

module _ (file : List ℕ → Option (List ℕ)) where
  run_expected : (service : Service) (model session : List ℕ) (text : List ℕ) → file model ≡ Some text → (served : List ℕ) → file session ≡ Some served
      → (v : Verdict) → IsVerdict text v → IsExpected file (Some (runs service model session))
  run_expected service model session text told served session_told (refused code line) is = record { expected = fails (ModelRefused code line); is = model_refused text told is }
  run_expected service model session text told served session_told (accepted plant) is = by (fits service plant served) refl
    where
      by : (b : Bool) → fits service plant served ≡ b → IsExpected file (Some (runs service model session))
      by true within = record { expected = serves service plant served; is = session_served text told is session_told within }
      by false beyond = record { expected = overruns service plant served; is = session_too_long text told is session_told beyond }

  check_expected : (model cert : List ℕ) (text : List ℕ) → file model ≡ Some text → (certificate : List ℕ) → file cert ≡ Some certificate
      → (v : Verdict) → IsVerdict text v → IsExpected file (Some (checks model cert))
  check_expected model cert text told certificate cert_told (refused code line) is = record { expected = fails (ModelRefused code line); is = model_refused text told is }
  check_expected model cert text told certificate cert_told (accepted plant) is = by (nat_le (length certificate) CERTIFICATE_BYTES) refl
    where
      by : (b : Bool) → nat_le (length certificate) CERTIFICATE_BYTES ≡ b → IsExpected file (Some (checks model cert))
      by true e =
          let within : length certificate ≤ CERTIFICATE_BYTES = grind arith in
          let judged = certificate_verdict plant certificate in
          record { expected = judges judged.verdict; is = certificate_judged text told is cert_told within judged.is }
      by false e =
          let beyond : CERTIFICATE_BYTES < length certificate = grind arith in
          record { expected = exceeds; is = certificate_too_long text told is cert_told beyond }

  print_expected : (model : List ℕ) (text : List ℕ) → file model ≡ Some text → (v : Verdict) → IsVerdict text v → IsExpected file (Some (prints model))
  print_expected model text told (refused code line) is = record { expected = fails (ModelRefused code line); is = model_refused text told is }
  print_expected model text told (accepted plant) is =
      let has = canonical_of text plant is in
      record { expected = shows has.canonical; is = model_printed text told is has.is }

  drive_expected : (n : ℕ) → (v : Verdict) → IsVerdict (model_text n) v → IsExpected file (Some (drives n))
  drive_expected n (refused code line) is = record { expected = fails (ModelRefused code line); is = model_refused (model_text n) refl is }
  drive_expected n (accepted plant) is = record { expected = shows (drive_text plant n); is = session_driven is }

pub expectation : SomethingIsExpected
expectation file None told = record { expected = fails WordsRefused; is = words_refused }
expectation file (Some (runs service model session)) told =
    run_expected file service model session told.0.text told.0.is told.1.text told.1.is (verdict_on told.0.text) (model_verdict told.0.text)
expectation file (Some (checks model cert)) told =
    check_expected file model cert told.0.text told.0.is told.1.text told.1.is (verdict_on told.0.text) (model_verdict told.0.text)
expectation file (Some (prints model)) told = print_expected file model told.text told.is (verdict_on told.text) (model_verdict told.text)
expectation file (Some (generates kind n)) told = record { expected = shows (made_text kind n); is = text_made }
expectation file (Some (drives n)) told = drive_expected file n (verdict_on (model_text n)) (model_verdict (model_text n))

-- a session that is made for a number has a model
pub never_refused : (file : List ℕ → Option (List ℕ)) (said : Option Said) (n : ℕ) → said ≡ Some (drives n) → IsRefused file said → ⊥
never_refused file said n is refusal = two_verdicts (series_are_accepted n) (refused_text refusal.verdict.command (sym refusal.verdict.asked ∙ is) refusal.verdict.is)
  where
    same_command : (c : Said) → Some c ≡ Some (drives n) → c ≡ drives n
    same_command c e = cc e

    refused_text : (c : Said) → Some c ≡ Some (drives n) → IfSome (model_told file c) (λ text. IsVerdict text (refused refusal.code refusal.line)) → IsVerdict (model_text n) (refused refusal.code refusal.line)
    refused_text c e h = subst (λ (d : Said). IfSome (model_told file d) (λ text. IsVerdict text (refused refusal.code refusal.line))) (same_command c e) h

    two_verdicts : IsAccepted (model_text n) → IsVerdict (model_text n) (refused refusal.code refusal.line) → ⊥
    two_verdicts has other = no_refusal has.plant refusal.code refusal.line (verdict_one (model_text n) (accepted has.plant) (refused refusal.code refusal.line) has.verdict other)
