-- What is valid proves its answer; every bytes have one verdict.
use Rattle.std.proofs.Common.{◌≡◌, ℕ, true, List, Some, refl, sym, ◌∙◌, ap}
use Rattle.lv_model.specs.declared.plant.Plant.{Plant}
use Rattle.lv_model.specs.WellFormed.{is_well_formed}
use Rattle.lv_cert.specs.declared.line.Line.{Line}
use Rattle.lv_cert.specs.declared.order.Place.TheVariants.{Start, Done}
use Rattle.lv_cert.specs.Order.{place_behind}
use Rattle.lv_cert.specs.Laws.{IsRead, as_lines, with_fault}
use Rattle.lv_cert.proofs.AgreeLemmas.{one_certificate, one_fault, fault_or_certificate}
use Rattle.lv_cert.proofs.WholeLemmas.{every_text}
use Rattle.lv_cert_laws.specs.lv_cert_meaning.Judging.{Judgement, comes_to, is_bad_at, judgement}
use Rattle.lv_cert_laws.specs.lv_cert_meaning.Laws.{AnswersRight}
use Rattle.lv_cert_laws.proofs.Right.{answers_right}
use Rattle.lv_certcheck.specs.declared.check.Verdict.{Verdict}
use Rattle.lv_certcheck.specs.declared.check.Verdict.TheVariants.{Valid, Invalid}
use Rattle.lv_certcheck.specs.Verdicts.{verdict, verdict_of, IsVerdictOn, of_lines, of_form, ProvesItsAnswer, HasVerdictOn, VerdictExists, VerdictIsOne}

module _ (plant : Plant) (h : is_well_formed plant ≡ true) where
  -- lines in order of which none is bad answer rightly
  pub lines_right : (lines : List Line) → place_behind Start lines ≡ Some Done → (v : Verdict) → v ≡ verdict plant lines → v ≡ Valid → AnswersRight plant lines
  lines_right lines order v told valid = by (judgement plant lines) refl (sym told ∙ valid)
    where
      by : (g : Judgement) → judgement plant lines ≡ g → verdict_of g ≡ Valid → AnswersRight plant lines
      by (comes_to j) e is = answers_right plant h lines j (record { order = order; good = e })
      by (is_bad_at n) e is = absurd (cc is)

  pub valid_proves : (bytes : List ℕ) (v : Verdict) → IsVerdictOn plant bytes v → v ≡ Valid → ProvesItsAnswer plant bytes
  valid_proves bytes v (of_lines lines text is) valid = record { lines = lines; text = text; right = lines_right lines text.order v is valid }
  valid_proves bytes v (of_form n fault is) valid = absurd (no_line (sym is ∙ valid))
    where
      no_line : Invalid n ≡ Valid → ⊥
      no_line same = absurd (cc same)

pub exists : VerdictExists
exists plant bytes = by (every_text bytes)
  where
    by : IsRead bytes → HasVerdictOn plant bytes
    by (as_lines lines text) = record { verdict = verdict plant lines; is = of_lines lines text refl }
    by (with_fault n fault) = record { verdict = Invalid n; is = of_form n fault refl }

pub is_one : VerdictIsOne
is_one plant bytes v w (of_lines lines a e) (of_lines others b f) = e ∙ ap (verdict plant) (one_certificate bytes lines others a b) ∙ sym f
is_one plant bytes v w (of_lines lines a e) (of_form n b f) = absurd (fault_or_certificate bytes lines n a b)
is_one plant bytes v w (of_form n a e) (of_lines lines b f) = absurd (fault_or_certificate bytes lines n b a)
is_one plant bytes v w (of_form n a e) (of_form m b f) = e ∙ ap Invalid (one_fault bytes n m a b) ∙ sym f
