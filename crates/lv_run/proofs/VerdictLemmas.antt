-- Texts have one verdict and one canonical text.
use Rattle.std.proofs.Common.{◌≡◌, ◌<◌, ℕ, List, length, sym, ◌∙◌, ap, ap₂, refl}
use Rattle.lv_base.specs.declared.limits.TheConstants.{MODEL_BYTES}
use Rattle.lv_model.specs.declared.plant.Plant.{Plant}
use Rattle.lv_reader.specs.declared.code.ModelCode.{ModelCode}
use Rattle.lv_reader.specs.declared.code.ModelCode.TheVariants.{TextTooLong}
use Rattle.lv_reader.specs.Texts.{IsReadingFault, too_long}
use Rattle.lv_reader.proofs.ReadingLemmas.{text_one}
use Rattle.lv_checker.specs.Verdicts.{IsVerdict, accepted, refused, not_read}
use Rattle.lv_checker.proofs.VerdictLemmas.{verdict_one}
use Rattle.lv_reader.specs.CanonicalTexts.{canonical_model}
use Rattle.lv_checker.specs.Standing.{IsCanonical}
use Rattle.lv_run.specs.Expected.{fails}
use Rattle.lv_run.specs.declared.fault.RunFault.TheVariants.{ModelRefused as BadModel}

pub not_both : {A : Type 0} (bytes : List ℕ) (plant : Plant) (code : ModelCode) (line : ℕ)
    → IsVerdict bytes (accepted plant) → IsVerdict bytes (refused code line) → A
not_both bytes plant code line a r = let e : accepted plant ≡ refused code line = verdict_one bytes (accepted plant) (refused code line) a r in absurd (cc)

pub same_plant : (bytes : List ℕ) (p q : Plant) → IsVerdict bytes (accepted p) → IsVerdict bytes (accepted q) → p ≡ q
same_plant bytes p q a b = let e : accepted p ≡ accepted q = verdict_one bytes (accepted p) (accepted q) a b in cc

pub same_refusal : (bytes : List ℕ) (c d : ModelCode) (m n : ℕ)
    → IsVerdict bytes (refused c m) → IsVerdict bytes (refused d n) → fails (BadModel c m) ≡ fails (BadModel d n)
same_refusal bytes c d m n a b =
    let e : refused c m ≡ refused d n = verdict_one bytes (refused c m) (refused d n) a b in
    let f : c ≡ d = cc in
    let g : m ≡ n = cc in
    ap₂ (λ (x : ModelCode) (y : ℕ). fails (BadModel x y)) f g

pub same_canonical : (bytes c d : List ℕ) → IsCanonical bytes c → IsCanonical bytes d → c ≡ d
same_canonical bytes c d x y = x.printed ∙ ap canonical_model (text_one bytes x.text y.text x.reads y.reads) ∙ sym y.printed

-- a fault of reading is a verdict
pub refused_by_reading : (bytes : List ℕ) (code : ModelCode) (line : ℕ) → IsReadingFault bytes code line → IsVerdict bytes (refused code line)
refused_by_reading bytes code line fault = not_read code line fault refl

pub refused_for_length : (bytes : List ℕ) → MODEL_BYTES < length bytes → IsVerdict bytes (refused TextTooLong 0)
refused_for_length bytes beyond =
    refused_by_reading bytes TextTooLong 0 (too_long (record { beyond = beyond; code_is = refl; line_is = refl }))
