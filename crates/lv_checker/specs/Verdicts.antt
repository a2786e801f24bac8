-- What becomes of the bytes of a model's text: a plant, or the code and the line for which they are refused. A fault of reading
-- comes before every fault of checking.
use Rattle.std.specs.Prelude.{◌≡◌, ◌≤◌, ℕ, true, List, length, map}
use Rattle.lv_base.specs.declared.limits.TheConstants.{MODEL_BYTES}
use Rattle.lv_formula_text.specs.lv_text.Lexemes.{line_reading}
use Rattle.lv_formula_text.specs.lv_text.Lines.{lines_of}
use Rattle.lv_model.specs.declared.plant.Plant.{Plant}
use Rattle.lv_model.specs.WellFormed.{is_well_formed}
use Rattle.lv_reader.specs.declared.code.ModelCode.{ModelCode}
use Rattle.lv_reader.specs.declared.fault.ModelFault.{ModelFault}
use Rattle.lv_reader.specs.declared.fault.ModelFault.TheVariants.{At, Memory}
use Rattle.lv_reader.specs.declared.statement.ModelText.{ModelText}
use Rattle.lv_reader.specs.Texts.{ReadsAs, IsReadingFault}
use Rattle.lv_checker.specs.Checking.{Checked, fine, faulty, checked}

pub data Verdict : Type 0 where
  accepted : Plant → Verdict
  refused : ModelCode → ℕ → Verdict

-- what checking came to, as a verdict
abbrev pub verdict_of : Checked Plant → Verdict
verdict_of (fine plant) = accepted plant
verdict_of (faulty code line) = refused code line

-- the bytes have this verdict: by a fault of reading, or by what is checked of the text that they read as
pub data IsVerdict : List ℕ → Verdict → Type 0 where
  not_read : {bytes : List ℕ} {v : Verdict} → (code : ModelCode) (line : ℕ) → IsReadingFault bytes code line → v ≡ refused code line → IsVerdict bytes v
  is_checked : {bytes : List ℕ} {v : Verdict} → (text : ModelText) → ReadsAs bytes text → v ≡ verdict_of (checked text) → IsVerdict bytes v

-- a fault tells the verdict; want of memory tells nothing
abbrev pub Tells : ModelFault → List ℕ → Type 0
Tells (At code line) bytes = IsVerdict bytes (refused code line)
Tells Memory bytes = Unit {0}

-- bytes have at most one verdict
abbrev pub VerdictIsOne : Type 0
VerdictIsOne = (bytes : List ℕ) (v w : Verdict) → IsVerdict bytes v → IsVerdict bytes w → v ≡ w

-- texts within the limit whose lines read alike have the same verdict
abbrev pub ReadingsGiveVerdict : Type 0
ReadingsGiveVerdict =
    (a b : List ℕ) (v : Verdict) → length a ≤ MODEL_BYTES → length b ≤ MODEL_BYTES → map line_reading (lines_of a) ≡ map line_reading (lines_of b)
    → IsVerdict a v → IsVerdict b v

-- an accepted plant is well formed
abbrev pub AcceptedIsWellFormed : Type 0
AcceptedIsWellFormed = (bytes : List ℕ) (plant : Plant) → IsVerdict bytes (accepted plant) → is_well_formed plant ≡ true
