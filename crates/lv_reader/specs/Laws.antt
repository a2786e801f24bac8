-- What holds of every text.
use Rattle.std.specs.Prelude.{◌≡◌, ℕ, List}
use Rattle.lv_reader.specs.declared.code.ModelCode.{ModelCode}
use Rattle.lv_reader.specs.declared.statement.ModelText.{ModelText}
use Rattle.lv_reader.specs.Texts.{ReadsAs, IsReadingFault}

-- bytes read as one text or have one fault, and never both
pub record ReadingIsOne : Type 0 where
  pub text : (bytes : List ℕ) (t u : ModelText) → ReadsAs bytes t → ReadsAs bytes u → t ≡ u
  pub code : (bytes : List ℕ) (c d : ModelCode) (m n : ℕ) → IsReadingFault bytes c m → IsReadingFault bytes d n → c ≡ d
  pub line : (bytes : List ℕ) (c d : ModelCode) (m n : ℕ) → IsReadingFault bytes c m → IsReadingFault bytes d n → m ≡ n
  pub either : (bytes : List ℕ) (t : ModelText) (c : ModelCode) (n : ℕ) → ReadsAs bytes t → IsReadingFault bytes c n → ⊥
