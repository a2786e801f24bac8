-- The statements of a whole text with the numbers of their lines, or the first line that is refused. The version of the text is
-- what its first statement says, and is itself no statement of it.
use Rattle.std.specs.Prelude.{◌≡◌, ◌+◌, ◌<◌, ◌≤◌, ℕ, List, [], ◌∷◌, ◌++◌, length, Option, Some, None}
use Rattle.lv_base.specs.declared.limits.TheConstants.{MODEL_BYTES}
use Rattle.lv_text.specs.Lines.{lines_of}
use Rattle.lv_reader.specs.declared.code.ModelCode.{ModelCode}
use Rattle.lv_reader.specs.declared.code.ModelCode.TheVariants.{TextTooLong}
use Rattle.lv_reader.specs.declared.fault.ModelFault.{ModelFault}
use Rattle.lv_reader.specs.declared.fault.ModelFault.TheVariants.{At, Memory}
use Rattle.lv_reader.specs.declared.statement.Statement.{Statement}
use Rattle.lv_reader.specs.declared.statement.NumberedStatement.{NumberedStatement}
use Rattle.lv_reader.specs.declared.statement.ModelText.{ModelText}
use Rattle.lv_reader.specs.declared.version.Version.{Version}
use Rattle.lv_reader.specs.Lines.{Says, IsRefused}
use Rattle.lv_reader.specs.Versions.{version_in, known_behind, stated}

-- what a line says, with the line's number
abbrev pub numbered : ℕ → Option Statement → List NumberedStatement
numbered at None = []
numbered at (Some s) = record { line = at; statement = s } ∷ []

-- what lines say, behind so many lines by which the version is known or not
pub data AreStatements : Option Version → ℕ → List (List ℕ) → List NumberedStatement → Type 0 where
  none_left : {known : Option Version} {before : ℕ} → AreStatements known before [] []
  one_more : {known : Option Version} {before : ℕ} {line : List ℕ} {lines : List (List ℕ)} {ss more : List NumberedStatement} → (said : Option Statement)
      → Says (version_in known) line said → AreStatements (known_behind known said) (before + 1) lines ss
      → more ≡ numbered (before + 1) (stated known said) ++ ss → AreStatements known before (line ∷ lines) more

-- the first of these lines that is refused, behind so many lines by which the version is known or not: why, and its number
pub data IsFirstRefused : Option Version → ℕ → List (List ℕ) → ModelCode → ℕ → Type 0 where
  at_once : {known : Option Version} {before at : ℕ} {line : List ℕ} {lines : List (List ℕ)} {code : ModelCode}
      → IsRefused (version_in known) line code → at ≡ before + 1 → IsFirstRefused known before (line ∷ lines) code at
  later : {known : Option Version} {before at : ℕ} {line : List ℕ} {lines : List (List ℕ)} {code : ModelCode} → (said : Option Statement)
      → Says (version_in known) line said → IsFirstRefused (known_behind known said) (before + 1) lines code at → IsFirstRefused known before (line ∷ lines) code at

-- the bytes read as that text
pub record ReadsAs (bytes : List ℕ) (text : ModelText) : Type 0 where
  pub within : length bytes ≤ MODEL_BYTES
  pub statements : AreStatements None 0 (lines_of bytes) text.statements
  pub lines : text.lines ≡ length (lines_of bytes)

-- they are more than a text may have, which is told on line 0
pub record IsTooLong (bytes : List ℕ) (code : ModelCode) (line : ℕ) : Type 0 where
  pub beyond : MODEL_BYTES < length bytes
  pub code_is : code ≡ TextTooLong
  pub line_is : line ≡ 0

-- they are not too many, and some line of theirs is refused
pub record HasRefusedLine (bytes : List ℕ) (code : ModelCode) (line : ℕ) : Type 0 where
  pub within : length bytes ≤ MODEL_BYTES
  pub first : IsFirstRefused None 0 (lines_of bytes) code line

-- the first fault of reading: that there are too many bytes, or a line that is refused
pub data IsReadingFault : List ℕ → ModelCode → ℕ → Type 0 where
  too_long : {bytes : List ℕ} {code : ModelCode} {line : ℕ} → IsTooLong bytes code line → IsReadingFault bytes code line
  refused : {bytes : List ℕ} {code : ModelCode} {line : ℕ} → HasRefusedLine bytes code line → IsReadingFault bytes code line

-- a fault tells the first one; want of memory tells nothing
abbrev pub TellsReading : ModelFault → List ℕ → Type 0
TellsReading (At code line) bytes = IsReadingFault bytes code line
TellsReading Memory bytes = Unit {0}

-- the same of the lines of a text
abbrev pub TellsLines : ModelFault → List (List ℕ) → Type 0
TellsLines (At code line) lines = IsFirstRefused None 0 lines code line
TellsLines Memory lines = Unit {0}

-- the statements with what one more line says behind them, and what is known of the version then
pub record AddsLine (known : Option Version) (at : ℕ) (line : List ℕ) (old new : List NumberedStatement) (next : Option Version) : Type 0 where
  pub said : Option Statement
  pub says : Says (version_in known) line said
  pub added : new ≡ old ++ numbered at (stated known said)
  pub behind : next ≡ known_behind known said

-- why that line, of this number, adds nothing
abbrev pub TellsLine : ModelFault → Option Version → ℕ → List ℕ → Type 0
TellsLine (At code number) known at line = (number ≡ at) × IsRefused (version_in known) line code
TellsLine Memory known at line = Unit {0}
