-- What a line says in a text of a version: nothing where it has no tokens, or one statement; or why it is refused.
use Rattle.std.specs.Prelude.{◌≡◌, ◌≢◌, ℕ, List, length, Option, Some, None}
use Rattle.lv_text.specs.Lexemes.{Lexeme, Reading, reads, has_bad_byte, is_too_long, line_reading}
use Rattle.lv_reader.specs.declared.code.ModelCode.{ModelCode}
use Rattle.lv_reader.specs.declared.code.ModelCode.TheVariants.{LongLine, BadByte}
use Rattle.lv_reader.specs.declared.fault.LineFault.{LineFault}
use Rattle.lv_reader.specs.declared.fault.LineFault.TheVariants.{Refused, Memory}
use Rattle.lv_reader.specs.declared.statement.Statement.{Statement}
use Rattle.lv_reader.specs.declared.version.Version.{Version}
use Rattle.lv_reader.specs.Statements.{IsStatement, IsRefusedBy}

-- what lexemes say
abbrev pub SaysBy : Version → List Lexeme → Option Statement → Type 0
SaysBy version line None = length line ≡ 0
SaysBy version line (Some s) = IsStatement version line s

-- what is said by what a line reads as
abbrev pub SaysOf : Version → Reading → Option Statement → Type 0
SaysOf version (reads line) said = SaysBy version line said
SaysOf version (has_bad_byte place) said = ⊥
SaysOf version is_too_long said = ⊥

-- what a line says
abbrev pub Says : Version → List ℕ → Option Statement → Type 0
Says version line said = SaysOf version (line_reading line) said

-- lexemes, of which there are some, that are no statement
pub record RefusedBy (version : Version) (line : List Lexeme) (code : ModelCode) : Type 0 where
  pub some : length line ≢ 0
  pub why : IsRefusedBy version line code

abbrev pub RefusedOf : Version → Reading → ModelCode → Type 0
RefusedOf version (reads line) code = RefusedBy version line code
RefusedOf version (has_bad_byte place) code = code ≡ BadByte
RefusedOf version is_too_long code = code ≡ LongLine

-- why a line is refused: that it is too long comes before a byte that is not allowed, and this before all else
abbrev pub IsRefused : Version → List ℕ → ModelCode → Type 0
IsRefused version line code = RefusedOf version (line_reading line) code

-- a fault of lexemes tells why; want of memory tells nothing
abbrev pub TellsBy : LineFault → Version → List Lexeme → Type 0
TellsBy (Refused code) version line = IsRefusedBy version line code
TellsBy Memory version line = Unit {0}

-- the same of lexemes that may be none, which aren't refused
abbrev pub TellsSome : LineFault → Version → List Lexeme → Type 0
TellsSome (Refused code) version line = RefusedBy version line code
TellsSome Memory version line = Unit {0}

-- the same of a line
abbrev pub Tells : LineFault → Version → List ℕ → Type 0
Tells (Refused code) version line = IsRefused version line code
Tells Memory version line = Unit {0}
