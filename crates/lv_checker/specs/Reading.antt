-- The verdict on bytes as a model's text, as a function.
use Rattle.std.specs.Prelude.{ℕ, ◌+◌, List, [], ◌∷◌, ◌++◌, length, nat_eq, nat_le, if◌then◌else◌, Option, Some, None}
use Rattle.lv_base.specs.declared.limits.TheConstants.{MODEL_BYTES}
use Rattle.lv_formula_text.specs.lv_text.Lexemes.{Lexeme, Reading, reads, has_bad_byte, is_too_long, line_reading}
use Rattle.lv_formula_text.specs.lv_text.Lines.{lines_of}
use Rattle.lv_formula_text.specs.Nesting.{is_too_deep}
use Rattle.lv_reader.specs.declared.code.ModelCode.{ModelCode}
use Rattle.lv_reader.specs.declared.code.ModelCode.TheVariants.{TextTooLong, BadByte, LongLine, UnknownStatement, Form, NumberOutOfRange, TooDeep}
use Rattle.lv_reader.specs.declared.keyword.Keyword.{Keyword}
use Rattle.lv_reader.specs.declared.statement.Statement.{Statement}
use Rattle.lv_reader.specs.declared.statement.NumberedStatement.{NumberedStatement}
use Rattle.lv_reader.specs.declared.version.Version.{Version}
use Rattle.lv_reader.specs.Keywords.{keyword_of}
use Rattle.lv_reader.specs.Statements.{has_form_of, number_fits}
use Rattle.lv_reader.specs.Versions.{version_in, known_behind, stated}
use Rattle.lv_reader.specs.Texts.{numbered}
use Rattle.lv_checker.specs.Checking.{checked}
use Rattle.lv_checker.specs.Verdicts.{Verdict, refused, verdict_of}
use Rattle.lv_checker.specs.Forms.{form_by}

-- what a line says, or why it is refused
pub data Told : Type 0 where
  says : Option Statement → Told
  fails : ModelCode → Told

abbrev pub told_of_form : Version → Option Statement → Told
told_of_form version None = fails Form
told_of_form version (Some s) = if has_form_of version s then (if number_fits s then says (Some s) else fails NumberOutOfRange) else fails Form

abbrev pub told_of_word : Version → List Lexeme → Option Keyword → Told
told_of_word version line None = fails UnknownStatement
told_of_word version line (Some word) = if is_too_deep line then fails TooDeep else told_of_form version (form_by word line)

abbrev pub told_of_lexemes : Version → List Lexeme → Told
told_of_lexemes version line = if nat_eq (length line) 0 then says None else told_of_word version line (keyword_of line)

-- by what a line reads as
abbrev pub told_of : Version → Reading → Told
told_of version (reads line) = told_of_lexemes version line
told_of version (has_bad_byte place) = fails BadByte
told_of version is_too_long = fails LongLine

-- the statements of lines, or the first line that is refused: why, and its number
pub data Statements : Type 0 where
  are : List NumberedStatement → Statements
  stop_at : ModelCode → ℕ → Statements

abbrev pub behind : List NumberedStatement → Statements → Statements
behind front (are ss) = are (front ++ ss)
behind front (stop_at code line) = stop_at code line

abbrev pub with_line : Option Version → ℕ → Told → (Option Version → Statements) → Statements
with_line known at (says said) rest = behind (numbered at (stated known said)) (rest (known_behind known said))
with_line known at (fails code) rest = stop_at code at

-- of these lines, behind so many
abbrev pub statements_of : Option Version → ℕ → List (List ℕ) → Statements
statements_of known before [] = are []
statements_of known before (line ∷ lines) =
    with_line known (before + 1) (told_of (version_in known) (line_reading line)) (λ next. statements_of next (before + 1) lines)

abbrev pub verdict_by : ℕ → Statements → Verdict
verdict_by lines (are ss) = verdict_of (checked (record { statements = ss; lines = lines }))
verdict_by lines (stop_at code line) = refused code line

-- the verdict on bytes
unfoldable pub verdict_on : List ℕ → Verdict
verdict_on bytes =
    if nat_le (length bytes) MODEL_BYTES then verdict_by (length (lines_of bytes)) (statements_of None 0 (lines_of bytes)) else refused TextTooLong 0
