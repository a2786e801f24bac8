-- What holds of the canonical text of every model's text.
use Rattle.std.specs.Prelude.{◌≡◌, ◌≤◌, ◌+◌, ℕ, List, length, Option, Some}
use Rattle.lv_base.specs.declared.limits.TheConstants.{MODEL_BYTES}
use Rattle.lv_reader.specs.declared.statement.Statement.{Statement}
use Rattle.lv_reader.specs.declared.statement.ModelText.{ModelText}
use Rattle.lv_reader.specs.declared.version.Version.{Version}
use Rattle.lv_reader.specs.declared.version.Version.TheVariants.{One, Two}
use Rattle.lv_reader.specs.Lines.{Says}
use Rattle.lv_reader.specs.Texts.{ReadsAs}
use Rattle.lv_reader.specs.CanonicalTokens.{statement_text}
use Rattle.lv_reader.specs.CanonicalTexts.{canonical_model, canonical_reading}

-- what a line says in the first version it says in the second too
abbrev pub VersionOneIsRead : Type 0
VersionOneIsRead = (line : List ℕ) (said : Option Statement) → Says One line said → Says Two line said

-- what a line says, its canonical text says too, in the same version and in the second
abbrev pub LineSaysTheSame : Type 0
LineSaysTheSame = (version : Version) (line : List ℕ) (s : Statement) → Says version line (Some s) → Says version (statement_text s) (Some s)

-- and it is no longer than the line
abbrev pub LineIsNoLonger : Type 0
LineIsNoLonger = (version : Version) (line : List ℕ) (s : Statement) → Says version line (Some s) → length (statement_text s) ≤ length line

-- the canonical text of a text that was read reads as the same statements, one a line, the version and the model's name
-- before them; with these it may be longer than a text may be
abbrev pub TextReadsBack : Type 0
TextReadsBack = (bytes : List ℕ) (text : ModelText) → ReadsAs bytes text → length (canonical_model text) ≤ MODEL_BYTES → ReadsAs (canonical_model text) (canonical_reading text)

-- what the canonical text reads as has that same canonical text
abbrev pub PrintedTwiceIsTheSame : Type 0
PrintedTwiceIsTheSame = (bytes : List ℕ) (text again : ModelText) → ReadsAs bytes text → ReadsAs (canonical_model text) again → canonical_model again ≡ canonical_model text

-- it is longer than its source by no more than the added version, the added name and the end of a last line
abbrev pub TextIsLittleLonger : Type 0
TextIsLittleLonger = (bytes : List ℕ) (text : ModelText) → ReadsAs bytes text → length (canonical_model text) ≤ length bytes + 23
