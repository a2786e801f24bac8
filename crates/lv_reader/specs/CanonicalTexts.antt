-- The canonical text of a model: the newest version first, then its name, one statement a line, and no line without a statement.
use Rattle.std.specs.Prelude.{◌≡◌, ℕ, ◌+◌, List, [], ◌∷◌, ◌++◌, Bool, true, false, map, length, if◌then◌else◌, codes}
use Rattle.std.specs.List.{flat_map}
use Rattle.lv_reader.specs.declared.statement.Statement.{Statement}
use Rattle.lv_reader.specs.declared.statement.Statement.TheVariants.{ModelLine, VersionLine}
use Rattle.lv_reader.specs.declared.statement.NumberedStatement.{NumberedStatement}
use Rattle.lv_reader.specs.declared.statement.ModelText.{ModelText}
use Rattle.lv_reader.specs.declared.version.TheConstants.{NEWEST}
use Rattle.lv_reader.specs.declared.canonical_text.Canonical.{Canonical}
use Rattle.lv_reader.specs.CanonicalTokens.{statement_text}

-- the statement gives the model's name
abbrev pub names_model : Statement → Bool
names_model (ModelLine name) = true
names_model s = false

-- the statement that gives the name which a model has without it
abbrev pub default_name : Statement
default_name = ModelLine (codes "model")

-- the first statement gives the model's name
abbrev pub begins_with_name : List Statement → Bool
begins_with_name [] = false
begins_with_name (s ∷ ss) = names_model s

-- what stands before statements that don't begin with a name
abbrev pub name_before : List Statement → List Statement
name_before ss = if begins_with_name ss then [] else default_name ∷ []

-- the statements of a text, without the numbers of their lines
abbrev pub statements_of : List NumberedStatement → List Statement
statements_of ss = map (λ (n : NumberedStatement). n.statement) ss

-- the statements of a text, of which the first gives the model's name
abbrev pub named_statements : List NumberedStatement → List Statement
named_statements ss = name_before (statements_of ss) ++ statements_of ss

-- a statement's line with its end
abbrev pub ended_line : Statement → List ℕ
ended_line s = statement_text s ++ 10 ∷ []

-- the line that gives the version, with its end
abbrev pub version_line : List ℕ
version_line = ended_line (VersionLine NEWEST)

-- what is written of statements, where some stand before them or none: before the first of all the model's name, where it isn't given
abbrev pub written_lines : Bool → List Statement → List ℕ
written_lines begun ss = flat_map ended_line ((if begun then [] else name_before ss) ++ ss)

-- what stands before a statement's line
abbrev pub name_line : Bool → Statement → List ℕ
name_line begun s = if begun then [] else flat_map ended_line (name_before (s ∷ []))

-- the canonical text
abbrev pub canonical_model : ModelText → List ℕ
canonical_model text = version_line ++ flat_map ended_line (named_statements text.statements)

-- a statement's line was written behind those before it
pub record WritesLine (s : Statement) (old new : Canonical) : Type 0 where
  pub bytes : new.bytes.items ≡ old.bytes.items ++ name_line old.has_begun s ++ ended_line s
  pub begun : new.has_begun ≡ true

-- statements on lines that follow one another, behind so many lines
abbrev pub numbered_from : ℕ → List Statement → List NumberedStatement
numbered_from before [] = []
numbered_from before (s ∷ ss) = record { line = before + 1; statement = s } ∷ numbered_from (before + 1) ss

-- what the canonical text reads as: the same statements, one a line behind the version, the model's name before them
abbrev pub canonical_reading : ModelText → ModelText
canonical_reading text = record { statements = numbered_from 1 (named_statements text.statements); lines = length (named_statements text.statements) + 1 }
