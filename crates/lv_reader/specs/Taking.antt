-- The statements of a text, taken one after the other as they are read, whatever takes them: where it stands behind one more is a
-- relation.
use Rattle.std.specs.Prelude.{◌≡◌, ℕ, List, [], ◌∷◌, Option}
use Rattle.lv_reader.specs.declared.statement.Statement.{Statement}
use Rattle.lv_reader.specs.declared.statement.NumberedStatement.{NumberedStatement}
use Rattle.lv_reader.specs.declared.version.Version.{Version}
use Rattle.lv_reader.specs.Lines.{Says}
use Rattle.lv_reader.specs.Versions.{version_in, known_behind, stated}
use Rattle.lv_reader.specs.Texts.{numbered, ReadsAs}

module _ {S : Type 0} (takes : S → NumberedStatement → S → Type 0) where
  -- these statements were taken on the way from the one state to the other
  pub data TakesAll : S → List NumberedStatement → S → Type 0 where
    none_taken : {s t : S} → t ≡ s → TakesAll s [] t
    one_taken : {s t u : S} {x : NumberedStatement} {xs : List NumberedStatement} → takes s x t → TakesAll t xs u → TakesAll s (x ∷ xs) u

  -- what a line says was taken, and what is known of the version then
  pub record TakesLine (known : Option Version) (at : ℕ) (line : List ℕ) (old new : S) (next : Option Version) : Type 0 where
    pub said : Option Statement
    pub says : Says (version_in known) line said
    pub taken : TakesAll old (numbered at (stated known said)) new
    pub behind : next ≡ known_behind known said

  -- the statements of the bytes, which have so many lines, were taken
  pub record TakesText (bytes : List ℕ) (old new : S) (lines : ℕ) : Type 0 where
    pub statements : List NumberedStatement
    pub reads : ReadsAs bytes (record { statements = statements; lines = lines })
    pub taken : TakesAll old statements new
