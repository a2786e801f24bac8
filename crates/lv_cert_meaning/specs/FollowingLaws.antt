-- What lines that follow promise.
use Rattle.std.specs.Prelude.{◌≡◌, ℕ, Bool, true, false, ◌&&◌, List, [], ◌∷◌, length, map, Some, None}
use Rattle.std.specs.List.{list_all}
use Rattle.lv_base.specs.declared.ids.Lit.{Lit}
use Rattle.lv_cert.specs.declared.line.Literal.{Literal}
use Rattle.lv_clauses.specs.Literals.{clause_holds}
use Rattle.lv_clauses.specs.ClauseMap.{ClauseMap}
use Rattle.lv_refcheck.specs.lv_clauses.declared.log.Hint.{Hint}
use Rattle.lv_refcheck.specs.lv_clauses.declared.log.Hint.TheVariants.{Given}
use Rattle.lv_refcheck.specs.lv_clauses.declared.log.Step.{Step}
use Rattle.lv_refcheck.specs.lv_clauses.Following.{follows_by_hints}
use Rattle.lv_system.specs.lv_model.declared.plant.Plant.{Plant}
use Rattle.lv_system.specs.lv_compile.ModelClauses.{model_clauses}
use Rattle.lv_system.specs.System.{SystemValue, IsSystemOf}
use Rattle.lv_cert_meaning.specs.Following.{names_boolean, literal_of, follows}
use Rattle.lv_cert_meaning.specs.Blocks.{clauses_of}
use Rattle.lv_cert_meaning.specs.Deriving.{Derived, clause_of_line, derives, refutes}

-- values that make the clauses true make the clause of a line that follows from them true
abbrev pub FollowingIsSound : Type 0
FollowingIsSound =
    (bools : ℕ) (clauses : List (List Lit)) (literals : List Literal) (hints : List ℕ) → follows bools clauses literals hints ≡ true
    → (values : List Bool) → length values ≡ bools → list_all (clause_holds values) clauses ≡ true → clause_holds values (map literal_of literals) ≡ true

-- the numbered clauses of a plant's system are the plant's clauses
abbrev pub ClausesAreTheModels : Type 0
ClausesAreTheModels = (plant : Plant) (s : SystemValue) → IsSystemOf plant s → clauses_of s ≡ model_clauses plant

-- values that make the clauses true make every derived clause true, and where the lines refute the clauses there are none
pub record GoodLinesRefute : Type 0 where
  pub hold : (bools : ℕ) (clauses : List (List Lit)) (lines : List Derived) → derives bools clauses lines ≡ true
      → (values : List Bool) → length values ≡ bools → list_all (clause_holds values) clauses ≡ true → list_all (λ d. clause_holds values (clause_of_line d)) lines ≡ true
  pub refuted : (bools : ℕ) (clauses : List (List Lit)) (lines : List Derived) → refutes bools clauses lines ≡ true
      → (values : List Bool) → length values ≡ bools → list_all (clause_holds values) clauses ≡ false

-- the clauses in a set, each under its number, with nothing under 0
abbrev pub as_set : ℕ → List (List Lit) → ClauseMap
as_set bools clauses = record { bools = bools; slots = None ∷ map Some clauses }

abbrev pub as_hint : ℕ → Hint
as_hint n = Given (record { 0 = n })

-- the line as the first step of a log
abbrev pub as_step : List Literal → List ℕ → Step
as_step literals hints = record { clause = map literal_of literals; hints = map as_hint hints }

-- a line follows where its literals name booleans and, as a step of a log, it follows by its hints
abbrev pub FollowingIsTheLogs : Type 0
FollowingIsTheLogs =
    (bools : ℕ) (clauses : List (List Lit)) (literals : List Literal) (hints : List ℕ)
    → follows bools clauses literals hints ≡ (list_all (names_boolean bools) literals && follows_by_hints (as_set bools clauses) [] (as_step literals hints))
