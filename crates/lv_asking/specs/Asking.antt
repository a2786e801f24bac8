-- What is asked of a solver: which choices can be made together, by its clauses and literals that are assumed each time.
use Rattle.std.specs.Prelude.{◌≡◌, ◌+◌, ◌<◌, ◌≤◌, ℕ, Bool, true, false, List, [], ◌∷◌, ◌++◌, All, Contains, Option, Some, None}
use Rattle.std.specs.List.{find, sum}
use Rattle.lv_base.specs.declared.ids.Lit.{Lit}
use Rattle.lv_base.specs.declared.search.Pair.{Pair}
use Rattle.lv_base.specs.Choices.{slots_rise}
use Rattle.lv_clauses.specs.ClauseMap.{ClauseMap}
use Rattle.lv_clauses.specs.Literals.{is_clause}
use Rattle.lv_clauses.specs.Noted.{is_of}
use Rattle.lv_sat.specs.Answers.{IsModel}
use Rattle.lv_boxes.specs.Reason.{reduced}
use Rattle.lv_system.specs.Choices.{Choices}
use Rattle.lv_asking.specs.Literals.{HasMove, pair_literals}
use Rattle.lv_asking.specs.Lemmas.{HaveSameModels}
use Rattle.lv_asking.specs.Refutation.{HasModel}

-- the clauses, the numbering of the choices, and the literals that are assumed
pub record AskingValue : Type 0 where
  pub set : ClauseMap
  pub choices : Choices
  pub assumed : List Lit

-- pairs that can be asked for together: at most one for each slot, in the order of the slots, each a choice that the slot has
pub record IsPartial (counts : List ℕ) (pairs : List Pair) : Type 0 where
  pub rising : slots_rise pairs ≡ true
  pub moves : All (HasMove counts) pairs

-- pairs have a model exactly where they are possible, and with fewer pairs what is possible stays so
pub record Decides (a : AskingValue) (possible : List Pair → Bool) : Type 0 where
  pub possible_of : (pairs : List Pair) → All (HasMove a.choices.counts) pairs → HasModel a.set (pair_literals a.choices pairs ++ a.assumed) → possible pairs ≡ true
  pub model_of : (pairs : List Pair) → All (HasMove a.choices.counts) pairs → possible pairs ≡ true → HasModel a.set (pair_literals a.choices pairs ++ a.assumed)
  pub part : (part whole : List Pair) → ((p : Pair) → Contains part p → Contains whole p) → possible whole ≡ true → possible part ≡ true

-- the same, where this literal is assumed too
abbrev pub beside : Lit → AskingValue → AskingValue
beside l a = record a { assumed = l ∷ a.assumed }

-- the same is asked, of clauses that the same values satisfy
pub record AskTheSame (one other : AskingValue) : Type 0 where
  pub models : HaveSameModels one.set other.set
  pub choices : other.choices ≡ one.choices
  pub assumed : other.assumed ≡ one.assumed

-- the literal is of a boolean before those of the choices, of which nothing is assumed
pub record IsFresh (a : AskingValue) (l : Lit) : Type 0 where
  pub below : l.var.0 < a.choices.first
  pub unassumed : find (is_of l.var.0) a.assumed ≡ None

-- what is assumed is of distinct booleans before those of the choices, which are all there; the solutions are of the clauses and what is
-- assumed
pub record IsAsking (set : ClauseMap) (choices : Choices) (assumed : List Lit) (solutions : List (List Bool)) : Type 0 where
  pub clause : is_clause choices.first assumed ≡ true
  pub fit : choices.first + sum choices.counts ≤ set.bools
  pub found : All (IsModel set assumed) solutions

-- without a reason the pairs are possible together; else they aren't, and it is what is left of them when each that isn't needed is left out
abbrev pub IsReason : (List Pair → Bool) → List Pair → Option (List Pair) → Type 0
IsReason possible pairs None = possible pairs ≡ true
IsReason possible pairs (Some reason) = (possible pairs ≡ false) × (reason ≡ reduced possible [] pairs)
