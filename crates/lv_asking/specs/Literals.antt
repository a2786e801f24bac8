-- Observations and choices as literals: each says of one variable that it has one value, or of one slot that it has one choice.
use Rattle.std.specs.Prelude.{◌≡◌, ◌<◌, ℕ, Bool, true, List, map, filter, slice_index_or}
use Rattle.std.specs.List.{list_all}
use Rattle.lv_base.specs.declared.ids.Lit.{Lit}
use Rattle.lv_base.specs.declared.search.Pair.{Pair}
use Rattle.lv_clauses.specs.Literals.{is_clause, lit_holds}
use Rattle.lv_clauses.specs.Marks.{Marks, is_marked}
use Rattle.lv_compile.specs.Booleans.{Booleans, value_literal}
use Rattle.lv_system.specs.Choices.{Choices, choice_literal}
use Rattle.lv_meaning.specs.declared.facts.Observation.{Observation}

-- the variable has the observed value
abbrev pub observed_literal : Booleans → Observation → Lit
observed_literal b o = value_literal b o.var.0 o.val.0 true

abbrev pub observed_literals : Booleans → List Observation → List Lit
observed_literals b os = map (observed_literal b) os

-- the pair's slot has the pair's choice
abbrev pub pair_literal : Choices → Pair → Lit
pair_literal c p = choice_literal c p.slot p.choice true

abbrev pub pair_literals : Choices → List Pair → List Lit
pair_literals c pairs = map (pair_literal c) pairs

-- the slot has a choice of this number
pub record HasMove (counts : List ℕ) (p : Pair) : Type 0 where
  pub below : p.choice < slice_index_or counts p.slot 0

abbrev pub is_positive : Lit → Bool
is_positive l = l.sign

-- a boolean that is there and is to be true
pub record IsPositive (bools : ℕ) (l : Lit) : Type 0 where
  pub sign : l.sign ≡ true
  pub below : l.var.0 < bools

-- the literals of a list, each once: they say what the list says
pub record IsOnce (bools : ℕ) (lits once : List Lit) : Type 0 where
  pub clause : is_clause bools once ≡ true
  pub says : (values : List Bool) → list_all (lit_holds values) once ≡ list_all (lit_holds values) lits

-- of the pairs those whose literals are marked
abbrev pub marked_pairs : Choices → Marks → List Pair → List Pair
marked_pairs c marks pairs = filter (λ (p : Pair). is_marked marks (pair_literal c p)) pairs
