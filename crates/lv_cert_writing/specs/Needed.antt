-- Marks of the steps that the last step of a log rests on.
use Rattle.std.specs.Prelude.{◌≡◌, ◌-◌, ◌≤◌, ℕ, Bool, true, false, not, ◌||◌, nat_lt, List, [], ◌∷◌, length, Some, slice_get, slice_set, slice_index_or, if◌then◌else◌}
use Rattle.std.specs.List.{list_all}
use Rattle.lv_clauses.specs.declared.log.Hint.{Hint}
use Rattle.lv_clauses.specs.declared.log.Hint.TheVariants.{Given, Earlier}
use Rattle.lv_clauses.specs.declared.log.Step.{Step}

abbrev pub is_marked : List Bool → ℕ → Bool
is_marked needed place = slice_index_or needed place false

-- the marks with that of the step before this place that the hint names, if it names one
abbrev pub with_named : ℕ → List Bool → Hint → List Bool
with_named place needed (Given id) = needed
with_named place needed (Earlier earlier) = if nat_lt earlier place then slice_set needed earlier true else needed

abbrev pub named_marked : ℕ → List Bool → List Hint → List Bool
named_marked place needed [] = needed
named_marked place needed (h ∷ hs) = named_marked place (with_named place needed h) hs

-- the step before this place that the hint names, if it names one, is marked
abbrev pub has_named : List Bool → ℕ → Hint → Bool
has_named needed place (Given id) = true
has_named needed place (Earlier earlier) = not (nat_lt earlier place) || is_marked needed earlier

-- the last step is marked, and with each step from this place on that is, those before it that its hints name
pub record AreNeeded (log : List Step) (needed : List Bool) (from : ℕ) : Type 0 where
  pub len : length needed ≡ length log
  pub last : is_marked needed (length log - 1) ≡ true
  pub named : (place : ℕ) (s : Step) → from ≤ place → slice_get log place ≡ Some s → is_marked needed place ≡ true → list_all (has_named needed place) s.hints ≡ true
