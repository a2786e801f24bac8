-- What is known of the things that lines state.
use Rattle.std.specs.Prelude.{◌≡◌, ℕ, ◌<◌, ◌≤◌, Bool, true, nat_lt, List, length, slice_index_or}
use Rattle.std.specs.Cmp.Lexicographic.{pointwise}
use Rattle.lv_base.specs.declared.ids.ValId.{ValId}
use Rattle.lv_base.specs.declared.rank.Rank.{Rank}
use Rattle.lv_base.specs.declared.search.Pair.{Pair}
use Rattle.lv_model.specs.declared.plant.Plant.{Plant}
use Rattle.lv_model.specs.declared.state.TrackedState.{TrackedState}
use Rattle.lv_meaning.specs.Candidates.{IsTracked}
use Rattle.lv_cert_meaning.specs.Counting.{mode_counts}

-- each place is below its count
abbrev pub are_places : List ℕ → List ℕ → Bool
are_places counts places = pointwise nat_lt places counts

-- each value is below its count
abbrev pub are_values : List ℕ → List ValId → Bool
are_values counts values = pointwise (λ (v : ValId) (n : ℕ). nat_lt v.0 n) values counts

-- a mode of each part, at a cost within its bound
pub record IsStateOf (plant : Plant) (s : TrackedState) : Type 0 where
  pub tracked : IsTracked (length plant.parts) s
  pub modes : are_values (mode_counts plant) s.state.modes ≡ true

-- no more choices than a grid has slots
pub record HasFewChoices (r : Rank) : Type 0 where
  pub few : length r.choices ≤ 4096

-- there is such a slot, and it has the choice
pub record IsPairOf (counts : List ℕ) (p : Pair) : Type 0 where
  pub slot : p.slot < length counts
  pub choice : p.choice < slice_index_or counts p.slot 0
