-- What one observation more, made after the step, would leave of the candidates that a diagnosis lists, and which observable is best
-- looked at.
use Rattle.std.specs.Prelude.{◌≡◌, ℕ, Bool, ◌&&◌, nat_lt, nat_le, List, [], ◌∷◌, length, replicate, map, filter, IsTrue, slice_index_or, if◌then◌else◌, Option, option_map}
use Rattle.std.specs.List.{list_all, count_by, find, range_with_len}
use Rattle.lv_base.specs.declared.ids.VarId.{VarId}
use Rattle.lv_base.specs.declared.names.Class.{Class}
use Rattle.lv_base.specs.declared.rank.Rank.{Rank}
use Rattle.lv_base.specs.declared.search.Candidate.{Candidate}
use Rattle.lv_model.specs.declared.plant.Plant.{Plant}
use Rattle.lv_model.specs.Lists.{sizes, IsFew}
use Rattle.lv_model_names.specs.Names.{classes, is_observable}
use Rattle.lv_meaning.specs.declared.facts.Observation.{Observation}
use Rattle.lv_meaning.specs.declared.facts.Facts.{Facts}
use Rattle.lv_meaning.specs.lv_boxes.Walk.{candidate_of}
use Rattle.lv_ident.specs.Probing.{is_allowed}
use Rattle.lv_search_zones.specs.Moves.{is_full_choice}
use Rattle.lv_reply.specs.declared.probes.Probed.{Probed}

-- the variable, seen to have the value of this number
abbrev pub seen : VarId → ℕ → Observation
seen x v = record { var = x; val = record { 0 = v } }

-- how many of the candidates are possible where this is observed too
abbrev pub number_with : Plant → Facts → List Candidate → Observation → ℕ
number_with plant facts candidates o = count_by (is_allowed plant facts o) candidates

-- the same of each of the first values of the variable, so many
abbrev pub numbers_with : Plant → Facts → List Candidate → VarId → ℕ → List ℕ
numbers_with plant facts candidates x n = map (λ (v : ℕ). number_with plant facts candidates (seen x v)) (range_with_len 0 n)

-- the variable with the numbers of all its values
abbrev pub probed : Plant → Facts → List Candidate → VarId → Probed
probed plant facts candidates x = record { var = x; numbers = numbers_with plant facts candidates x (slice_index_or (sizes plant) x.0 0) }

-- what is told of its variable is what an observation of it would leave of the candidates; its values are few
pub record IsProbed (plant : Plant) (facts : Facts) (candidates : List Candidate) (p : Probed) : Type 0 where
  pub probed : p ≡ probed plant facts candidates p.var
  pub few : IsFew (length p.numbers)

-- of no candidate nothing is left, whatever is seen of the variable, where the variables have so many values
abbrev pub none_left : List ℕ → VarId → Probed
none_left values x = record { var = x; numbers = replicate (slice_index_or values x.0 0) 0 }

abbrev pub variable : ℕ → VarId
variable n = record { 0 = n }

abbrev pub is_seen : List (Option Class) → VarId → Bool
is_seen kinds x = is_observable kinds x.0

-- the observables among the first variables, so many, where these are the classes of all
abbrev pub observables_among : List (Option Class) → ℕ → List VarId
observables_among kinds n = filter (is_seen kinds) (map variable (range_with_len 0 n))

-- the observables of the plant, in the order of the variables
abbrev pub observables : Plant → List VarId
observables plant = observables_among (classes plant) (length (sizes plant))

-- for each observable what an observation of it would leave of the listed candidates
unfoldable pub all_probed : Plant → Facts → List Rank → List Probed
all_probed plant facts listed = map (probed plant facts (map candidate_of listed)) (observables plant)

-- a move for each part, which its type has
pub record IsFull (plant : Plant) (c : Candidate) : Type 0 where
  pub moves : IsTrue (is_full_choice plant c)

abbrev pub larger : ℕ → ℕ → ℕ
larger m n = if nat_lt m n then n else m

-- the largest of a number and others
abbrev pub largest_of : ℕ → List ℕ → ℕ
largest_of m [] = m
largest_of m (n ∷ ns) = largest_of (larger m n) ns

abbrev pub largest : List ℕ → ℕ
largest ns = largest_of 0 ns

-- whatever is seen of the observable, fewer than all that are listed are left; and of no other are fewer left at most
abbrev pub is_best : ℕ → List Probed → Probed → Bool
is_best listed ps p = nat_lt (largest p.numbers) listed && list_all (λ (q : Probed). nat_le (largest p.numbers) (largest q.numbers)) ps

-- the first such observable
abbrev pub best : ℕ → List Probed → Option VarId
best listed ps = option_map (λ (p : Probed). p.var) (find (is_best listed ps) ps)
