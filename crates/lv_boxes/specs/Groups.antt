-- Targets as numbers: of each slot the group of each choice; two candidates have one target where their choices are of the same groups.
use Rattle.std.specs.Prelude.{ℕ, Bool, true, false, nat_eq, nat_lt, ◌&&◌, List, [], ◌∷◌, length, Option, Some, None, slice_index_or}
use Rattle.std.specs.Cmp.Lexicographic.{pointwise}
use Rattle.lv_base.specs.declared.rank.Rank.{Rank}
use Rattle.lv_boxes.specs.Walk.{none_alike}

-- the group of the choice
abbrev pub group_of : List ℕ → ℕ → ℕ
group_of numbers choice = slice_index_or numbers choice 0

-- of each slot the group of its choice
abbrev pub groups_of : List (List ℕ) → List ℕ → List ℕ
groups_of [] choices = []
groups_of (numbers ∷ groups) [] = []
groups_of (numbers ∷ groups) (choice ∷ choices) = group_of numbers choice ∷ groups_of groups choices

-- each slot has a choice, and that choice a group
abbrev pub are_grouped : List (List ℕ) → List ℕ → Bool
are_grouped [] [] = true
are_grouped [] (choice ∷ choices) = false
are_grouped (numbers ∷ groups) [] = false
are_grouped (numbers ∷ groups) (choice ∷ choices) = nat_lt choice (length numbers) && are_grouped groups choices

-- the choices are of the same groups
abbrev pub have_same_groups : List (List ℕ) → List ℕ → List ℕ → Bool
have_same_groups groups cs ds = pointwise nat_eq (groups_of groups cs) (groups_of groups ds)

-- which entries are alike: none where there are no groups, else those whose choices are of the same groups
abbrev pub alike_by : Option (List (List ℕ)) → Rank → Rank → Bool
alike_by None = none_alike
alike_by (Some groups) = λ r q. have_same_groups groups r.choices q.choices
