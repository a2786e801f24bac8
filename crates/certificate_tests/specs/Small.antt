-- A zone of six candidates, the first three of them that lack one choice, and that choice as a conflict.
use Rattle.std.specs.Prelude.{ℕ, List, [], ◌∷◌}
use Rattle.lv_base.specs.declared.ids.Cost.{Cost}
use Rattle.lv_base.specs.declared.rank.Rank.{Rank}
use Rattle.lv_base.specs.declared.search.Pair.{Pair}
use Rattle.lv_boxes.specs.Members.{ZoneValue}

abbrev pub costs : ℕ → Cost
costs n = record { 0 = n }

-- two slots: three choices that cost 0, 1 and 1, and two that cost 0 and 2
abbrev pub small_slots : List (List Cost)
small_slots = (costs 0 ∷ costs 1 ∷ costs 1 ∷ []) ∷ (costs 0 ∷ costs 2 ∷ []) ∷ []

-- of a tracked state that costs 10 all choices
abbrev pub small_zone : ZoneValue
small_zone = record { source = 0; base = costs 10; masks = 7 ∷ 3 ∷ [] }

abbrev pub ranked_at : ℕ → List ℕ → Rank
ranked_at cost choices = record { cost = costs cost; source = 0; choices = choices }

abbrev pub second_of_first : Pair
second_of_first = record { slot = 0; choice = 1 }

abbrev pub first_three : List Rank
first_three = ranked_at 10 (0 ∷ 0 ∷ []) ∷ ranked_at 11 (2 ∷ 0 ∷ []) ∷ ranked_at 12 (0 ∷ 1 ∷ []) ∷ []
