-- Which partial choices are possible.
use Rattle.std.specs.Prelude.{ℕ, Bool, ◌&&◌, nat_eq, nat_lt, List, length, slice_index_or}
use Rattle.std.specs.List.{list_all}
use Rattle.lv_base.specs.declared.ids.ValId.{ValId}
use Rattle.lv_base.specs.declared.ids.MoveId.{MoveId}
use Rattle.lv_base.specs.declared.search.Pair.{Pair}
use Rattle.lv_model.specs.declared.plant.Plant.{Plant}
use Rattle.lv_model.specs.Lists.{sizes, move_counts}
use Rattle.lv_model.specs.Meaning.{is_step}
use Rattle.lv_meaning.specs.declared.facts.Facts.{Facts}
use Rattle.lv_meaning.specs.Facts.{meets_facts}
use Rattle.lv_meaning.specs.Search.{some_list}

abbrev pub value : ℕ → ValId
value n = record { 0 = n }

abbrev pub move_number : ℕ → MoveId
move_number n = record { 0 = n }

-- the full choice gives the part of the pair's slot the pair's move
abbrev pub gives : List MoveId → Pair → Bool
gives moves p = nat_lt p.slot (length moves) && nat_eq (slice_index_or moves p.slot (record { 0 = 0 })).0 p.choice

-- the full choice has all moves of the partial one
abbrev pub extends : List MoveId → List Pair → Bool
extends moves partial = list_all (gives moves) partial

-- the assignments and the full choice make a step that meets the facts, and the full choice extends the partial one
abbrev pub witnesses : Plant → Facts → List Pair → List ValId → List ValId → List MoveId → Bool
witnesses plant facts partial a b moves = extends moves partial && (is_step plant a b moves && meets_facts plant facts a b)

-- some assignments before and after and some full choice that extends the partial one make a step that meets the facts
abbrev pub is_possible : Plant → Facts → List Pair → Bool
is_possible plant facts partial =
    some_list value (sizes plant) (λ a.
    some_list value (sizes plant) (λ b.
    some_list move_number (move_counts plant) (λ moves. witnesses plant facts partial a b moves)))
