-- Which partial choices of moves over some steps are possible. What is known of the steps is a list of facts, one for each: what was seen
-- between two steps stands with the one before as next, with the one behind as present.
use Rattle.std.specs.Prelude.{Bool, true, ◌&&◌, List, [], ◌∷◌, length, take, drop}
use Rattle.lv_base.specs.declared.ids.ValId.{ValId}
use Rattle.lv_base.specs.declared.ids.MoveId.{MoveId}
use Rattle.lv_base.specs.declared.rank.Rank.{Rank}
use Rattle.lv_base.specs.declared.search.Pair.{Pair}
use Rattle.lv_base.specs.declared.search.Candidate.{Candidate}
use Rattle.lv_base.specs.Choices.{pairs_of}
use Rattle.lv_model.specs.declared.plant.Plant.{Plant}
use Rattle.lv_model.specs.Lists.{sizes}
use Rattle.lv_model.specs.Meaning.{is_step}
use Rattle.lv_compile.specs.WindowLaws.{counts_of}
use Rattle.lv_boxes.specs.Walk.{candidate_of}
use Rattle.lv_meaning.specs.declared.facts.Facts.{Facts}
use Rattle.lv_meaning.specs.Facts.{meets_facts}
use Rattle.lv_meaning.specs.Possible.{value, move_number, extends}
use Rattle.lv_meaning.specs.Search.{some_list}

-- from the assignment the moves, step by step, part by part, lead on through assignments of which each two make a step that meets its
-- facts
abbrev pub leads : Plant → List Facts → List MoveId → List ValId → Bool
leads plant [] moves a = true
leads plant (f ∷ fs) moves a =
    some_list value (sizes plant) (λ (b : List ValId).
    (is_step plant a b (take (length plant.parts) moves) && meets_facts plant f a b) && leads plant fs (drop (length plant.parts) moves) b)

-- some full choices, one for each step, extend the partial one and lead on from some assignment. A pair's slot counts the parts of each
-- step in turn
abbrev pub is_possible_over : Plant → List Facts → List Pair → Bool
is_possible_over plant steps partial =
    some_list move_number (counts_of plant (length steps)) (λ (moves : List MoveId).
    extends moves partial && some_list value (sizes plant) (λ (a : List ValId). leads plant steps moves a))

-- all choices of the trajectory are possible together
abbrev pub is_possible_trajectory : Plant → List Facts → Candidate → Bool
is_possible_trajectory plant steps c = is_possible_over plant steps (pairs_of c.choices)

abbrev pub is_possible_window_rank : Plant → List Facts → Rank → Bool
is_possible_window_rank plant steps r = is_possible_trajectory plant steps (candidate_of r)
