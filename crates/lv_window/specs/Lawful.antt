-- Why a window's trial keeps the laws of a trial: possible partial choices over some steps have witnesses, a witness serves each part, and
-- the reason of an impossible trajectory is in no possible one.
use Rattle.std.proofs.Common.{◌≡◌, ℕ, Bool, true, false, ◌&&◌, List, [], ◌∷◌, ◌++◌, length, map, Contains}
use Rattle.std.proofs.lemmas.Bool.{and_parts, and_from}
use Rattle.lv_base.specs.declared.ids.ValId.{ValId}
use Rattle.lv_base.specs.declared.ids.MoveId.{MoveId}
use Rattle.lv_base.specs.declared.search.Pair.{Pair}
use Rattle.lv_base.specs.declared.search.Candidate.{Candidate}
use Rattle.lv_base.specs.Choices.{contains_all, pairs_of}
use Rattle.lv_model.specs.declared.plant.Plant.{Plant}
use Rattle.lv_model.specs.Lists.{sizes}
use Rattle.lv_compile.specs.WindowLaws.{counts_of}
use Rattle.lv_boxes.specs.WalkLaws.{IsMonotone}
use Rattle.lv_boxes.proofs.ReasonLemmas.{still_impossible}
use Rattle.lv_meaning.specs.declared.facts.Facts.{Facts}
use Rattle.lv_meaning.specs.Possible.{value, move_number, gives, extends}
use Rattle.lv_meaning.specs.PossibleLaws.{are_below}
use Rattle.lv_meaning.specs.Search.{some_list}
use Rattle.lv_meaning.proofs.SomeList.{list_found, found_list}
use Rattle.lv_meaning.proofs.Possibility.{all_of_part, still_there}
use Rattle.lv_meaning.proofs.Reasons.{at_pairs, apart_by}
use Rattle.lv_window.specs.Possible.{leads, is_possible_over, is_possible_trajectory}
use Rattle.lv_window.specs.Walk.{window_reason}

module _ (plant : Plant) (steps : List Facts) (partial : List Pair) where
  -- moves for all steps that extend the partial choice, and an assignment from which they lead on
  pub record WindowWitness : Type 0 where
    pub moves : List ℕ
    pub start : List ℕ
    pub moves_below : are_below (counts_of plant (length steps)) moves ≡ true
    pub start_below : are_below (sizes plant) start ≡ true
    pub has : extends (map move_number moves) partial ≡ true
    pub lead : leads plant steps (map move_number moves) (map value start) ≡ true

  abbrev starts : List MoveId → Bool
  starts moves = some_list value (sizes plant) (λ (a : List ValId). leads plant steps moves a)

  pub witnessed_over : is_possible_over plant steps partial ≡ true → WindowWitness
  witnessed_over h =
      let m = list_found move_number (counts_of plant (length steps)) (λ (moves : List MoveId). extends moves partial && starts moves) h in
      let two = and_parts (extends (map move_number m.numbers) partial) (starts (map move_number m.numbers)) m.passes in
      let a = list_found value (sizes plant) (λ (a : List ValId). leads plant steps (map move_number m.numbers) a) two.1 in
      record { moves = m.numbers; start = a.numbers; moves_below = m.below; start_below = a.below; has = two.0; lead = a.passes }

  pub possible_over : WindowWitness → is_possible_over plant steps partial ≡ true
  possible_over w =
      found_list move_number (counts_of plant (length steps)) (λ (moves : List MoveId). extends moves partial && starts moves) w.moves w.moves_below
      (and_from (extends (map move_number w.moves) partial) (starts (map move_number w.moves)) w.has
      (found_list value (sizes plant) (λ (a : List ValId). leads plant steps (map move_number w.moves) a) w.start w.start_below w.lead))

module _ (plant : Plant) (steps : List Facts) where
  -- where moves that have the former pairs have the latter, the latter are possible where the former are
  pub less_possible : (more less : List Pair) → ((moves : List MoveId) → extends moves more ≡ true → extends moves less ≡ true) → is_possible_over plant steps more ≡ true
      → is_possible_over plant steps less ≡ true
  less_possible more less weaker h =
      let w : WindowWitness plant steps more = witnessed_over plant steps more h in
      possible_over plant steps less
      (record { moves = w.moves; start = w.start; moves_below = w.moves_below; start_below = w.start_below; has = weaker (map move_number w.moves) w.has; lead = w.lead })

  pub part_over : (part whole : List Pair) → ((p : Pair) → Contains part p → Contains whole p) → is_possible_over plant steps whole ≡ true → is_possible_over plant steps part ≡ true
  part_over part whole inside = less_possible whole part (λ moves. all_of_part (gives moves) part whole inside)

  pub monotone_over : IsMonotone (is_possible_over plant steps)
  monotone_over = record { without = λ front p back. part_over (front ++ back) (front ++ p ∷ back) (still_there front back p) }

  -- the reason of an impossible trajectory is in no possible one
  pub apart_over : (c d : Candidate) → is_possible_trajectory plant steps c ≡ false → is_possible_trajectory plant steps d ≡ true → contains_all d.choices (window_reason plant steps c) ≡ false
  apart_over c d cannot can =
      apart_by (contains_all d.choices (window_reason plant steps c)) (is_possible_over plant steps (window_reason plant steps c))
      (still_impossible (is_possible_over plant steps) [] (pairs_of c.choices) cannot)
      (λ is. less_possible (pairs_of d.choices) (window_reason plant steps c) (λ moves all. at_pairs (gives moves) d.choices (window_reason plant steps c) all is) can)
