-- Possible partial choices have witnesses, and a witness serves each part.
use Rattle.std.proofs.Common.{◌≡◌, Bool, true, ◌&&◌, List, [], ◌∷◌, ◌++◌, map, get_or, Contains, ⊎_elim, subst}
use Rattle.std.proofs.lemmas.Bool.{and_parts, and_from}
use Rattle.std.specs.List.{list_all}
use Rattle.lv_base.specs.declared.ids.ValId.{ValId}
use Rattle.lv_base.specs.declared.ids.MoveId.{MoveId}
use Rattle.lv_base.specs.declared.search.Pair.{Pair}
use Rattle.lv_model.specs.declared.plant.Plant.{Plant}
use Rattle.lv_model.specs.Lists.{sizes, move_counts}
use Rattle.lv_model.specs.Meaning.{is_step}
use Rattle.lv_meaning.specs.declared.facts.Facts.{Facts}
use Rattle.lv_meaning.specs.Facts.{meets_facts}
use Rattle.lv_meaning.specs.Search.{some_list}
use Rattle.lv_meaning.specs.Possible.{value, move_number, gives, extends, witnesses, is_possible}
use Rattle.std.proofs.lemmas.List.Sums.{AllPass-from_list_all, list_all-from_AllPass}
use Rattle.std.proofs.lemmas.List.Elements.{Contains-get_or, Contains-append_left, Contains-append_right, Contains-append_cases}
use Rattle.lv_meaning.specs.PossibleLaws.{Witness}
use Rattle.lv_meaning.proofs.SomeList.{list_found, found_list}

module _ (plant : Plant) (facts : Facts) (partial : List Pair) where
  abbrev with_moves : List ValId → List ValId → Bool
  with_moves a b = some_list move_number (move_counts plant) (λ moves. witnesses plant facts partial a b moves)

  pub witnessed : is_possible plant facts partial ≡ true → Witness plant facts partial
  witnessed h =
      let a = list_found value (sizes plant) (λ a. some_list value (sizes plant) (λ b. with_moves a b)) h in
      let b = list_found value (sizes plant) (λ b. with_moves (map value a.numbers) b) a.passes in
      let m = list_found move_number (move_counts plant) (λ moves. witnesses plant facts partial (map value a.numbers) (map value b.numbers) moves) b.passes in
      record { before = a.numbers; after = b.numbers; moves = m.numbers; before_below = a.below; after_below = b.below; moves_below = m.below; step = m.passes }

  pub possible : Witness plant facts partial → is_possible plant facts partial ≡ true
  possible w =
      found_list value (sizes plant) (λ a. some_list value (sizes plant) (λ b. with_moves a b)) w.before w.before_below
      (found_list value (sizes plant) (λ b. with_moves (map value w.before) b) w.after w.after_below
      (found_list move_number (move_counts plant) (λ moves. witnesses plant facts partial (map value w.before) (map value w.after) moves) w.moves w.moves_below w.step))

-- what holds of all items holds of those of a part
pub all_of_part : {X : Type 0} (f : X → Bool) (part whole : List X) → ((x : X) → Contains part x → Contains whole x) → list_all f whole ≡ true → list_all f part ≡ true
all_of_part f part whole inside h =
    list_all-from_AllPass f part
    (λ k d below.
    let place = inside (get_or part k d) (Contains-get_or part k d below) in
    subst (λ x. f x ≡ true) place.2 (AllPass-from_list_all f whole h place.0 (get_or part k d) place.1))

-- where every full choice that has the former pairs has the latter, the latter are possible where the former are
pub possible_less : (plant : Plant) (facts : Facts) (more less : List Pair) → ((moves : List MoveId) → extends moves more ≡ true → extends moves less ≡ true)
    → is_possible plant facts more ≡ true → is_possible plant facts less ≡ true
possible_less plant facts more less weaker h =
    let w : Witness plant facts more = witnessed plant facts more h in
    let moves : List MoveId = map move_number w.moves in
    let steps : Bool = is_step plant (map value w.before) (map value w.after) moves && meets_facts plant facts (map value w.before) (map value w.after) in
    possible plant facts less
    (record {
      before = w.before;
      after = w.after;
      moves = w.moves;
      before_below = w.before_below;
      after_below = w.after_below;
      moves_below = w.moves_below;
      step = and_from (extends moves less) steps (weaker moves ((and_parts (extends moves more) steps w.step).0)) ((and_parts (extends moves more) steps w.step).1);
    })

pub part_possible : (plant : Plant) (facts : Facts) (part whole : List Pair) → ((p : Pair) → Contains part p → Contains whole p)
    → is_possible plant facts whole ≡ true → is_possible plant facts part ≡ true
part_possible plant facts part whole inside = possible_less plant facts whole part (λ moves. all_of_part (gives moves) part whole inside)

pub still_there : (before after : List Pair) (left_out p : Pair) → Contains (before ++ after) p → Contains (before ++ left_out ∷ after) p
still_there before after left_out p h =
    ⊎_elim (λ front. Contains-append_left before (left_out ∷ after) p front)
    (λ back. Contains-append_right before (left_out ∷ after) p (Contains-append_right (left_out ∷ []) after p back))
    (Contains-append_cases before after p h)

pub possible_without : (plant : Plant) (facts : Facts) (before after : List Pair) (left_out : Pair)
    → is_possible plant facts (before ++ left_out ∷ after) ≡ true → is_possible plant facts (before ++ after) ≡ true
possible_without plant facts before after left_out =
    part_possible plant facts (before ++ after) (before ++ left_out ∷ after) (still_there before after left_out)
