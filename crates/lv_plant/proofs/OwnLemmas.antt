-- The plant's own moves: they are a candidate of a state with its modes, which is possible where its step meets the facts, and lead to
-- the modes behind the step.
use Rattle.std.proofs.Common.{◌≡◌, ℕ, suc, ◌<◌, Bool, true, false, ◌&&◌, ◌||◌, nat_eq, nat_lt, List, [], ◌∷◌, length, map, get_or, slice_get, slice_index_or, Option, Some, None, refl, sym, ap, ap₂, ◌∙◌}
use Rattle.std.specs.List.{list_any}
use Rattle.std.specs.Option.{option_map_or}
use Rattle.std.specs.Cmp.Lexicographic.{pointwise}
use Rattle.std.proofs.lemmas.Bool.{and_parts, and_from, eqb-true, eq-eqb, ltb-true}
use Rattle.std.proofs.lemmas.List.{length-map, get_or-map}
use Rattle.lv_base.specs.declared.ids.ValId.{ValId}
use Rattle.lv_base.specs.declared.ids.MoveId.{MoveId}
use Rattle.lv_base.specs.declared.search.Pair.{Pair}
use Rattle.lv_base.specs.Choices.{picks, contains_all, pairs_of}
use Rattle.lv_base.specs.Tree.{number_of}
use Rattle.lv_model.specs.declared.plant.Plant.{Plant}
use Rattle.lv_model.specs.declared.plant.ComponentType.{ComponentType}
use Rattle.lv_model.specs.declared.plant.Part.{Part}
use Rattle.lv_model.specs.declared.plant.Move.{Move}
use Rattle.lv_model.specs.declared.state.TrackedState.{TrackedState}
use Rattle.lv_model.specs.Lists.{sizes, move_counts}
use Rattle.lv_model.specs.Meaning.{goes, type_takes, part_takes, part_steps, parts_step, is_step, target_of}
use Rattle.lv_meaning.specs.declared.facts.Facts.{Facts}
use Rattle.lv_meaning.specs.Facts.{meets_facts}
use Rattle.lv_meaning.specs.Possible.{value, move_number, gives, extends, witnesses, is_possible}
use Rattle.lv_meaning.specs.PossibleLaws.{are_below}
use Rattle.lv_meaning.specs.Candidates.{type_moves}
use Rattle.lv_meaning.specs.CandidateLaws.{goes_from, are_moves}
use Rattle.lv_meaning.specs.Recovers.{has_modes}
use Rattle.lv_meaning.proofs.Possibility.{possible}
use Rattle.lv_meaning.proofs.Reasons.{own_pairs}
use Rattle.lv_session.specs.lv_tracker.Distinct.{is_same_mode, has_modes as state_has_modes}
use Rattle.lv_meaning.specs.Targets.{target_modes}
use Rattle.lv_plant_step.specs.lv_system.Laws.{IsWholeStep}
use Rattle.lv_plant_step.specs.Finding.{are_values}
use Rattle.lv_plant_step.proofs.SolutionLemmas.{assignment_values, mv_number, moves_back, moves_below}
use Rattle.lv_plant.specs.Seeing.{modes_in}

-- numbers and what they are of

abbrev pub vs_number : ValId → ℕ
vs_number v = v.0

pub values_back : (a : List ValId) → map value (map vs_number a) ≡ a
values_back [] = refl
values_back (v ∷ vs) = ap (λ (xs : List ValId). v ∷ xs) (values_back vs)

pub numbers_back : (ns : List ℕ) → map mv_number (map move_number ns) ≡ ns
numbers_back [] = refl
numbers_back (n ∷ ns) = ap (λ (xs : List ℕ). n ∷ xs) (numbers_back ns)

numbers_below : (ns : List ℕ) (a : List ValId) → are_values ns a ≡ true → are_below ns (map vs_number a) ≡ true
numbers_below [] [] h = refl
numbers_below [] (v ∷ vs) h = absurd (cc h)
numbers_below (n ∷ ns) [] h = absurd (cc h)
numbers_below (n ∷ ns) (v ∷ vs) h =
    let two = and_parts (nat_lt v.0 n) (are_values ns vs) h in
    and_from (nat_lt v.0 n) (are_below ns (map vs_number vs)) two.0 (numbers_below ns vs two.1)

-- states with these modes

pub same_modes : (xs ys : List ValId) → pointwise is_same_mode xs ys ≡ true → xs ≡ ys
same_modes [] [] h = refl
same_modes [] (y ∷ ys) h = absurd (cc h)
same_modes (x ∷ xs) [] h = absurd (cc h)
same_modes (x ∷ xs) (y ∷ ys) h =
    let two = and_parts (is_same_mode x y) (pointwise is_same_mode xs ys) h in
    ap₂ (λ (v : ValId) (vs : List ValId). v ∷ vs) (ap value (eqb-true x.0 y.0 two.0)) (same_modes xs ys two.1)

-- the place of a state with these modes
pub record StandsIn (modes : List ValId) (tracked : List TrackedState) : Type 0 where
  pub place : ℕ
  pub state : TrackedState
  pub at : slice_get tracked place ≡ Some state
  pub modes_are : state.state.modes ≡ modes

pub held_place : (modes : List ValId) (tracked : List TrackedState) → list_any (state_has_modes modes) tracked ≡ true → StandsIn modes tracked
held_place modes [] h = absurd (cc h)
held_place modes (s ∷ ss) h = by (state_has_modes modes s) refl (held_place modes ss) h
  where
    by : (b : Bool) → state_has_modes modes s ≡ b → (list_any (state_has_modes modes) ss ≡ true → StandsIn modes ss) → (b || list_any (state_has_modes modes) ss) ≡ true → StandsIn modes (s ∷ ss)
    by true e rest is = record { place = 0; state = s; at = refl; modes_are = same_modes s.state.modes modes e }
    by false e rest is = let later : StandsIn modes ss = rest is in record { place = suc later.place; state = later.state; at = later.at; modes_are = later.modes_are }

-- where the moves lead to

target_found : (o : Option ℕ) (x : ℕ) → option_map_or (λ (mode : ℕ). nat_eq x mode) o false ≡ true → option_map_or (λ (mode : ℕ). mode) o 0 ≡ x
target_found None x h = absurd (cc h)
target_found (Some m) x h = sym (eqb-true x m h)

module _ (types : List ComponentType) (a b : List ValId) where
  pub targets_are : (ps : List Part) (ms : List MoveId) → parts_step types a b ps ms ≡ true → target_modes types ps (map mv_number ms) ≡ modes_in ps b
  targets_are [] [] h = refl
  targets_are [] (m ∷ ms) h = absurd (cc h)
  targets_are (p ∷ ps) [] h = absurd (cc h)
  targets_are (p ∷ ps) (m ∷ ms) h =
      let two = and_parts (part_steps types a b p m.0) (parts_step types a b ps ms) h in
      let end = (and_parts (part_takes types a p m.0) _ two.0).1 in
      ap₂ (λ (v : ValId) (vs : List ValId). v ∷ vs) (ap value (target_found (target_of types p m.0) (number_of b p.first.0) end)) (targets_are ps ms two.1)

  -- from which mode they go

  goes_there : (first v n : ℕ) (moves : List Move) (o : Option Move) → option_map_or (λ (m : Move). nat_eq (number_of a first) m.source.0 && goes m.kind a first moves n m) o false ≡ true
      → nat_eq (number_of a first) v ≡ true → option_map_or (λ (m : Move). nat_eq m.source.0 v) o false ≡ true
  goes_there first v n moves None h is = absurd (cc h)
  goes_there first v n moves (Some m) h is =
      let from : number_of a first ≡ m.source.0 = eqb-true (number_of a first) m.source.0 (and_parts (nat_eq (number_of a first) m.source.0) _ h).0 in
      eq-eqb m.source.0 v (sym from ∙ eqb-true (number_of a first) v is)

  takes_from : (first v n : ℕ) (o : Option ComponentType) → option_map_or (λ (t : ComponentType). type_takes a first t.moves n) o false ≡ true → nat_eq (number_of a first) v ≡ true
      → goes_from (option_map_or (λ (t : ComponentType). t.moves) o []) v n ≡ true
  takes_from first v n None h is = absurd (cc h)
  takes_from first v n (Some t) h is = goes_there first v n t.moves (slice_get t.moves n) h is

  pub own_moves : (ps : List Part) (vs : List ValId) (ms : List MoveId) → has_modes ps vs a ≡ true → parts_step types a b ps ms ≡ true → are_moves types ps vs (map mv_number ms) ≡ true
  own_moves [] vs [] in_modes h = refl
  own_moves [] vs (m ∷ ms) in_modes h = absurd (cc h)
  own_moves (p ∷ ps) [] ms in_modes h = absurd (cc in_modes)
  own_moves (p ∷ ps) (v ∷ vs) [] in_modes h = absurd (cc h)
  own_moves (p ∷ ps) (v ∷ vs) (m ∷ ms) in_modes h =
      let two = and_parts (part_steps types a b p m.0) (parts_step types a b ps ms) h in
      let here = and_parts (nat_eq (number_of a p.first.0) v.0) (has_modes ps vs a) in_modes in
      and_from (goes_from (type_moves types p) v.0 m.0) (are_moves types ps vs (map mv_number ms))
      (takes_from p.first.0 v.0 m.0 (slice_get types p.kind) (and_parts (part_takes types a p m.0) _ two.0).0 here.0) (own_moves ps vs ms here.1 two.1)

-- a full choice has its own moves

picked_given : (cs : List ℕ) (p : Pair) → picks cs p ≡ true → gives (map move_number cs) p ≡ true
picked_given cs p h =
    let two = and_parts (nat_lt p.slot (length cs)) (nat_eq (get_or cs p.slot 0) p.choice) h in
    let within : p.slot < length cs = ltb-true p.slot (length cs) two.0 in
    and_from (nat_lt p.slot (length (map move_number cs))) (nat_eq (slice_index_or (map move_number cs) p.slot (record { 0 = 0 })).0 p.choice)
    (ap (nat_lt p.slot) (length-map cs move_number) ∙ two.0)
    (ap (λ (m : MoveId). nat_eq m.0 p.choice) (get_or-map move_number cs p.slot 0 (record { 0 = 0 }) within) ∙ two.1)

contained_extended : (cs : List ℕ) (pairs : List Pair) → contains_all cs pairs ≡ true → extends (map move_number cs) pairs ≡ true
contained_extended cs [] h = refl
contained_extended cs (p ∷ ps) h =
    let two = and_parts (picks cs p) (contains_all cs ps) h in
    and_from (gives (map move_number cs) p) (extends (map move_number cs) ps) (picked_given cs p two.0) (contained_extended cs ps two.1)

-- the moves of a step that meets the facts are possible together
pub own_possible : (plant : Plant) (facts : Facts) (a b : List ValId) (ms : List MoveId) → IsWholeStep plant a b ms → meets_facts plant facts a b ≡ true
    → is_possible plant facts (pairs_of (map mv_number ms)) ≡ true
own_possible plant facts a b ms w met =
    let cs : List ℕ = map mv_number ms in
    let given : extends (map move_number cs) (pairs_of cs) ≡ true = contained_extended cs (pairs_of cs) (own_pairs [] cs) in
    let own : extends ms (pairs_of cs) ≡ true = sym (ap (λ (xs : List MoveId). extends xs (pairs_of cs)) (moves_back ms)) ∙ given in
    let here : witnesses plant facts (pairs_of cs) a b ms ≡ true =
    and_from (extends ms (pairs_of cs)) (is_step plant a b ms && meets_facts plant facts a b) own (and_from (is_step plant a b ms) (meets_facts plant facts a b) w.step met) in
    possible plant facts (pairs_of cs)
    (record {
      before = map vs_number a;
      after = map vs_number b;
      moves = cs;
      before_below = numbers_below (sizes plant) a (assignment_values (sizes plant) a w.before);
      after_below = numbers_below (sizes plant) b (assignment_values (sizes plant) b w.after);
      moves_below = moves_below (move_counts plant) ms w.moves.whole w.moves.in_range;
      step = (λ i. witnesses plant facts (pairs_of cs) (values_back a i) (values_back b i) (moves_back ms i)) ∙ here;
    })
