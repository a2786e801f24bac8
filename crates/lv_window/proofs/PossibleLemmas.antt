-- What is listed of a settled window, and that over one step what is possible is that of a diagnosis.
use Rattle.std.proofs.Common.{◌≡◌, ℕ, Bool, true, ◌&&◌, nat_lt, List, [], ◌∷◌, length, map, take, filter, append-nil, refl, sym, subst, arith}
use Rattle.std.specs.List.{list_all}
use Rattle.std.proofs.lemmas.Bool.{and_parts, and_from}
use Rattle.std.proofs.lemmas.List.{length-map, take_all}
use Rattle.lv_base.specs.declared.ids.ValId.{ValId}
use Rattle.lv_base.specs.declared.ids.MoveId.{MoveId}
use Rattle.lv_base.specs.declared.rank.Rank.{Rank}
use Rattle.lv_base.specs.declared.search.Pair.{Pair}
use Rattle.lv_base.specs.declared.search.Candidate.{Candidate}
use Rattle.lv_model.specs.declared.plant.Plant.{Plant}
use Rattle.lv_model.specs.Lists.{sizes, part_moves, move_counts}
use Rattle.lv_model.specs.Meaning.{is_step}
use Rattle.lv_compile.specs.WindowLaws.{counts_of}
use Rattle.lv_boxes.specs.declared.outcome.Outcome.TheVariants.{Settled}
use Rattle.lv_boxes.specs.WalkLaws.{IsSound}
use Rattle.lv_boxes.proofs.WalkLemmas.{plain_exact}
use Rattle.lv_boxes.proofs.RankedMemberLemmas.{one_test}
use Rattle.lv_meaning.specs.declared.facts.Facts.{Facts}
use Rattle.lv_meaning.specs.Facts.{meets_facts}
use Rattle.lv_meaning.specs.Possible.{value, move_number, extends, is_possible}
use Rattle.lv_meaning.specs.PossibleLaws.{are_below, Witness}
use Rattle.lv_meaning.proofs.SomeList.{list_found, found_list}
use Rattle.lv_meaning.proofs.Possibility.{witnessed, possible}
use Rattle.lv_window.specs.Possible.{is_possible_over, is_possible_trajectory, is_possible_window_rank}
use Rattle.lv_window.specs.Walk.{window_reason, window_walk}
use Rattle.lv_window.specs.Lawful.{WindowWitness, witnessed_over, possible_over, apart_over}

module _ (plant : Plant) (steps : List Facts) where
  sound_over : IsSound (λ (c : Candidate). true) (is_possible_trajectory plant steps) (window_reason plant steps)
  sound_over = record { apart = λ c d one other cannot can. apart_over plant steps c d cannot can }

  all_suit : (ranks : List Rank) → list_all (λ (r : Rank). true) ranks ≡ true
  all_suit [] = refl
  all_suit (r ∷ rs) = all_suit rs

  pub window_exact : (k budget : ℕ) (ranks : List Rank) → (window_walk plant steps k budget ranks).outcome ≡ Settled
      → (window_walk plant steps k budget ranks).listed ≡ take k (filter (is_possible_window_rank plant steps) ranks)
  window_exact k budget ranks settled =
      plain_exact (λ (c : Candidate). true) (is_possible_trajectory plant steps) (window_reason plant steps) sound_over k budget ranks (all_suit ranks) settled

-- over one step
module _ (plant : Plant) (facts : Facts) (partial : List Pair) where
  below_long : (ns vs : List ℕ) → are_below ns vs ≡ true → length vs ≡ length ns
  below_long [] [] h = refl
  below_long [] (v ∷ vs) h = absurd (cc h)
  below_long (n ∷ ns) [] h = absurd (cc h)
  below_long (n ∷ ns) (v ∷ vs) h = let rest = below_long ns vs (and_parts (nat_lt v n) (are_below ns vs) h).1 in omega (arith, rest)

  own_counts : counts_of plant (length (facts ∷ [])) ≡ move_counts plant
  own_counts = append-nil (move_counts plant)

  all_taken : (moves : List ℕ) → are_below (move_counts plant) moves ≡ true → take (length plant.parts) (map move_number moves) ≡ map move_number moves
  all_taken moves below =
      let long = below_long (move_counts plant) moves below in
      let parts = length-map plant.parts (part_moves plant.types) in
      let numbers = length-map moves move_number in
      take_all (length plant.parts) (map move_number moves) (omega (arith, long, parts, numbers))

  abbrev steps_to : List MoveId → List ValId → List ValId → Bool
  steps_to moves a b = (is_step plant a b (take (length plant.parts) moves) && meets_facts plant facts a b) && true

  to_one : is_possible_over plant (facts ∷ []) partial ≡ true → is_possible plant facts partial ≡ true
  to_one h =
      let w : WindowWitness plant (facts ∷ []) partial = witnessed_over plant (facts ∷ []) partial h in
      let ms : List MoveId = map move_number w.moves in
      let a : List ValId = map value w.start in
      let below : are_below (move_counts plant) w.moves ≡ true = subst (λ (ns : List ℕ). are_below ns w.moves ≡ true) own_counts w.moves_below in
      let b = list_found value (sizes plant) (λ (x : List ValId). steps_to ms a x) w.lead in
      let both = (and_parts (is_step plant a (map value b.numbers) (take (length plant.parts) ms) && meets_facts plant facts a (map value b.numbers)) true b.passes).0 in
      let step : (is_step plant a (map value b.numbers) ms && meets_facts plant facts a (map value b.numbers)) ≡ true =
      subst (λ (x : List MoveId). (is_step plant a (map value b.numbers) x && meets_facts plant facts a (map value b.numbers)) ≡ true) (all_taken w.moves below) both
      in
      possible plant facts partial
      (record {
        before = w.start;
        after = b.numbers;
        moves = w.moves;
        before_below = w.start_below;
        after_below = b.below;
        moves_below = below;
        step = and_from (extends ms partial) (is_step plant a (map value b.numbers) ms && meets_facts plant facts a (map value b.numbers)) w.has step;
      })

  from_one : is_possible plant facts partial ≡ true → is_possible_over plant (facts ∷ []) partial ≡ true
  from_one h =
      let w : Witness plant facts partial = witnessed plant facts partial h in
      let ms : List MoveId = map move_number w.moves in
      let a : List ValId = map value w.before in
      let b : List ValId = map value w.after in
      let two = and_parts (extends ms partial) (is_step plant a b ms && meets_facts plant facts a b) w.step in
      let step : (is_step plant a b (take (length plant.parts) ms) && meets_facts plant facts a b) ≡ true =
      subst (λ (x : List MoveId). (is_step plant a b x && meets_facts plant facts a b) ≡ true) (sym (all_taken w.moves w.moves_below)) two.1
      in
      possible_over plant (facts ∷ []) partial
      (record {
        moves = w.moves;
        start = w.before;
        moves_below = subst (λ (ns : List ℕ). are_below ns w.moves ≡ true) (sym own_counts) w.moves_below;
        start_below = w.before_below;
        has = two.0;
        lead = found_list value (sizes plant) (λ (x : List ValId). steps_to ms a x) w.after w.after_below
            (and_from (is_step plant a b (take (length plant.parts) ms) && meets_facts plant facts a b) true step refl);
      })

  pub one_step_possible : is_possible_over plant (facts ∷ []) partial ≡ is_possible plant facts partial
  one_step_possible = one_test (is_possible_over plant (facts ∷ []) partial) (is_possible plant facts partial) to_one from_one
