-- Moves that lead on from an assignment, as steps one behind the other that meet what is known of each.
use Rattle.std.proofs.Common.{◌≡◌, ℕ, ◌≤◌, Bool, true, ◌&&◌, nat_lt, List, [], ◌∷◌, ◌++◌, length, map, take, drop, refl, sym, subst, ap, ◌∙◌, arith}
use Rattle.std.proofs.Math.Seq.{take-append_seam, drop-append_seam}
use Rattle.std.proofs.lemmas.Bool.{and_parts, and_from}
use Rattle.std.proofs.lemmas.List.{length-map, take-append-drop, map-append}
use Rattle.lv_base.specs.declared.ids.ValId.{ValId}
use Rattle.lv_base.specs.declared.ids.MoveId.{MoveId}
use Rattle.lv_model.specs.declared.plant.Plant.{Plant}
use Rattle.lv_model.specs.Lists.{sizes, part_moves, move_counts}
use Rattle.lv_model.specs.Meaning.{is_feasible, is_step}
use Rattle.lv_compile.specs.WindowLaws.{Further, all_moves, counts_of, LeadOn}
use Rattle.lv_system.specs.Windows.{AreWhole}
use Rattle.lv_meaning.specs.declared.facts.Facts.{Facts}
use Rattle.lv_meaning.specs.Facts.{meets_facts}
use Rattle.lv_meaning.specs.Possible.{value, move_number}
use Rattle.lv_meaning.specs.PossibleLaws.{are_below}
use Rattle.lv_meaning.proofs.SomeList.{ListFound, list_found, found_list}
use Rattle.lv_asking.proofs.NumberLemmas.{items_back, all_below, length_below, below_at, value_number, number_of_move, no_value, no_move}
use Rattle.lv_window.specs.Possible.{leads}

-- each two neighbouring assignments meet what is known of the step between them
abbrev pub meet_on : Plant → List Facts → List ValId → List Further → Bool
meet_on plant [] a on = true
meet_on plant (f ∷ fs) a [] = true
meet_on plant (f ∷ fs) a (x ∷ xs) = meets_facts plant f a x.after && meet_on plant fs x.after xs

module _ (plant : Plant) where
  parts_many : length (move_counts plant) ≡ length plant.parts
  parts_many = length-map plant.parts (part_moves plant.types)

  -- the moves of the first step and those of the others
  first_taken : (ms ns : List MoveId) → length ms ≡ length plant.parts → take (length plant.parts) (ms ++ ns) ≡ ms
  first_taken ms ns long = ap (λ (n : ℕ). take n (ms ++ ns)) (sym long) ∙ take-append_seam ms ns

  first_dropped : (ms ns : List MoveId) → length ms ≡ length plant.parts → drop (length plant.parts) (ms ++ ns) ≡ ns
  first_dropped ms ns long = ap (λ (n : ℕ). drop n (ms ++ ns)) (sym long) ∙ drop-append_seam ms ns

  abbrev goes_by : Facts → List Facts → List MoveId → List ValId → List ValId → Bool
  goes_by f fs moves a b = (is_step plant a b (take (length plant.parts) moves) && meets_facts plant f a b) && leads plant fs (drop (length plant.parts) moves) b

  -- steps that meet what is known lead on
  pub path_leads : (steps : List Facts) (a : List ValId) (on : List Further) → length on ≡ length steps → LeadOn plant a on → AreWhole plant on → meet_on plant steps a on ≡ true
      → leads plant steps (all_moves on) a ≡ true
  path_leads [] a on many lead whole met = refl
  path_leads (f ∷ fs) a [] many lead whole met = absurd (omega (arith, many))
  path_leads (f ∷ fs) a (x ∷ xs) many lead whole met =
      let two = and_parts (meets_facts plant f a x.after) (meet_on plant fs x.after xs) met in
      let own = whole.1.whole in
      let parts = parts_many in
      let long : length x.moves ≡ length plant.parts = omega (arith, own, parts) in
      let moves : List MoveId = x.moves ++ all_moves xs in
      let rest : leads plant fs (all_moves xs) x.after ≡ true = path_leads fs x.after xs (omega (arith, many)) lead.1 whole.2 two.1 in
      let step : is_step plant a x.after (take (length plant.parts) moves) ≡ true = ap (is_step plant a x.after) (first_taken x.moves (all_moves xs) long) ∙ lead.0.step in
      let later : leads plant fs (drop (length plant.parts) moves) x.after ≡ true = ap (λ (ms : List MoveId). leads plant fs ms x.after) (first_dropped x.moves (all_moves xs) long) ∙ rest in
      found_list value (sizes plant) (goes_by f fs moves a) (map value_number x.after)
      (all_below value value_number (λ v. refl) (λ n. refl) no_value (sizes plant) x.after whole.0.whole whole.0.in_range)
      (ap (goes_by f fs moves a) (items_back value value_number (λ v. refl) (λ n. refl) no_value x.after)
      ∙ and_from (is_step plant a x.after (take (length plant.parts) moves) && meets_facts plant f a x.after) (leads plant fs (drop (length plant.parts) moves) x.after)
      (and_from (is_step plant a x.after (take (length plant.parts) moves)) (meets_facts plant f a x.after) step two.0) later)

  -- numbers below bounds that stand one behind the other
  below_front : (ns ms cs : List ℕ) → are_below (ns ++ ms) cs ≡ true → are_below ns (take (length ns) cs) ≡ true
  below_front [] ms cs h = refl
  below_front (n ∷ ns) ms [] h = absurd (cc h)
  below_front (n ∷ ns) ms (c ∷ cs) h =
      let two = and_parts (nat_lt c n) (are_below (ns ++ ms) cs) h in
      and_from (nat_lt c n) (are_below ns (take (length ns) cs)) two.0 (below_front ns ms cs two.1)

  below_back : (ns ms cs : List ℕ) → are_below (ns ++ ms) cs ≡ true → are_below ms (drop (length ns) cs) ≡ true
  below_back [] ms cs h = h
  below_back (n ∷ ns) ms [] h = absurd (cc h)
  below_back (n ∷ ns) ms (c ∷ cs) h = below_back ns ms cs (and_parts (nat_lt c n) (are_below (ns ++ ms) cs) h).1

  -- steps that these moves make from an assignment, which meet what is known
  pub record Path (steps : List Facts) (a : List ValId) (moves : List MoveId) : Type 0 where
    pub on : List Further
    pub many : length on ≡ length steps
    pub lead : LeadOn plant a on
    pub whole : AreWhole plant on
    pub moves_are : all_moves on ≡ moves
    pub met : meet_on plant steps a on ≡ true

  none_left : (cs : List ℕ) → are_below [] cs ≡ true → cs ≡ []
  none_left [] h = refl
  none_left (c ∷ cs) h = absurd (cc h)

  -- moves that lead on do so by such steps
  pub path_of : (steps : List Facts) (cs : List ℕ) (a : List ValId) → are_below (counts_of plant (length steps)) cs ≡ true → leads plant steps (map move_number cs) a ≡ true
      → Path steps a (map move_number cs)
  path_of [] cs a below lead = record { on = []; many = refl; lead = tt; whole = tt; moves_are = sym (ap (map move_number) (none_left cs below)); met = refl }
  path_of (f ∷ fs) cs a below lead =
      let np : ℕ = length (move_counts plant) in
      let parts = parts_many in
      let front : List ℕ = take np cs in
      let back : List ℕ = drop np cs in
      let first_below : are_below (move_counts plant) front ≡ true = below_front (move_counts plant) (counts_of plant (length fs)) cs below in
      let rest_below : are_below (counts_of plant (length fs)) back ≡ true = below_back (move_counts plant) (counts_of plant (length fs)) cs below in
      let found : ListFound value (sizes plant) (goes_by f fs (map move_number cs) a) = list_found value (sizes plant) (goes_by f fs (map move_number cs) a) lead in
      let b : List ValId = map value found.numbers in
      let ms : List MoveId = map move_number front in
      let whole_is : map move_number cs ≡ ms ++ map move_number back = ap (map move_number) (sym (take-append-drop np cs)) ∙ map-append move_number front back in
      let ms_long : length ms ≡ np = length_below move_number number_of_move (λ m. refl) (λ n. refl) no_move (move_counts plant) front first_below in
      let long : length ms ≡ length plant.parts = omega (arith, ms_long, parts) in
      let passes : goes_by f fs (ms ++ map move_number back) a b ≡ true = subst (λ (xs : List MoveId). goes_by f fs xs a b ≡ true) whole_is found.passes in
      let two =
      and_parts (is_step plant a b (take (length plant.parts) (ms ++ map move_number back)) && meets_facts plant f a b) (leads plant fs (drop (length plant.parts) (ms ++ map move_number back)) b) passes
      in
      let one = and_parts (is_step plant a b (take (length plant.parts) (ms ++ map move_number back))) (meets_facts plant f a b) two.0 in
      let rest : Path fs b (map move_number back) =
      path_of fs back b rest_below (sym (ap (λ (xs : List MoveId). leads plant fs xs b) (first_dropped ms (map move_number back) long)) ∙ two.1)
      in
      let b_long : length b ≡ length (sizes plant) = length_below value value_number (λ v. refl) (λ n. refl) no_value (sizes plant) found.numbers found.below in
      let many = rest.many in
      record {
        on = record { moves = ms; after = b } ∷ rest.on;
        many = omega (arith, many);
        lead = (record { whole = b_long; step = sym (ap (is_step plant a b) (first_taken ms (map move_number back) long)) ∙ one.0 }, rest.lead);
        whole = (
          record { whole = b_long; in_range = below_at value value_number (λ v. refl) (λ n. refl) no_value (sizes plant) found.numbers found.below },
          record { whole = ms_long; in_range = below_at move_number number_of_move (λ m. refl) (λ n. refl) no_move (move_counts plant) front first_below },
          rest.whole,
        );
        moves_are = ap (λ (xs : List MoveId). ms ++ xs) rest.moves_are ∙ sym whole_is;
        met = and_from (meets_facts plant f a b) (meet_on plant fs b rest.on) one.1 rest.met;
      }

  -- what a step goes from is feasible
  pub path_feasible : (steps : List Facts) (a : List ValId) (moves : List MoveId) → 1 ≤ length steps → Path steps a moves → is_feasible plant a ≡ true
  path_feasible steps a moves some path = by path.on path.lead (let many = path.many in omega (arith, many, some))
    where
      by : (on : List Further) → LeadOn plant a on → 1 ≤ length on → is_feasible plant a ≡ true
      by [] lead few = absurd (omega (arith, few))
      by (x ∷ xs) lead few = (and_parts (is_feasible plant a) _ lead.0.step).0
