-- The members of the zones of tracked states are the candidates of these states.
use Rattle.std.proofs.Common.{◌≡◌, ℕ, zero, suc, ◌+◌, ◌<◌, Bool, true, false, nat_eq, nat_lt, ◌&&◌, List, [], ◌∷◌, length, map, Option, Some, None, slice_get, Contains, inl, inr, ⊎_elim, refl, sym, ◌∙◌, ap, ap₂, subst, arith}
use Rattle.std.specs.Cmp.Lexicographic.{pointwise}
use Rattle.std.specs.Option.{option_map_or}
use Rattle.std.specs.List.{list_any}
use Rattle.std.proofs.lemmas.Bool.{and_parts, and_from, or_cases, or_left, or_right, eqb-true, eq-eqb, lt-ltb}
use Rattle.std.proofs.lemmas.List.{length-map}
use Rattle.lv_base.specs.declared.ids.ValId.{ValId}
use Rattle.lv_base.specs.declared.rank.Rank.{Rank}
use Rattle.lv_base.specs.declared.search.Candidate.{Candidate}
use Rattle.lv_boxes.specs.Masks.{has_choice}
use Rattle.lv_boxes.specs.Members.{ZoneValue, is_left, are_left, is_member, choice_cost, choices_cost}
use Rattle.lv_model.specs.declared.plant.Plant.{Plant}
use Rattle.lv_model.specs.declared.plant.ComponentType.{ComponentType}
use Rattle.lv_model.specs.declared.plant.Part.{Part}
use Rattle.lv_model.specs.declared.plant.Move.{Move}
use Rattle.lv_model.specs.declared.state.TrackedState.{TrackedState}
use Rattle.lv_model.specs.Lists.{part_moves}
use Rattle.lv_boxes.specs.Ranked.{is_among}
use Rattle.lv_boxes.proofs.RankedLemmas.{one_list}
use Rattle.lv_meaning.specs.Candidates.{type_moves, move_cost, candidates}
use Rattle.lv_meaning.specs.CandidateLaws.{goes_from, are_moves, moves_cost, IsCandidate}
use Rattle.lv_meaning.proofs.Rising.{candidates_rise_law}
use Rattle.lv_meaning.proofs.Listing.{FromState, is_listed, is_candidate}
use Rattle.lv_boxes.specs.RankedMembers.{ranked_members, ranks_in, sources_differ}
use Rattle.lv_boxes.specs.Walk.{suit_all}
use Rattle.lv_boxes.proofs.Among.{Among}
use Rattle.lv_boxes.proofs.RankedMemberLemmas.{one_test, among_by_test, test_by_among, ranked_members_rise, among_ranked_members_any, all_members_pass}
use Rattle.lv_search_zones.specs.Moves.{costs_of, part_costs, move_slots, mask_of, masks_of, state_zone, zones_from, is_full_choice}
use Rattle.lv_search_zones.proofs.MaskLemmas.{mask_has}

-- a move that goes from a mode is there
goes_below : (ms : List Move) (mode c : ℕ) → goes_from ms mode c ≡ true → c < length ms
goes_below [] mode c h = absurd (cc h)
goes_below (m ∷ ms) mode zero h = omega arith
goes_below (m ∷ ms) mode (suc c) h = let later : c < length ms = goes_below ms mode c h in omega (arith, later)

counted_or_not : (less b : Bool) → (b ≡ true → less ≡ true) → (less && b) ≡ b
counted_or_not true true h = refl
counted_or_not true false h = refl
counted_or_not false true h = absurd (cc (h refl))
counted_or_not false false h = refl

left_goes : (ms : List Move) (mode c : ℕ) → is_left (costs_of ms) (mask_of mode ms) c ≡ goes_from ms mode c
left_goes ms mode c =
    let same : length (costs_of ms) ≡ length ms = length-map ms (λ (m : Move). m.cost) in
    ap (λ b. nat_lt c (length (costs_of ms)) && b) (mask_has mode ms c)
    ∙ counted_or_not (nat_lt c (length (costs_of ms))) (goes_from ms mode c)
    (λ goes. let below : c < length ms = goes_below ms mode c goes in lt-ltb c (length (costs_of ms)) (omega (arith, below, same)))

-- the choices left are the moves that go from the modes
pub left_are_moves : (types : List ComponentType) (ps : List Part) (vs : List ValId) (cs : List ℕ) → are_left (map (part_costs types) ps) (masks_of types ps vs) cs ≡ are_moves types ps vs cs
left_are_moves types [] vs [] = refl
left_are_moves types [] vs (c ∷ cs) = refl
left_are_moves types (p ∷ ps) [] cs = refl
left_are_moves types (p ∷ ps) (v ∷ vs) [] = refl
left_are_moves types (p ∷ ps) (v ∷ vs) (c ∷ cs) = ap₂ (λ (a b : Bool). a && b) (left_goes (type_moves types p) v.0 c) (left_are_moves types ps vs cs)

cost_of_move : (ms : List Move) (c : ℕ) → choice_cost (costs_of ms) c ≡ move_cost ms c
cost_of_move [] c = refl
cost_of_move (m ∷ ms) zero = refl
cost_of_move (m ∷ ms) (suc c) = cost_of_move ms c

pub cost_of_moves : (types : List ComponentType) (ps : List Part) (cs : List ℕ) → choices_cost (map (part_costs types) ps) cs ≡ moves_cost types ps cs
cost_of_moves types [] cs = refl
cost_of_moves types (p ∷ ps) [] = refl
cost_of_moves types (p ∷ ps) (c ∷ cs) = ap₂ (λ (a b : ℕ). a + b) (cost_of_move (type_moves types p) c) (cost_of_moves types ps cs)

module _ (plant : Plant) where
  -- the rank of a state's candidate
  abbrev is_of_state : ℕ → TrackedState → Rank → Bool
  is_of_state place s r = (nat_eq r.source place && are_moves plant.types plant.parts s.state.modes r.choices) && nat_eq r.cost.0 (s.cost.0 + moves_cost plant.types plant.parts r.choices)

  ranks_in_state : (place : ℕ) (s : TrackedState) (r : Rank) → ranks_in (move_slots plant) r (state_zone plant place s) ≡ is_of_state place s r
  ranks_in_state place s r =
      ap₂ (λ (a : Bool) (n : ℕ). (nat_eq r.source place && a) && nat_eq r.cost.0 (s.cost.0 + n)) (left_are_moves plant.types plant.parts s.state.modes r.choices)
      (cost_of_moves plant.types plant.parts r.choices)

  from_zones : (place : ℕ) (ss : List TrackedState) (r : Rank) → list_any (ranks_in (move_slots plant) r) (zones_from plant place ss) ≡ true → FromState plant place ss r
  from_zones place [] r h = absurd (cc h)
  from_zones place (s ∷ ss) r h =
      ⊎_elim here (λ e. behind (from_zones (place + 1) ss r e))
      (or_cases (ranks_in (move_slots plant) r (state_zone plant place s)) (list_any (ranks_in (move_slots plant) r) (zones_from plant (place + 1) ss)) h)
    where
      here : ranks_in (move_slots plant) r (state_zone plant place s) ≡ true → FromState plant place (s ∷ ss) r
      here e =
          let two = and_parts (nat_eq r.source place && are_moves plant.types plant.parts s.state.modes r.choices) (nat_eq r.cost.0 (s.cost.0 + moves_cost plant.types plant.parts r.choices)) (sym (ranks_in_state place s r) ∙ e) in
          let one = and_parts (nat_eq r.source place) (are_moves plant.types plant.parts s.state.modes r.choices) two.0 in
          let source : r.source ≡ place = eqb-true r.source place one.0 in
          record { index = 0; state = s; at = refl; source_is = omega (arith, source); moves = one.1; cost_is = eqb-true r.cost.0 (s.cost.0 + moves_cost plant.types plant.parts r.choices) two.1 }

      behind : FromState plant (place + 1) ss r → FromState plant place (s ∷ ss) r
      behind f = let e = f.source_is in record { index = suc f.index; state = f.state; at = f.at; source_is = omega (arith, e); moves = f.moves; cost_is = f.cost_is }

  to_zones : (place : ℕ) (ss : List TrackedState) (r : Rank) (index : ℕ) (state : TrackedState) → slice_get ss index ≡ Some state → r.source ≡ place + index
      → are_moves plant.types plant.parts state.state.modes r.choices ≡ true → r.cost.0 ≡ state.cost.0 + moves_cost plant.types plant.parts r.choices
      → list_any (ranks_in (move_slots plant) r) (zones_from plant place ss) ≡ true
  to_zones place [] r index state at source moves cost = absurd (cc at)
  to_zones place (s ∷ ss) r zero state at source moves cost =
      let same : state ≡ s = cc at in
      or_left (ranks_in (move_slots plant) r (state_zone plant place s)) (list_any (ranks_in (move_slots plant) r) (zones_from plant (place + 1) ss))
      (ranks_in_state place s r
      ∙ and_from (nat_eq r.source place && are_moves plant.types plant.parts s.state.modes r.choices) (nat_eq r.cost.0 (s.cost.0 + moves_cost plant.types plant.parts r.choices))
      (and_from (nat_eq r.source place) (are_moves plant.types plant.parts s.state.modes r.choices) (eq-eqb r.source place (omega (arith, source)))
      (subst (λ (x : TrackedState). are_moves plant.types plant.parts x.state.modes r.choices ≡ true) same moves))
      (eq-eqb r.cost.0 (s.cost.0 + moves_cost plant.types plant.parts r.choices) (subst (λ (x : TrackedState). r.cost.0 ≡ x.cost.0 + moves_cost plant.types plant.parts r.choices) same cost)))
  to_zones place (s ∷ ss) r (suc index) state at source moves cost =
      or_right (ranks_in (move_slots plant) r (state_zone plant place s)) (list_any (ranks_in (move_slots plant) r) (zones_from plant (place + 1) ss))
      (to_zones (place + 1) ss r index state at (omega (arith, source)) moves cost)

  -- of zones whose places are behind none has this source
  none_has : (source place : ℕ) (ss : List TrackedState) → source < place → list_any (λ (other : ZoneValue). nat_eq other.source source) (zones_from plant place ss) ≡ false
  none_has source place [] less = refl
  none_has source place (s ∷ ss) less = rw (other (nat_eq place source) refl) (none_has source (place + 1) ss (omega (arith, less)))
    where
      other : (b : Bool) → nat_eq place source ≡ b → b ≡ false
      other true e = let same : place ≡ source = eqb-true place source e in absurd (omega (arith, same, less))
      other false e = refl

  pub zones_differ : (place : ℕ) (ss : List TrackedState) → sources_differ (zones_from plant place ss) ≡ true
  zones_differ place [] = refl
  zones_differ place (s ∷ ss) = rw (none_has place (place + 1) ss (omega arith)) (zones_differ (place + 1) ss)

module _ {X : Type 0} where
  contained : (xs : List X) (x : X) → Among x xs → Contains xs x
  contained [] x h = absurd h
  contained (y ∷ ys) x (inl e) = (0, omega arith, sym e)
  contained (y ∷ ys) x (inr h) = let c = contained ys x h in let lt = c.1 in (suc c.0, omega (arith, lt), c.2)

  among : (xs : List X) (x : X) → Contains xs x → Among x xs
  among [] x (k, lt, e) = absurd (omega (arith, lt))
  among (y ∷ ys) x (zero, lt, e) = inl (sym e)
  among (y ∷ ys) x (suc k, lt, e) = inr (among ys x (k, omega (arith, lt), e))

module _ (plant : Plant) (tracked : List TrackedState) where
  is_among_both : (r : Rank) → is_among r (ranked_members (move_slots plant) (zones_from plant 0 tracked)) ≡ is_among r (candidates plant tracked)
  is_among_both r =
      among_ranked_members_any (move_slots plant) (zones_from plant 0 tracked) r
      ∙ one_test (list_any (ranks_in (move_slots plant) r) (zones_from plant 0 tracked)) (is_among r (candidates plant tracked)) listed held
    where
      listed : list_any (ranks_in (move_slots plant) r) (zones_from plant 0 tracked) ≡ true → is_among r (candidates plant tracked) ≡ true
      listed h =
          let f : FromState plant 0 tracked r = from_zones plant 0 tracked r h in
          let e = f.source_is in
          let same : f.index ≡ r.source = omega (arith, e) in
          test_by_among r (candidates plant tracked) (among (candidates plant tracked) r (is_listed plant tracked r
          (record { state = f.state; source = subst (λ k. slice_get tracked k ≡ Some f.state) same f.at; moves = f.moves; cost = f.cost_is })))

      held : is_among r (candidates plant tracked) ≡ true → list_any (ranks_in (move_slots plant) r) (zones_from plant 0 tracked) ≡ true
      held h =
          let c : IsCandidate plant tracked r = is_candidate plant tracked r (contained (candidates plant tracked) r (among_by_test r (candidates plant tracked) h)) in
          to_zones plant 0 tracked r r.source c.state c.source (omega arith) c.moves c.cost

  pub zones_have_candidates : ranked_members (move_slots plant) (zones_from plant 0 tracked) ≡ candidates plant tracked
  zones_have_candidates =
      one_list (ranked_members (move_slots plant) (zones_from plant 0 tracked)) (candidates plant tracked) (ranked_members_rise (move_slots plant) (zones_from plant 0 tracked))
      (candidates_rise_law plant tracked) is_among_both

-- a choice that is left for each part is a full choice
pub moves_counted : (o : Option ComponentType) → length (costs_of (option_map_or (λ (t : ComponentType). t.moves) o [])) ≡ option_map_or (λ (t : ComponentType). length t.moves) o 0
moves_counted None = refl
moves_counted (Some t) = length-map t.moves (λ (m : Move). m.cost)

pub left_below : (types : List ComponentType) (ps : List Part) (masks cs : List ℕ) → are_left (map (part_costs types) ps) masks cs ≡ true → pointwise nat_lt cs (map (part_moves types) ps) ≡ true
left_below types [] [] [] h = refl
left_below types [] [] (c ∷ cs) h = absurd (cc h)
left_below types [] (mask ∷ masks) [] h = absurd (cc h)
left_below types [] (mask ∷ masks) (c ∷ cs) h = absurd (cc h)
left_below types (p ∷ ps) [] [] h = absurd (cc h)
left_below types (p ∷ ps) [] (c ∷ cs) h = absurd (cc h)
left_below types (p ∷ ps) (mask ∷ masks) [] h = absurd (cc h)
left_below types (p ∷ ps) (mask ∷ masks) (c ∷ cs) h =
    let two = and_parts (is_left (part_costs types p) mask c) (are_left (map (part_costs types) ps) masks cs) h in
    let here = (and_parts (nat_lt c (length (part_costs types p))) (has_choice mask c) two.0).0 in
    and_from (nat_lt c (part_moves types p)) (pointwise nat_lt cs (map (part_moves types) ps)) (ap (nat_lt c) (sym (moves_counted (slice_get types p.kind))) ∙ here) (left_below types ps masks cs two.1)

members_are_full : (plant : Plant) (place : ℕ) (ss : List TrackedState) (c : Candidate) → list_any (λ (zone : ZoneValue). is_member (move_slots plant) zone c) (zones_from plant place ss) ≡ true
    → is_full_choice plant c ≡ true
members_are_full plant place [] c h = absurd (cc h)
members_are_full plant place (s ∷ ss) c h =
    ⊎_elim
    (λ e. left_below plant.types plant.parts (masks_of plant.types plant.parts s.state.modes) c.choices
    ((and_parts (nat_eq c.source place) (are_left (move_slots plant) (masks_of plant.types plant.parts s.state.modes) c.choices) e).1))
    (members_are_full plant (place + 1) ss c)
    (or_cases (is_member (move_slots plant) (state_zone plant place s) c) (list_any (λ (zone : ZoneValue). is_member (move_slots plant) zone c) (zones_from plant (place + 1) ss)) h)

pub candidates_are_full : (plant : Plant) (tracked : List TrackedState) → suit_all (is_full_choice plant) (candidates plant tracked) ≡ true
candidates_are_full plant tracked =
    subst (λ (rs : List Rank). suit_all (is_full_choice plant) rs ≡ true) (zones_have_candidates plant tracked)
    (all_members_pass (move_slots plant) (zones_from plant 0 tracked) (is_full_choice plant) (members_are_full plant 0 tracked))
