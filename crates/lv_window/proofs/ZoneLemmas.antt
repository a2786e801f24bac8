-- The members of a window's zones that contain no joint are the trajectories.
use Rattle.std.proofs.Common.{◌≡◌, ◌+◌, ◌<◌, ℕ, zero, suc, Bool, true, false, not, nat_eq, nat_lt, ◌&&◌, ◌||◌, List, [], ◌∷◌, ◌++◌, length, map, get_or, slice_get, Some, All, inl, inr, ⊎_elim, append_assoc, refl, sym, subst, ap, ap₂, ◌∙◌, arith}
use Rattle.std.specs.List.{list_all, list_any}
use Rattle.std.proofs.lemmas.Bool.{and_parts, and_from, or_parts, or_left, or_right, or_cases, lt-ltb, ltb-true, eqb-true, eq-eqb}
use Rattle.std.proofs.lemmas.List.{length-append, length-map, get_or_append_left, get_or-append-add}
use Rattle.std.proofs.lemmas.List.Elements.{All-tail}
use Rattle.std.proofs.lemmas.Nat.Bits.{bit_at_ones}
use Rattle.lv_base.specs.declared.ids.Cost.{Cost}
use Rattle.lv_base.specs.declared.ids.ValId.{ValId}
use Rattle.lv_base.specs.declared.rank.Rank.{Rank}
use Rattle.lv_base.specs.Choices.{picks}
use Rattle.lv_boxes.specs.Masks.{has_choice}
use Rattle.lv_boxes.specs.Members.{ZoneValue, is_left, are_left, choices_cost}
use Rattle.lv_boxes.specs.RankedMembers.{ranked_members, ranks_in, sources_differ}
use Rattle.lv_boxes.proofs.RankedMemberLemmas.{one_test, ranked_members_rise, among_ranked_members_any}
use Rattle.lv_model.specs.declared.plant.Plant.{Plant}
use Rattle.lv_model.specs.declared.plant.ComponentType.{ComponentType}
use Rattle.lv_model.specs.declared.plant.Part.{Part}
use Rattle.lv_model.specs.declared.state.TrackedState.{TrackedState}
use Rattle.lv_model.specs.Lists.{part_moves, move_counts}
use Rattle.lv_model.specs.WellFormed.{is_well_formed}
use Rattle.lv_compile.specs.WindowLaws.{counts_of}
use Rattle.lv_boxes.specs.Ranked.{is_rank, is_among}
use Rattle.lv_boxes.specs.Walk.{is_ruled_out, suit_all}
use Rattle.lv_boxes.proofs.RankedLemmas.{is_itself, same_rank, one_list}
use Rattle.lv_meaning.proofs.Among.{Among, among, contained}
use Rattle.lv_meaning.specs.CandidateLaws.{are_moves}
use Rattle.lv_meaning.specs.PossibleLaws.{are_below}
use Rattle.lv_meaning.specs.Targets.{target_modes}
use Rattle.lv_search.specs.Free.{is_free_rank, free_of}
use Rattle.lv_search.proofs.LeftLemmas.{filter_among, rises_filtered}
use Rattle.lv_search_zones.specs.Moves.{part_costs, move_slots, masks_of}
use Rattle.lv_search_zones.specs.Slots.{HasSlot}
use Rattle.lv_search_zones.proofs.SlotLemmas.{parts_have_slots}
use Rattle.lv_search_zones.proofs.ZoneLemmas.{left_are_moves, left_below, cost_of_moves, moves_counted}
use Rattle.lv_window.specs.Trajectories.{trajectories}
use Rattle.lv_window.specs.Joints.{window_slots, any_move, free_masks, window_zone, window_zones, part_joints, joints_from, joints, is_full_window}
use Rattle.lv_window.specs.Laws.{JoinUp, all_choices, all_cost, IsTrajectory}
use Rattle.lv_window.proofs.JointLemmas.{AreAt, ruled_both, parts_ruled}
use Rattle.lv_window.proofs.TrajectoryLemmas.{FarFrom, trajectories_rise, trajectory_listed, trajectory_is}

-- choices that stand behind others
are_at : (front cs back : List ℕ) → AreAt (front ++ (cs ++ back)) (length front) cs
are_at front cs back = record { each = λ i inside. record { picks_it = λ x. at i inside x } }
  where
    at : (i : ℕ) → i < length cs → (x : ℕ) → picks (front ++ (cs ++ back)) (record { slot = length front + i; choice = x }) ≡ nat_eq (get_or cs i 0) x
    at i inside x =
        let whole = length-append front (cs ++ back) in
        let rest = length-append cs back in
        ap₂ (λ (a : Bool) (v : ℕ). a && nat_eq v x) (lt-ltb (length front + i) (length (front ++ (cs ++ back))) (omega (arith, inside, whole, rest)))
        (get_or-append-add front (cs ++ back) i 0 ∙ get_or_append_left cs back 0 i inside)

-- each step's choices are of moves that there are
abbrev pub AllBelow : Plant → List (List ℕ) → Type 0
AllBelow plant [] = Unit {0}
AllBelow plant (cs ∷ rest) = (are_below (move_counts plant) cs ≡ true) × AllBelow plant rest

below_long : (ns vs : List ℕ) → are_below ns vs ≡ true → length vs ≡ length ns
below_long [] [] h = refl
below_long [] (v ∷ vs) h = absurd (cc h)
below_long (n ∷ ns) [] h = absurd (cc h)
below_long (n ∷ ns) (v ∷ vs) h = let rest = below_long ns vs (and_parts (nat_lt v n) (are_below ns vs) h).1 in omega (arith, rest)

module _ (plant : Plant) where
  parts_many : length (move_counts plant) ≡ length plant.parts
  parts_many = length-map plant.parts (part_moves plant.types)

  abbrev after : List ℕ → List ValId
  after cs = target_modes plant.types plant.parts cs

  -- between two steps, behind the choices of earlier ones
  neighbours : (front cs ds back : List ℕ) → are_below (move_counts plant) cs ≡ true → are_below (move_counts plant) ds ≡ true
      → is_ruled_out (part_joints plant.types (length front) (length front + length plant.parts) plant.parts) (front ++ (cs ++ (ds ++ back))) ≡ not (are_moves plant.types plant.parts (after cs) ds)
  neighbours front cs ds back below also =
      parts_ruled plant.types (front ++ (cs ++ (ds ++ back))) plant.parts (length front) (length front + length plant.parts) cs ds below also (are_at front cs (ds ++ back))
      (subst (λ (k : ℕ). AreAt (front ++ (cs ++ (ds ++ back))) k ds) far (subst (λ (xs : List ℕ). AreAt xs (length (front ++ cs)) ds) (append_assoc front cs (ds ++ back)) (are_at (front ++ cs) ds back)))
    where
      far : length (front ++ cs) ≡ length front + length plant.parts
      far = let both = length-append front cs in let long = below_long (move_counts plant) cs below in let many = parts_many in omega (arith, both, long, many)

  both_ruled : (front cs ds : List ℕ) (rest : List (List ℕ)) → are_below (move_counts plant) cs ≡ true → are_below (move_counts plant) ds ≡ true
      → is_ruled_out (joints_from plant (length front) (suc (length rest))) (front ++ (cs ++ (ds ++ all_choices rest)))
      ≡ (not (are_moves plant.types plant.parts (after cs) ds) || is_ruled_out (joints_from plant (length (front ++ cs)) (length rest)) ((front ++ cs) ++ (ds ++ all_choices rest)))
  both_ruled front cs ds rest below also =
      ruled_both (front ++ (cs ++ (ds ++ all_choices rest))) (part_joints plant.types (length front) (length front + length plant.parts) plant.parts)
      (joints_from plant (length front + length plant.parts) (length rest))
      ∙ ap₂ (λ (a b : Bool). a || b) (neighbours front cs ds (all_choices rest) below also)
      (λ i. is_ruled_out (joints_from plant (far i) (length rest)) (same i))
    where
      far : length front + length plant.parts ≡ length (front ++ cs)
      far = let both = length-append front cs in let long = below_long (move_counts plant) cs below in let many = parts_many in omega (arith, both, long, many)

      same : front ++ (cs ++ (ds ++ all_choices rest)) ≡ (front ++ cs) ++ (ds ++ all_choices rest)
      same = sym (append_assoc front cs (ds ++ all_choices rest))

  -- what contains no joint joins up
  joined_up : (front cs : List ℕ) (rest : List (List ℕ)) → are_below (move_counts plant) cs ≡ true → AllBelow plant rest
      → is_ruled_out (joints_from plant (length front) (length rest)) (front ++ (cs ++ all_choices rest)) ≡ false → JoinUp plant (after cs) rest
  joined_up front cs [] below all free = tt
  joined_up front cs (ds ∷ rest) below all free =
      let two =
      or_parts (not (are_moves plant.types plant.parts (after cs) ds)) (is_ruled_out (joints_from plant (length (front ++ cs)) (length rest)) ((front ++ cs) ++ (ds ++ all_choices rest)))
      (sym (both_ruled front cs ds rest below all.0) ∙ free)
      in
      (is_true (are_moves plant.types plant.parts (after cs) ds) two.0, joined_up (front ++ cs) ds rest all.0 all.1 two.1)
    where
      is_true : (b : Bool) → not b ≡ false → b ≡ true
      is_true true e = refl
      is_true false e = absurd (cc e)

  -- and the other way round
  free_of_joints : (front cs : List ℕ) (rest : List (List ℕ)) → are_below (move_counts plant) cs ≡ true → AllBelow plant rest → JoinUp plant (after cs) rest
      → is_ruled_out (joints_from plant (length front) (length rest)) (front ++ (cs ++ all_choices rest)) ≡ false
  free_of_joints front cs [] below all join = refl
  free_of_joints front cs (ds ∷ rest) below all join =
      both_ruled front cs ds rest below all.0
      ∙ ap₂ (λ (a b : Bool). a || b) (ap not join.0) (free_of_joints (front ++ cs) ds rest all.0 all.1 join.1)

-- choices that are left in slots put behind one another

left_joined : (xs bs : List (List Cost)) (ma mb ca cb : List ℕ) → are_left xs ma ca ≡ true → are_left bs mb cb ≡ true → are_left (xs ++ bs) (ma ++ mb) (ca ++ cb) ≡ true
left_joined [] bs [] mb [] cb h also = also
left_joined [] bs [] mb (c ∷ ca) cb h also = absurd (cc h)
left_joined [] bs (m ∷ ma) mb [] cb h also = absurd (cc h)
left_joined [] bs (m ∷ ma) mb (c ∷ ca) cb h also = absurd (cc h)
left_joined (a ∷ xs) bs [] mb [] cb h also = absurd (cc h)
left_joined (a ∷ xs) bs [] mb (c ∷ ca) cb h also = absurd (cc h)
left_joined (a ∷ xs) bs (m ∷ ma) mb [] cb h also = absurd (cc h)
left_joined (a ∷ xs) bs (m ∷ ma) mb (c ∷ ca) cb h also =
    let two = and_parts (is_left a m c) (are_left xs ma ca) h in
    and_from (is_left a m c) (are_left (xs ++ bs) (ma ++ mb) (ca ++ cb)) two.0 (left_joined xs bs ma mb ca cb two.1 also)

record IsSplit (xs bs : List (List Cost)) (ma mb cs : List ℕ) : Type 0 where
  pub front : List ℕ
  pub back : List ℕ
  pub whole : cs ≡ front ++ back
  pub left_front : are_left xs ma front ≡ true
  pub left_back : are_left bs mb back ≡ true

left_split : (xs bs : List (List Cost)) (ma mb cs : List ℕ) → length ma ≡ length xs → are_left (xs ++ bs) (ma ++ mb) cs ≡ true → IsSplit xs bs ma mb cs
left_split [] bs [] mb cs long h = record { front = []; back = cs; whole = refl; left_front = refl; left_back = h }
left_split [] bs (m ∷ ma) mb cs long h = absurd (omega (arith, long))
left_split (a ∷ xs) bs [] mb cs long h = absurd (omega (arith, long))
left_split (a ∷ xs) bs (m ∷ ma) mb [] long h = absurd (cc h)
left_split (a ∷ xs) bs (m ∷ ma) mb (c ∷ cs) long h =
    let two = and_parts (is_left a m c) (are_left (xs ++ bs) (ma ++ mb) cs) h in
    let rest : IsSplit xs bs ma mb cs = left_split xs bs ma mb cs (omega (arith, long)) two.1 in
    record {
      front = c ∷ rest.front;
      back = rest.back;
      whole = ap (λ (ys : List ℕ). c ∷ ys) rest.whole;
      left_front = and_from (is_left a m c) (are_left xs ma rest.front) two.0 rest.left_front;
      left_back = rest.left_back;
    }

cost_joined : (xs bs : List (List Cost)) (ma ca cb : List ℕ) → are_left xs ma ca ≡ true → choices_cost (xs ++ bs) (ca ++ cb) ≡ choices_cost xs ca + choices_cost bs cb
cost_joined [] bs [] [] cb h = omega arith
cost_joined [] bs [] (c ∷ ca) cb h = absurd (cc h)
cost_joined [] bs (m ∷ ma) [] cb h = absurd (cc h)
cost_joined [] bs (m ∷ ma) (c ∷ ca) cb h = absurd (cc h)
cost_joined (a ∷ xs) bs [] [] cb h = absurd (cc h)
cost_joined (a ∷ xs) bs [] (c ∷ ca) cb h = absurd (cc h)
cost_joined (a ∷ xs) bs (m ∷ ma) [] cb h = absurd (cc h)
cost_joined (a ∷ xs) bs (m ∷ ma) (c ∷ ca) cb h =
    let two = and_parts (is_left a m c) (are_left xs ma ca) h in
    let rest = cost_joined xs bs ma ca cb two.1 in
    omega (arith, rest)

left_long : (slots : List (List Cost)) (masks cs : List ℕ) → are_left slots masks cs ≡ true → length masks ≡ length slots
left_long [] [] cs h = refl
left_long [] (m ∷ ms) [] h = absurd (cc h)
left_long [] (m ∷ ms) (c ∷ cs) h = absurd (cc h)
left_long (a ∷ xs) [] [] h = absurd (cc h)
left_long (a ∷ xs) [] (c ∷ cs) h = absurd (cc h)
left_long (a ∷ xs) (m ∷ ms) [] h = absurd (cc h)
left_long (a ∷ xs) (m ∷ ms) (c ∷ cs) h =
    let two = and_parts (is_left a m c) (are_left xs ms cs) h in
    let rest = left_long xs ms cs two.1 in
    omega (arith, rest)

-- what a step has to choose from where any move will do

has_any : (c : ℕ) → c < 64 → has_choice any_move c ≡ true
has_any c below = ap (λ n. nat_eq n 1) (bit_at_ones 64 c below)

any_is_below : (types : List ComponentType) (p : Part) (c : ℕ) → HasSlot types p → is_left (part_costs types p) any_move c ≡ nat_lt c (part_moves types p)
any_is_below types p c has = ap (λ n. nat_lt c n && has_choice any_move c) long ∙ by (nat_lt c (part_moves types p)) refl
  where
    long : length (part_costs types p) ≡ part_moves types p
    long = moves_counted (slice_get types p.kind)

    by : (b : Bool) → nat_lt c (part_moves types p) ≡ b → (b && has_choice any_move c) ≡ b
    by true e = let below : c < part_moves types p = ltb-true c (part_moves types p) e in let few = has.slot.few in has_any c (omega (arith, below, few, long))
    by false e = refl

any_are_below : (types : List ComponentType) (ps : List Part) (cs : List ℕ) → All (HasSlot types) ps
    → are_left (map (part_costs types) ps) (map (λ (p : Part). any_move) ps) cs ≡ are_below (map (part_moves types) ps) cs
any_are_below types [] [] have = refl
any_are_below types [] (c ∷ cs) have = refl
any_are_below types (p ∷ ps) [] have = refl
any_are_below types (p ∷ ps) (c ∷ cs) have =
    ap₂ (λ (a b : Bool). a && b) (any_is_below types p c (have 0 p (omega arith))) (any_are_below types ps cs (All-tail (HasSlot types) p ps have))

-- moves that go from modes are moves that there are
moves_below : (types : List ComponentType) (ps : List Part) (modes : List ValId) (cs : List ℕ) → are_moves types ps modes cs ≡ true → are_below (map (part_moves types) ps) cs ≡ true
moves_below types ps modes cs h = left_below types ps (masks_of types ps modes) cs (left_are_moves types ps modes cs ∙ h)

join_below : (plant : Plant) (modes : List ValId) (moves : List (List ℕ)) → JoinUp plant modes moves → AllBelow plant moves
join_below plant modes [] join = tt
join_below plant modes (cs ∷ rest) join = (moves_below plant.types plant.parts modes cs join.0, join_below plant (target_modes plant.types plant.parts cs) rest join.1)

-- choices of so many steps, one for each part of each, which there are
record InSteps (plant : Plant) (later : ℕ) (cs : List ℕ) : Type 0 where
  pub moves : List (List ℕ)
  pub many : length moves ≡ later
  pub all : AllBelow plant moves
  pub whole : cs ≡ all_choices moves

-- full choices, as many as there are steps, that join up from a tracked state
record JoinsUp (plant : Plant) (place : ℕ) (s : TrackedState) (r : Rank) (steps : ℕ) : Type 0 where
  pub moves : List (List ℕ)
  pub many : length moves ≡ steps
  pub source : r.source ≡ place
  pub join : JoinUp plant s.state.modes moves
  pub choices : r.choices ≡ all_choices moves
  pub cost : r.cost.0 ≡ s.cost.0 + all_cost plant moves

module _ (plant : Plant) (h : is_well_formed plant ≡ true) where
  own_below : (cs : List ℕ) → are_left (move_slots plant) (map (λ (p : Part). any_move) plant.parts) cs ≡ are_below (move_counts plant) cs
  own_below cs = any_are_below plant.types plant.parts cs (parts_have_slots plant h)

  one_long : length (map (λ (p : Part). any_move) plant.parts) ≡ length (move_slots plant)
  one_long = length-map plant.parts (λ (p : Part). any_move) ∙ sym (length-map plant.parts (part_costs plant.types))

  in_steps : (later : ℕ) (cs : List ℕ) → are_left (window_slots plant later) (free_masks plant later) cs ≡ true → InSteps plant later cs
  in_steps zero [] left = record { moves = []; many = refl; all = tt; whole = refl }
  in_steps zero (c ∷ cs) left = absurd (cc left)
  in_steps (suc later) cs left =
      let split : IsSplit (move_slots plant) (window_slots plant later) (map (λ (p : Part). any_move) plant.parts) (free_masks plant later) cs =
      left_split (move_slots plant) (window_slots plant later) (map (λ (p : Part). any_move) plant.parts) (free_masks plant later) cs one_long left
      in
      let rest : InSteps plant later split.back = in_steps later split.back split.left_back in
      let many = rest.many in
      record {
        moves = split.front ∷ rest.moves;
        many = omega (arith, many);
        all = (sym (own_below split.front) ∙ split.left_front, rest.all);
        whole = split.whole ∙ ap (λ (xs : List ℕ). split.front ++ xs) rest.whole;
      }

  steps_left : (moves : List (List ℕ)) → AllBelow plant moves → are_left (window_slots plant (length moves)) (free_masks plant (length moves)) (all_choices moves) ≡ true
  steps_left [] all = refl
  steps_left (cs ∷ rest) all =
      left_joined (move_slots plant) (window_slots plant (length rest)) (map (λ (p : Part). any_move) plant.parts) (free_masks plant (length rest)) cs (all_choices rest) (own_below cs ∙ all.0)
      (steps_left rest all.1)

  steps_cost : (moves : List (List ℕ)) → AllBelow plant moves → choices_cost (window_slots plant (length moves)) (all_choices moves) ≡ all_cost plant moves
  steps_cost [] all = refl
  steps_cost (cs ∷ rest) all =
      cost_joined (move_slots plant) (window_slots plant (length rest)) (map (λ (p : Part). any_move) plant.parts) cs (all_choices rest) (own_below cs ∙ all.0)
      ∙ ap₂ (λ (a b : ℕ). a + b) (cost_of_moves plant.types plant.parts cs) (steps_cost rest all.1)

  -- the members of a tracked state's zone
  module _ (place : ℕ) (s : TrackedState) (r : Rank) where
    abbrev zone_at : ℕ → ZoneValue
    zone_at later = window_zone plant later place s

    record InZone (later : ℕ) : Type 0 where
      pub first : List ℕ
      pub rest : List (List ℕ)
      pub many : length rest ≡ later
      pub source : r.source ≡ place
      pub goes : are_moves plant.types plant.parts s.state.modes first ≡ true
      pub all : AllBelow plant rest
      pub choices : r.choices ≡ first ++ all_choices rest
      pub cost : r.cost.0 ≡ s.cost.0 + choices_cost (window_slots plant (suc later)) r.choices

    -- the masks of the first step are as many as there are parts
    first_long : (later : ℕ) → are_left (window_slots plant (suc later)) (masks_of plant.types plant.parts s.state.modes ++ free_masks plant later) r.choices ≡ true
        → length (masks_of plant.types plant.parts s.state.modes) ≡ length (move_slots plant)
    first_long later left =
        let whole = left_long (window_slots plant (suc later)) (masks_of plant.types plant.parts s.state.modes ++ free_masks plant later) r.choices left in
        let masks = length-append (masks_of plant.types plant.parts s.state.modes) (free_masks plant later) in
        let slots = length-append (move_slots plant) (window_slots plant later) in
        let back = both_long later in
        omega (arith, whole, masks, slots, back)
      where
        both_long : (n : ℕ) → length (free_masks plant n) ≡ length (window_slots plant n)
        both_long zero = refl
        both_long (suc n) =
            let masks = length-append (map (λ (p : Part). any_move) plant.parts) (free_masks plant n) in
            let slots = length-append (move_slots plant) (window_slots plant n) in
            let one = one_long in
            let rest = both_long n in
            omega (arith, masks, slots, one, rest)

    in_zone : (later : ℕ) → ranks_in (window_slots plant (suc later)) r (zone_at later) ≡ true → InZone later
    in_zone later has =
        let two = and_parts (nat_eq r.source place && are_left (window_slots plant (suc later)) (zone_at later).masks r.choices) (nat_eq r.cost.0 (s.cost.0 + choices_cost (window_slots plant (suc later)) r.choices)) has in
        let one = and_parts (nat_eq r.source place) (are_left (window_slots plant (suc later)) (zone_at later).masks r.choices) two.0 in
        let split : IsSplit (move_slots plant) (window_slots plant later) (masks_of plant.types plant.parts s.state.modes) (free_masks plant later) r.choices =
        left_split (move_slots plant) (window_slots plant later) (masks_of plant.types plant.parts s.state.modes) (free_masks plant later) r.choices (first_long later one.1) one.1
        in
        let steps : InSteps plant later split.back = in_steps later split.back split.left_back in
        record {
          first = split.front;
          rest = steps.moves;
          many = steps.many;
          source = eqb-true r.source place one.0;
          goes = sym (left_are_moves plant.types plant.parts s.state.modes split.front) ∙ split.left_front;
          all = steps.all;
          choices = split.whole ∙ ap (λ (xs : List ℕ). split.front ++ xs) steps.whole;
          cost = eqb-true r.cost.0 (s.cost.0 + choices_cost (window_slots plant (suc later)) r.choices) two.1;
        }

    -- the first choices and the rest cost what they cost together
    first_cost : (first : List ℕ) (rest : List (List ℕ)) → are_moves plant.types plant.parts s.state.modes first ≡ true → AllBelow plant rest
        → choices_cost (window_slots plant (suc (length rest))) (first ++ all_choices rest) ≡ all_cost plant (first ∷ rest)
    first_cost first rest goes all = steps_cost (first ∷ rest) (moves_below plant.types plant.parts s.state.modes first goes, all)

    zone_has : (first : List ℕ) (rest : List (List ℕ)) → r.source ≡ place → are_moves plant.types plant.parts s.state.modes first ≡ true → AllBelow plant rest → r.choices ≡ first ++ all_choices rest
        → r.cost.0 ≡ s.cost.0 + all_cost plant (first ∷ rest) → ranks_in (window_slots plant (suc (length rest))) r (zone_at (length rest)) ≡ true
    zone_has first rest source goes all choices cost =
        let slots : List (List Cost) = window_slots plant (suc (length rest)) in
        let left : are_left slots (zone_at (length rest)).masks r.choices ≡ true =
        ap (are_left slots (zone_at (length rest)).masks) choices
        ∙ left_joined (move_slots plant) (window_slots plant (length rest)) (masks_of plant.types plant.parts s.state.modes) (free_masks plant (length rest)) first (all_choices rest)
        (left_are_moves plant.types plant.parts s.state.modes first ∙ goes) (steps_left rest all)
        in
        let same : choices_cost slots r.choices ≡ all_cost plant (first ∷ rest) = ap (choices_cost slots) choices ∙ first_cost first rest goes all in
        and_from (nat_eq r.source place && are_left slots (zone_at (length rest)).masks r.choices) (nat_eq r.cost.0 (s.cost.0 + choices_cost slots r.choices))
        (and_from (nat_eq r.source place) (are_left slots (zone_at (length rest)).masks r.choices) (eq-eqb r.source place source) left)
        (eq-eqb r.cost.0 (s.cost.0 + choices_cost slots r.choices) (omega (arith, cost, same)))

  -- a member that contains no joint goes on from its state by full choices that join up
  far_in_zone : (later place : ℕ) (s : TrackedState) (r : Rank) → InZone place s r later → is_free_rank (joints plant later) r ≡ true → JoinsUp plant place s r (suc later)
  far_in_zone later place s r z free =
      let many = z.many in
      let below : are_below (move_counts plant) z.first ≡ true = moves_below plant.types plant.parts s.state.modes z.first z.goes in
      let clear : is_ruled_out (joints_from plant 0 (length z.rest)) (z.first ++ all_choices z.rest) ≡ false =
      (λ i. is_ruled_out (joints_from plant 0 (many i)) (sym z.choices i)) ∙ is_false (is_ruled_out (joints plant later) r.choices) free
      in
      let same : choices_cost (window_slots plant (suc later)) r.choices ≡ all_cost plant (z.first ∷ z.rest) =
      (λ i. choices_cost (window_slots plant (suc (sym many i))) (z.choices i)) ∙ first_cost place s r z.first z.rest z.goes z.all
      in
      let cost = z.cost in
      record {
        moves = z.first ∷ z.rest;
        many = omega (arith, many);
        source = z.source;
        join = (z.goes, joined_up plant [] z.first z.rest below z.all clear);
        choices = z.choices;
        cost = omega (arith, cost, same);
      }
    where
      is_false : (b : Bool) → not b ≡ true → b ≡ false
      is_false true e = absurd (cc e)
      is_false false e = refl

  -- and what does so is one
  joins_in_zone : (later place : ℕ) (s : TrackedState) (r : Rank) (moves : List (List ℕ)) → length moves ≡ suc later → r.source ≡ place → JoinUp plant s.state.modes moves → r.choices ≡ all_choices moves
      → r.cost.0 ≡ s.cost.0 + all_cost plant moves → (is_free_rank (joints plant later) r ≡ true) × (ranks_in (window_slots plant (suc later)) r (window_zone plant later place s) ≡ true)
  joins_in_zone later place s r [] many source join choices cost = absurd (omega (arith, many))
  joins_in_zone later place s r (first ∷ rest) many source join choices cost =
      let as_many : length rest ≡ later = omega (arith, many) in
      let all : AllBelow plant rest = join_below plant (target_modes plant.types plant.parts first) rest join.1 in
      let below : are_below (move_counts plant) first ≡ true = moves_below plant.types plant.parts s.state.modes first join.0 in (
        ap not ((λ i. is_ruled_out (joints_from plant 0 (sym as_many i)) (choices i)) ∙ free_of_joints plant [] first rest below all join.1),
        subst (λ (n : ℕ). ranks_in (window_slots plant (suc n)) r (window_zone plant n place s) ≡ true) as_many (zone_has place s r first rest source join.0 all choices cost),
      )

  from_zones : (later place : ℕ) (ss : List TrackedState) (r : Rank) → is_free_rank (joints plant later) r ≡ true → list_any (ranks_in (window_slots plant (suc later)) r) (window_zones plant later place ss) ≡ true
      → FarFrom plant (suc later) place ss r
  from_zones later place [] r free any = absurd (cc any)
  from_zones later place (s ∷ ss) r free any =
      ⊎_elim (λ e. here (far_in_zone later place s r (in_zone place s r later e) free)) (λ e. behind (from_zones later (place + 1) ss r free e))
      (or_cases (ranks_in (window_slots plant (suc later)) r (window_zone plant later place s)) (list_any (ranks_in (window_slots plant (suc later)) r) (window_zones plant later (place + 1) ss)) any)
    where
      here : JoinsUp plant place s r (suc later) → FarFrom plant (suc later) place (s ∷ ss) r
      here j =
          let e = j.source in
          record { index = 0; state = s; at = refl; source_is = omega (arith, e); moves = j.moves; many = j.many; join = j.join; choices_are = j.choices; cost_is = j.cost }

      behind : FarFrom plant (suc later) (place + 1) ss r → FarFrom plant (suc later) place (s ∷ ss) r
      behind f =
          let e = f.source_is in
          record { index = suc f.index; state = f.state; at = f.at; source_is = omega (arith, e); moves = f.moves; many = f.many; join = f.join; choices_are = f.choices_are; cost_is = f.cost_is }

  to_zones : (later place : ℕ) (ss : List TrackedState) (r : Rank) (index : ℕ) (state : TrackedState) (moves : List (List ℕ)) → slice_get ss index ≡ Some state → r.source ≡ place + index
      → length moves ≡ suc later → JoinUp plant state.state.modes moves → r.choices ≡ all_choices moves → r.cost.0 ≡ state.cost.0 + all_cost plant moves
      → (is_free_rank (joints plant later) r ≡ true) × (list_any (ranks_in (window_slots plant (suc later)) r) (window_zones plant later place ss) ≡ true)
  to_zones later place [] r index state moves at source many join choices cost = absurd (cc at)
  to_zones later place (s ∷ ss) r zero state moves at source many join choices cost =
      let same : state ≡ s = cc at in
      let one =
      joins_in_zone later place s r moves many (omega (arith, source)) (subst (λ (x : TrackedState). JoinUp plant x.state.modes moves) same join) choices
      (subst (λ (x : TrackedState). r.cost.0 ≡ x.cost.0 + all_cost plant moves) same cost)
      in
      (one.0, or_left (ranks_in (window_slots plant (suc later)) r (window_zone plant later place s)) (list_any (ranks_in (window_slots plant (suc later)) r) (window_zones plant later (place + 1) ss)) one.1)
  to_zones later place (s ∷ ss) r (suc index) state moves at source many join choices cost =
      let rest = to_zones later (place + 1) ss r index state moves at (omega (arith, source)) many join choices cost in
      (rest.0, or_right (ranks_in (window_slots plant (suc later)) r (window_zone plant later place s)) (list_any (ranks_in (window_slots plant (suc later)) r) (window_zones plant later (place + 1) ss)) rest.1)

-- being among ranks as a test and as a place

among_tested : (r : Rank) (rs : List Rank) → is_among r rs ≡ true → Among r rs
among_tested r [] h = absurd (cc h)
among_tested r (q ∷ qs) h = ⊎_elim (λ e. inl (same_rank r q e)) (λ e. inr (among_tested r qs e)) (or_cases (is_rank r q) (is_among r qs) h)

tested_among : (r : Rank) (rs : List Rank) → Among r rs → is_among r rs ≡ true
tested_among r [] h = absurd h
tested_among r (q ∷ qs) (inl e) = or_left (is_rank r q) (is_among r qs) (subst (λ (x : Rank). is_rank r x ≡ true) e (is_itself r))
tested_among r (q ∷ qs) (inr h) = or_right (is_rank r q) (is_among r qs) (tested_among r qs h)

module _ (plant : Plant) (h : is_well_formed plant ≡ true) (later : ℕ) (tracked : List TrackedState) where
  abbrev of_zones : List Rank
  of_zones = ranked_members (window_slots plant (suc later)) (window_zones plant later 0 tracked)

  among_both : (r : Rank) → is_among r (free_of (joints plant later) of_zones) ≡ is_among r (trajectories plant (suc later) tracked)
  among_both r =
      filter_among (is_free_rank (joints plant later)) r of_zones
      ∙ ap (λ (b : Bool). is_free_rank (joints plant later) r && b) (among_ranked_members_any (window_slots plant (suc later)) (window_zones plant later 0 tracked) r)
      ∙ one_test (is_free_rank (joints plant later) r && some) (is_among r (trajectories plant (suc later) tracked)) listed held
    where
      some : Bool
      some = list_any (ranks_in (window_slots plant (suc later)) r) (window_zones plant later 0 tracked)

      listed : (is_free_rank (joints plant later) r && some) ≡ true → is_among r (trajectories plant (suc later) tracked) ≡ true
      listed both =
          let two = and_parts (is_free_rank (joints plant later) r) some both in
          let f : FarFrom plant (suc later) 0 tracked r = from_zones plant h later 0 tracked r two.0 two.1 in
          let e = f.source_is in
          let same : f.index ≡ r.source = omega (arith, e) in
          tested_among r (trajectories plant (suc later) tracked)
          (among (trajectories plant (suc later) tracked) r
          (trajectory_listed plant (suc later) tracked r
          (record { state = f.state; source = subst (λ k. slice_get tracked k ≡ Some f.state) same f.at; moves = f.moves; many = f.many; join = f.join; choices = f.choices_are; cost = f.cost_is })))

      held : is_among r (trajectories plant (suc later) tracked) ≡ true → (is_free_rank (joints plant later) r && some) ≡ true
      held is =
          let t : IsTrajectory plant (suc later) tracked r =
          trajectory_is plant (suc later) tracked r (contained (trajectories plant (suc later) tracked) r (among_tested r (trajectories plant (suc later) tracked) is))
          in
          let two = to_zones plant h later 0 tracked r r.source t.state t.moves t.source (omega arith) t.many t.join t.choices t.cost in
          and_from (is_free_rank (joints plant later) r) some two.0 two.1

  -- the members that contain no joint are the trajectories
  pub zones_have_trajectories : free_of (joints plant later) of_zones ≡ trajectories plant (suc later) tracked
  zones_have_trajectories =
      one_list (free_of (joints plant later) of_zones) (trajectories plant (suc later) tracked)
      (rises_filtered (is_free_rank (joints plant later)) of_zones (ranked_members_rise (window_slots plant (suc later)) (window_zones plant later 0 tracked)))
      (trajectories_rise plant (suc later) tracked) among_both

-- of zones whose places are behind none has this source
none_has : (plant : Plant) (later source place : ℕ) (ss : List TrackedState) → source < place → list_any (λ (other : ZoneValue). nat_eq other.source source) (window_zones plant later place ss) ≡ false
none_has plant later source place [] less = refl
none_has plant later source place (s ∷ ss) less = rw (other (nat_eq place source) refl) (none_has plant later source (place + 1) ss (omega (arith, less)))
  where
    other : (b : Bool) → nat_eq place source ≡ b → b ≡ false
    other true e = let same : place ≡ source = eqb-true place source e in absurd (omega (arith, same, less))
    other false e = refl

pub window_zones_differ : (plant : Plant) (later place : ℕ) (ss : List TrackedState) → sources_differ (window_zones plant later place ss) ≡ true
window_zones_differ plant later place [] = refl
window_zones_differ plant later place (s ∷ ss) = rw (none_has plant later place (place + 1) ss (omega arith)) (window_zones_differ plant later (place + 1) ss)

-- each trajectory has a move for each part of each step

below_joined : (ns ms cs ds : List ℕ) → are_below ns cs ≡ true → are_below ms ds ≡ true → are_below (ns ++ ms) (cs ++ ds) ≡ true
below_joined [] ms [] ds h also = also
below_joined [] ms (c ∷ cs) ds h also = absurd (cc h)
below_joined (n ∷ ns) ms [] ds h also = absurd (cc h)
below_joined (n ∷ ns) ms (c ∷ cs) ds h also =
    let two = and_parts (nat_lt c n) (are_below ns cs) h in
    and_from (nat_lt c n) (are_below (ns ++ ms) (cs ++ ds)) two.0 (below_joined ns ms cs ds two.1 also)

steps_below : (plant : Plant) (moves : List (List ℕ)) → AllBelow plant moves → are_below (counts_of plant (length moves)) (all_choices moves) ≡ true
steps_below plant [] all = refl
steps_below plant (cs ∷ rest) all = below_joined (move_counts plant) (counts_of plant (length rest)) cs (all_choices rest) all.0 (steps_below plant rest all.1)

pub trajectories_are_full : (plant : Plant) (steps : ℕ) (tracked : List TrackedState) → suit_all (is_full_window plant steps) (trajectories plant steps tracked) ≡ true
trajectories_are_full plant steps tracked = each (trajectories plant steps tracked) (λ r is. full r (trajectory_is plant steps tracked r (contained (trajectories plant steps tracked) r is)))
  where
    full : (r : Rank) → IsTrajectory plant steps tracked r → are_below (counts_of plant steps) r.choices ≡ true
    full r t =
        (λ i. are_below (counts_of plant (sym t.many i)) (t.choices i)) ∙ steps_below plant t.moves (join_below plant t.state.state.modes t.moves t.join)

    each : (rs : List Rank) → ((r : Rank) → Among r rs → are_below (counts_of plant steps) r.choices ≡ true) → list_all (λ (r : Rank). are_below (counts_of plant steps) r.choices) rs ≡ true
    each [] all = refl
    each (r ∷ rs) all =
        and_from (are_below (counts_of plant steps) r.choices) (list_all (λ (q : Rank). are_below (counts_of plant steps) q.choices) rs) (all r (inl refl))
        (each rs (λ q is. all q (inr is)))
