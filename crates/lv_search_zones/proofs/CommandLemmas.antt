-- The members of the zone are the command sets.
use Rattle.std.proofs.Common.{◌≡◌, ◌+◌, ◌≤◌, ◌<◌, ℕ, zero, suc, Bool, true, false, ◌&&◌, ◌||◌, nat_eq, nat_lt, List, [], ◌∷◌, length, map, slice_index_or, All, inl, inr, refl, sym, subst, ap, ap₂, ◌∙◌, arith, eq-eqb}
use Rattle.std.proofs.lemmas.Bool.{and_parts, and_from, ltb-true, eqb-true}
use Rattle.std.specs.List.{list_any, range_with_len}
use Rattle.std.specs.Cmp.Lexicographic.{pointwise}
use Rattle.std.proofs.lemmas.List.Elements.{All-tail}
use Rattle.std.proofs.lemmas.Nat.Bits.{bit_at_ones}
use Rattle.lv_base.specs.declared.ids.VarId.{VarId}
use Rattle.lv_base.specs.declared.rank.Rank.{Rank}
use Rattle.lv_base.specs.declared.search.Candidate.{Candidate}
use Rattle.lv_boxes.specs.Masks.{has_choice}
use Rattle.lv_boxes.specs.Members.{is_left, are_left, choice_cost, choices_cost, is_member}
use Rattle.lv_model.specs.declared.plant.Plant.{Plant}
use Rattle.lv_model.specs.Lists.{sizes, controls}
use Rattle.lv_model.specs.Prices.{price_of}
use Rattle.lv_model.specs.WellFormed.{is_well_formed}
use Rattle.lv_boxes.specs.Ranked.{is_rank, is_among}
use Rattle.lv_boxes.proofs.RankedLemmas.{is_itself, same_rank, one_list}
use Rattle.lv_meaning.proofs.Among.{Among}
use Rattle.lv_boxes.specs.RankedMembers.{ranked_members, ranks_in}
use Rattle.lv_boxes.specs.Walk.{suit_all}
use Rattle.lv_boxes.proofs.RankedMemberLemmas.{one_test, ranked_members_rise, among_ranked_members_any}
use Rattle.lv_meaning.specs.Commands.{is_command_set, commands_cost, command_sets}
use Rattle.lv_meaning.specs.RecoveryLaws.{IsCommandSet}
use Rattle.lv_meaning.proofs.NominalSteps.{each_passes}
use Rattle.lv_meaning.proofs.CommandSets.{sets_rise, set_among, among_is_set}
use Rattle.lv_search_zones.specs.Commands.{value_cost, control_costs, control_slots, every_choice, command_zone}
use Rattle.lv_search_zones.specs.ControlSlots.{HasControlSlot}
use Rattle.lv_search_zones.proofs.ControlLemmas.{length-costs, controls_have_slots}

among_tested : (r : Rank) (rs : List Rank) → is_among r rs ≡ true → Among r rs
among_tested r [] h = absurd (cc h)
among_tested r (s ∷ ss) h = by (is_rank r s) refl (among_tested r ss) h
  where
    by : (b : Bool) → is_rank r s ≡ b → (is_among r ss ≡ true → Among r ss) → (b || is_among r ss) ≡ true → Among r (s ∷ ss)
    by true e rest any = inl (same_rank r s e)
    by false e rest any = inr (rest any)

tested_among : (r : Rank) (rs : List Rank) → Among r rs → is_among r rs ≡ true
tested_among r [] h = absurd h
tested_among r (s ∷ ss) (inl e) = ap (λ b. b || is_among r ss) (subst (λ (t : Rank). is_rank r t ≡ true) e (is_itself r))
tested_among r (s ∷ ss) (inr h) = by (is_rank r s) (tested_among r ss h)
  where
    by : (b : Bool) → is_among r ss ≡ true → (b || is_among r ss) ≡ true
    by true rest = refl
    by false rest = rest

-- the mask of all choices has each
has_every : (c : ℕ) → c < 64 → has_choice every_choice c ≡ true
has_every c below = ap (λ n. nat_eq n 1) (bit_at_ones 64 c below)

module _ (plant : Plant) (h : is_well_formed plant ≡ true) where
  abbrev size_of : VarId → ℕ
  size_of c = slice_index_or (sizes plant) c.0 0

  left_is_below : (c : VarId) (v : ℕ) → length (control_costs plant c) ≤ 64 → is_left (control_costs plant c) every_choice v ≡ nat_lt v (size_of c)
  left_is_below c v few =
      ap (λ n. nat_lt v n && has_choice every_choice v) long ∙ by (nat_lt v (size_of c)) refl
    where
      long : length (control_costs plant c) ≡ size_of c
      long = length-costs plant h c.0 (size_of c)

      by : (b : Bool) → nat_lt v (size_of c) ≡ b → (b && has_choice every_choice v) ≡ b
      by true e = let below : v < size_of c = ltb-true v (size_of c) e in has_every v (omega (arith, below, few, long))
      by false e = refl

  left_are_below : (cs : List VarId) (vs : List ℕ) → All (HasControlSlot plant) cs
      → are_left (map (control_costs plant) cs) (map (λ (c : VarId). every_choice) cs) vs ≡ pointwise nat_lt vs (map size_of cs)
  left_are_below [] [] slots = refl
  left_are_below [] (v ∷ vs) slots = refl
  left_are_below (c ∷ cs) [] slots = refl
  left_are_below (c ∷ cs) (v ∷ vs) slots =
      ap₂ (λ (a b : Bool). a && b) (left_is_below c v ((slots 0 c (omega arith)).slot.few)) (left_are_below cs vs (All-tail (HasControlSlot plant) c cs slots))

  from_zero : (v : ℕ) → 0 + v ≡ v
  from_zero v = omega arith

  cost_in_row : (c first n v : ℕ) → v < n → choice_cost (map (value_cost plant c) (range_with_len first n)) v ≡ price_of plant c (first + v)
  cost_in_row c first zero v below = absurd (omega (arith, below))
  cost_in_row c first (suc n) zero below = let at : first ≡ first + 0 = omega arith in ap (price_of plant c) at
  cost_in_row c first (suc n) (suc v) below = let at : first + 1 + v ≡ first + suc v = omega arith in cost_in_row c (first + 1) n v (omega (arith, below)) ∙ ap (price_of plant c) at

  costs_are_prices : (cs : List VarId) (vs : List ℕ) → pointwise nat_lt vs (map size_of cs) ≡ true → choices_cost (map (control_costs plant) cs) vs ≡ commands_cost plant cs vs
  costs_are_prices [] [] below = refl
  costs_are_prices [] (v ∷ vs) below = refl
  costs_are_prices (c ∷ cs) [] below = refl
  costs_are_prices (c ∷ cs) (v ∷ vs) below =
      let two = and_parts (nat_lt v (size_of c)) (pointwise nat_lt vs (map size_of cs)) below in
      ap₂ (λ (a b : ℕ). a + b) (cost_in_row c.0 0 (size_of c) v (ltb-true v (size_of c) two.0) ∙ ap (price_of plant c.0) (from_zero v)) (costs_are_prices cs vs two.1)

  member_is_set : (r : Rank) → ranks_in (control_slots plant) r (command_zone plant) ≡ true → IsCommandSet plant r
  member_is_set r is =
      let two = and_parts (is_member (control_slots plant) (command_zone plant) (record { source = r.source; choices = r.choices })) (nat_eq r.cost.0 (0 + choices_cost (control_slots plant) r.choices)) is in
      let one = and_parts (nat_eq r.source 0) (are_left (control_slots plant) (map (λ (c : VarId). every_choice) (controls plant)) r.choices) two.0 in
      let below : is_command_set plant r.choices ≡ true = sym (left_are_below (controls plant) r.choices (controls_have_slots plant h)) ∙ one.1 in
      let cost : r.cost.0 ≡ 0 + choices_cost (control_slots plant) r.choices = eqb-true r.cost.0 (0 + choices_cost (control_slots plant) r.choices) two.1 in
      let prices : choices_cost (control_slots plant) r.choices ≡ commands_cost plant (controls plant) r.choices = costs_are_prices (controls plant) r.choices below in
      record { values = below; cost = omega (arith, cost, prices); source = eqb-true r.source 0 one.0 }

  set_is_member : (r : Rank) → IsCommandSet plant r → ranks_in (control_slots plant) r (command_zone plant) ≡ true
  set_is_member r is =
      let prices : choices_cost (control_slots plant) r.choices ≡ commands_cost plant (controls plant) r.choices = costs_are_prices (controls plant) r.choices is.values in
      let cost = is.cost in
      and_from (is_member (control_slots plant) (command_zone plant) (record { source = r.source; choices = r.choices })) (nat_eq r.cost.0 (0 + choices_cost (control_slots plant) r.choices))
      (and_from (nat_eq r.source 0) (are_left (control_slots plant) (map (λ (c : VarId). every_choice) (controls plant)) r.choices) (eq-eqb r.source 0 is.source)
      (left_are_below (controls plant) r.choices (controls_have_slots plant h) ∙ is.values))
      (eq-eqb r.cost.0 (0 + choices_cost (control_slots plant) r.choices) (omega (arith, cost, prices)))

  among_both : (r : Rank) → is_among r (ranked_members (control_slots plant) (command_zone plant ∷ [])) ≡ is_among r (command_sets plant)
  among_both r =
      among_ranked_members_any (control_slots plant) (command_zone plant ∷ []) r
      ∙ one_test (list_any (ranks_in (control_slots plant) r) (command_zone plant ∷ [])) (is_among r (command_sets plant))
      (λ any. tested_among r (command_sets plant) (set_among plant r (member_is_set r (alone (ranks_in (control_slots plant) r (command_zone plant)) any))))
      (λ has. ap (λ b. b || false) (set_is_member r (among_is_set plant r (among_tested r (command_sets plant) has))))
    where
      alone : (b : Bool) → (b || false) ≡ true → b ≡ true
      alone true e = refl
      alone false e = e

  pub zone_has_sets : ranked_members (control_slots plant) (command_zone plant ∷ []) ≡ command_sets plant
  zone_has_sets =
      one_list (ranked_members (control_slots plant) (command_zone plant ∷ [])) (command_sets plant) (ranked_members_rise (control_slots plant) (command_zone plant ∷ [])) (sets_rise plant) among_both

pub sets_suit : (plant : Plant) → suit_all (λ (c : Candidate). is_command_set plant c.choices) (command_sets plant) ≡ true
sets_suit plant = each_passes (λ (r : Rank). is_command_set plant r.choices) (command_sets plant) (λ r a. (among_is_set plant r a).values)
