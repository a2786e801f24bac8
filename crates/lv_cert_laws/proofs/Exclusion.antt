-- Zones that are split into parts which keep what is sought, but for what is told already: each sought rank stays in an open zone, or is told.
use Rattle.std.proofs.Common.{◌≡◌, ℕ, zero, suc, ◌+◌, ◌-◌, ◌<◌, ◌≤◌, Bool, true, false, not, ◌&&◌, ◌||◌, nat_eq, nat_lt, List, [], ◌∷◌, ◌++◌, ◌⊎◌, inl, inr, ⊎_elim, length, Option, Some, None, slice_get, slice_index, slice_set, cond, refl, sym, subst, ◌∙◌, ap, ap₂, arith}
use Rattle.std.specs.Prelude.{map, option_map}
use Rattle.std.specs.Option.{option_map_or, option_and_then}
use Rattle.std.specs.List.{list_all, list_any}
use Rattle.std.proofs.lemmas.Bool.{and_parts, and_from, or_cases, or_left, or_right, eqb-true, cases_lt}
use Rattle.std.proofs.lemmas.Bool.Decides.{nat_tests}
use Rattle.std.proofs.lemmas.List.{set_past}
use Rattle.std.proofs.lemmas.List.Folds.{list_any-append}
use Rattle.lv_cert_meaning.specs.lv_base.declared.ids.Cost.{Cost}
use Rattle.lv_cert_meaning.specs.lv_base.declared.rank.Rank.{Rank}
use Rattle.lv_cert_meaning.specs.lv_base.declared.search.Pair.{Pair}
use Rattle.lv_cert_meaning.specs.lv_base.Choices.{picks, contains_all, pairs_from, pairs_of}
use Rattle.lv_cert_meaning.specs.lv_base.Rank.{rank_key, ranks_before}
use Rattle.lv_cert_meaning.proofs.lv_base.OrderLemmas.{transitive}
use Rattle.lv_cert_meaning.specs.lv_boxes.Members.{ZoneValue, is_member, choices_cost, rank_in}
use Rattle.lv_cert_meaning.specs.lv_boxes.Least.{cheapest_choices, lacks_choice}
use Rattle.lv_cert_meaning.specs.lv_boxes.Parts.{masks_with, masks_without, parts_of}
use Rattle.lv_cert_meaning.proofs.lv_boxes.PartsLemmas.{is_member-with, is_member-without}
use Rattle.lv_cert_meaning.proofs.lv_boxes.LeastLemmas.{sum_none, written_is_least}
use Rattle.lv_cert_meaning.specs.lv_boxes.Walk.{candidate_of}
use Rattle.lv_cert_meaning.specs.lv_boxes.Ranked.{is_rank, is_among}
use Rattle.lv_cert_meaning.proofs.lv_boxes.RankedLemmas.{is_itself, neither_is_same}
use Rattle.lv_cert_meaning.proofs.lv_meaning.Among.{Among}
use Rattle.lv_cert_meaning.specs.lv_boxes.RankedMembers.{ranked_members, ranks_in}
use Rattle.lv_cert_meaning.proofs.lv_boxes.RankedMemberLemmas.{lacking_has_none, rank_of_member, among_ranked_members_any}
use Rattle.lv_cert_meaning.specs.Space.{Space, same_zone, open_zone, with_parts, least_rank, has_before, is_behind, is_passed, all_passed}

-- behind one more choice the choices stand one slot later
later_slot : (n m : ℕ) → nat_lt (suc n) (suc m) ≡ nat_lt n m
later_slot n m = grind (arith, nat_tests)

behind_first : (v n m : ℕ) (vs us : List ℕ) → m ≡ suc n → contains_all (v ∷ vs) (pairs_from m us) ≡ contains_all vs (pairs_from n us)
behind_first v n m vs [] e = refl
behind_first v n m vs (u ∷ us) e =
    ap₂ (λ (a b : Bool). a && b)
    (ap (λ k. picks (v ∷ vs) (record { slot = k; choice = u })) e ∙ ap (λ b. b && nat_eq (slice_index vs n) u) (later_slot n (length vs)))
    (behind_first v (n + 1) (m + 1) vs us (omega (arith, e)))

-- lists as long as each other of which one has all choices of the other are one
pub same_choices : (us vs : List ℕ) → length us ≡ length vs → contains_all vs (pairs_of us) ≡ true → us ≡ vs
same_choices [] [] long all = refl
same_choices [] (v ∷ vs) long all = absurd (omega (arith, long))
same_choices (u ∷ us) [] long all = absurd (omega (arith, long))
same_choices (u ∷ us) (v ∷ vs) long all =
    let two = and_parts (picks (v ∷ vs) (record { slot = 0; choice = u })) (contains_all (v ∷ vs) (pairs_from 1 us)) all in
    let here = and_parts (nat_lt 0 (length (v ∷ vs))) (nat_eq v u) two.0 in
    ap₂ (λ (x : ℕ) (xs : List ℕ). x ∷ xs) (sym (eqb-true v u here.1)) (same_choices us vs (omega (arith, long)) (sym (behind_first v 0 1 vs us refl) ∙ two.1))

module _ {X : Type 0} where
  -- an item that passes is the one that is set, or still there
  any_set : (p : X → Bool) (xs : List X) (i : ℕ) (x y : X) → list_any p xs ≡ true → slice_get xs i ≡ Some x → (p x ≡ true) ⊎ (list_any p (slice_set xs i y) ≡ true)
  any_set p [] i x y any at = absurd (cc any)
  any_set p (z ∷ zs) zero x y any at =
      let same : z ≡ x = cc at in
      ⊎_elim (λ e. inl (subst (λ (w : X). p w ≡ true) same e)) (λ e. inr (or_right (p y) (list_any p zs) e)) (or_cases (p z) (list_any p zs) any)
  any_set p (z ∷ zs) (suc i) x y any at =
      ⊎_elim (λ e. inr (or_left (p z) (list_any p (slice_set zs i y)) e))
      (λ e. ⊎_elim (λ f. inl f) (λ f. inr (or_right (p z) (list_any p (slice_set zs i y)) f)) (any_set p zs i x y e at))
      (or_cases (p z) (list_any p zs) any)

tested_among : (r : Rank) (rs : List Rank) → Among r rs → is_among r rs ≡ true
tested_among r [] a = absurd a
tested_among r (s ∷ ss) (inl e) = or_left (is_rank r s) (is_among r ss) (subst (λ (t : Rank). is_rank r t ≡ true) e (is_itself r))
tested_among r (s ∷ ss) (inr a) = or_right (is_rank r s) (is_among r ss) (tested_among r ss a)

module _ (slots : List (List Cost)) where
  -- the zone is open and has the rank
  abbrev pub has_rank : Rank → Option ZoneValue → Bool
  has_rank r None = false
  has_rank r (Some zone) = ranks_in slots r zone

  any_open : (r : Rank) (zones : List ZoneValue) → list_any (has_rank r) (map Some zones) ≡ list_any (ranks_in slots r) zones
  any_open r [] = refl
  any_open r (zone ∷ zones) = ap (λ b. ranks_in slots r zone || b) (any_open r zones)

  -- a member that hasn't all the pairs is in some part; where the zone lacks a pair's slot, the part of that pair is the zone
  pub kept_in_parts : (r : Rank) (pairs : List Pair) (zone : ZoneValue) → ranks_in slots r zone ≡ true → contains_all r.choices pairs ≡ false
      → list_any (ranks_in slots r) (parts_of zone pairs) ≡ true
  kept_in_parts r [] zone has misses = absurd (cc misses)
  kept_in_parts r (p ∷ ps) zone has misses = by (cases_lt p.slot (length zone.masks)) (kept_in_parts r ps with_it)
    where
      costs : Bool
      costs = nat_eq r.cost.0 (zone.base.0 + choices_cost slots r.choices)

      without : ZoneValue
      without = record zone { masks = masks_without zone.masks p }

      with_it : ZoneValue
      with_it = record zone { masks = masks_with zone.masks p }

      two : (is_member slots zone (candidate_of r) ≡ true) × (costs ≡ true)
      two = and_parts (is_member slots zone (candidate_of r)) costs has

      here : ranks_in slots r without ≡ true → list_any (ranks_in slots r) (parts_of zone (p ∷ ps)) ≡ true
      here h = or_left (ranks_in slots r without) (list_any (ranks_in slots r) (parts_of with_it ps)) h

      later : list_any (ranks_in slots r) (parts_of with_it ps) ≡ true → list_any (ranks_in slots r) (parts_of zone (p ∷ ps)) ≡ true
      later h = or_right (ranks_in slots r without) (list_any (ranks_in slots r) (parts_of with_it ps)) h

      picked : (b : Bool) → picks r.choices p ≡ b → p.slot < length zone.masks → (ranks_in slots r with_it ≡ true → contains_all r.choices ps ≡ false → list_any (ranks_in slots r) (parts_of with_it ps) ≡ true)
          → list_any (ranks_in slots r) (parts_of zone (p ∷ ps)) ≡ true
      picked true e within rest =
          later (rest
          (and_from (is_member slots with_it (candidate_of r)) costs
          (is_member-with slots zone p (candidate_of r) within ∙ and_from (is_member slots zone (candidate_of r)) (picks r.choices p) two.0 e) two.1)
          (sym (ap (λ b. b && contains_all r.choices ps) e) ∙ misses))
      picked false e within rest =
          here (and_from (is_member slots without (candidate_of r)) costs
          (is_member-without slots zone p (candidate_of r) within ∙ and_from (is_member slots zone (candidate_of r)) (not (picks r.choices p)) two.0 (ap not e)) two.1)

      by : (p.slot < length zone.masks) ⊎ (length zone.masks ≤ p.slot) → (ranks_in slots r with_it ≡ true → contains_all r.choices ps ≡ false → list_any (ranks_in slots r) (parts_of with_it ps) ≡ true)
          → list_any (ranks_in slots r) (parts_of zone (p ∷ ps)) ≡ true
      by (inl within) rest = picked (picks r.choices p) refl within rest
      by (inr past) rest = here (ap (λ masks. ranks_in slots r (record zone { masks = masks })) (set_past zone.masks p.slot _ past) ∙ has)

  -- a member ranks behind what its zone's least member ranks behind
  behind_least : (last : Option Rank) (zone : ZoneValue) (r : Rank) → is_passed slots last (Some zone) ≡ true → ranks_in slots r zone ≡ true → is_behind last r ≡ true
  behind_least last zone r passed has = by (cheapest_choices slots zone.masks) refl passed
    where
      two : (is_member slots zone (candidate_of r) ≡ true) × (nat_eq r.cost.0 (zone.base.0 + choices_cost slots r.choices) ≡ true)
      two = and_parts (is_member slots zone (candidate_of r)) (nat_eq r.cost.0 (zone.base.0 + choices_cost slots r.choices)) has

      is_rank_in : r ≡ rank_in slots zone r.choices
      is_rank_in = rank_of_member slots r zone has

      turned : (least : Rank) (l : Option Rank) → ranks_before r least ≡ false → is_behind l least ≡ true → is_behind l r ≡ true
      turned least None not_before behind = absurd (cc behind)
      turned least (Some s) not_before behind = other (ranks_before least r) refl
        where
          other : (b : Bool) → ranks_before least r ≡ b → ranks_before s r ≡ true
          other true e = transitive (rank_key s) (rank_key least) (rank_key r) behind e
          other false e = subst (λ (q : Rank). ranks_before s q ≡ true) (neither_is_same least r e not_before) behind

      by : (o : Option (List ℕ)) → cheapest_choices slots zone.masks ≡ o → option_map_or (is_behind last) (option_map (rank_in slots zone) o) true ≡ true → is_behind last r ≡ true
      by None none p =
          let lacks : lacks_choice slots zone.masks ≡ true = sum_none slots zone.masks (sym (ap (option_map (choices_cost slots)) none)) in
          let clash : true ≡ false = sym has ∙ lacking_has_none slots zone r lacks in
          absurd (cc clash)
      by (Some out) some p =
          turned (rank_in slots zone out) last
          (ap (λ (q : Rank). ranks_before q (rank_in slots zone out)) is_rank_in ∙ (written_is_least slots zone out (sym some)).first (candidate_of r) two.0)
          p

  -- where no member of the zone ranks before one, none of them does
  pub none_before : (zone : ZoneValue) (q r : Rank) → has_before slots zone q ≡ false → ranks_in slots r zone ≡ true → ranks_before r q ≡ false
  none_before zone q r none has = by (ranks_before r q) refl
    where
      two : (is_member slots zone (candidate_of r) ≡ true) × (nat_eq r.cost.0 (zone.base.0 + choices_cost slots r.choices) ≡ true)
      two = and_parts (is_member slots zone (candidate_of r)) (nat_eq r.cost.0 (zone.base.0 + choices_cost slots r.choices)) has

      is_rank_in : r ≡ rank_in slots zone r.choices
      is_rank_in = rank_of_member slots r zone has

      -- what ranks before the rank would have the least member before it too
      turned : (first : Rank) → ranks_before r first ≡ false → ranks_before first q ≡ false → ranks_before r q ≡ true → ⊥
      turned first not_first none before = other (ranks_before first r) refl
        where
          other : (b : Bool) → ranks_before first r ≡ b → ⊥
          other true e = let far : ranks_before first q ≡ true = transitive (rank_key first) (rank_key r) (rank_key q) e before in absurd (cc (sym far ∙ none))
          other false e = let same : ranks_before r q ≡ ranks_before first q = ap (λ (x : Rank). ranks_before x q) (sym (neither_is_same first r e not_first)) in absurd (cc (sym before ∙ same ∙ none))

      by_least : (o : Option (List ℕ)) → cheapest_choices slots zone.masks ≡ o → option_map_or (λ first. ranks_before first q) (option_map (rank_in slots zone) o) false ≡ false → ranks_before r q ≡ true → ⊥
      by_least None lacking n before =
          let lacks : lacks_choice slots zone.masks ≡ true = sum_none slots zone.masks (sym (ap (option_map (choices_cost slots)) lacking)) in
          let clash : true ≡ false = sym has ∙ lacking_has_none slots zone r lacks in
          cc clash
      by_least (Some out) some n before =
          turned (rank_in slots zone out)
          (ap (λ (x : Rank). ranks_before x (rank_in slots zone out)) is_rank_in ∙ (written_is_least slots zone out (sym some)).first (candidate_of r) two.0) n before

      by : (b : Bool) → ranks_before r q ≡ b → ranks_before r q ≡ false
      by true e = absurd (by_least (cheapest_choices slots zone.masks) refl none e)
      by false e = e

  passed_or_closed : (last : Option Rank) (o : Option ZoneValue) (r : Rank) → is_passed slots last o ≡ true → has_rank r o ≡ true → is_behind last r ≡ true
  passed_or_closed last None r passed has = absurd (cc has)
  passed_or_closed last (Some zone) r passed has = behind_least last zone r passed has

  behind_all : (last : Option Rank) (zones : List (Option ZoneValue)) (r : Rank) → list_all (is_passed slots last) zones ≡ true → list_any (has_rank r) zones ≡ true → is_behind last r ≡ true
  behind_all last [] r passed any = absurd (cc any)
  behind_all last (o ∷ os) r passed any =
      let two = and_parts (is_passed slots last o) (list_all (is_passed slots last) os) passed in
      ⊎_elim (passed_or_closed last o r two.0) (behind_all last os r two.1) (or_cases (has_rank r o) (list_any (has_rank r) os) any)

-- an open zone has its place
pub record IsOpenAt (zones : List (Option ZoneValue)) (n : ℕ) (zone : ZoneValue) : Type 0 where
  pub at : slice_get zones (n - 1) ≡ Some (Some zone)

open_at : (s : Space) (n : ℕ) (zone : ZoneValue) → open_zone s n ≡ Some zone → IsOpenAt s.zones n zone
open_at s n zone h = by (nat_lt 0 n) h
  where
    inner : (o : Option (Option ZoneValue)) → option_and_then same_zone o ≡ Some zone → o ≡ Some (Some zone)
    inner None e = absurd (cc e)
    inner (Some None) e = absurd (cc e)
    inner (Some (Some z)) e = ap (λ (x : Option ZoneValue). Some x) e

    by : (b : Bool) → option_and_then same_zone (cond b (slice_get s.zones (n - 1)) None) ≡ Some zone → IsOpenAt s.zones n zone
    by true e = record { at = inner (slice_get s.zones (n - 1)) e }
    by false e = absurd (cc e)

module _ (Sought : Rank → Type 0) where
  -- each rank that is sought is in an open zone, or told
  pub record IsCovered (Told : Rank → Type 0) (space : Space) : Type 0 where
    pub covers : (r : Rank) → Sought r → (list_any (has_rank space.slots r) space.zones ≡ true) ⊎ Told r

  -- before any split
  pub first_covers : (Told : Rank → Type 0) (slots : List (List Cost)) (zones : List ZoneValue) → ((r : Rank) → Sought r → Among r (ranked_members slots zones))
      → IsCovered Told (record { slots = slots; zones = map Some zones })
  first_covers Told slots zones among =
      record {
        covers = λ r sought. inl (any_open slots r zones ∙ sym (among_ranked_members_any slots zones r) ∙ tested_among r (ranked_members slots zones) (among r sought));
      }

  -- each member of the zone that is sought is in one of the parts, unless it is told
  pub record IsParted (Told : Rank → Type 0) (slots : List (List Cost)) (zone : ZoneValue) (parts : List ZoneValue) : Type 0 where
    pub keeps : (r : Rank) → Sought r → ranks_in slots r zone ≡ true → (list_any (ranks_in slots r) parts ≡ true) ⊎ Told r

  pub split_covers : (Told : Rank → Type 0) (space : Space) (n : ℕ) (zone : ZoneValue) (parts : List ZoneValue) → IsCovered Told space → open_zone space n ≡ Some zone
      → IsParted Told space.slots zone parts → IsCovered Told (with_parts space n parts)
  split_covers Told space n zone parts covered is_open parted = record { covers = λ r sought. ⊎_elim (split r sought) (λ a. inr a) (covered.covers r sought) }
    where
      rest : List (Option ZoneValue)
      rest = slice_set space.zones (n - 1) None

      more : List (Option ZoneValue)
      more = map Some parts

      split : (r : Rank) → Sought r → list_any (has_rank space.slots r) space.zones ≡ true → (list_any (has_rank space.slots r) (rest ++ more) ≡ true) ⊎ Told r
      split r sought any =
          ⊎_elim
          (λ has. ⊎_elim
          (λ kept. inl (list_any-append (has_rank space.slots r) rest more
          ∙ or_right (list_any (has_rank space.slots r) rest) (list_any (has_rank space.slots r) more) (any_open space.slots r parts ∙ kept)))
          (λ a. inr a) (parted.keeps r sought has))
          (λ there. inl (list_any-append (has_rank space.slots r) rest more ∙ or_left (list_any (has_rank space.slots r) rest) (list_any (has_rank space.slots r) more) there))
          (any_set (has_rank space.slots r) space.zones (n - 1) (Some zone) None any ((open_at space n zone is_open).at))

  -- where all zones are passed, a sought rank is told or behind the last
  pub passed_covers : (Told : Rank → Type 0) (space : Space) (last : Option Rank) → IsCovered Told space → all_passed space last ≡ true → (r : Rank) → Sought r
      → Told r ⊎ (is_behind last r ≡ true)
  passed_covers Told space last covered passed r sought =
      ⊎_elim (λ any. inr (behind_all space.slots last space.zones r passed any)) (λ a. inl a) (covered.covers r sought)

  -- more may be told
  pub more_covers : (Told More : Rank → Type 0) (space : Space) → IsCovered Told space → ((r : Rank) → Told r → More r) → IsCovered More space
  more_covers Told More space covered grow = record { covers = λ r sought. ⊎_elim (λ any. inl any) (λ a. inr (grow r a)) (covered.covers r sought) }
