-- What splits make, place by place.
use Rattle.std.proofs.Common.{◌≡◌, ℕ, zero, suc, ◌+◌, ◌-◌, ◌<◌, ◌≤◌, Bool, true, false, nat_eq, List, [], ◌∷◌, ◌++◌, length, map, Option, Some, None, option_map, if◌then◌else◌, refl, sym, ◌∙◌, ap, ap₂, subst, arith}
use Rattle.std.specs.Prelude.{slice_get, slice_set}
use Rattle.std.specs.Option.{option_map_or, option_and_then}
use Rattle.std.proofs.lemmas.List.{length-append}
use Rattle.std.proofs.lemmas.Bool.{eq-eqb, eqb-true, false_from_ne_true}
use Rattle.std.proofs.lemmas.Option.{slice_get_within}
use Rattle.lv_base.specs.declared.search.Pair.{Pair}
use Rattle.lv_boxes.specs.Members.{ZoneValue}
use Rattle.lv_boxes.specs.Parts.{masks_with, parts_of}
use Rattle.lv_boxes.specs.GroupParts.{masks_of_group, parts_from}
use Rattle.lv_boxes.specs.Groups.{group_of}
use Rattle.lv_split_zones.specs.declared.split.By.{By}
use Rattle.lv_split_zones.specs.declared.split.By.TheVariants as by
use Rattle.lv_split_zones.specs.declared.split.Split.{Split}
use Rattle.lv_split_zones.specs.Splits.{CausesValue, parts_by_target, parts_by, parts_at, made, IsKept, IsKnown, IsNext, AreSplits, without_split, masks_of_part, masks_of_target_part, masks_by_target, masks_by}

some_is : {X : Type 0} (x y : X) → Some x ≡ Some y → x ≡ y
some_is x y e = ap (λ o. option_map_or (λ z. z) o x) e

-- what stands in front, and what stands behind
pub in_front : {X : Type 0} (xs ys : List X) (i : ℕ) → i < length xs → slice_get (xs ++ ys) i ≡ slice_get xs i
in_front [] ys i h = absurd (omega arith)
in_front (x ∷ xs) ys zero h = refl
in_front (x ∷ xs) ys (suc i) h = in_front xs ys i (omega arith)

pub behind : {X : Type 0} (xs ys : List X) (k : ℕ) → slice_get (xs ++ ys) (k + length xs) ≡ slice_get ys k
behind [] ys k = ap (slice_get ys) (more_of_none k)
  where
    more_of_none : (n : ℕ) → n + 0 ≡ n
    more_of_none n = omega arith
behind (x ∷ xs) ys k = ap (slice_get (x ∷ (xs ++ ys))) (one_less k (length xs)) ∙ behind xs ys k
  where
    one_less : (n m : ℕ) → n + suc m ≡ suc (n + m)
    one_less n m = omega arith

pub is_there : {X : Type 0} (xs : List X) (i : ℕ) → i < length xs → (x : X) × (slice_get xs i ≡ Some x)
is_there [] i h = absurd (omega arith)
is_there (x ∷ xs) zero h = (x, refl)
is_there (x ∷ xs) (suc i) h = is_there xs i (omega arith)

-- a part by its place
pub part_by_pairs : (zone : ZoneValue) (place : ℕ) (pairs : List Pair) (k : ℕ) → k < length (parts_of zone pairs)
    → slice_get (parts_of zone pairs) k ≡ Some (record zone { masks = masks_of_part zone.masks place pairs (k + place) })
part_by_pairs zone place [] k h = absurd (omega arith)
part_by_pairs zone place (p ∷ ps) zero h = let here : nat_eq place (zero + place) ≡ true = eq-eqb place (zero + place) (omega arith) in rw here refl
part_by_pairs zone place (p ∷ ps) (suc k) h =
    let apart : nat_eq place (suc k + place) ≡ false = false_from_ne_true (nat_eq place (suc k + place)) (λ e. let same : place ≡ suc k + place = eqb-true place (suc k + place) e in omega (arith, same)) in
    let same : k + (place + 1) ≡ suc k + place = omega arith in
    rw apart
    (part_by_pairs (record zone { masks = masks_with zone.masks p }) (place + 1) ps k (omega arith)
    ∙ ap (λ (n : ℕ). Some (record zone { masks = masks_of_part (masks_with zone.masks p) (place + 1) ps n })) same)

pub part_by_groups : (zone : ZoneValue) (slot : ℕ) (groups : List (List ℕ)) (choices : List ℕ) (k : ℕ) → k < length (parts_from zone slot groups choices)
    → slice_get (parts_from zone slot groups choices) k ≡ Some (record zone { masks = masks_of_target_part zone.masks slot groups choices (k + slot) })
part_by_groups zone slot [] choices k h = absurd (omega arith)
part_by_groups zone slot (numbers ∷ groups) [] k h = absurd (omega arith)
part_by_groups zone slot (numbers ∷ groups) (choice ∷ choices) zero h = let here : nat_eq slot (zero + slot) ≡ true = eq-eqb slot (zero + slot) (omega arith) in rw here refl
part_by_groups zone slot (numbers ∷ groups) (choice ∷ choices) (suc k) h =
    let apart : nat_eq slot (suc k + slot) ≡ false = false_from_ne_true (nat_eq slot (suc k + slot)) (λ e. let same : slot ≡ suc k + slot = eqb-true slot (suc k + slot) e in omega (arith, same)) in
    let same : k + (slot + 1) ≡ suc k + slot = omega arith in
    let rest : List ℕ = masks_of_group zone.masks slot numbers (group_of numbers choice) in
    rw apart
    (part_by_groups (record zone { masks = rest }) (slot + 1) groups choices k (omega arith)
    ∙ ap (λ (n : ℕ). Some (record zone { masks = masks_of_target_part rest (slot + 1) groups choices n })) same)

no_more : (k : ℕ) → k + 0 ≡ k
no_more k = omega arith

pub count_by_pairs : (zone : ZoneValue) (pairs : List Pair) → length (parts_of zone pairs) ≡ length pairs
count_by_pairs zone [] = refl
count_by_pairs zone (p ∷ ps) = ap suc (count_by_pairs (record zone { masks = masks_with zone.masks p }) ps)

module _ (causes : CausesValue) where
  part_of_conflict : (zone : ZoneValue) (o : Option (List Pair)) (k : ℕ) → k < length (option_map_or (parts_of zone) o [])
      → slice_get (option_map_or (parts_of zone) o []) k ≡ Some (record zone { masks = option_map_or (λ pairs. masks_of_part zone.masks 0 pairs k) o zone.masks })
  part_of_conflict zone None k h = absurd (omega arith)
  part_of_conflict zone (Some pairs) k h = part_by_pairs zone 0 pairs k h ∙ ap (λ (n : ℕ). Some (record zone { masks = masks_of_part zone.masks 0 pairs n })) (no_more k)

  part_of_target : (zone : ZoneValue) (g : Option (List (List ℕ))) (m : Option (List ℕ)) (k : ℕ) → k < length (parts_by_target zone g m)
      → slice_get (parts_by_target zone g m) k ≡ Some (record zone { masks = masks_by_target zone.masks k g m })
  part_of_target zone None m k h = absurd (omega arith)
  part_of_target zone (Some groups) None k h = absurd (omega arith)
  part_of_target zone (Some groups) (Some member) k h =
      part_by_groups zone 0 groups member k h ∙ ap (λ (n : ℕ). Some (record zone { masks = masks_of_target_part zone.masks 0 groups member n })) (no_more k)

  pub part_by : (zone : ZoneValue) (b : By) (k : ℕ) → k < length (parts_by causes zone b) → slice_get (parts_by causes zone b) k ≡ Some (record zone { masks = masks_by causes k zone.masks b })
  part_by zone (by.Conflict j) k h = part_of_conflict zone (slice_get causes.conflicts j) k h
  part_by zone (by.Target g m) k h = part_of_target zone (slice_get causes.groups g) (slice_get causes.members m) k h

  -- what is made comes behind what there is
  pub no_fewer : (zones : List ZoneValue) (ss : List Split) → length zones ≤ length (made causes zones ss)
  no_fewer zones [] = omega arith
  no_fewer zones (s ∷ ss) =
      let more : length (zones ++ parts_at causes zones s) ≡ length zones + length (parts_at causes zones s) = length-append zones (parts_at causes zones s) in
      let rest : length (zones ++ parts_at causes zones s) ≤ length (made causes (zones ++ parts_at causes zones s) ss) = no_fewer (zones ++ parts_at causes zones s) ss in
      omega arith

  pub stays : (zones : List ZoneValue) (ss : List Split) (i : ℕ) → i < length zones → slice_get (made causes zones ss) i ≡ slice_get zones i
  stays zones [] i h = refl
  stays zones (s ∷ ss) i h =
      let more : length (zones ++ parts_at causes zones s) ≡ length zones + length (parts_at causes zones s) = length-append zones (parts_at causes zones s) in
      stays (zones ++ parts_at causes zones s) ss i (omega arith) ∙ in_front zones (parts_at causes zones s) i h

  -- the zone at a place is the part of that place of the zone that the split is one of
  abbrev IsPartOf : List ZoneValue → ℕ → Split → Type 0
  IsPartOf all place s = slice_get all place ≡ option_map (λ (z : ZoneValue). record z { masks = masks_by causes (place - s.first) z.masks s.by }) (slice_get all s.zone)

  among_parts : (zones : List ZoneValue) (s : Split) (ss : List Split) (place : ℕ) → IsNext causes zones s → s.first ≤ place → place < length (zones ++ parts_at causes zones s)
      → IsPartOf (made causes (zones ++ parts_at causes zones s) ss) place s
  among_parts zones s ss place is begun within = by_zone (slice_get zones s.zone) refl
    where
      more : length (zones ++ parts_at causes zones s) ≡ length zones + length (parts_at causes zones s)
      more = length-append zones (parts_at causes zones s)

      before : slice_get (made causes (zones ++ parts_at causes zones s) ss) s.zone ≡ slice_get zones s.zone
      before =
          let there : s.zone < length zones = is.zone in
          stays (zones ++ parts_at causes zones s) ss s.zone (omega (arith, more, there)) ∙ in_front zones (parts_at causes zones s) s.zone there

      here : slice_get (made causes (zones ++ parts_at causes zones s) ss) place ≡ slice_get (parts_at causes zones s) (place - s.first)
      here =
          let first : s.first ≡ length zones = is.first in
          let e : place ≡ (place - s.first) + length zones = omega (arith, first, begun) in
          stays (zones ++ parts_at causes zones s) ss place within ∙ ap (slice_get (zones ++ parts_at causes zones s)) e ∙ behind zones (parts_at causes zones s) (place - s.first)

      by_zone : (o : Option ZoneValue) → slice_get zones s.zone ≡ o → IsPartOf (made causes (zones ++ parts_at causes zones s) ss) place s
      by_zone None e =
          let there = is_there zones s.zone is.zone in
          absurd (none_is_some there.0 (sym e ∙ there.1))
        where
          none_is_some : (z : ZoneValue) → None ≡ Some z → ⊥
          none_is_some z h = cc h
      by_zone (Some zone) e =
          let made_here : parts_at causes zones s ≡ parts_by causes zone s.by = ap (λ o. option_map_or (λ z. parts_by causes z s.by) o []) e in
          let first : s.first ≡ length zones = is.first in
          let few : length (parts_at causes zones s) ≡ length (parts_by causes zone s.by) = ap length made_here in
          let inside : place - s.first < length (parts_by causes zone s.by) = omega (arith, more, few, first, begun, within) in
          here ∙ ap (λ (ps : List ZoneValue). slice_get ps (place - s.first)) made_here ∙ part_by zone s.by (place - s.first) inside
          ∙ sym (ap (option_map (λ (z : ZoneValue). record z { masks = masks_by causes (place - s.first) z.masks s.by })) (before ∙ e))

  pub is_part : (zones : List ZoneValue) (ss : List Split) (at : ℕ) (s : Split) (place : ℕ) → AreSplits causes zones ss → slice_get ss at ≡ Some s → s.first ≤ place
      → ((i : ℕ) (t : Split) → i ≡ at + 1 → slice_get ss i ≡ Some t → place < t.first) → place < length (made causes zones ss) → IsPartOf (made causes zones ss) place s
  is_part zones [] at s place all is begun ahead within = absurd (cc is)
  is_part zones (s ∷ ss) zero t place all is begun ahead within =
      let same : s ≡ t = some_is s t is in
      subst (IsPartOf (made causes zones (s ∷ ss)) place) same
      (among_parts zones s ss place all.0 (subst (λ (x : Split). x.first ≤ place) (sym same) begun) (inside ss all.1 (λ u h. ahead (suc zero) u (omega arith) h) within))
    where
      inside : (rest : List Split) → AreSplits causes (zones ++ parts_at causes zones s) rest → ((u : Split) → slice_get rest zero ≡ Some u → place < u.first)
          → place < length (made causes (zones ++ parts_at causes zones s) rest) → place < length (zones ++ parts_at causes zones s)
      inside [] known next whole = whole
      inside (u ∷ us) known next whole = subst (λ n. place < n) known.0.first (next u refl)
  is_part zones (s ∷ ss) (suc at) t place all is begun ahead within = is_part (zones ++ parts_at causes zones s) ss at t place all.1 is begun (λ i u e h. ahead (suc i) u (omega (arith, e)) h) within

  -- a split is one of a zone before its parts
  pub is_before : (zones : List ZoneValue) (ss : List Split) (at : ℕ) (s : Split) → AreSplits causes zones ss → slice_get ss at ≡ Some s → s.zone < s.first
  is_before zones [] at s all is = absurd (cc is)
  is_before zones (s ∷ ss) zero t all is =
      let known : IsNext causes zones s = all.0 in
      subst (λ (x : Split). x.zone < x.first) (some_is s t is) (subst (λ n. s.zone < n) (sym known.first) known.zone)
  is_before zones (s ∷ ss) (suc at) t all is = is_before (zones ++ parts_at causes zones s) ss at t all.1 is

  -- before the first part there is what there was
  pub is_first : (zones : List ZoneValue) (ss : List Split) (place : ℕ) → AreSplits causes zones ss → ((t : Split) → slice_get ss zero ≡ Some t → place < t.first) → slice_get (made causes zones ss) place ≡ slice_get zones place
  is_first zones [] place all ahead = refl
  is_first zones (s ∷ ss) place all ahead =
      let known : IsNext causes zones s = all.0 in
      stays zones (s ∷ ss) place (subst (λ n. place < n) known.first (ahead s refl))

  -- one split more
  pub made_more : (zones : List ZoneValue) (ss : List Split) (s : Split) → made causes zones (ss ++ s ∷ []) ≡ made causes zones ss ++ parts_at causes (made causes zones ss) s
  made_more zones [] s = refl
  made_more zones (t ∷ ss) s = made_more (zones ++ parts_at causes zones t) ss s

  pub splits_more : (zones : List ZoneValue) (ss : List Split) (s : Split) → AreSplits causes zones ss → IsNext causes (made causes zones ss) s → AreSplits causes zones (ss ++ s ∷ [])
  splits_more zones [] s all is = (is, tt)
  splits_more zones (t ∷ ss) s all is = (all.0, splits_more (zones ++ parts_at causes zones t) ss s all.1 is)

-- where what splits are by is kept, they make the same
module _ (old new : CausesValue) (kept : IsKept old new) where
  same_parts : (zone : ZoneValue) (b : By) → IsKnown old b → parts_by old zone b ≡ parts_by new zone b
  same_parts zone (by.Conflict j) known =
      let there = is_there old.conflicts j known in
      ap (λ o. option_map_or (parts_of zone) o []) (there.1 ∙ sym (kept.conflicts j there.0 there.1))
  same_parts zone (by.Target g m) known =
      let groups = is_there old.groups g known.0 in
      let member = is_there old.members m known.1 in
      ap₂ (parts_by_target zone) (groups.1 ∙ sym (kept.groups g groups.0 groups.1)) (member.1 ∙ sym (kept.members m member.0 member.1))

  known_still : (b : By) → IsKnown old b → IsKnown new b
  known_still (by.Conflict j) known =
      let there = is_there old.conflicts j known in
      slice_get_within new.conflicts j there.0 (kept.conflicts j there.0 there.1)
  known_still (by.Target g m) known =
      let groups = is_there old.groups g known.0 in
      let member = is_there old.members m known.1 in
      (slice_get_within new.groups g groups.0 (kept.groups g groups.0 groups.1), slice_get_within new.members m member.0 (kept.members m member.0 member.1))

  same_at : (zones : List ZoneValue) (s : Split) → IsKnown old s.by → parts_at old zones s ≡ parts_at new zones s
  same_at zones s known = by_zone (slice_get zones s.zone)
    where
      by_zone : (o : Option ZoneValue) → option_map_or (λ z. parts_by old z s.by) o [] ≡ option_map_or (λ z. parts_by new z s.by) o []
      by_zone None = refl
      by_zone (Some zone) = same_parts zone s.by known

  pub made_same : (zones : List ZoneValue) (ss : List Split) → AreSplits old zones ss → made old zones ss ≡ made new zones ss
  made_same zones [] all = refl
  made_same zones (s ∷ ss) all =
      made_same (zones ++ parts_at old zones s) ss all.1 ∙ ap (λ ps. made new (zones ++ ps) ss) (same_at zones s all.0.known)

  pub splits_still : (zones : List ZoneValue) (ss : List Split) → AreSplits old zones ss → AreSplits new zones ss
  splits_still zones [] all = tt
  splits_still zones (s ∷ ss) all = (
    record { zone = all.0.zone; first = all.0.first; known = known_still s.by all.0.known },
    subst (λ ps. AreSplits new (zones ++ ps) ss) (same_at zones s all.0.known) (splits_still (zones ++ parts_at old zones s) ss all.1),
  )

-- which zones were split
module _ (old new : ℕ → Bool) (place : ℕ) (others : (i : ℕ) → new i ≡ (if nat_eq i place then true else old i)) where
  same_from : (zones : List ZoneValue) (at : ℕ) → place < at → without_split new at zones ≡ without_split old at zones
  same_from [] at h = refl
  same_from (z ∷ zs) at h =
      let apart : nat_eq at place ≡ false = false_from_ne_true (nat_eq at place) (λ e. let same : at ≡ place = eqb-true at place e in omega (arith, same)) in
      let here : new at ≡ old at = others at ∙ ap (λ b. if b then true else old at) apart in
      ap₂ (λ (b : Bool) rest. (if b then None else Some z) ∷ rest) here (same_from zs (at + 1) (omega arith))

  marked_from : (zones : List ZoneValue) (at i : ℕ) → place ≡ i + at → without_split new at zones ≡ slice_set (without_split old at zones) i None
  marked_from [] at i e = refl
  marked_from (z ∷ zs) at zero e =
      let same : nat_eq at place ≡ true = eq-eqb at place (omega (arith, e)) in
      let here : new at ≡ true = others at ∙ ap (λ b. if b then true else old at) same in
      ap₂ (λ (b : Bool) rest. (if b then None else Some z) ∷ rest) here (same_from zs (at + 1) (omega (arith, e)))
  marked_from (z ∷ zs) at (suc i) e =
      let apart : nat_eq at place ≡ false = false_from_ne_true (nat_eq at place) (λ h. let same : at ≡ place = eqb-true at place h in omega (arith, same, e)) in
      let here : new at ≡ old at = others at ∙ ap (λ b. if b then true else old at) apart in
      ap₂ (λ (b : Bool) rest. (if b then None else Some z) ∷ rest) here (marked_from zs (at + 1) i (omega (arith, e)))

  pub marked : (zones : List ZoneValue) → without_split new 0 zones ≡ slice_set (without_split old 0 zones) place None
  marked zones = marked_from zones 0 place (omega arith)

abbrev no_zone : Option ZoneValue
no_zone = None

none_either : (b : Bool) → no_zone ≡ (if b then no_zone else no_zone)
none_either true = refl
none_either false = refl

module _ (is_split : ℕ → Bool) where
  -- of what comes behind nothing was split
  parts_from_on : (zones parts : List ZoneValue) (at : ℕ) → ((i : ℕ) → is_split i ≡ true → i < at + length zones)
      → without_split is_split at (zones ++ parts) ≡ without_split is_split at zones ++ map Some parts
  parts_from_on [] [] at few = refl
  parts_from_on [] (z ∷ zs) at few =
      let none : is_split at ≡ false = false_from_ne_true (is_split at) (λ e. let below : at < at + 0 = few at e in omega (arith, below)) in
      ap₂ (λ (b : Bool) rest. (if b then None else Some z) ∷ rest) none (parts_from_on [] zs (at + 1) (λ i e. let below : i < at + 0 = few i e in omega (arith, below)))
  parts_from_on (z ∷ zs) parts at few =
      ap (λ rest. (if is_split at then None else Some z) ∷ rest)
      (parts_from_on zs parts (at + 1) (λ i e. let below = few i e in omega (arith, below)))

  pub parts_unmarked : (zones parts : List ZoneValue) → ((i : ℕ) → is_split i ≡ true → i < length zones) → without_split is_split 0 (zones ++ parts) ≡ without_split is_split 0 zones ++ map Some parts
  parts_unmarked zones parts few = parts_from_on zones parts 0 (λ i e. let below = few i e in omega (arith, below))

  open_from : (zones : List ZoneValue) (at i : ℕ) → option_and_then (λ (zone : Option ZoneValue). zone) (slice_get (without_split is_split at zones) i) ≡ (if is_split (i + at) then None else slice_get zones i)
  open_from [] at i = none_either (is_split (i + at))
  open_from (z ∷ zs) at zero =
      let same : at ≡ zero + at = omega arith in
      by (is_split at) ∙ ap (λ n. if is_split n then None else Some z) same
    where
      by : (b : Bool) → option_and_then (λ (zone : Option ZoneValue). zone) (Some (if b then None else Some z)) ≡ (if b then None else Some z)
      by true = refl
      by false = refl
  open_from (z ∷ zs) at (suc i) =
      let same : i + (at + 1) ≡ suc i + at = omega arith in
      open_from zs (at + 1) i ∙ ap (λ n. if is_split n then None else slice_get zs i) same

  -- the zone at a place, where it was not split
  pub open_is : (zones : List ZoneValue) (i : ℕ) → option_and_then (λ (zone : Option ZoneValue). zone) (slice_get (without_split is_split 0 zones) i) ≡ (if is_split i then None else slice_get zones i)
  open_is zones i =
      let same : i + 0 ≡ i = omega arith in
      open_from zones 0 i ∙ ap (λ n. if is_split n then None else slice_get zones i) same

  as_many_from : (zones : List ZoneValue) (at : ℕ) → length (without_split is_split at zones) ≡ length zones
  as_many_from [] at = refl
  as_many_from (z ∷ zs) at = ap suc (as_many_from zs (at + 1))

  pub as_many : (zones : List ZoneValue) → length (without_split is_split 0 zones) ≡ length zones
  as_many zones = as_many_from zones 0

-- where none was split, each is there
none_split_from : (is_split : ℕ → Bool) → ((i : ℕ) → is_split i ≡ false) → (zones : List ZoneValue) (at : ℕ) → without_split is_split at zones ≡ map Some zones
none_split_from is_split none [] at = refl
none_split_from is_split none (z ∷ zs) at = ap₂ (λ (b : Bool) rest. (if b then None else Some z) ∷ rest) (none at) (none_split_from is_split none zs (at + 1))

pub none_split : (is_split : ℕ → Bool) (zones : List ZoneValue) → ((i : ℕ) → is_split i ≡ false) → without_split is_split 0 zones ≡ map Some zones
none_split is_split zones none = none_split_from is_split none zones 0
