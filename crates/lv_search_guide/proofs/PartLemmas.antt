-- A part whose slots no conflict joins to others, with its first member in place, keeps the first member of the whole.
use Rattle.std.proofs.Common.{◌≡◌, ℕ, ◌+◌, ◌≤◌, Bool, true, false, not, nat_lt, nat_eq, ◌&&◌, ◌||◌, List, [], ◌∷◌, length, map, Option, Some, None, refl, sym, ◌∙◌, ap, subst, arith}
use Rattle.std.specs.Prelude.{All}
use Rattle.std.specs.List.{list_all}
use Rattle.std.proofs.lemmas.Bool.{and_from, and_parts, or_right, or_parts, eq-eqb, false_from_ne_true, not-true}
use Rattle.lv_base.specs.declared.ids.Cost.{Cost}
use Rattle.lv_base.specs.declared.search.Pair.{Pair}
use Rattle.lv_base.specs.Choices.{contains_all}
use Rattle.lv_base.specs.Order.{comes_before}
use Rattle.lv_boxes.specs.Masks.{has_choice, only_choice}
use Rattle.lv_boxes.specs.Members.{IsSlot, is_left, are_left, choices_cost}
use Rattle.lv_boxes.proofs.MaskLemmas.{has_choice-only}
use Rattle.lv_boxes.specs.Walk.{is_ruled_out}
use Rattle.lv_search_parts.specs.Slots.{only, put_in, pair_in, is_inside, is_outside}
use Rattle.lv_search_parts.specs.Parts.{is_whole, inner_of, fixed, IsPart, IsLiveOf}
use Rattle.lv_search_guide.specs.declared.look.Member.{Member}
use Rattle.lv_search_bans.specs.Boxes.{is_free, CostsAtLeast, HasNone}
use Rattle.lv_search_guide.specs.Cheapest.{IsFirstUnder}
use Rattle.lv_search_guide.proofs.FreeLemmas.{none_above_all}
use Rattle.lv_search_guide.specs.Lowest.{IsLowest, LowestTells}
use Rattle.lv_search_guide.specs.First.{KeepsFirst}
use Rattle.lv_search_bans.proofs.BoxLemmas.{free_is_left, free_from, length-left}
use Rattle.lv_search_guide.proofs.SlotLemmas.{left_only, cost_put, contains_inside, contains_outside, order_put, put_own}
use Rattle.lv_search_guide.proofs.FirstLemmas.{StandsIn, keeps_by, keeps_itself}

clash : (b : Bool) → b ≡ true → b ≡ false → ⊥
clash b p q = cc

-- members of the box with choices fixed
fixed_inside : (rows : List (List Cost)) (marks : List Bool) (ys masks xs : List ℕ) → are_left rows (fixed marks ys masks) xs ≡ true → are_left rows masks xs ≡ true
fixed_inside rows [] ys masks xs h = h
fixed_inside rows (true ∷ marks) [] masks xs h = h
fixed_inside rows (true ∷ marks) (y ∷ ys) [] xs h = h
fixed_inside rows (false ∷ marks) ys [] xs h = h
fixed_inside [] (true ∷ marks) (y ∷ ys) (mask ∷ masks) xs h = absurd (cc h)
fixed_inside [] (false ∷ marks) ys (mask ∷ masks) xs h = absurd (cc h)
fixed_inside (row ∷ rows) (true ∷ marks) (y ∷ ys) (mask ∷ masks) [] h = absurd (cc h)
fixed_inside (row ∷ rows) (false ∷ marks) ys (mask ∷ masks) [] h = absurd (cc h)
fixed_inside (row ∷ rows) (true ∷ marks) (y ∷ ys) (mask ∷ masks) (x ∷ xs) h =
    let parts = and_parts (is_left row (only_choice mask y) x) (are_left rows (fixed marks ys masks) xs) h in
    let own = and_parts (nat_lt x (length row)) (has_choice (only_choice mask y) x) parts.0 in
    let has = and_parts (has_choice mask x) (nat_eq x y) (sym (has_choice-only mask y x) ∙ own.1) in
    and_from (is_left row mask x) (are_left rows masks xs) (and_from (nat_lt x (length row)) (has_choice mask x) own.0 has.0) (fixed_inside rows marks ys masks xs parts.1)
fixed_inside (row ∷ rows) (false ∷ marks) ys (mask ∷ masks) (x ∷ xs) h =
    let parts = and_parts (is_left row mask x) (are_left rows (fixed marks ys masks) xs) h in
    and_from (is_left row mask x) (are_left rows masks xs) parts.0 (fixed_inside rows marks ys masks xs parts.1)

fixed_put : (marks : List Bool) (slots : List (List Cost)) (masks ys xs : List ℕ) → length marks ≡ length slots → are_left slots masks xs ≡ true → are_left (only marks slots) (only marks masks) ys ≡ true
    → are_left slots (fixed marks ys masks) (put_in marks ys xs) ≡ true
fixed_put [] slots masks ys xs same h k = h
fixed_put (mark ∷ marks) [] masks ys xs same h k = absurd (omega (arith, same))
fixed_put (mark ∷ marks) (row ∷ slots) [] ys [] same h k = absurd (cc h)
fixed_put (mark ∷ marks) (row ∷ slots) [] ys (x ∷ xs) same h k = absurd (cc h)
fixed_put (mark ∷ marks) (row ∷ slots) (mask ∷ masks) ys [] same h k = absurd (cc h)
fixed_put (true ∷ marks) (row ∷ slots) (mask ∷ masks) [] (x ∷ xs) same h k = absurd (cc k)
fixed_put (true ∷ marks) (row ∷ slots) (mask ∷ masks) (y ∷ ys) (x ∷ xs) same h k =
    let outer = and_parts (is_left row mask x) (are_left slots masks xs) h in
    let inner = and_parts (is_left row mask y) (are_left (only marks slots) (only marks masks) ys) k in
    let own = and_parts (nat_lt y (length row)) (has_choice mask y) inner.0 in
    and_from (is_left row (only_choice mask y) y) (are_left slots (fixed marks ys masks) (put_in marks ys xs))
    (and_from (nat_lt y (length row)) (has_choice (only_choice mask y) y) own.0 (has_choice-only mask y y ∙ and_from (has_choice mask y) (nat_eq y y) own.1 (eq-eqb y y refl)))
    (fixed_put marks slots masks ys xs (omega (arith, same)) outer.1 inner.1)
fixed_put (false ∷ marks) (row ∷ slots) (mask ∷ masks) ys (x ∷ xs) same h k =
    let outer = and_parts (is_left row mask x) (are_left slots masks xs) h in
    and_from (is_left row mask x) (are_left slots (fixed marks ys masks) (put_in marks ys xs)) outer.0 (fixed_put marks slots masks ys xs (omega (arith, same)) outer.1 k)

-- conflicts inside and outside
ruled_cons : (k : List Pair) (ks : List (List Pair)) (xs : List ℕ) → contains_all xs k ≡ false → is_ruled_out ks xs ≡ false → is_ruled_out (k ∷ ks) xs ≡ false
ruled_cons k ks xs e f = λ i. e i || f i

inner_cons : (marks : List Bool) (k : List Pair) (ks : List (List Pair)) (ys : List ℕ) → is_inside marks k ≡ true → is_ruled_out (inner_of marks (k ∷ ks)) ys ≡ (contains_all ys (map (pair_in marks) k) || is_ruled_out (inner_of marks ks) ys)
inner_cons marks k ks ys inside = rw inside refl

inner_skip : (marks : List Bool) (k : List Pair) (ks : List (List Pair)) (ys : List ℕ) → is_inside marks k ≡ false → is_ruled_out (inner_of marks (k ∷ ks)) ys ≡ is_ruled_out (inner_of marks ks) ys
inner_skip marks k ks ys out = rw out refl

outside_from : (marks : List Bool) (k : List Pair) → is_whole marks k ≡ true → is_inside marks k ≡ false → is_outside marks k ≡ true
outside_from marks k whole out = let h : (false || is_outside marks k) ≡ true = rw out at whole in h

-- none that isn't inside is contained
abbrev pub clear_outside : List Bool → List ℕ → List Pair → Bool
clear_outside marks xs k = is_inside marks k || not (contains_all xs k)

pub clear_if_unruled : (marks : List Bool) (xs : List ℕ) (ks : List (List Pair)) → is_ruled_out ks xs ≡ false → list_all (clear_outside marks xs) ks ≡ true
clear_if_unruled marks xs [] outer = refl
clear_if_unruled marks xs (k ∷ ks) outer =
    let parts = or_parts (contains_all xs k) (is_ruled_out ks xs) outer in
    and_from (clear_outside marks xs k) (list_all (clear_outside marks xs) ks) (or_right (is_inside marks k) (not (contains_all xs k)) (ap not parts.0)) (clear_if_unruled marks xs ks parts.1)

pub unruled_put : (marks : List Bool) (ys xs : List ℕ) (ks : List (List Pair)) → length marks ≡ length xs → length ys ≡ length (only marks xs) → list_all (is_whole marks) ks ≡ true
    → is_ruled_out (inner_of marks ks) ys ≡ false → list_all (clear_outside marks xs) ks ≡ true → is_ruled_out ks (put_in marks ys xs) ≡ false
unruled_put marks ys xs [] same long whole inner outer = refl
unruled_put marks ys xs (k ∷ ks) same long whole inner outer =
    by (is_inside marks k) refl outers.0 (λ i. unruled_put marks ys xs ks same long wholes.1 i outers.1)
  where
    wholes : (is_whole marks k ≡ true) × (list_all (is_whole marks) ks ≡ true)
    wholes = and_parts (is_whole marks k) (list_all (is_whole marks) ks) whole

    outers : (clear_outside marks xs k ≡ true) × (list_all (clear_outside marks xs) ks ≡ true)
    outers = and_parts (clear_outside marks xs k) (list_all (clear_outside marks xs) ks) outer

    by : (b : Bool) → is_inside marks k ≡ b → (is_inside marks k || not (contains_all xs k)) ≡ true → (is_ruled_out (inner_of marks ks) ys ≡ false → is_ruled_out ks (put_in marks ys xs) ≡ false)
        → is_ruled_out (k ∷ ks) (put_in marks ys xs) ≡ false
    by true inside clear rest =
        let inners = or_parts (contains_all ys (map (pair_in marks) k)) (is_ruled_out (inner_of marks ks) ys) (sym (inner_cons marks k ks ys inside) ∙ inner) in
        ruled_cons k ks (put_in marks ys xs) (contains_inside marks ys xs k same long inside ∙ inners.0) (rest inners.1)
    by false out clear rest =
        let lacks : contains_all xs k ≡ false = not-true (contains_all xs k) (sym (ap (λ b. b || not (contains_all xs k)) out) ∙ clear) in
        ruled_cons k ks (put_in marks ys xs) (contains_outside marks ys xs k same long (outside_from marks k wholes.0 out) ∙ lacks) (rest (sym (inner_skip marks k ks ys out) ∙ inner))

pub unruled_only : (marks : List Bool) (xs : List ℕ) (ks : List (List Pair)) → length marks ≡ length xs → is_ruled_out ks xs ≡ false → is_ruled_out (inner_of marks ks) (only marks xs) ≡ false
unruled_only marks xs [] same outer = refl
unruled_only marks xs (k ∷ ks) same outer = by (is_inside marks k) refl (unruled_only marks xs ks same (or_parts (contains_all xs k) (is_ruled_out ks xs) outer).1)
  where
    outers : (contains_all xs k ≡ false) × (is_ruled_out ks xs ≡ false)
    outers = or_parts (contains_all xs k) (is_ruled_out ks xs) outer

    by : (b : Bool) → is_inside marks k ≡ b → is_ruled_out (inner_of marks ks) (only marks xs) ≡ false → is_ruled_out (inner_of marks (k ∷ ks)) (only marks xs) ≡ false
    by true inside rest =
        let own : contains_all (only marks xs) (map (pair_in marks) k) ≡ false =
        sym (contains_inside marks (only marks xs) xs k same refl inside) ∙ ap (λ vs. contains_all vs k) (put_own marks xs same) ∙ outers.0 in
        inner_cons marks k ks (only marks xs) inside ∙ (λ i. own i || rest i)
    by false out rest = inner_skip marks k ks (only marks xs) out ∙ rest

-- the first member of the part is what the first member of the whole has there
module _ (slots : List (List Cost)) (live : List (List Pair)) (masks : List ℕ) (marks : List Bool) (part : IsPart live (length slots) marks) where
  as_long : (xs : List ℕ) → are_left slots masks xs ≡ true → length marks ≡ length xs
  as_long xs h = part.long ∙ sym (length-left slots masks xs h)

  pub only_free : (xs : List ℕ) → is_free slots live masks xs ≡ true → is_free (only marks slots) (inner_of marks live) (only marks masks) (only marks xs) ≡ true
  only_free xs free =
      let parts = and_parts (are_left slots masks xs) (not (is_ruled_out live xs)) free in
      free_from (only marks slots) (inner_of marks live) (only marks masks) (only marks xs) (left_only marks slots masks xs part.long parts.0)
      (unruled_only marks xs live (as_long xs parts.0) (not-true (is_ruled_out live xs) parts.1))

  pub part_none : HasNone (only marks slots) (inner_of marks live) (only marks masks) → HasNone slots live masks
  part_none n = record { none = λ xs. false_from_ne_true (is_free slots live masks xs) (λ free. clash _ (only_free xs free) (n.none (only marks xs))) }

  pub part_keeps : (member : Member) → IsLowest (only marks slots) (inner_of marks live) (only marks masks) member → KeepsFirst slots live masks (fixed marks member.choices masks)
  part_keeps member y = keeps_by slots live masks (fixed marks ys masks) (λ rows xs h. fixed_inside rows marks ys masks xs h) stands
    where
      ys : List ℕ
      ys = member.choices

      y_left : are_left (only marks slots) (only marks masks) ys ≡ true
      y_left = free_is_left (only marks slots) (inner_of marks live) (only marks masks) ys y.cheapest.free

      y_free : is_ruled_out (inner_of marks live) ys ≡ false
      y_free = not-true _ (and_parts (are_left (only marks slots) (only marks masks) ys) (not (is_ruled_out (inner_of marks live) ys)) y.cheapest.free).1

      stands : (xs : List ℕ) → is_free slots live masks xs ≡ true → StandsIn slots live (fixed marks ys masks) xs
      stands xs free =
          record {
            other = put_in marks ys xs;
            free = free_from slots live (fixed marks ys masks) (put_in marks ys xs) (fixed_put marks slots masks ys xs part.long x_left y_left)
                (unruled_put marks ys xs live (as_long xs x_left) long part.whole y_free (clear_if_unruled marks xs live (not-true (is_ruled_out live xs) parts.1)));
            cheap = omega (arith, sums, low);
            order = λ same. false_from_ne_true (comes_before xs (put_in marks ys xs)) (λ h.
                clash (comes_before (only marks xs) ys)
                (order_put marks (only marks xs) ys xs (as_long xs x_left) refl long (subst (λ vs. comes_before vs (put_in marks ys xs) ≡ true) (sym (put_own marks xs (as_long xs x_left))) h))
                (y.first (only marks xs) (only_free xs free) (omega (arith, same, sums, costs))));
          }
        where
          parts : (are_left slots masks xs ≡ true) × (not (is_ruled_out live xs) ≡ true)
          parts = and_parts (are_left slots masks xs) (not (is_ruled_out live xs)) free

          x_left : are_left slots masks xs ≡ true
          x_left = parts.0

          long : length ys ≡ length (only marks xs)
          long = length-left (only marks slots) (only marks masks) ys y_left ∙ sym (length-left (only marks slots) (only marks masks) (only marks xs) (left_only marks slots masks xs part.long x_left))

          costs : choices_cost (only marks slots) ys ≡ member.cost
          costs = y.cheapest.costs

          sums : choices_cost slots (put_in marks ys xs) + choices_cost (only marks slots) (only marks xs) ≡ choices_cost slots xs + choices_cost (only marks slots) ys
          sums = cost_put marks slots masks ys xs part.long x_left y_left

          low : choices_cost (only marks slots) ys ≤ choices_cost (only marks slots) (only marks xs)
          low = let least : member.cost ≤ choices_cost (only marks slots) (only marks xs) = y.cheapest.least.least (only marks xs) (only_free xs free) in omega (arith, least, costs)

-- the same members are free under what is left of the conflicts
pub live_free : (slots : List (List Cost)) (conflicts live : List (List Pair)) (masks xs : List ℕ) → IsLiveOf conflicts masks live → is_free slots live masks xs ≡ is_free slots conflicts masks xs
live_free slots conflicts live masks xs l = go (are_left slots masks xs) refl
  where
    go : (b : Bool) → are_left slots masks xs ≡ b → (b && not (is_ruled_out live xs)) ≡ (b && not (is_ruled_out conflicts xs))
    go true left = ap not (l.same slots xs left)
    go false left = refl

pub live_lowest : (slots : List (List Cost)) (conflicts live : List (List Pair)) (masks : List ℕ) (answer : Option Member) → IsLiveOf conflicts masks live → LowestTells slots live masks answer → LowestTells slots conflicts masks answer
live_lowest slots conflicts live masks answer l = by answer
  where
    same : (xs : List ℕ) → is_free slots live masks xs ≡ is_free slots conflicts masks xs
    same xs = live_free slots conflicts live masks xs l

    by : (answer : Option Member) → LowestTells slots live masks answer → LowestTells slots conflicts masks answer
    by None t = record { none = λ xs. sym (same xs) ∙ t.none xs }
    by (Some member) t =
        record {
          cheapest = record {
            free = sym (same member.choices) ∙ t.cheapest.free;
            costs = t.cheapest.costs;
            least = record { least = λ xs free. t.cheapest.least.least xs (same xs ∙ free) };
          };
          first = λ xs free even. t.first xs (same xs ∙ free) even;
        }

pub live_lowest_of : (slots : List (List Cost)) (conflicts live then : List (List Pair)) (masks read : List ℕ) (answer : Option Member) → read ≡ masks → then ≡ live → IsLiveOf conflicts read live → LowestTells slots then masks answer
    → LowestTells slots conflicts masks answer
live_lowest_of slots conflicts live then masks read answer read_is then_is l t =
    live_lowest slots conflicts live masks answer (subst (λ (ms : List ℕ). IsLiveOf conflicts ms live) read_is l) (subst (λ (ks : List (List Pair)). LowestTells slots ks masks answer) then_is t)

pub part_lowest : (slots part : List (List Cost)) (conflicts live then : List (List Pair)) (marks : List Bool) (masks words read : List ℕ) (answer : Option Member) → part ≡ only marks slots → words ≡ only marks masks
    → read ≡ only marks masks → then ≡ live → IsLiveOf (inner_of marks conflicts) words live → LowestTells part then read answer → LowestTells (only marks slots) (inner_of marks conflicts) (only marks masks) answer
part_lowest slots part conflicts live then marks masks words read answer part_is words_are read_is then_is l t =
    live_lowest_of (only marks slots) (inner_of marks conflicts) live then (only marks masks) words answer words_are then_is l
    (subst (λ (ms : List ℕ). LowestTells (only marks slots) then ms answer) read_is (subst (λ (rows : List (List Cost)). LowestTells rows then read answer) part_is t))

-- a part settled
pub settles_fixed : (slots : List (List Cost)) (live : List (List Pair)) (masks : List ℕ) (marks : List Bool) (member : Member) (read ys new : List ℕ) → IsPart live (length slots) marks
    → IsLowest (only marks slots) (inner_of marks live) (only marks masks) member → read ≡ masks → ys ≡ member.choices → new ≡ fixed marks ys read → KeepsFirst slots live masks new
settles_fixed slots live masks marks member read ys new part y read_is ys_is new_is =
    subst (λ (ms : List ℕ). KeepsFirst slots live masks ms) (sym (new_is ∙ (λ i. fixed marks (ys_is i) (read_is i)))) (part_keeps slots live masks marks part member y)

pub settles_not : (slots : List (List Cost)) (live : List (List Pair)) (masks read new : List ℕ) → read ≡ masks → new ≡ read → KeepsFirst slots live masks new
settles_not slots live masks read new read_is new_is = subst (λ (ms : List ℕ). KeepsFirst slots live masks ms) (sym (new_is ∙ read_is)) (keeps_itself slots live masks)

-- what is told of a box that keeps the first member
pub keeps_none : (slots : List (List Cost)) (conflicts : List (List Pair)) (old new : List ℕ) → KeepsFirst slots conflicts old new → HasNone slots conflicts new → HasNone slots conflicts old
keeps_none slots conflicts old new k n = k.first None n

pub keeps_dear : (slots : List (List Cost)) (conflicts : List (List Pair)) (old new : List ℕ) → length slots ≤ 4096 → All IsSlot slots → KeepsFirst slots conflicts old new → CostsAtLeast slots conflicts new 4096000001
    → HasNone slots conflicts old
keeps_dear slots conflicts old new few each k low = k.first None (none_above_all slots conflicts new few each low)

pub keeps_found : (slots : List (List Cost)) (conflicts : List (List Pair)) (old new : List ℕ) (under : ℕ) (member : Member) → KeepsFirst slots conflicts old new → IsFirstUnder slots conflicts new under member
    → IsLowest slots conflicts old member
keeps_found slots conflicts old new under member k f = k.first (Some member) (record { cheapest = f.found.cheapest; first = f.first })

pub keeps_answer : (slots : List (List Cost)) (conflicts : List (List Pair)) (old new : List ℕ) (answer : Option Member) → KeepsFirst slots conflicts old new → LowestTells slots conflicts new answer
    → LowestTells slots conflicts old answer
keeps_answer slots conflicts old new answer k t = k.first answer t
