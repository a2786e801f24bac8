-- The first member of a zone near one that was the first of a zone which has all its choices: the part that is no longer as it was is
-- settled anew, and the other slots keep their choices.
use Rattle.std.proofs.Common.{◌≡◌, ℕ, Option, Some, None, suc, ◌+◌, ◌<◌, ◌≤◌, Bool, true, false, not, nat_lt, nat_eq, ◌&&◌, ◌||◌, List, [], ◌∷◌, ◌++◌, length, filter, cond, drop, drop-cons, get_or, ◌⊎◌, inl, inr, refl, sym, ◌∙◌, ap, ap₂, subst, add-one, arith}
use Rattle.std.specs.Prelude.{slice_index}
use Rattle.std.specs.List.{list_all, list_any}
use Rattle.std.proofs.lemmas.Bool.{and_from, and_parts, or_left, or_right, or_parts, or_cases, eq-eqb, eqb-true, lt-ltb, ltb-false, false_from_ne_true, not-true}
use Rattle.std.proofs.lemmas.List.{append_assoc}
use Rattle.std.proofs.lemmas.List.Folds.{list_all-append}
use Rattle.lv_base.specs.declared.ids.Cost.{Cost}
use Rattle.lv_base.specs.declared.rank.Rank.{Rank}
use Rattle.lv_base.specs.declared.search.Pair.{Pair}
use Rattle.lv_base.specs.Choices.{contains_all}
use Rattle.lv_base.specs.Order.{comes_before}
use Rattle.lv_base.specs.Rank.{ranks_before}
use Rattle.lv_boxes.specs.Laws.{pairs_from, pairs_of}
use Rattle.lv_boxes.specs.Masks.{has_choice}
use Rattle.lv_boxes.proofs.MemberLemmas.{length-are_left}
use Rattle.lv_boxes.specs.Members.{ZoneValue, is_left, are_left, choice_cost, choices_cost, rank_in}
use Rattle.lv_boxes.specs.Walk.{candidate_of, is_ruled_out}
use Rattle.lv_search_parts.specs.Slots.{only, put_in, is_marked, is_inside}
use Rattle.lv_search_parts.specs.Parts.{is_there, is_whole, inner_of, IsPartWith}
use Rattle.lv_search_guide.specs.declared.look.Member.{Member}
use Rattle.lv_search_bans.specs.Boxes.{is_free, HasNone}
use Rattle.lv_search_guide.specs.Lowest.{IsLowest}
use Rattle.lv_search_guide.specs.Free.{is_free_member, IsLeastFree, HasNoFree, LeastFreeTells}
use Rattle.lv_search_bans.specs.Narrow.{HasNoneBy}
use Rattle.lv_guide.specs.Narrowed.{IsNarrowed}
use Rattle.lv_base.specs.declared.search.Candidate.{Candidate}
use Rattle.lv_guide.specs.Near.{IsFirstNear, contained_pairs, lost_pairs, unsettled}
use Rattle.lv_search_bans.proofs.BoxLemmas.{free_is_left, free_from, length-left, none_of_zero}
use Rattle.lv_search_guide.proofs.FreeLemmas.{free_in_box, free_in_zone, lowest_is_least, none_free}
use Rattle.lv_search_guide.proofs.PartLemmas.{clear_outside, clear_if_unruled, unruled_put, unruled_only, only_free, part_none}
use Rattle.lv_search_bans.proofs.NarrowLemmas.{lt_suc}
use Rattle.lv_search_guide.proofs.SlotLemmas.{kept_outside, kept_if_left, left_only, left_put, cost_put, only_put, order_both}

clash : (b : Bool) → b ≡ true → b ≡ false → ⊥
clash b p q = cc

-- a box that lacks all choices at some slot has no member
empty_none : (slots : List (List Cost)) (masks xs : List ℕ) → list_any (λ mask. nat_eq mask 0) masks ≡ true → are_left slots masks xs ≡ false
empty_none slots masks xs empty = false_from_ne_true (are_left slots masks xs) (λ left. not_left slots masks xs empty left)
  where
    not_left : (slots : List (List Cost)) (masks xs : List ℕ) → list_any (λ mask. nat_eq mask 0) masks ≡ true → are_left slots masks xs ≡ true → ⊥
    not_left slots [] xs empty left = absurd (cc empty)
    not_left [] (mask ∷ masks) [] empty left = absurd (cc left)
    not_left [] (mask ∷ masks) (x ∷ xs) empty left = absurd (cc left)
    not_left (row ∷ slots) (mask ∷ masks) [] empty left = absurd (cc left)
    not_left (row ∷ slots) (mask ∷ masks) (x ∷ xs) empty left =
        let parts = and_parts (is_left row mask x) (are_left slots masks xs) left in
        let own = and_parts (nat_lt x (length row)) (has_choice mask x) parts.0 in
        by own.1 (or_cases (nat_eq mask 0) (list_any (λ m. nat_eq m 0) masks) empty) (λ later. not_left slots masks xs later parts.1)
      where
        by : has_choice mask x ≡ true → (nat_eq mask 0 ≡ true) ⊎ (list_any (λ m. nat_eq m 0) masks ≡ true) → (list_any (λ m. nat_eq m 0) masks ≡ true → ⊥) → ⊥
        by has (inl here) rest = let is : mask ≡ 0 = eqb-true mask 0 here in clash (has_choice 0 x) (subst (λ m. has_choice m x ≡ true) is has) (none_of_zero x)
        by has (inr later) rest = rest later

pub none_if_empty : (slots : List (List Cost)) (zone : ZoneValue) (conflicts : List (List Pair)) → list_any (λ mask. nat_eq mask 0) zone.masks ≡ true → HasNoFree slots zone conflicts
none_if_empty slots zone conflicts empty =
    none_free slots zone conflicts (record { none = λ xs. ap (λ b. b && not (is_ruled_out conflicts xs)) (empty_none slots zone.masks xs empty) })

-- what is found of the pairs that are unsettled
contained_first : (found made : List Pair) (choices : List ℕ) (k : List Pair) (ks : List (List Pair)) → made ≡ cond (contains_all choices k) (found ++ k) found
    → made ++ contained_pairs choices ks ≡ found ++ contained_pairs choices (k ∷ ks)
contained_first found made choices k ks is = ap (λ ps. ps ++ contained_pairs choices ks) is ∙ by (contains_all choices k)
  where
    by : (b : Bool) → cond b (found ++ k) found ++ contained_pairs choices ks ≡ found ++ cond b (k ++ contained_pairs choices ks) (contained_pairs choices ks)
    by true = append_assoc found k (contained_pairs choices ks)
    by false = refl

pub contained_more : (found made whole : List Pair) (choices : List ℕ) (conflicts : List (List Pair)) (i : ℕ) (k d : List Pair) → i < length conflicts → k ≡ get_or conflicts i d
    → made ≡ cond (contains_all choices k) (found ++ k) found → found ++ contained_pairs choices (drop i conflicts) ≡ whole → made ++ contained_pairs choices (drop (i + 1) conflicts) ≡ whole
contained_more found made whole choices conflicts i k d within k_is made_is all =
    ap (λ n. made ++ contained_pairs choices (drop n conflicts)) (add-one i)
    ∙ contained_first found made choices k (drop (suc i) conflicts) made_is
    ∙ ap (λ ks. found ++ contained_pairs choices ks) (sym (drop-cons conflicts i d within ∙ ap (λ j. j ∷ drop (suc i) conflicts) (sym k_is)))
    ∙ all

-- of each slot that isn't marked the box has the choice, where the choices that it lacks are at slots that are marked
abbrev kept_at : List Bool → List ℕ → Pair → Bool
kept_at marks masks p = is_marked marks p.slot || is_there masks p

kept_if_inside : (marks : List Bool) (masks : List ℕ) (pairs : List Pair) → is_inside marks (filter (λ p. not (is_there masks p)) pairs) ≡ true → list_all (kept_at marks masks) pairs ≡ true
kept_if_inside marks masks [] inside = refl
kept_if_inside marks masks (p ∷ ps) inside = by (is_there masks p) refl inside (kept_if_inside marks masks ps)
  where
    lost : List Pair
    lost = filter (λ q. not (is_there masks q)) ps

    by : (b : Bool) → is_there masks p ≡ b → is_inside marks (cond (not b) (p ∷ lost) lost) ≡ true → (is_inside marks lost ≡ true → list_all (kept_at marks masks) ps ≡ true)
        → list_all (kept_at marks masks) (p ∷ ps) ≡ true
    by true here h rest = and_from (kept_at marks masks p) (list_all (kept_at marks masks) ps) (or_right (is_marked marks p.slot) (is_there masks p) here) (rest h)
    by false gone h rest =
        let parts = and_parts (is_marked marks p.slot) (is_inside marks lost) h in
        and_from (kept_at marks masks p) (list_all (kept_at marks masks) ps) (or_left (is_marked marks p.slot) (is_there masks p) parts.0) (rest parts.1)

kept_shift : (mark : Bool) (marks : List Bool) (mask : ℕ) (masks : List ℕ) (n : ℕ) (xs : List ℕ) → list_all (kept_at (mark ∷ marks) (mask ∷ masks)) (pairs_from (suc n) xs) ≡ list_all (kept_at marks masks) (pairs_from n xs)
kept_shift mark marks mask masks n [] = refl
kept_shift mark marks mask masks n (x ∷ xs) =
    let next_slot : suc n + 1 ≡ suc (n + 1) = omega arith in
    ap₂ (λ (a b : Bool). a && b) (ap (λ b. is_marked marks n || (b && has_choice (slice_index masks n) x)) (lt_suc n (length masks)))
    (ap (λ m. list_all (kept_at (mark ∷ marks) (mask ∷ masks)) (pairs_from m xs)) next_slot ∙ kept_shift mark marks mask masks (n + 1) xs)

kept_from : (marks : List Bool) (masks xs : List ℕ) → list_all (kept_at marks masks) (pairs_of xs) ≡ true → kept_outside marks masks xs ≡ true
kept_from [] masks xs h = refl
kept_from (mark ∷ marks) [] xs h = refl
kept_from (mark ∷ marks) (mask ∷ masks) [] h = refl
kept_from (mark ∷ marks) (mask ∷ masks) (x ∷ xs) h =
    let parts = and_parts (kept_at (mark ∷ marks) (mask ∷ masks) (record { slot = 0; choice = x })) (list_all (kept_at (mark ∷ marks) (mask ∷ masks)) (pairs_from (suc 0) xs)) h in
    and_from (mark || has_choice mask x) (kept_outside marks masks xs)
    (sym (ap (λ b. mark || (b && has_choice mask x)) (lt-ltb 0 (length (mask ∷ masks)) (omega arith))) ∙ parts.0)
    (kept_from marks masks xs (sym (kept_shift mark marks mask masks 0 xs) ∙ parts.1))

-- no conflict outside is contained, where those contained are inside
clear_if_inside : (marks : List Bool) (xs : List ℕ) (ks : List (List Pair)) → is_inside marks (contained_pairs xs ks) ≡ true → list_all (clear_outside marks xs) ks ≡ true
clear_if_inside marks xs [] inside = refl
clear_if_inside marks xs (k ∷ ks) inside = by (contains_all xs k) refl inside (clear_if_inside marks xs ks)
  where
    others : List Pair
    others = contained_pairs xs ks

    by : (b : Bool) → contains_all xs k ≡ b → is_inside marks (cond b (k ++ others) others) ≡ true → (is_inside marks others ≡ true → list_all (clear_outside marks xs) ks ≡ true)
        → list_all (clear_outside marks xs) (k ∷ ks) ≡ true
    by true has h rest =
        let parts = and_parts (is_inside marks k) (is_inside marks others) (sym (list_all-append (λ (p : Pair). is_marked marks p.slot) k others) ∙ h) in
        and_from (clear_outside marks xs k) (list_all (clear_outside marks xs) ks) (or_left (is_inside marks k) (not (contains_all xs k)) parts.0) (rest parts.1)
    by false lacks h rest = and_from (clear_outside marks xs k) (list_all (clear_outside marks xs) ks) (or_right (is_inside marks k) (not (contains_all xs k)) (ap not lacks)) (rest h)

-- the member of least rank among the free is the lowest of the box
pub least_is_lowest : (slots : List (List Cost)) (zone : ZoneValue) (conflicts : List (List Pair)) (rank : Rank) → IsLeastFree slots zone conflicts rank
    → IsLowest slots conflicts zone.masks (record { cost = choices_cost slots rank.choices; choices = rank.choices })
least_is_lowest slots zone conflicts rank l =
    record {
      cheapest = record {
        free = free_in_box slots zone conflicts (candidate_of rank) l.member;
        costs = refl;
        least = record { least = λ xs free. let cheap : zone.base.0 + choices_cost slots rank.choices ≤ zone.base.0 + choices_cost slots xs = ltb-false _ _ (later xs free).0 in omega (arith, cheap) };
      };
      first = λ xs free same. false_from_ne_true (comes_before xs rank.choices) (λ before.
          clash (nat_eq (cost xs) (cost rank.choices) && (nat_lt zone.source zone.source || nat_eq zone.source zone.source && comes_before xs rank.choices))
          (and_from (nat_eq (cost xs) (cost rank.choices)) (nat_lt zone.source zone.source || nat_eq zone.source zone.source && comes_before xs rank.choices) (eq-eqb (cost xs) (cost rank.choices) (ap (λ n. zone.base.0 + n) same))
          (or_right (nat_lt zone.source zone.source) (nat_eq zone.source zone.source && comes_before xs rank.choices)
          (and_from (nat_eq zone.source zone.source) (comes_before xs rank.choices) (eq-eqb zone.source zone.source refl) before)))
          (later xs free).1);
    }
  where
    cost : List ℕ → ℕ
    cost xs = zone.base.0 + choices_cost slots xs

    later : (xs : List ℕ) → is_free slots conflicts zone.masks xs ≡ true
        → (nat_lt (zone.base.0 + choices_cost slots xs) (zone.base.0 + choices_cost slots rank.choices) ≡ false)
        × ((nat_eq (zone.base.0 + choices_cost slots xs) (zone.base.0 + choices_cost slots rank.choices) && (nat_lt zone.source zone.source || nat_eq zone.source zone.source && comes_before xs rank.choices)) ≡ false)
    later xs free =
        or_parts _ _
        (ap (λ (r : Rank). ranks_before (rank_in slots zone xs) r) (sym l.is) ∙ l.first (record { source = zone.source; choices = xs }) (free_in_zone slots zone conflicts xs free))

pub long_near : (slots : List (List Cost)) (zone : ZoneValue) (conflicts : List (List Pair)) (near : Rank) → IsFirstNear slots zone conflicts near → length near.choices ≡ length slots
long_near slots zone conflicts near was =
    length-left slots was.whole.masks near.choices (free_is_left slots was.others was.whole.masks near.choices (free_in_box slots was.whole was.others (candidate_of near) was.first.member))

-- a zone that has all choices of this one, with its first member by conflicts that don't join slots which are marked to others; outside, a member that
-- contains none of these conflicts contains none of those
pub record IsApart (slots : List (List Cost)) (zone : ZoneValue) (conflicts : List (List Pair)) (marks : List Bool) (near : Rank) : Type 0 where
  pub whole : ZoneValue
  pub inside : (choices : List ℕ) → are_left slots zone.masks choices ≡ true → are_left slots whole.masks choices ≡ true
  pub others : List (List Pair)
  pub first : IsLeastFree slots whole others near
  pub wholes : list_all (is_whole marks) others ≡ true
  pub clear : (choices : List ℕ) → is_ruled_out conflicts choices ≡ false → list_all (clear_outside marks choices) others ≡ true

pub apart_near : (slots : List (List Cost)) (zone : ZoneValue) (conflicts : List (List Pair)) (near : Rank) (marks : List Bool) → IsFirstNear slots zone conflicts near → list_all (is_whole marks) conflicts ≡ true
    → IsApart slots zone conflicts marks near
apart_near slots zone conflicts near marks was wholes =
    record {
      whole = was.whole;
      inside = was.inside;
      others = was.others;
      first = was.first;
      wholes = was.among.each (is_whole marks) wholes;
      clear = λ choices out. was.among.each (clear_outside marks choices) (clear_if_unruled marks choices conflicts out);
    }

-- the part settled anew, put into what was the first
module _ (slots : List (List Cost)) (zone : ZoneValue) (conflicts : List (List Pair)) (near : Rank) (marks : List Bool) (was : IsApart slots zone conflicts marks near)
    (part : IsPartWith conflicts (length slots) (unsettled zone.masks conflicts near.choices) marks) (long : length marks ≡ length zone.masks) where
  abbrev zs : List ℕ
  zs = near.choices

  abbrev wide : List ℕ
  wide = was.whole.masks

  abbrev inner : List (List Pair)
  inner = inner_of marks conflicts

  abbrev same : length marks ≡ length slots
  same = part.part.long

  z : IsLowest slots was.others wide (record { cost = choices_cost slots zs; choices = zs })
  z = least_is_lowest slots was.whole was.others near was.first

  z_left : are_left slots wide zs ≡ true
  z_left = free_is_left slots was.others wide zs z.cheapest.free

  z_out : is_ruled_out was.others zs ≡ false
  z_out = not-true (is_ruled_out was.others zs) (and_parts (are_left slots wide zs) (not (is_ruled_out was.others zs)) z.cheapest.free).1

  settled : (is_inside marks (lost_pairs zone.masks zs) ≡ true) × (is_inside marks (contained_pairs zs conflicts) ≡ true)
  settled =
      and_parts (is_inside marks (lost_pairs zone.masks zs)) (is_inside marks (contained_pairs zs conflicts))
      (sym (list_all-append (λ (p : Pair). is_marked marks p.slot) (lost_pairs zone.masks zs) (contained_pairs zs conflicts)) ∙ part.inside)

  kept : kept_outside marks zone.masks zs ≡ true
  kept = kept_from marks zone.masks zs (kept_if_inside marks zone.masks (pairs_of zs) settled.0)

  as_long : (masks xs : List ℕ) → are_left slots masks xs ≡ true → length marks ≡ length xs
  as_long masks xs h = same ∙ sym (length-left slots masks xs h)

  part_long : (masks xs : List ℕ) → are_left slots masks xs ≡ true → (others ys : List ℕ) → are_left (only marks slots) (only marks others) ys ≡ true → length ys ≡ length (only marks xs)
  part_long masks xs h others ys k =
      length-left (only marks slots) (only marks others) ys k ∙ sym (length-left (only marks slots) (only marks masks) (only marks xs) (left_only marks slots masks xs same h))

  pub none_anew : HasNone (only marks slots) (inner_of marks conflicts) (only marks zone.masks) → HasNoFree slots zone conflicts
  none_anew none = none_free slots zone conflicts (part_none slots conflicts zone.masks marks part.part none)

  module _ (one : Member) (y : IsLowest (only marks slots) inner (only marks zone.masks) one) where
    abbrev ys : List ℕ
    ys = one.choices

    abbrev put : List ℕ
    put = put_in marks ys zs

    y_left : are_left (only marks slots) (only marks zone.masks) ys ≡ true
    y_left = free_is_left (only marks slots) inner (only marks zone.masks) ys y.cheapest.free

    y_out : is_ruled_out inner ys ≡ false
    y_out = not-true (is_ruled_out inner ys) (and_parts (are_left (only marks slots) (only marks zone.masks) ys) (not (is_ruled_out inner ys)) y.cheapest.free).1

    y_long : length ys ≡ length (only marks zs)
    y_long = part_long wide zs z_left zone.masks ys y_left

    put_left : are_left slots zone.masks put ≡ true
    put_left = left_put marks slots zone.masks wide ys zs same (sym long ∙ same) (length-left slots wide zs z_left) z_left kept y_left

    put_free : is_free slots conflicts zone.masks put ≡ true
    put_free =
        free_from slots conflicts zone.masks put put_left
        (unruled_put marks ys zs conflicts (as_long wide zs z_left) y_long part.part.whole y_out (clear_if_inside marks zs conflicts settled.1))

    y_wide : are_left (only marks slots) (only marks wide) ys ≡ true
    y_wide =
        subst (λ vs. are_left (only marks slots) (only marks wide) vs ≡ true) (only_put marks ys zs (as_long wide zs z_left) y_long)
        (left_only marks slots wide put same (was.inside put put_left))

    put_cost : choices_cost slots put + choices_cost (only marks slots) (only marks zs) ≡ choices_cost slots zs + one.cost
    put_cost =
        let sums = cost_put marks slots wide ys zs same z_left y_wide in
        let costs = y.cheapest.costs in
        omega (arith, sums, costs)

    -- another member, its part, and the rest of it with the part that was the first
    module _ (ws : List ℕ) (free : is_free slots conflicts zone.masks ws ≡ true) where
      w_left : are_left slots zone.masks ws ≡ true
      w_left = free_is_left slots conflicts zone.masks ws free

      w_wide : are_left slots wide ws ≡ true
      w_wide = was.inside ws w_left

      w_out : is_ruled_out conflicts ws ≡ false
      w_out = not-true (is_ruled_out conflicts ws) (and_parts (are_left slots zone.masks ws) (not (is_ruled_out conflicts ws)) free).1

      part_free : is_free (only marks slots) inner (only marks zone.masks) (only marks ws) ≡ true
      part_free = only_free slots conflicts zone.masks marks part.part ws free

      z_part : are_left (only marks slots) (only marks wide) (only marks zs) ≡ true
      z_part = left_only marks slots wide zs same z_left

      abbrev rest : List ℕ
      rest = put_in marks (only marks zs) ws

      rest_free : is_free slots was.others wide rest ≡ true
      rest_free =
          free_from slots was.others wide rest
          (left_put marks slots wide wide (only marks zs) ws same (sym length-wide ∙ length-left slots wide zs z_left) (length-left slots wide ws w_wide) w_wide (kept_if_left marks slots wide ws w_wide) z_part)
          (unruled_put marks (only marks zs) ws was.others (as_long wide ws w_wide) (part_long wide ws w_wide wide (only marks zs) z_part) was.wholes
          (unruled_only marks zs was.others (as_long wide zs z_left) z_out) (was.clear ws w_out))
        where
          length-wide : length zs ≡ length wide
          length-wide = length-are_left slots wide zs z_left

      rest_cost : choices_cost slots rest + choices_cost (only marks slots) (only marks ws) ≡ choices_cost slots ws + choices_cost (only marks slots) (only marks zs)
      rest_cost = cost_put marks slots wide (only marks zs) ws same w_wide z_part

      at_least : choices_cost slots put ≤ choices_cost slots ws
      at_least =
          let a : one.cost ≤ choices_cost (only marks slots) (only marks ws) = y.cheapest.least.least (only marks ws) part_free in
          let b : choices_cost slots zs ≤ choices_cost slots rest = z.cheapest.least.least rest rest_free in
          let c = put_cost in
          let d = rest_cost in
          omega (arith, a, b, c, d)

      in_order : choices_cost slots ws ≡ choices_cost slots put → comes_before ws put ≡ false
      in_order even =
          let a : one.cost ≤ choices_cost (only marks slots) (only marks ws) = y.cheapest.least.least (only marks ws) part_free in
          let b : choices_cost slots zs ≤ choices_cost slots rest = z.cheapest.least.least rest rest_free in
          let c = put_cost in
          let d = rest_cost in
          let e : choices_cost (only marks slots) (only marks ws) ≡ one.cost = omega (arith, even, a, b, c, d) in
          let f : choices_cost slots rest ≡ choices_cost slots zs = omega (arith, even, a, b, c, d) in
          false_from_ne_true (comes_before ws put) (λ h.
          never (y.first (only marks ws) part_free e) (z.first rest rest_free f)
          (order_both marks ws ys zs (as_long zone.masks ws w_left) (sym (as_long zone.masks ws w_left) ∙ as_long wide zs z_left) y_long h))
        where
          never : comes_before (only marks ws) ys ≡ false → comes_before rest zs ≡ false → (comes_before (only marks ws) ys ≡ true) ⊎ (comes_before rest zs ≡ true) → ⊥
          never p q (inl h) = clash (comes_before (only marks ws) ys) h p
          never p q (inr h) = clash (comes_before rest zs) h q

    lowest_anew : IsLowest slots conflicts zone.masks (record { cost = choices_cost slots put; choices = put })
    lowest_anew =
        record {
          cheapest = record { free = put_free; costs = refl; least = record { least = at_least } };
          first = in_order;
        }

    pub first_anew : (choices : List ℕ) → choices ≡ put_in marks one.choices near.choices → (made : Member) → made ≡ record { cost = choices_cost slots choices; choices = choices }
        → (rank : Rank) → rank ≡ record { cost = record { 0 = zone.base.0 + made.cost }; source = zone.source; choices = made.choices } → IsLeastFree slots zone conflicts rank
    first_anew choices choices_are made made_is rank is =
        lowest_is_least slots zone conflicts made rank
        (subst (λ (m : Member). IsLowest slots conflicts zone.masks m)
        (sym (made_is ∙ ap (λ (xs : List ℕ). record { cost = choices_cost slots xs; choices = xs }) choices_are)) lowest_anew)
        is

-- the costs summed up so far and those to come
pub cost_next : (slots : List (List Cost)) (choices : List ℕ) (i : ℕ) (d : List Cost) (e : ℕ) → i + 1 ≤ length slots → i + 1 ≤ length choices
    → choices_cost (drop i slots) (drop i choices) ≡ choice_cost (get_or slots i d) (get_or choices i e) + choices_cost (drop (i + 1) slots) (drop (i + 1) choices)
cost_next slots choices i d e within within_too =
    ap₂ choices_cost (drop-cons slots i d (omega (arith, within))) (drop-cons choices i e (omega (arith, within_too)))
    ∙ ap (λ n. choice_cost (get_or slots i d) (get_or choices i e) + choices_cost (drop n slots) (drop n choices)) (sym (add-one i))

-- what is told of the zone with fewer choices
pub near_less : (slots : List (List Cost)) (zone less : ZoneValue) (conflicts : List (List Pair)) (near : Rank) → IsNarrowed zone conflicts less → IsFirstNear slots zone conflicts near → IsFirstNear slots less conflicts near
near_less slots zone less conflicts near narrowed was =
    record { whole = was.whole; inside = λ choices left. was.inside choices (narrowed.masks.inside slots choices left); others = was.others; among = was.among; first = was.first }

pub none_narrowed : (slots : List (List Cost)) (zone : ZoneValue) (conflicts : List (List Pair)) → HasNoneBy conflicts zone.masks → HasNoFree slots zone conflicts
none_narrowed slots zone conflicts none = none_free slots zone conflicts (none.none slots)

pub none_less : (slots : List (List Cost)) (zone less : ZoneValue) (conflicts : List (List Pair)) → IsNarrowed zone conflicts less → HasNoFree slots less conflicts → HasNoFree slots zone conflicts
none_less slots zone less conflicts narrowed none =
    none_free slots zone conflicts
    (record {
      none = λ xs.
          sym (narrowed.masks.same slots xs)
          ∙ false_from_ne_true (is_free slots conflicts less.masks xs) (λ free. clash _ (free_in_zone slots less conflicts xs free) (none.none (record { source = less.source; choices = xs })));
    })

pub least_less : (slots : List (List Cost)) (zone less : ZoneValue) (conflicts : List (List Pair)) (least : Option Rank) → IsNarrowed zone conflicts less → LeastFreeTells slots less conflicts least → LeastFreeTells slots zone conflicts least
least_less slots zone less conflicts None narrowed none = none_less slots zone less conflicts narrowed none
least_less slots zone less conflicts (Some rank) narrowed first = record { member = member; is = first.is ∙ same_rank rank.choices; first = λ other free. sym (ap (λ (r : Rank). ranks_before r rank) (same_rank other.choices)) ∙ first.first (record other { source = less.source }) (in_less other free) }
  where
    same_rank : (xs : List ℕ) → rank_in slots less xs ≡ rank_in slots zone xs
    same_rank xs = λ i. record { cost = record { 0 = (narrowed.base i).0 + choices_cost slots xs }; source = narrowed.source i; choices = xs }

    member : is_free_member slots zone conflicts (candidate_of rank) ≡ true
    member = subst (λ s. is_free_member slots zone conflicts (record { source = s; choices = rank.choices }) ≡ true) (sym (ap (λ (r : Rank). r.source) first.is ∙ narrowed.source))
        (free_in_zone slots zone conflicts rank.choices (sym (narrowed.masks.same slots rank.choices) ∙ free_in_box slots less conflicts (candidate_of rank) first.member))

    in_less : (other : Candidate) → is_free_member slots zone conflicts other ≡ true → is_free_member slots less conflicts (record { source = less.source; choices = other.choices }) ≡ true
    in_less other free = free_in_zone slots less conflicts other.choices (narrowed.masks.same slots other.choices ∙ free_in_box slots zone conflicts other free)
