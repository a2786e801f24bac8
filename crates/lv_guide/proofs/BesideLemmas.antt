-- The least choices of a part, put into what was the first of a zone that has all choices of this one, are the first by the conflicts
-- outside that part.
use Rattle.std.proofs.Common.{◌≡◌, ℕ, suc, ◌+◌, ◌<◌, ◌≤◌, Bool, true, false, not, nat_eq, ◌&&◌, ◌||◌, List, [], ◌∷◌, ◌++◌, length, map, filter, drop, drop-cons, get_or, cond, refl, sym, ◌∙◌, ap, ap₂, subst, add-one, arith}
use Rattle.std.specs.Prelude.{Option, Some, None}
use Rattle.std.specs.List.{list_all}
use Rattle.std.proofs.lemmas.Bool.{and_from, and_parts, or_left, or_right, or_parts, false_from_ne_true}
use Rattle.std.proofs.lemmas.List.{append_assoc}
use Rattle.std.proofs.lemmas.List.Folds.{list_all-append}
use Rattle.lv_base.specs.declared.ids.Cost.{Cost}
use Rattle.lv_base.specs.declared.rank.Rank.{Rank}
use Rattle.lv_base.specs.declared.search.Pair.{Pair}
use Rattle.lv_base.specs.Choices.{contains_all}
use Rattle.lv_base.specs.Order.{comes_before}
use Rattle.lv_boxes.specs.Least.{lacks_choice, IsLeastMember}
use Rattle.lv_boxes.specs.Members.{ZoneValue, are_left, is_member, choices_cost, rank_in}
use Rattle.lv_boxes.proofs.LeastLemmas.{lacks_choice-none}
use Rattle.lv_boxes.proofs.MemberLemmas.{length-are_left}
use Rattle.lv_boxes.specs.Walk.{is_ruled_out}
use Rattle.lv_search_parts.specs.Slots.{only, put_in, is_marked, pair_in, is_inside}
use Rattle.lv_search_parts.specs.Parts.{is_whole, inner_of, IsPart, IsPartWith}
use Rattle.lv_search_guide.specs.declared.look.Member.{Member}
use Rattle.lv_search_bans.specs.Boxes.{is_free}
use Rattle.lv_search_guide.specs.Lowest.{IsLowest}
use Rattle.lv_search_guide.specs.Free.{HasNoFree, LeastFreeTells}
use Rattle.lv_guide.specs.Near.{IsFirstNear, contained_pairs, lost_pairs, unsettled}
use Rattle.lv_guide.specs.Beside.{IsFirstBySome, FirstBySomeTells, mixed, IsLeastInside, LeastInsideTells}
use Rattle.lv_search_bans.proofs.BoxLemmas.{free_is_left, free_from, length-left}
use Rattle.lv_search_guide.proofs.FreeLemmas.{none_free}
use Rattle.lv_search_guide.proofs.PartLemmas.{clear_outside}
use Rattle.lv_search_guide.proofs.SlotLemmas.{kept_if_left, left_only, left_put, cost_put, before_put}
use Rattle.lv_guide.proofs.NearLemmas.{IsApart, least_is_lowest, long_near, first_anew}

clash : (b : Bool) → b ≡ true → b ≡ false → ⊥
clash b p q = cc

-- the conflicts that aren't inside
abbrev outer_of : List Bool → List (List Pair) → List (List Pair)
outer_of marks ks = filter (λ k. not (is_inside marks k)) ks

all_outer : (test : List Pair → Bool) (marks : List Bool) (ks : List (List Pair)) → list_all test ks ≡ true → list_all test (outer_of marks ks) ≡ true
all_outer test marks [] all = refl
all_outer test marks (k ∷ ks) all = by (not (is_inside marks k)) (and_parts (test k) (list_all test ks) all) (λ h. all_outer test marks ks h)
  where
    by : (b : Bool) → (test k ≡ true) × (list_all test ks ≡ true) → (list_all test ks ≡ true → list_all test (outer_of marks ks) ≡ true) → list_all test (cond b (k ∷ outer_of marks ks) (outer_of marks ks)) ≡ true
    by true parts rest = and_from (test k) (list_all test (outer_of marks ks)) parts.0 (rest parts.1)
    by false parts rest = rest parts.1

no_inner : (marks : List Bool) (ks : List (List Pair)) → inner_of marks (outer_of marks ks) ≡ []
no_inner marks [] = refl
no_inner marks (k ∷ ks) = by (is_inside marks k) refl (no_inner marks ks)
  where
    by : (b : Bool) → is_inside marks k ≡ b → inner_of marks (outer_of marks ks) ≡ [] → inner_of marks (cond (not b) (k ∷ outer_of marks ks) (outer_of marks ks)) ≡ []
    by true inside rest = rest
    by false out rest = ap (λ b. map (λ pairs. map (pair_in marks) pairs) (cond b (k ∷ filter (is_inside marks) (outer_of marks ks)) (filter (is_inside marks) (outer_of marks ks)))) out ∙ rest

clear_if_outer : (marks : List Bool) (xs : List ℕ) (ks : List (List Pair)) → is_ruled_out (outer_of marks ks) xs ≡ false → list_all (clear_outside marks xs) ks ≡ true
clear_if_outer marks xs [] out = refl
clear_if_outer marks xs (k ∷ ks) out = by (is_inside marks k) refl out (λ h. clear_if_outer marks xs ks h)
  where
    by : (b : Bool) → is_inside marks k ≡ b → is_ruled_out (cond (not b) (k ∷ outer_of marks ks) (outer_of marks ks)) xs ≡ false
        → (is_ruled_out (outer_of marks ks) xs ≡ false → list_all (clear_outside marks xs) ks ≡ true) → list_all (clear_outside marks xs) (k ∷ ks) ≡ true
    by true inside h rest = and_from (clear_outside marks xs k) (list_all (clear_outside marks xs) ks) (or_left (is_inside marks k) (not (contains_all xs k)) inside) (rest h)
    by false past h rest =
        let parts = or_parts (contains_all xs k) (is_ruled_out (outer_of marks ks) xs) h in
        and_from (clear_outside marks xs k) (list_all (clear_outside marks xs) ks) (or_right (is_inside marks k) (not (contains_all xs k)) (ap not parts.0)) (rest parts.1)

outer_out : (marks : List Bool) (xs : List ℕ) (ks : List (List Pair)) → is_ruled_out ks xs ≡ false → is_ruled_out (outer_of marks ks) xs ≡ false
outer_out marks xs [] out = refl
outer_out marks xs (k ∷ ks) out = by (not (is_inside marks k)) (or_parts (contains_all xs k) (is_ruled_out ks xs) out) (λ h. outer_out marks xs ks h)
  where
    by : (b : Bool) → (contains_all xs k ≡ false) × (is_ruled_out ks xs ≡ false) → (is_ruled_out ks xs ≡ false → is_ruled_out (outer_of marks ks) xs ≡ false)
        → is_ruled_out (cond b (k ∷ outer_of marks ks) (outer_of marks ks)) xs ≡ false
    by true parts rest = (λ i. parts.0 i || rest parts.1 i)
    by false parts rest = rest parts.1

none_contained : (xs : List ℕ) (ks : List (List Pair)) → is_ruled_out ks xs ≡ false → contained_pairs xs ks ≡ []
none_contained xs [] out = refl
none_contained xs (k ∷ ks) out =
    let parts = or_parts (contains_all xs k) (is_ruled_out ks xs) out in
    ap (λ b. cond b (k ++ contained_pairs xs ks) (contained_pairs xs ks)) parts.0 ∙ none_contained xs ks parts.1

-- the least choices of a zone are those of each part
module _ (slots : List (List Cost)) (zone : ZoneValue) (marks : List Bool) (best : List ℕ) (same : length marks ≡ length slots) (l : IsLeastMember slots zone best) where
  best_left : are_left slots zone.masks best ≡ true
  best_left = (and_parts (nat_eq zone.source zone.source) (are_left slots zone.masks best) l.member).1

  pub masks_long : length marks ≡ length zone.masks
  masks_long = same ∙ sym (length-left slots zone.masks best best_left) ∙ length-are_left slots zone.masks best best_left

  z : IsLowest slots [] zone.masks (record { cost = choices_cost slots best; choices = best })
  z =
      least_is_lowest slots zone [] (rank_in slots zone best)
      (record {
        member = and_from (is_member slots zone (record { source = zone.source; choices = best })) (not (is_ruled_out [] best)) l.member refl;
        is = refl;
        first = λ other free. l.first other (and_parts (is_member slots zone other) (not (is_ruled_out [] other.choices)) free).0;
      })

  as_long : length marks ≡ length best
  as_long = same ∙ sym (length-left slots zone.masks best best_left)

  module _ (xs : List ℕ) (free : is_free (only marks slots) [] (only marks zone.masks) xs ≡ true) where
    x_left : are_left (only marks slots) (only marks zone.masks) xs ≡ true
    x_left = free_is_left (only marks slots) [] (only marks zone.masks) xs free

    x_long : length xs ≡ length (only marks best)
    x_long =
        length-left (only marks slots) (only marks zone.masks) xs x_left
        ∙ sym (length-left (only marks slots) (only marks zone.masks) (only marks best) (left_only marks slots zone.masks best same best_left))

    put_free : is_free slots [] zone.masks (put_in marks xs best) ≡ true
    put_free =
        free_from slots [] zone.masks (put_in marks xs best)
        (left_put marks slots zone.masks zone.masks xs best same (sym masks_long ∙ same) (length-left slots zone.masks best best_left) best_left (kept_if_left marks slots zone.masks best best_left) x_left)
        refl

    sums : choices_cost slots (put_in marks xs best) + choices_cost (only marks slots) (only marks best) ≡ choices_cost slots best + choices_cost (only marks slots) xs
    sums = cost_put marks slots zone.masks xs best same best_left x_left

    cheap : choices_cost (only marks slots) (only marks best) ≤ choices_cost (only marks slots) xs
    cheap =
        let low : choices_cost slots best ≤ choices_cost slots (put_in marks xs best) = z.cheapest.least.least (put_in marks xs best) put_free in
        let sum = sums in
        omega (arith, low, sum)

    in_order : choices_cost (only marks slots) xs ≡ choices_cost (only marks slots) (only marks best) → comes_before xs (only marks best) ≡ false
    in_order even =
        let sum = sums in
        let even_so : choices_cost slots (put_in marks xs best) ≡ choices_cost slots best = omega (arith, even, sum) in
        false_from_ne_true (comes_before xs (only marks best)) (λ h.
        clash (comes_before (put_in marks xs best) best) (before_put marks xs best as_long x_long h) (z.first (put_in marks xs best) put_free even_so))

  pub least_of_part : IsLowest (only marks slots) [] (only marks zone.masks) (record { cost = choices_cost (only marks slots) (only marks best); choices = only marks best })
  least_of_part =
      record {
        cheapest = record {
          free = free_from (only marks slots) [] (only marks zone.masks) (only marks best) (left_only marks slots zone.masks best same best_left) refl;
          costs = refl;
          least = record { least = λ xs free. cheap xs free };
        };
        first = λ xs free even. in_order xs free even;
      }

-- the inner choices at the slots that are marked are put in
mixed_is : (marks : List Bool) (inner outer : List ℕ) → length marks ≡ length inner → length marks ≡ length outer → mixed marks inner outer ≡ put_in marks (only marks inner) outer
mixed_is [] [] [] a b = refl
mixed_is [] (x ∷ inner) outer a b = absurd (omega (arith, a))
mixed_is [] [] (y ∷ outer) a b = absurd (omega (arith, b))
mixed_is (mark ∷ marks) [] outer a b = absurd (omega (arith, a))
mixed_is (mark ∷ marks) (x ∷ inner) [] a b = absurd (omega (arith, b))
mixed_is (true ∷ marks) (x ∷ inner) (y ∷ outer) a b = ap (λ xs. x ∷ xs) (mixed_is marks inner outer (omega (arith, a)) (omega (arith, b)))
mixed_is (false ∷ marks) (x ∷ inner) (y ∷ outer) a b = ap (λ xs. y ∷ xs) (mixed_is marks inner outer (omega (arith, a)) (omega (arith, b)))

pub length-mixed : (marks : List Bool) (inner outer : List ℕ) → length inner ≡ length marks → length outer ≡ length marks → length (mixed marks inner outer) ≡ length marks
length-mixed [] inner outer a b = refl
length-mixed (mark ∷ marks) [] outer a b = absurd (omega (arith, a))
length-mixed (mark ∷ marks) (x ∷ inner) [] a b = absurd (omega (arith, b))
length-mixed (mark ∷ marks) (x ∷ inner) (y ∷ outer) a b = ap suc (length-mixed marks inner outer (omega (arith, a)) (omega (arith, b)))

-- one choice more
pub mixed_next : (made new : List ℕ) (marks : List Bool) (inner outer : List ℕ) (i : ℕ) (m : Bool) (d e choice : ℕ) → i < length marks → length inner ≡ length marks → length outer ≡ length marks
    → choice ≡ cond (get_or marks i m) (get_or inner i d) (get_or outer i e) → new ≡ made ++ choice ∷ []
    → made ++ mixed (drop i marks) (drop i inner) (drop i outer) ≡ mixed marks inner outer → new ++ mixed (drop (i + 1) marks) (drop (i + 1) inner) (drop (i + 1) outer) ≡ mixed marks inner outer
mixed_next made new marks inner outer i m d e choice within inner_long outer_long choice_is new_is rest =
    ap₂ (λ (xs : List ℕ) (n : ℕ). xs ++ mixed (drop n marks) (drop n inner) (drop n outer)) (new_is ∙ ap (λ x. made ++ x ∷ []) choice_is) (add-one i)
    ∙ append_assoc made (cond (get_or marks i m) (get_or inner i d) (get_or outer i e) ∷ []) (mixed (drop (suc i) marks) (drop (suc i) inner) (drop (suc i) outer))
    ∙ sym (ap (λ xs. made ++ xs) (λ j. mixed (drop-cons marks i m within j) (drop-cons inner i d (omega (arith, within, inner_long)) j) (drop-cons outer i e (omega (arith, within, outer_long)) j)))
    ∙ rest

-- the first by the conflicts outside the part
pub beside_first : (slots : List (List Cost)) (zone : ZoneValue) (known : List (List Pair)) (near : Rank) (marks : List Bool) (rank : Rank) → IsFirstNear slots zone known near → is_ruled_out known near.choices ≡ false
    → IsPart known (length slots) marks → is_inside marks (lost_pairs zone.masks near.choices) ≡ true → IsLeastInside slots zone marks near.choices rank → IsFirstBySome slots zone known rank
beside_first slots zone known near marks rank was free part lost inside =
    record {
      others = outer;
      among = record { each = λ test all. all_outer test marks known all };
      first = first_anew slots zone outer near marks apart with_lost long one y choices choices_are (record { cost = choices_cost slots choices; choices = choices }) refl rank inside.is;
    }
  where
    outer : List (List Pair)
    outer = outer_of marks known

    best : List ℕ
    best = inside.least

    choices : List ℕ
    choices = mixed marks best near.choices

    long : length marks ≡ length zone.masks
    long = masks_long slots zone marks best part.long inside.is_least

    one : Member
    one = record { cost = choices_cost (only marks slots) (only marks best); choices = only marks best }

    y : IsLowest (only marks slots) (inner_of marks outer) (only marks zone.masks) one
    y = subst (λ (ks : List (List Pair)). IsLowest (only marks slots) ks (only marks zone.masks) one) (sym (no_inner marks known)) (least_of_part slots zone marks best part.long inside.is_least)

    choices_are : choices ≡ put_in marks (only marks best) near.choices
    choices_are = mixed_is marks best near.choices (as_long slots zone marks best part.long inside.is_least) (part.long ∙ sym (long_near slots zone known near was))

    apart : IsApart slots zone outer marks near
    apart =
        record {
          whole = was.whole;
          inside = was.inside;
          others = was.others;
          first = was.first;
          wholes = was.among.each (is_whole marks) part.whole;
          clear = λ xs out. was.among.each (clear_outside marks xs) (clear_if_outer marks xs known out);
        }

    with_lost : IsPartWith outer (length slots) (unsettled zone.masks outer near.choices) marks
    with_lost =
        record {
          part = record { long = part.long; whole = all_outer (is_whole marks) marks known part.whole };
          inside =
              list_all-append (λ (p : Pair). is_marked marks p.slot) (lost_pairs zone.masks near.choices) (contained_pairs near.choices outer)
              ∙ and_from (is_inside marks (lost_pairs zone.masks near.choices)) (is_inside marks (contained_pairs near.choices outer)) lost
              (ap (is_inside marks) (none_contained near.choices outer (outer_out marks near.choices known free)));
        }

-- a zone without a choice at some slot has no member
pub lacking_none : (slots : List (List Cost)) (zone : ZoneValue) (conflicts : List (List Pair)) → lacks_choice slots zone.masks ≡ true → HasNoFree slots zone conflicts
lacking_none slots zone conflicts lacks =
    none_free slots zone conflicts (record { none = λ xs. ap (λ b. b && not (is_ruled_out conflicts xs)) (lacks_choice-none slots zone.masks xs lacks) })

-- what is told where the least choices of the part are taken
pub settled_beside : (slots : List (List Cost)) (zone : ZoneValue) (known : List (List Pair)) (near : Rank) (pairs : List Pair) (marks : List Bool) (masks choices : List ℕ) (answer : Option Rank)
    → masks ≡ zone.masks → choices ≡ near.choices → pairs ≡ lost_pairs masks choices
    → IsFirstNear slots zone known near → is_ruled_out known near.choices ≡ false → IsPartWith known (length slots) pairs marks → LeastInsideTells slots zone marks choices answer → FirstBySomeTells slots zone known answer
settled_beside slots zone known near pairs marks masks choices answer masks_are choices_are pairs_are was free part told =
    by answer (subst (λ (xs : List ℕ). LeastInsideTells slots zone marks xs answer) choices_are told)
  where
    lost : is_inside marks (lost_pairs zone.masks near.choices) ≡ true
    lost = ap (is_inside marks) (sym (pairs_are ∙ (λ i. lost_pairs (masks_are i) (choices_are i)))) ∙ part.inside

    by : (answer : Option Rank) → LeastInsideTells slots zone marks near.choices answer → FirstBySomeTells slots zone known answer
    by None lacks = lacking_none slots zone known lacks
    by (Some rank) least = beside_first slots zone known near marks rank was free part.part lost least

-- what is first by all is first by some
pub some_of_all : (slots : List (List Cost)) (zone : ZoneValue) (known : List (List Pair)) (answer : Option Rank) → LeastFreeTells slots zone known answer → FirstBySomeTells slots zone known answer
some_of_all slots zone known None none = none
some_of_all slots zone known (Some rank) first = record { others = known; among = record { each = λ test all. all }; first = first }
