-- Choices that are too dear for a member that is cheap enough.
use Rattle.std.proofs.Common.{◌≡◌, ℕ, zero, suc, ◌+◌, ◌<◌, ◌≤◌, Bool, true, false, not, nat_lt, List, [], ◌∷◌, length, cond, get_or, ◌⊎◌, inl, inr, refl, sym, ◌∙◌, ap, subst, arith}
use Rattle.std.specs.Prelude.{slice_index, slice_index_or, slice_set, sum}
use Rattle.std.proofs.lemmas.Bool.{cases_eq, cases_lt, and_from, and_parts, lt-ltb, both_ways, false_from_ne_true, not_from_false}
use Rattle.std.proofs.Math.ListN.{length-set}
use Rattle.lv_base.specs.declared.ids.Cost.{Cost}
use Rattle.lv_base.specs.declared.search.Pair.{Pair}
use Rattle.lv_base.specs.Choices.{picks}
use Rattle.lv_boxes.specs.Members.{is_left, are_left, choice_cost, choices_cost}
use Rattle.lv_boxes.specs.Parts.{masks_without}
use Rattle.lv_boxes.proofs.MemberLemmas.{length-are_left}
use Rattle.lv_boxes.specs.Masks.{has_choice, without_choice}
use Rattle.lv_search_bans.specs.Boxes.{is_free, has_left}
use Rattle.lv_search_guide.specs.Lowest.{NoneHas}
use Rattle.lv_search_guide.specs.Dear.{KeepsUnder}
use Rattle.lv_search_bans.specs.Prices.{IsBound}
use Rattle.lv_search_bans.proofs.BoxLemmas.{smaller, without_all, without_and_only, free_without, free_is_left, length-left, slot_within, choice_is}
use Rattle.lv_search_bans.proofs.PriceLemmas.{left_at, left_long}

set_past : (xs : List ℕ) (i x : ℕ) → length xs ≤ i → slice_set xs i x ≡ xs
set_past [] i x past = refl
set_past (y ∷ ys) zero x past = absurd (omega (arith, past))
set_past (y ∷ ys) (suc i) x past = ap (λ (zs : List ℕ). y ∷ zs) (set_past ys i x (omega (arith, past)))

-- a choice less leaves no more
no_more : (masks : List ℕ) (p : Pair) → sum (masks_without masks p) ≤ sum masks
no_more masks p = by (cases_lt p.slot (length masks)) (cases_eq (without_choice (slice_index masks p.slot) p.choice) (slice_index masks p.slot))
  where
    down : without_choice (slice_index masks p.slot) p.choice ≤ slice_index masks p.slot
    down = let parts = without_and_only (slice_index masks p.slot) p.choice in omega (arith, parts)

    by : (p.slot < length masks) ⊎ (length masks ≤ p.slot) → (without_choice (slice_index masks p.slot) p.choice ≡ slice_index masks p.slot) ⊎ (without_choice (slice_index masks p.slot) p.choice ≡ slice_index masks p.slot → ⊥)
        → sum (masks_without masks p) ≤ sum masks
    by within (inl same) = let is = ap sum (without_all masks p same) in omega (arith, is)
    by (inl within) (inr other) = let less = smaller masks p.slot (without_choice (slice_index masks p.slot) p.choice) within down other in omega (arith, less)
    by (inr past) (inr other) = let is = ap sum (set_past masks p.slot (without_choice (slice_index masks p.slot) p.choice) past) in omega (arith, is)

-- one choice costs no more than all
one_of_all : (rows : List (List Cost)) (s : ℕ) (masks choices : List ℕ) → s < length rows → are_left rows masks choices ≡ true → choice_cost (slice_index_or rows s []) (slice_index choices s) ≤ choices_cost rows choices
one_of_all [] s masks choices within left = absurd (omega (arith, within))
one_of_all (row ∷ rows) s [] choices within left = absurd (cc left)
one_of_all (row ∷ rows) s (mask ∷ masks) [] within left = absurd (cc left)
one_of_all (row ∷ rows) zero (mask ∷ masks) (choice ∷ choices) within left = omega arith
one_of_all (row ∷ rows) (suc s) (mask ∷ masks) (choice ∷ choices) within left =
    let rest = one_of_all rows s masks choices (omega (arith, within)) (and_parts (is_left row mask choice) (are_left rows masks choices) left).1 in
    omega (arith, rest)

pub keeps_all : (slots : List (List Cost)) (conflicts : List (List Pair)) (under : ℕ) (masks : List ℕ) → KeepsUnder slots conflicts under masks masks
keeps_all slots conflicts under masks = record { inside = λ choices free. free; keeps = λ choices free cheap. free; less = omega arith }

module _ (slots : List (List Cost)) (conflicts : List (List Pair)) (whole part : List ℕ) (low under : ℕ) (rows : List (List Cost)) (p : Pair) (b : IsBound slots conflicts whole low rows) (within : p.slot < length rows) where
  in_part : (masks choices : List ℕ) → are_left slots masks choices ≡ true → p.slot < length masks
  in_part masks choices left =
      let rows_left : are_left rows masks choices ≡ true = b.alike masks choices ∙ left in
      let long : length choices ≡ length rows = left_long rows masks choices rows_left in
      let same : length choices ≡ length masks = length-are_left slots masks choices left in
      omega (arith, long, same, within)

  pub dear_dropped : (new : List ℕ) → new ≡ masks_without part p → under ≤ low + choice_cost (slice_index_or rows p.slot []) p.choice → KeepsUnder slots conflicts under whole part → KeepsUnder slots conflicts under whole new
  dear_dropped new is dear k = subst (λ (ms : List ℕ). KeepsUnder slots conflicts under whole ms) (sym is) (record { inside = inside; keeps = keeps; less = let one = no_more part p in let all = k.less in omega (arith, one, all) })
    where
      inside : (choices : List ℕ) → is_free slots conflicts (masks_without part p) choices ≡ true → is_free slots conflicts whole choices ≡ true
      inside choices free =
          let there : p.slot < length (masks_without part p) = in_part (masks_without part p) choices (free_is_left slots conflicts (masks_without part p) choices free) in
          let here : p.slot < length part = rw (length-set) at there in
          k.inside choices (and_parts (is_free slots conflicts part choices) (not (picks choices p)) (sym (free_without slots conflicts part choices p here) ∙ free)).0

      keeps : (choices : List ℕ) → is_free slots conflicts whole choices ≡ true → choices_cost slots choices < under → is_free slots conflicts (masks_without part p) choices ≡ true
      keeps choices free cheap =
          let still : is_free slots conflicts part choices ≡ true = k.keeps choices free cheap in
          let here : p.slot < length part = in_part part choices (free_is_left slots conflicts part choices still) in
          free_without slots conflicts part choices p here ∙ and_from (is_free slots conflicts part choices) (not (picks choices p)) still (not_from_false (picks choices p) (false_from_ne_true (picks choices p) has_not))
        where
          has_not : picks choices p ≡ true → ⊥
          has_not has =
              let own : slice_index choices p.slot ≡ p.choice = choice_is choices p has in
              let all : low + choices_cost rows choices ≤ choices_cost slots choices = b.bound choices free in
              let left : are_left rows whole choices ≡ true = b.alike whole choices ∙ free_is_left slots conflicts whole choices free in
              let one : choice_cost (slice_index_or rows p.slot []) p.choice ≤ choices_cost rows choices = subst (λ n. choice_cost (slice_index_or rows p.slot []) n ≤ choices_cost rows choices) own (one_of_all rows p.slot whole choices within left) in
              omega (arith, dear, all, one, cheap)

  pub dear_or_not : (dear : Bool) (new : List ℕ) → new ≡ cond dear (masks_without part p) part → (dear ≡ true → under ≤ low + choice_cost (slice_index_or rows p.slot []) p.choice)
      → KeepsUnder slots conflicts under whole part → KeepsUnder slots conflicts under whole new
  dear_or_not true new is dear k = dear_dropped new is (dear refl) k
  dear_or_not false new is dear k = subst (λ (ms : List ℕ). KeepsUnder slots conflicts under whole ms) (sym is) k

-- no member has a choice that the box hasn't
pub none_where_out : (slots : List (List Cost)) (conflicts : List (List Pair)) (masks : List ℕ) (p : Pair) (cost : ℕ) → p.slot < length masks → has_left masks p ≡ false → NoneHas slots conflicts masks p cost
none_where_out slots conflicts masks p cost within out = record { none = none }
  where
    none : (others : List ℕ) → is_free slots conflicts masks others ≡ true → picks others p ≡ true → choices_cost slots others ≡ cost → ⊥
    none others free has same =
        let left : are_left slots masks others ≡ true = free_is_left slots conflicts masks others free in
        let here : p.slot < length slots = subst (λ n. p.slot < n) (length-left slots masks others left) (slot_within others p has) in
        let own : has_choice (slice_index masks p.slot) (slice_index others p.slot) ≡ true =
        (and_parts (nat_lt (slice_index others p.slot) (length (slice_index_or slots p.slot []))) (has_choice (slice_index masks p.slot) (slice_index others p.slot)) (left_at slots p.slot masks others here left)).1 in
        let there : has_choice (slice_index masks p.slot) p.choice ≡ true = subst (λ n. has_choice (slice_index masks p.slot) n ≡ true) (choice_is others p has) own in
        both_ways (has_left masks p) out (and_from (nat_lt p.slot (length masks)) (has_choice (slice_index masks p.slot) p.choice) (lt-ltb p.slot (length masks) within) there)

-- where there is an item, what stands for none doesn't matter
pub item_at : {X : Type 0} (xs : List X) (i : ℕ) (d e : X) → i < length xs → get_or xs i d ≡ get_or xs i e
item_at [] i d e within = absurd (omega (arith, within))
item_at (x ∷ xs) zero d e within = refl
item_at (x ∷ xs) (suc i) d e within = item_at xs i d e (omega (arith, within))
