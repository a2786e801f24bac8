-- How many of the parts by a target have a rank: one where the zone has it and its target is another, else none.
use Rattle.std.proofs.Common.{◌≡◌, ℕ, suc, zero, ◌+◌, ◌<◌, Bool, true, false, not, nat_eq, nat_lt, ◌&&◌, List, [], ◌∷◌, length, drop, drop-cons, get_or, cond, refl, sym, ◌∙◌, ap, add-one, arith}
use Rattle.std.specs.Prelude.{slice_index}
use Rattle.std.proofs.Math.ListN.{length-set}
use Rattle.std.proofs.lemmas.Bool.{and_parts, ltb-true}
use Rattle.lv_base.specs.declared.ids.Cost.{Cost}
use Rattle.lv_base.specs.declared.rank.Rank.{Rank}
use Rattle.lv_boxes.specs.Walk.{candidate_of}
use Rattle.lv_boxes.specs.Groups.{group_of, are_grouped, have_same_groups}
use Rattle.lv_boxes.specs.Masks.{has_choice, only_group}
use Rattle.lv_boxes.specs.Members.{ZoneValue, are_left, is_member, choices_cost}
use Rattle.lv_boxes.specs.RankedMembers.{ranks_in, times_in}
use Rattle.lv_boxes.specs.GroupParts.{have_shape, masks_of_group, masks_of_others, parts_from, parts_by_groups}
use Rattle.lv_boxes.proofs.GroupPartsLemmas.{member_of_group, member_of_others, in_group, in_others, grouped_all, reaches, member_grouped}

module _ (slots : List (List Cost)) (r : Rank) where
  abbrev chosen : ℕ → ℕ
  chosen s = slice_index r.choices s

  costs_so : ZoneValue → Bool
  costs_so zone = nat_eq r.cost.0 (zone.base.0 + choices_cost slots r.choices)

  -- what the zone hasn't no part has
  none_in : (s : ℕ) (zone : ZoneValue) (groups : List (List ℕ)) (member : List ℕ) → length zone.masks ≡ s + length groups → is_member slots zone (candidate_of r) ≡ false
      → times_in slots r (parts_from zone s groups member) ≡ 0
  none_in s zone [] member len out = refl
  none_in s zone (numbers ∷ groups) [] len out = refl
  none_in s zone (numbers ∷ groups) (m ∷ ms) len out =
      let here : s < length zone.masks = omega (arith, len) in
      let fixed : ZoneValue = record zone { masks = masks_of_group zone.masks s numbers (group_of numbers m) } in
      let same : length fixed.masks ≡ s + 1 + length groups = rw (length-set) (omega (arith, len)) in
      let b : Bool = has_choice (only_group (slice_index zone.masks s) numbers (group_of numbers m)) (chosen s) in
      let rest : times_in slots r (parts_from fixed (s + 1) groups ms) ≡ 0 =
      none_in (s + 1) fixed groups ms same (member_of_group slots (candidate_of r) zone s numbers (group_of numbers m) here ∙ ap (λ x. x && b) out)
      in
      (λ i. cond ((member_of_others slots (candidate_of r) zone s numbers (group_of numbers m) here ∙ ap (λ x. x && not b) out) i && nat_eq r.cost.0 (zone.base.0 + choices_cost slots r.choices)) 1 0 + rest i)

  grouped_times : (s : ℕ) (zone : ZoneValue) (groups : List (List ℕ)) (member : List ℕ) → length zone.masks ≡ s + length groups → length member ≡ length groups
      → are_grouped groups (drop s r.choices) ≡ true
      → times_in slots r (parts_from zone s groups member) ≡ cond (ranks_in slots r zone && not (have_same_groups groups (drop s r.choices) member)) 1 0
  grouped_times s zone [] member len own grouped = by (ranks_in slots r zone)
    where
      by : (b : Bool) → zero ≡ cond (b && not true) 1 0
      by true = refl
      by false = refl
  grouped_times s zone (numbers ∷ groups) [] len own grouped = absurd (omega arith)
  grouped_times s zone (numbers ∷ groups) (m ∷ ms) len own grouped =
      let here : s < length zone.masks = omega (arith, len) in
      let full : length (drop s r.choices) ≡ length (numbers ∷ groups) = grouped_all (numbers ∷ groups) (drop s r.choices) grouped in
      let there : s < length r.choices = reaches r.choices s (length groups) full in
      let chosen : ℕ = get_or r.choices s 0 in
      let begins : drop s r.choices ≡ chosen ∷ drop (s + 1) r.choices = drop-cons r.choices s 0 there ∙ ap (λ n. chosen ∷ drop n r.choices) (sym (add-one s)) in
      let parts = and_parts (nat_lt chosen (length numbers)) (are_grouped groups (drop (s + 1) r.choices)) (sym (ap (are_grouped (numbers ∷ groups)) begins) ∙ grouped) in
      let fixed : ZoneValue = record zone { masks = masks_of_group zone.masks s numbers (group_of numbers m) } in
      let same : length fixed.masks ≡ s + 1 + length groups = rw (length-set) (omega (arith, len)) in
      let below : chosen < length numbers = ltb-true chosen (length numbers) parts.0 in
      let costs : Bool = nat_eq r.cost.0 (zone.base.0 + choices_cost slots r.choices) in
      let without = in_others slots (candidate_of r) zone s numbers (group_of numbers m) here below in
      let with_it = in_group slots (candidate_of r) zone s numbers (group_of numbers m) here below in
      ap (λ t. cond (ranks_in slots r (record zone { masks = masks_of_others zone.masks s numbers (group_of numbers m) })) 1 0 + t) (grouped_times (s + 1) fixed groups ms same (omega (arith, own)) parts.1)
      ∙ (λ i. cond (without i && costs) 1 0 + cond ((with_it i && costs) && not (have_same_groups groups (drop (s + 1) r.choices) ms)) 1 0)
      ∙ by (is_member slots zone (candidate_of r)) (nat_eq (group_of numbers chosen) (group_of numbers m)) costs (have_same_groups groups (drop (s + 1) r.choices) ms)
      ∙ ap (λ x. cond (ranks_in slots r zone && not (have_same_groups (numbers ∷ groups) x (m ∷ ms))) 1 0) (sym begins)
    where
      by : (m p k c : Bool) → cond ((m && not p) && k) 1 0 + cond (((m && p) && k) && not c) 1 0 ≡ cond ((m && k) && not (p && c)) 1 0
      by true true true true = refl
      by true true true false = refl
      by true true false c = refl
      by true false true c = refl
      by true false false c = refl
      by false p k c = refl

  pub group_times : (zone : ZoneValue) (groups : List (List ℕ)) (member : List ℕ) → have_shape slots groups ≡ true → length zone.masks ≡ length groups → length member ≡ length groups
      → times_in slots r (parts_by_groups zone groups member) ≡ cond (ranks_in slots r zone && not (have_same_groups groups r.choices member)) 1 0
  group_times zone groups member shape len own = by (is_member slots zone (candidate_of r)) refl
    where
      all : length zone.masks ≡ 0 + length groups
      all = omega (arith, len)

      by : (b : Bool) → is_member slots zone (candidate_of r) ≡ b → times_in slots r (parts_from zone 0 groups member) ≡ cond (ranks_in slots r zone && not (have_same_groups groups r.choices member)) 1 0
      by true e =
          grouped_times 0 zone groups member all own
          (member_grouped slots groups zone.masks r.choices shape (and_parts (nat_eq r.source zone.source) (are_left slots zone.masks r.choices) e).1)
      by false e =
          none_in 0 zone groups member all e
          ∙ sym (ap (λ m. cond ((m && nat_eq r.cost.0 (zone.base.0 + choices_cost slots r.choices)) && not (have_same_groups groups r.choices member)) 1 0) e)
