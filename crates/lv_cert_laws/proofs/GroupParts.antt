-- A zone that is split by the groups of a candidate's choices keeps each member that has another group somewhere.
use Rattle.std.proofs.Common.{◌≡◌, ℕ, suc, ◌+◌, Bool, true, false, not, ◌&&◌, nat_eq, nat_lt, List, [], ◌∷◌, ⊎_elim, length, refl, sym, ◌∙◌, ap}
use Rattle.std.specs.List.{list_any}
use Rattle.std.proofs.lemmas.Bool.{and_parts, and_from, or_cases, or_left, or_right}
use Rattle.lv_cert_meaning.specs.lv_base.declared.ids.Cost.{Cost}
use Rattle.lv_cert_meaning.specs.lv_base.declared.rank.Rank.{Rank}
use Rattle.lv_cert_meaning.specs.lv_boxes.Members.{ZoneValue, are_left, is_member, choices_cost}
use Rattle.lv_cert_meaning.specs.lv_boxes.GroupParts.{masks_of_group, masks_of_others, parts_from, parts_by_groups}
use Rattle.lv_cert_meaning.specs.lv_boxes.RankedMembers.{ranks_in}
use Rattle.lv_cert_meaning.specs.lv_boxes.Walk.{candidate_of}
use Rattle.lv_cert_meaning.specs.lv_boxes.Groups.{group_of, are_grouped, have_same_groups}
use Rattle.lv_cert_meaning.proofs.lv_boxes.GroupPartsLemmas.{parts_are_split}
use Rattle.lv_cert_meaning.proofs.lv_boxes.MemberLemmas.{length-are_left}

-- choices with groups are as many as the slots
grouped_all : (groups : List (List ℕ)) (choices : List ℕ) → are_grouped groups choices ≡ true → length choices ≡ length groups
grouped_all [] [] h = refl
grouped_all [] (c ∷ cs) h = absurd (cc h)
grouped_all (numbers ∷ groups) [] h = absurd (cc h)
grouped_all (numbers ∷ groups) (c ∷ cs) h = ap suc (grouped_all groups cs (and_parts (nat_lt c (length numbers)) (are_grouped groups cs) h).1)

module _ (slots : List (List Cost)) where
  -- the parts by groups rank their members as the zone does
  ranked_in_parts : (r : Rank) (slot : ℕ) (groups : List (List ℕ)) (member : List ℕ) (zone : ZoneValue) → nat_eq r.cost.0 (zone.base.0 + choices_cost slots r.choices) ≡ true
      → list_any (λ part. is_member slots part (candidate_of r)) (parts_from zone slot groups member) ≡ true → list_any (ranks_in slots r) (parts_from zone slot groups member) ≡ true
  ranked_in_parts r slot [] member zone costs any = absurd (cc any)
  ranked_in_parts r slot (numbers ∷ groups) [] zone costs any = absurd (cc any)
  ranked_in_parts r slot (numbers ∷ groups) (choice ∷ choices) zone costs any =
      ⊎_elim (λ here. or_left (ranks_in slots r others) (list_any (ranks_in slots r) (parts_from same (slot + 1) groups choices)) (and_from (is_member slots others (candidate_of r)) _ here costs))
      (λ later. or_right (ranks_in slots r others) (list_any (ranks_in slots r) (parts_from same (slot + 1) groups choices)) (ranked_in_parts r (slot + 1) groups choices same costs later))
      (or_cases (is_member slots others (candidate_of r)) (list_any (λ part. is_member slots part (candidate_of r)) (parts_from same (slot + 1) groups choices)) any)
    where
      others : ZoneValue
      others = record zone { masks = masks_of_others zone.masks slot numbers (group_of numbers choice) }

      same : ZoneValue
      same = record zone { masks = masks_of_group zone.masks slot numbers (group_of numbers choice) }

  -- a member with another group somewhere is in some part by groups
  pub kept_in_group_parts : (groups : List (List ℕ)) (r : Rank) (member : List ℕ) (zone : ZoneValue) → ranks_in slots r zone ≡ true → are_grouped groups r.choices ≡ true
      → are_grouped groups member ≡ true → have_same_groups groups r.choices member ≡ false → list_any (ranks_in slots r) (parts_by_groups zone groups member) ≡ true
  kept_in_group_parts groups r member zone has grouped whole other =
      let two = and_parts (is_member slots zone (candidate_of r)) (nat_eq r.cost.0 (zone.base.0 + choices_cost slots r.choices)) has in
      let left = (and_parts (nat_eq r.source zone.source) (are_left slots zone.masks r.choices) two.0).1 in
      let long : length groups ≡ length zone.masks = sym (grouped_all groups r.choices grouped) ∙ length-are_left slots zone.masks r.choices left in
      let split = parts_are_split zone groups member (parts_by_groups zone groups member) refl long (grouped_all groups member whole) in
      ranked_in_parts r 0 groups member zone two.1 (split.exact slots (candidate_of r) grouped ∙ (λ i. two.0 i && not (other i)))
