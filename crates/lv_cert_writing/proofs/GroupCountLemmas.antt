-- What the parts of a zone that is split by groups weigh: less than the zone, as they have all members but those of the same groups.
use Rattle.std.proofs.Common.{◌≡◌, ℕ, zero, suc, ◌+◌, ◌*◌, ◌-◌, ◌<◌, ◌≤◌, Bool, true, false, not, ◌&&◌, List, [], ◌∷◌, ◌++◌, ⊎_elim, length, map, drop, get_or, Option, Some, refl, sym, ◌∙◌, ap, cond, nat_eq, nat_lt, arith, add-one, drop-cons, length-drop}
use Rattle.std.specs.Prelude.{slice_index, slice_set}
use Rattle.std.specs.List.{list_any}
use Rattle.std.specs.Cmp.Lexicographic.{pointwise}
use Rattle.std.proofs.Math.ListN.{length-set}
use Rattle.std.proofs.Math.Nat.{add-mul, mul-add, mul-le-mul_right}
use Rattle.std.proofs.lemmas.Bool.{and_parts, and_from, or_cases, eq-eqb, eqb-true}
use Rattle.lv_base.specs.declared.ids.Cost.{Cost}
use Rattle.lv_base.specs.declared.rank.Rank.{Rank}
use Rattle.lv_base.specs.declared.search.Candidate.{Candidate}
use Rattle.lv_boxes.specs.Masks.{has_choice, without_choice, without_others, only_group, without_group}
use Rattle.lv_boxes.specs.Members.{ZoneValue, is_left, are_left, is_member, choices_cost}
use Rattle.lv_boxes.specs.GroupParts.{masks_of_group, masks_of_others, parts_from, parts_by_groups}
use Rattle.lv_boxes.specs.RankedMembers.{ranks_in}
use Rattle.lv_boxes.specs.Walk.{candidate_of}
use Rattle.lv_boxes.specs.Groups.{group_of, groups_of, have_same_groups}
use Rattle.lv_boxes.proofs.MaskLemmas.{has_choice-without, of_group_within, has_choice-of_others}
use Rattle.lv_cert_writing.proofs.CountLemmas.{choices_count, members_count, some_member, weights, weights-append}

-- taking out choices of other groups leaves each that is of the group, or is none of those gone through
stays : (numbers : List ℕ) (mask group n k : ℕ) → has_choice mask k ≡ true → ((i : ℕ) → k ≡ n + i → i < length numbers → get_or numbers i 0 ≡ group) → has_choice (without_others mask group n numbers) k ≡ true
stays [] mask group n k h of = h
stays (other ∷ others) mask group n k h of =
    by (nat_eq other group) refl (λ m e. stays others m group (n + 1) k e (λ i at below. of (suc i) (omega (arith, at)) (omega (arith, below))))
  where
    elsewhere : nat_eq other group ≡ false → nat_eq k n ≡ false
    elsewhere e = look (nat_eq k n) refl
      where
        look : (b : Bool) → nat_eq k n ≡ b → nat_eq k n ≡ false
        look true same =
            let here : k ≡ n = eqb-true k n same in
            let group_is : other ≡ group = of 0 (omega (arith, here)) (omega arith) in
            absurd (cc (sym e ∙ ap (λ m. nat_eq m group) group_is ∙ eq-eqb group group refl))
        look false same = same

    by : (b : Bool) → nat_eq other group ≡ b → ((m : ℕ) → has_choice m k ≡ true → has_choice (without_others m group (n + 1) others) k ≡ true)
        → has_choice (without_others (cond b mask (without_choice mask n)) group (n + 1) others) k ≡ true
    by true e rest = rest mask h
    by false e rest = rest (without_choice mask n) (has_choice-without mask n k ∙ and_from (has_choice mask k) (not (nat_eq k n)) h (ap not (elsewhere e)))

-- the choice is of the group
in_group : (numbers : List ℕ) (mask k : ℕ) → has_choice mask k ≡ true → (group : ℕ) → group_of numbers k ≡ group → has_choice (only_group mask numbers group) k ≡ true
in_group numbers mask k h group is = stays numbers mask group 0 k h (λ i at below. let place : k ≡ i = omega (arith, at) in ap (λ j. get_or numbers j 0) (sym place) ∙ is)

-- a choice of the mask is of the group, or stays where the group is taken out
choices_parted : (n : ℕ) (costs : List Cost) (mask group : ℕ) (numbers : List ℕ)
    → choices_count n costs (only_group mask numbers group) + choices_count n costs (without_group mask numbers group) ≡ choices_count n costs mask
choices_parted n [] mask group numbers = refl
choices_parted n (cost ∷ costs) mask group numbers =
    (λ i. (cond (has_choice (only_group mask numbers group) n) 1 0 + choices_count (n + 1) costs (only_group mask numbers group))
    + (cond (has_choice-of_others mask numbers group n i) 1 0 + choices_count (n + 1) costs (without_group mask numbers group)))
    ∙ by (has_choice mask n) (has_choice (only_group mask numbers group) n) (of_group_within mask numbers group n) (choices_parted (n + 1) costs mask group numbers)
  where
    by : (has of : Bool) → (of ≡ true → has ≡ true)
        → choices_count (n + 1) costs (only_group mask numbers group) + choices_count (n + 1) costs (without_group mask numbers group) ≡ choices_count (n + 1) costs mask
        → (cond of 1 0 + choices_count (n + 1) costs (only_group mask numbers group)) + (cond (has && not of) 1 0 + choices_count (n + 1) costs (without_group mask numbers group))
        ≡ cond has 1 0 + choices_count (n + 1) costs mask
    by true true inside rest = omega (arith, rest)
    by true false inside rest = omega (arith, rest)
    by false true inside rest = absurd (cc (inside refl))
    by false false inside rest = omega (arith, rest)

members_parted : (slots : List (List Cost)) (masks : List ℕ) (s : ℕ) (numbers : List ℕ) (group : ℕ) → s < length masks
    → members_count slots (masks_of_group masks s numbers group) + members_count slots (masks_of_others masks s numbers group) ≡ members_count slots masks
members_parted slots [] s numbers group within = absurd (omega (arith, within))
members_parted [] (m ∷ ms) zero numbers group within = refl
members_parted [] (m ∷ ms) (suc s) numbers group within = refl
members_parted (costs ∷ slots) (m ∷ ms) zero numbers group within =
    sym (add-mul (choices_count 0 costs (only_group m numbers group)) (choices_count 0 costs (without_group m numbers group)) (members_count slots ms))
    ∙ ap (λ n. n * members_count slots ms) (choices_parted 0 costs m group numbers)
members_parted (costs ∷ slots) (m ∷ ms) (suc s) numbers group within =
    let fits : s < length ms = omega (arith, within) in
    sym (mul-add (choices_count 0 costs m) (members_count slots (masks_of_group ms s numbers group)) (members_count slots (masks_of_others ms s numbers group)))
    ∙ ap (λ n. choices_count 0 costs m * n) (members_parted slots ms s numbers group fits)

-- choices that are left stay where one of them alone has to be of its group
left_in_group : (slots : List (List Cost)) (masks choices : List ℕ) (s : ℕ) (numbers : List ℕ) (group : ℕ) → are_left slots masks choices ≡ true → group_of numbers (get_or choices s 0) ≡ group → s < length choices
    → are_left slots (masks_of_group masks s numbers group) choices ≡ true
left_in_group [] [] [] s numbers group h is within = absurd (omega (arith, within))
left_in_group [] [] (c ∷ cs) s numbers group h is within = absurd (cc h)
left_in_group [] (m ∷ ms) [] s numbers group h is within = absurd (cc h)
left_in_group [] (m ∷ ms) (c ∷ cs) s numbers group h is within = absurd (cc h)
left_in_group (costs ∷ slots) [] [] s numbers group h is within = absurd (cc h)
left_in_group (costs ∷ slots) [] (c ∷ cs) s numbers group h is within = absurd (cc h)
left_in_group (costs ∷ slots) (m ∷ ms) [] s numbers group h is within = absurd (cc h)
left_in_group (costs ∷ slots) (m ∷ ms) (c ∷ cs) zero numbers group h is within =
    let both = and_parts (is_left costs m c) (are_left slots ms cs) h in
    let here = and_parts (nat_lt c (length costs)) (has_choice m c) both.0 in
    and_from (is_left costs (only_group m numbers group) c) (are_left slots ms cs)
    (and_from (nat_lt c (length costs)) (has_choice (only_group m numbers group) c) here.0 (in_group numbers m c here.1 group is)) both.1
left_in_group (costs ∷ slots) (m ∷ ms) (c ∷ cs) (suc s) numbers group h is within =
    let both = and_parts (is_left costs m c) (are_left slots ms cs) h in
    and_from (is_left costs m c) (are_left slots (masks_of_group ms s numbers group) cs) both.0 (left_in_group slots ms cs s numbers group both.1 is (omega (arith, within)))

-- choices that are left where fewer are at one slot are left where none was taken out
wider : (narrow : ℕ → ℕ) → ((m k : ℕ) → has_choice (narrow m) k ≡ true → has_choice m k ≡ true) → (slots : List (List Cost)) (masks choices : List ℕ) (s : ℕ)
    → are_left slots (slice_set masks s (narrow (slice_index masks s))) choices ≡ true → are_left slots masks choices ≡ true
wider narrow keeps slots [] choices s h = h
wider narrow keeps [] (m ∷ ms) choices zero h = absurd (cc h)
wider narrow keeps [] (m ∷ ms) choices (suc s) h = absurd (cc h)
wider narrow keeps (costs ∷ slots) (m ∷ ms) [] zero h = absurd (cc h)
wider narrow keeps (costs ∷ slots) (m ∷ ms) [] (suc s) h = absurd (cc h)
wider narrow keeps (costs ∷ slots) (m ∷ ms) (c ∷ cs) zero h =
    let both = and_parts (is_left costs (narrow m) c) (are_left slots ms cs) h in
    let here = and_parts (nat_lt c (length costs)) (has_choice (narrow m) c) both.0 in
    and_from (is_left costs m c) (are_left slots ms cs) (and_from (nat_lt c (length costs)) (has_choice m c) here.0 (keeps m c here.1)) both.1
wider narrow keeps (costs ∷ slots) (m ∷ ms) (c ∷ cs) (suc s) h =
    let both = and_parts (is_left costs m c) (are_left slots (slice_set ms s (narrow (slice_index ms s))) cs) h in
    and_from (is_left costs m c) (are_left slots ms cs) both.0 (wider narrow keeps slots ms cs s both.1)

of_others : (numbers : List ℕ) (group m k : ℕ) → has_choice (without_group m numbers group) k ≡ true → has_choice m k ≡ true
of_others numbers group m k h = (and_parts (has_choice m k) (not (has_choice (only_group m numbers group) k)) (sym (has_choice-of_others m numbers group k) ∙ h)).0

-- a member of a part by groups is one of the zone
pub among_group_parts : (slots : List (List Cost)) (r : Rank) (slot : ℕ) (groups : List (List ℕ)) (member : List ℕ) (zone : ZoneValue)
    → list_any (ranks_in slots r) (parts_from zone slot groups member) ≡ true → ranks_in slots r zone ≡ true
among_group_parts slots r slot [] member zone h = absurd (cc h)
among_group_parts slots r slot (numbers ∷ groups) [] zone h = absurd (cc h)
among_group_parts slots r slot (numbers ∷ groups) (choice ∷ choices) zone h =
    ⊎_elim (wide (λ m. without_group m numbers group) (of_others numbers group))
    (λ later. wide (λ m. only_group m numbers group) (λ m k. of_group_within m numbers group k) (among_group_parts slots r (slot + 1) groups choices (record zone { masks = masks_of_group zone.masks slot numbers group }) later))
    (or_cases (ranks_in slots r (record zone { masks = masks_of_others zone.masks slot numbers group }))
    (list_any (ranks_in slots r) (parts_from (record zone { masks = masks_of_group zone.masks slot numbers group }) (slot + 1) groups choices)) h)
  where
    group : ℕ
    group = group_of numbers choice

    costs : Bool
    costs = nat_eq r.cost.0 (zone.base.0 + choices_cost slots r.choices)

    wide : (narrow : ℕ → ℕ) → ((m k : ℕ) → has_choice (narrow m) k ≡ true → has_choice m k ≡ true)
        → ranks_in slots r (record zone { masks = slice_set zone.masks slot (narrow (slice_index zone.masks slot)) }) ≡ true → ranks_in slots r zone ≡ true
    wide narrow keeps e =
        let both = and_parts (is_member slots (record zone { masks = slice_set zone.masks slot (narrow (slice_index zone.masks slot)) }) (candidate_of r)) costs e in
        let member = and_parts (nat_eq r.source zone.source) (are_left slots (slice_set zone.masks slot (narrow (slice_index zone.masks slot))) r.choices) both.0 in
        and_from (is_member slots zone (candidate_of r)) costs (and_from (nat_eq r.source zone.source) (are_left slots zone.masks r.choices) member.0 (wider narrow keeps slots zone.masks r.choices slot member.1)) both.1

module _ (slots : List (List Cost)) (room : ℕ) where
  one_more_part : (w l of others all room : ℕ) → w + suc room ≤ l + of → all ≡ of + others → (1 + others + w) + suc room ≤ suc l + all
  one_more_part w l of others all room rest is = omega (arith, rest, is)

  parts_weigh_from : (c : Candidate) (slot : ℕ) (groups : List (List ℕ)) (own member : List ℕ) (zone : ZoneValue) → drop slot c.choices ≡ own → length zone.masks ≡ length c.choices
      → is_member slots zone c ≡ true → pointwise nat_eq (groups_of groups own) (groups_of groups member) ≡ true
      → weights slots room (map Some (parts_from zone slot groups member)) + suc room ≤ length own + members_count slots zone.masks * suc room
  parts_weigh_from c slot [] own member zone at len is same =
      let some = some_member slots zone.masks c.choices (and_parts (nat_eq c.source zone.source) (are_left slots zone.masks c.choices) is).1 in
      let all = mul-le-mul_right (suc room) some in
      omega (arith, all)
  parts_weigh_from c slot (numbers ∷ groups) own [] zone at len is same =
      let some = some_member slots zone.masks c.choices (and_parts (nat_eq c.source zone.source) (are_left slots zone.masks c.choices) is).1 in
      let all = mul-le-mul_right (suc room) some in
      omega (arith, all)
  parts_weigh_from c slot (numbers ∷ groups) [] (m ∷ ms) zone at len is same = absurd (cc same)
  parts_weigh_from c slot (numbers ∷ groups) (o ∷ os) (m ∷ ms) zone at len is same =
      let both = and_parts (nat_eq (group_of numbers o) (group_of numbers m)) (pointwise nat_eq (groups_of groups os) (groups_of groups ms)) same in
      let left : length c.choices - slot ≡ suc (length os) = sym (length-drop slot c.choices) ∙ ap length at in
      let within : slot < length c.choices = omega (arith, left) in
      let split : drop slot c.choices ≡ get_or c.choices slot 0 ∷ drop (suc slot) c.choices = drop-cons c.choices slot 0 within in
      let here : get_or c.choices slot 0 ≡ o = cc (sym split ∙ at) in
      let later : drop (suc slot) c.choices ≡ os = cc (sym split ∙ at) in
      let group : ℕ = group_of numbers m in
      let of_group : group_of numbers (get_or c.choices slot 0) ≡ group = ap (group_of numbers) here ∙ eqb-true (group_of numbers o) group both.0 in
      let inside : slot < length zone.masks = omega (arith, within, len) in
      let narrowed : ZoneValue = record zone { masks = masks_of_group zone.masks slot numbers group } in
      let parts = and_parts (nat_eq c.source zone.source) (are_left slots zone.masks c.choices) is in
      let still : is_member slots narrowed c ≡ true =
      and_from (nat_eq c.source zone.source) (are_left slots (masks_of_group zone.masks slot numbers group) c.choices) parts.0
      (left_in_group slots zone.masks c.choices slot numbers group parts.1 of_group within) in
      let rest = parts_weigh_from c (slot + 1) groups os ms narrowed (rw add-one later) (rw (length-set) len) still both.1 in
      let all = members_parted slots zone.masks slot numbers group inside in
      one_more_part (weights slots room (map Some (parts_from narrowed (slot + 1) groups ms))) (length os)
      (members_count slots (masks_of_group zone.masks slot numbers group) * suc room) (members_count slots (masks_of_others zone.masks slot numbers group) * suc room)
      (members_count slots zone.masks * suc room) room rest
      (ap (λ n. n * suc room) (sym all) ∙ add-mul (members_count slots (masks_of_group zone.masks slot numbers group)) (members_count slots (masks_of_others zone.masks slot numbers group)) (suc room))

  -- a zone split by the groups of one of its members, with its parts behind the rest
  pub group_split_weighs_less : (c : Candidate) (zone : ZoneValue) (groups : List (List ℕ)) (member : List ℕ) (rest : List (Option ZoneValue)) → length zone.masks ≡ length c.choices → is_member slots zone c ≡ true
      → have_same_groups groups c.choices member ≡ true → length c.choices ≤ room → weights slots room (rest ++ map Some (parts_by_groups zone groups member)) < weights slots room (Some zone ∷ rest)
  group_split_weighs_less c zone groups member rest len is same few =
      let joined = weights-append slots room rest (map Some (parts_by_groups zone groups member)) in
      let parts = parts_weigh_from c 0 groups c.choices member zone refl len is same in
      lighter (weights slots room (rest ++ map Some (parts_by_groups zone groups member))) (weights slots room rest) (weights slots room (map Some (parts_by_groups zone groups member)))
      (length c.choices) (members_count slots zone.masks * suc room) joined parts few
    where
      lighter : (all left parts l zone : ℕ) → all ≡ left + parts → parts + suc room ≤ l + zone → l ≤ room → all < 1 + zone + left
      lighter all left parts l zone is most few = omega (arith, is, most, few)
