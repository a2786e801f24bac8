-- How many members zones have, and what zones weigh: less after each split by choices of a member.
use Rattle.std.proofs.Common.{◌≡◌, ℕ, zero, suc, ◌+◌, ◌*◌, ◌<◌, ◌≤◌, Bool, true, false, not, ◌&&◌, ◌⊎◌, inl, inr, List, [], ◌∷◌, ◌++◌, length, map, Option, Some, None, refl, sym, ◌∙◌, ap, subst, cond, nat_eq, nat_lt, arith}
use Rattle.std.specs.List.{list_all}
use Rattle.std.proofs.Math.ListN.{length-set}
use Rattle.std.proofs.Math.Nat.{add-mul, mul-add, mul-le-mul_right, one-le-mul}
use Rattle.std.proofs.lemmas.Bool.{and_parts, ltb-true, cases_eq}
use Rattle.lv_base.specs.declared.ids.Cost.{Cost}
use Rattle.lv_base.specs.declared.search.Pair.{Pair}
use Rattle.lv_base.specs.declared.search.Candidate.{Candidate}
use Rattle.lv_base.specs.Choices.{picks, contains_all}
use Rattle.lv_boxes.specs.Masks.{has_choice, only_choice, without_choice}
use Rattle.lv_boxes.specs.Members.{ZoneValue, is_left, are_left, is_member}
use Rattle.lv_boxes.specs.Parts.{masks_with, masks_without, parts_of}
use Rattle.lv_boxes.proofs.MaskLemmas.{has_choice-only, has_choice-without}
use Rattle.lv_boxes.proofs.PartsLemmas.{is_member-with}

-- how many of the choices from n on, of which these are the costs, the mask has
abbrev pub choices_count : ℕ → List Cost → ℕ → ℕ
choices_count n [] mask = 0
choices_count n (cost ∷ costs) mask = cond (has_choice mask n) 1 0 + choices_count (n + 1) costs mask

-- how many lists of one choice that is left for each slot there are
abbrev pub members_count : List (List Cost) → List ℕ → ℕ
members_count [] [] = 1
members_count [] (mask ∷ masks) = 0
members_count (costs ∷ slots) [] = 0
members_count (costs ∷ slots) (mask ∷ masks) = choices_count 0 costs mask * members_count slots masks

choices_split : (n : ℕ) (costs : List Cost) (mask choice : ℕ) → choices_count n costs (only_choice mask choice) + choices_count n costs (without_choice mask choice) ≡ choices_count n costs mask
choices_split n [] mask choice = refl
choices_split n (cost ∷ costs) mask choice =
    (λ i. (cond (has_choice-only mask choice n i) 1 0 + choices_count (n + 1) costs (only_choice mask choice)) + (cond (has_choice-without mask choice n i) 1 0 + choices_count (n + 1) costs (without_choice mask choice)))
    ∙ by (has_choice mask n) (nat_eq n choice) (choices_split (n + 1) costs mask choice)
  where
    by : (has same : Bool)
        → choices_count (n + 1) costs (only_choice mask choice) + choices_count (n + 1) costs (without_choice mask choice) ≡ choices_count (n + 1) costs mask
        → (cond (has && same) 1 0 + choices_count (n + 1) costs (only_choice mask choice)) + (cond (has && not same) 1 0 + choices_count (n + 1) costs (without_choice mask choice))
        ≡ cond has 1 0 + choices_count (n + 1) costs mask
    by true true rest = omega (arith, rest)
    by true false rest = omega (arith, rest)
    by false same rest = omega (arith, rest)

members_split : (slots : List (List Cost)) (masks : List ℕ) (s c : ℕ) → s < length masks
    → members_count slots (masks_with masks (record { slot = s; choice = c })) + members_count slots (masks_without masks (record { slot = s; choice = c })) ≡ members_count slots masks
members_split slots [] s c within = absurd (omega (arith, within))
members_split [] (m ∷ ms) zero c within = refl
members_split [] (m ∷ ms) (suc s) c within = refl
members_split (costs ∷ slots) (m ∷ ms) zero c within =
    sym (add-mul (choices_count 0 costs (only_choice m c)) (choices_count 0 costs (without_choice m c)) (members_count slots ms)) ∙ ap (λ n. n * members_count slots ms) (choices_split 0 costs m c)
members_split (costs ∷ slots) (m ∷ ms) (suc s) c within =
    let fits : s < length ms = omega (arith, within) in
    sym (mul-add (choices_count 0 costs m) (members_count slots (masks_with ms (record { slot = s; choice = c }))) (members_count slots (masks_without ms (record { slot = s; choice = c }))))
    ∙ ap (λ n. choices_count 0 costs m * n) (members_split slots ms s c fits)

-- a choice that is left counts
some_choice : (n : ℕ) (costs : List Cost) (mask choice : ℕ) → n ≤ choice → choice < n + length costs → has_choice mask choice ≡ true → 1 ≤ choices_count n costs mask
some_choice n [] mask choice from below has = absurd (omega (arith, from, below))
some_choice n (cost ∷ costs) mask choice from below has =
    by (cases_eq choice n) (λ past. some_choice (n + 1) costs mask choice past (omega (arith, below)) has)
  where
    by : (choice ≡ n) ⊎ (choice ≡ n → ⊥) → (n + 1 ≤ choice → 1 ≤ choices_count (n + 1) costs mask) → 1 ≤ cond (has_choice mask n) 1 0 + choices_count (n + 1) costs mask
    by (inl same) later =
        let here : has_choice mask n ≡ true = ap (has_choice mask) (sym same) ∙ has in
        subst (λ (b : Bool). 1 ≤ cond b 1 0 + choices_count (n + 1) costs mask) (sym here) (omega arith)
    by (inr other) later = let rest = later (omega (arith, from, other)) in omega (arith, rest)

pub some_member : (slots : List (List Cost)) (masks choices : List ℕ) → are_left slots masks choices ≡ true → 1 ≤ members_count slots masks
some_member [] [] [] h = omega arith
some_member [] [] (choice ∷ choices) h = absurd (cc h)
some_member [] (mask ∷ masks) [] h = absurd (cc h)
some_member [] (mask ∷ masks) (choice ∷ choices) h = absurd (cc h)
some_member (costs ∷ slots) [] [] h = absurd (cc h)
some_member (costs ∷ slots) [] (choice ∷ choices) h = absurd (cc h)
some_member (costs ∷ slots) (mask ∷ masks) [] h = absurd (cc h)
some_member (costs ∷ slots) (mask ∷ masks) (choice ∷ choices) h =
    let both = and_parts (is_left costs mask choice) (are_left slots masks choices) h in
    let here = and_parts (nat_lt choice (length costs)) (has_choice mask choice) both.0 in
    let below : choice < length costs = ltb-true choice (length costs) here.0 in
    one-le-mul (some_choice 0 costs mask choice (omega arith) (omega (arith, below)) here.1) (some_member slots masks choices both.1)

module _ (slots : List (List Cost)) (room : ℕ) where
  abbrev weight : Option ZoneValue → ℕ
  weight None = 1
  weight (Some zone) = 1 + members_count slots zone.masks * suc room

  -- zones that were split weigh 1, and others as much more as they have members
  abbrev pub weights : List (Option ZoneValue) → ℕ
  weights [] = 0
  weights (z ∷ zs) = weight z + weights zs

  pub weights-append : (xs ys : List (Option ZoneValue)) → weights (xs ++ ys) ≡ weights xs + weights ys
  weights-append [] ys = omega arith
  weights-append (x ∷ xs) ys = let rest = weights-append xs ys in omega (arith, rest)

  one_more : (w l with_it without all room : ℕ) → w + suc room ≤ l + with_it → all ≡ with_it + without → (1 + without + w) + suc room ≤ suc l + all
  one_more w l with_it without all room rest is = omega (arith, rest, is)

  parts_weigh : (c : Candidate) (n : ℕ) (zone : ZoneValue) (pairs : List Pair) → length zone.masks ≡ n → list_all (λ (p : Pair). nat_lt p.slot n) pairs ≡ true
      → is_member slots zone c ≡ true → contains_all c.choices pairs ≡ true → weights (map Some (parts_of zone pairs)) + suc room ≤ length pairs + members_count slots zone.masks * suc room
  parts_weigh c n zone [] len below member inside =
      let some = some_member slots zone.masks c.choices (and_parts (nat_eq c.source zone.source) (are_left slots zone.masks c.choices) member).1 in
      let all = mul-le-mul_right (suc room) some in
      omega (arith, all)
  parts_weigh c n zone (p ∷ ps) len below member inside =
      let parts = and_parts (nat_lt p.slot n) (list_all (λ (q : Pair). nat_lt q.slot n) ps) below in
      let slot : p.slot < n = ltb-true p.slot n parts.0 in
      let here : p.slot < length zone.masks = subst (λ m. p.slot < m) (sym len) slot in
      let same : length (masks_with zone.masks p) ≡ n = rw (length-set) len in
      let has = and_parts (picks c.choices p) (contains_all c.choices ps) inside in
      let still : is_member slots (record zone { masks = masks_with zone.masks p }) c ≡ true = is_member-with slots zone p c here ∙ (λ i. member i && has.0 i) in
      let rest = parts_weigh c n (record zone { masks = masks_with zone.masks p }) ps same parts.1 still has.1 in
      let split = members_split slots zone.masks p.slot p.choice here in
      one_more (weights (map Some (parts_of (record zone { masks = masks_with zone.masks p }) ps))) (length ps)
      (members_count slots (masks_with zone.masks p) * suc room) (members_count slots (masks_without zone.masks p) * suc room) (members_count slots zone.masks * suc room) room rest
      (ap (λ m. m * suc room) (sym split) ∙ add-mul (members_count slots (masks_with zone.masks p)) (members_count slots (masks_without zone.masks p)) (suc room))

  -- a zone split by a few choices of one of its members, with its parts behind the rest
  pub split_weighs_less : (c : Candidate) (zone : ZoneValue) (pairs : List Pair) (rest : List (Option ZoneValue)) → list_all (λ (p : Pair). nat_lt p.slot (length zone.masks)) pairs ≡ true
      → is_member slots zone c ≡ true → contains_all c.choices pairs ≡ true → length pairs ≤ room → weights (rest ++ map Some (parts_of zone pairs)) < weights (Some zone ∷ rest)
  split_weighs_less c zone pairs rest below member inside few =
      let joined = weights-append rest (map Some (parts_of zone pairs)) in
      let parts = parts_weigh c (length zone.masks) zone pairs refl below member inside in
      lighter (weights (rest ++ map Some (parts_of zone pairs))) (weights rest) (weights (map Some (parts_of zone pairs))) (length pairs) (members_count slots zone.masks * suc room) joined parts few
    where
      lighter : (all left parts l zone : ℕ) → all ≡ left + parts → parts + suc room ≤ l + zone → l ≤ room → all < 1 + zone + left
      lighter all left parts l zone is most few = omega (arith, is, most, few)

  pub rest_weighs_less : (z : Option ZoneValue) (rest : List (Option ZoneValue)) → weights rest < weights (z ∷ rest)
  rest_weighs_less None rest = omega arith
  rest_weighs_less (Some zone) rest = lighter (weights rest) (members_count slots zone.masks * suc room)
    where
      lighter : (left zone : ℕ) → left < 1 + zone + left
      lighter left zone = omega arith
