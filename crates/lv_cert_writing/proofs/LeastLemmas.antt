-- The least member of a zone, and the members of the parts that a split leaves.
use Rattle.std.proofs.Common.{◌≡◌, ℕ, ◌+◌, ◌<◌, Bool, true, false, not, ◌&&◌, ◌||◌, List, [], ◌∷◌, ⊎_elim, length, map, Option, Some, None, option_map, refl, sym, ◌∙◌, ap, subst, nat_eq, nat_lt, arith}
use Rattle.std.specs.Prelude.{slice_index}
use Rattle.std.specs.List.{list_all, list_any}
use Rattle.std.proofs.Math.ListN.{length-set}
use Rattle.std.proofs.lemmas.Bool.{and_from, and_parts, or_cases, ltb-true}
use Rattle.lv_base.specs.declared.ids.Cost.{Cost}
use Rattle.lv_base.specs.declared.rank.Rank.{Rank}
use Rattle.lv_base.specs.declared.search.Pair.{Pair}
use Rattle.lv_base.specs.Choices.{picks, contains_all}
use Rattle.lv_boxes.specs.Members.{ZoneValue, are_left, is_member, choices_cost, rank_in}
use Rattle.lv_boxes.specs.Least.{cheapest_choices}
use Rattle.lv_boxes.specs.Parts.{masks_with, masks_without, parts_of}
use Rattle.lv_boxes.proofs.PartsLemmas.{is_member-with, is_member-without}
use Rattle.lv_boxes.proofs.MemberLemmas.{length-are_left}
use Rattle.lv_boxes.proofs.LeastLemmas.{written_is_least}
use Rattle.lv_boxes.specs.Walk.{candidate_of}
use Rattle.lv_boxes.specs.RankedMembers.{ranks_in}
use Rattle.lv_boxes.proofs.RankedMemberLemmas.{has_least_rank}
use Rattle.lv_cert_meaning.specs.Space.{least_rank}

left_true : (a b : Bool) → (a && b) ≡ true → a ≡ true
left_true a b h = (and_parts a b h).0

masks_length : (slots : List (List Cost)) (masks choices : List ℕ) → are_left slots masks choices ≡ true → length masks ≡ length slots
masks_length [] [] [] h = refl
masks_length [] [] (choice ∷ choices) h = absurd (cc h)
masks_length [] (mask ∷ masks) [] h = absurd (cc h)
masks_length [] (mask ∷ masks) (choice ∷ choices) h = absurd (cc h)
masks_length (costs ∷ slots) [] [] h = absurd (cc h)
masks_length (costs ∷ slots) [] (choice ∷ choices) h = absurd (cc h)
masks_length (costs ∷ slots) (mask ∷ masks) [] h = absurd (cc h)
masks_length (costs ∷ slots) (mask ∷ masks) (choice ∷ choices) h =
    let rest : are_left slots masks choices ≡ true = grind arith in
    let same : length masks ≡ length slots = masks_length slots masks choices rest in
    omega (arith, same)

-- the slots of what a list of choices contains
pub slots_within : (choices : List ℕ) (n : ℕ) (pairs : List Pair) → length choices ≡ n → contains_all choices pairs ≡ true → list_all (λ (p : Pair). nat_lt p.slot n) pairs ≡ true
slots_within choices n [] len h = refl
slots_within choices n (p ∷ ps) len h =
    let parts = and_parts (picks choices p) (contains_all choices ps) h in
    and_from (nat_lt p.slot n) (list_all (λ (q : Pair). nat_lt q.slot n) ps)
    (sym (ap (λ m. nat_lt p.slot m) len) ∙ (and_parts (nat_lt p.slot (length choices)) (nat_eq (slice_index choices p.slot) p.choice) parts.0).0)
    (slots_within choices n ps len parts.1)

module _ (slots : List (List Cost)) where
  -- the rank of a zone's least member
  pub record IsLeastOf (zone : ZoneValue) (r : Rank) : Type 0 where
    pub ranks : ranks_in slots r zone ≡ true
    pub member : is_member slots zone (candidate_of r) ≡ true
    pub source : r.source ≡ zone.source
    pub masks : length r.choices ≡ length zone.masks
    pub slots_are : length r.choices ≡ length slots

  pub least_told : (zone : ZoneValue) (r : Rank) → least_rank slots zone ≡ Some r → IsLeastOf zone r
  least_told zone r is = by (cheapest_choices slots zone.masks) refl is
    where
      ranked : (out : List ℕ) → cheapest_choices slots zone.masks ≡ Some out → IsLeastOf zone (rank_in slots zone out)
      ranked out e =
          let ranks = has_least_rank slots zone (rank_in slots zone out) (record { least = written_is_least slots zone out (sym e); is = refl }) in
          let member = left_true (is_member slots zone (candidate_of (rank_in slots zone out))) (nat_eq (zone.base.0 + choices_cost slots out) (zone.base.0 + choices_cost slots out)) ranks in
          let left = (and_parts (nat_eq zone.source zone.source) (are_left slots zone.masks out) member).1 in
          let masks : length out ≡ length zone.masks = length-are_left slots zone.masks out left in
          record { ranks = ranks; member = member; source = refl; masks = masks; slots_are = masks ∙ masks_length slots zone.masks out left }

      by : (o : Option (List ℕ)) → cheapest_choices slots zone.masks ≡ o → option_map (rank_in slots zone) o ≡ Some r → IsLeastOf zone r
      by None e same = absurd (cc same)
      by (Some out) e same = let made : rank_in slots zone out ≡ r = cc same in subst (IsLeastOf zone) made (ranked out e)

  -- it is the rank of a member of the zone, which is open
  abbrev pub ranks_in_open : Rank → Option ZoneValue → Bool
  ranks_in_open r None = false
  ranks_in_open r (Some zone) = ranks_in slots r zone

  pub among_open : (r : Rank) (zones : List ZoneValue) → list_any (ranks_in_open r) (map Some zones) ≡ list_any (ranks_in slots r) zones
  among_open r [] = refl
  among_open r (zone ∷ zones) = ap (λ b. ranks_in slots r zone || b) (among_open r zones)

  narrower : (m p c : Bool) → ((m && p) && c) ≡ true → (m && c) ≡ true
  narrower true true c h = h
  narrower true false c h = absurd (cc h)
  narrower false p c h = absurd (cc h)

  -- a member of a part is one of the zone
  pub among_parts : (r : Rank) (n : ℕ) (zone : ZoneValue) (pairs : List Pair) → length zone.masks ≡ n → list_all (λ (p : Pair). nat_lt p.slot n) pairs ≡ true
      → list_any (ranks_in slots r) (parts_of zone pairs) ≡ true → ranks_in slots r zone ≡ true
  among_parts r n zone [] len below h = absurd (cc h)
  among_parts r n zone (p ∷ ps) len below h =
      let parts = and_parts (nat_lt p.slot n) (list_all (λ (q : Pair). nat_lt q.slot n) ps) below in
      let slot : p.slot < n = ltb-true p.slot n parts.0 in
      let here : p.slot < length zone.masks = subst (λ m. p.slot < m) (sym len) slot in
      let same : length (masks_with zone.masks p) ≡ n = rw (length-set) len in
      ⊎_elim (λ e. narrower (is_member slots zone (candidate_of r)) (not (picks r.choices p)) costs ((λ i. sym (is_member-without slots zone p (candidate_of r) here) i && costs) ∙ e))
      (λ e. narrower (is_member slots zone (candidate_of r)) (picks r.choices p) costs
      ((λ i. sym (is_member-with slots zone p (candidate_of r) here) i && costs) ∙ among_parts r n (record zone { masks = masks_with zone.masks p }) ps same parts.1 e))
      (or_cases (ranks_in slots r (record zone { masks = masks_without zone.masks p })) (list_any (ranks_in slots r) (parts_of (record zone { masks = masks_with zone.masks p }) ps)) h)
    where
      costs : Bool
      costs = nat_eq r.cost.0 (zone.base.0 + choices_cost slots r.choices)
