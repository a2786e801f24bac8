-- The members of zones, as listed and as tested.
use Rattle.std.proofs.Common.{◌≡◌, ℕ, ◌+◌, ◌<◌, ◌≤◌, Bool, true, false, ◌||◌, List, [], ◌∷◌, ◌⊎◌, inl, inr, ⊎_elim, length, refl, sym, ◌∙◌, ap, subst, cond, nat_eq, nat_lt, arith}
use Rattle.std.specs.Prelude.{map}
use Rattle.std.specs.List.{flat_map, list_any, list_all}
use Rattle.std.proofs.lemmas.Bool.{and_from, and_left, and_right, and_parts, or_cases, or_left, or_right, eqb-true, eq-eqb, ltb-true, lt-ltb, cases_eq}
use Rattle.std.proofs.lemmas.List.Folds.{list_any-append}
use Rattle.lv_base.specs.declared.ids.Cost.{Cost}
use Rattle.lv_base.specs.declared.rank.Rank.{Rank}
use Rattle.lv_base.specs.declared.search.Candidate.{Candidate}
use Rattle.lv_boxes.specs.Masks.{has_choice}
use Rattle.lv_boxes.specs.Members.{ZoneValue, is_left, are_left, is_member, choices_cost, rank_in}
use Rattle.lv_boxes.specs.Ranked.{rises, is_rank, is_among}
use Rattle.lv_boxes.specs.Walk.{candidate_of, suit_all}
use Rattle.lv_boxes.proofs.RankedLemmas.{is_itself, same_rank, among_ranked, rises_ranked}
use Rattle.lv_boxes.specs.RankedMembers.{choices_left, lists_left, members_of, ranked_members, ranks_in, times_in, IsLeastRank}
use Rattle.lv_boxes.specs.Least.{lacks_choice}
use Rattle.lv_boxes.proofs.LeastLemmas.{lacks_choice-none}
use Rattle.lv_boxes.proofs.Among.{Among, MadeOf, made_of, among_flat, MappedFrom, mapped_from, among_map}

-- tests that imply each other are one
pub one_test : (s t : Bool) → (s ≡ true → t ≡ true) → (t ≡ true → s ≡ true) → s ≡ t
one_test true t f g = sym (f refl)
one_test false true f g = g refl
one_test false false f g = refl

pub among_by_test : (r : Rank) (rs : List Rank) → is_among r rs ≡ true → Among r rs
among_by_test r [] h = absurd (cc h)
among_by_test r (s ∷ rs) h = ⊎_elim (λ e. inl (same_rank r s e)) (λ e. inr (among_by_test r rs e)) (or_cases (is_rank r s) (is_among r rs) h)

pub test_by_among : (r : Rank) (rs : List Rank) → Among r rs → is_among r rs ≡ true
test_by_among r [] h = absurd h
test_by_among r (s ∷ rs) (inl e) = or_left (is_rank r s) (is_among r rs) (subst (λ (q : Rank). is_rank r q ≡ true) e (is_itself r))
test_by_among r (s ∷ rs) (inr h) = or_right (is_rank r s) (is_among r rs) (test_by_among r rs h)

-- the choices left at one slot
record IsLeftFrom (n : ℕ) (costs : List Cost) (mask choice : ℕ) : Type 0 where
  from : n ≤ choice
  below : choice < n + length costs
  has : has_choice mask choice ≡ true

choice_is_left : (n : ℕ) (costs : List Cost) (mask choice : ℕ) → Among choice (choices_left n costs mask) → IsLeftFrom n costs mask choice
choice_is_left n [] mask choice h = absurd h
choice_is_left n (cost ∷ costs) mask choice h = by (has_choice mask n) refl (choice_is_left (n + 1) costs mask choice) h
  where
    later : IsLeftFrom (n + 1) costs mask choice → IsLeftFrom n (cost ∷ costs) mask choice
    later l = let from = l.from in let below = l.below in record { from = omega (arith, from); below = omega (arith, below); has = l.has }

    by : (b : Bool) → has_choice mask n ≡ b → (Among choice (choices_left (n + 1) costs mask) → IsLeftFrom (n + 1) costs mask choice)
        → Among choice (cond b (n ∷ choices_left (n + 1) costs mask) (choices_left (n + 1) costs mask)) → IsLeftFrom n (cost ∷ costs) mask choice
    by true e rest (inl same) = record { from = omega (arith, same); below = omega (arith, same); has = ap (has_choice mask) same ∙ e }
    by true e rest (inr a) = later (rest a)
    by false e rest a = later (rest a)

left_choice : (n : ℕ) (costs : List Cost) (mask choice : ℕ) → n ≤ choice → choice < n + length costs → has_choice mask choice ≡ true → Among choice (choices_left n costs mask)
left_choice n [] mask choice from below has = absurd (omega (arith, from, below))
left_choice n (cost ∷ costs) mask choice from below has =
    by (has_choice mask n) refl (cases_eq choice n) (λ past. left_choice (n + 1) costs mask choice past (omega (arith, below)) has)
  where
    by : (b : Bool) → has_choice mask n ≡ b → (choice ≡ n) ⊎ (choice ≡ n → ⊥) → (n + 1 ≤ choice → Among choice (choices_left (n + 1) costs mask))
        → Among choice (cond b (n ∷ choices_left (n + 1) costs mask) (choices_left (n + 1) costs mask))
    by true e (inl same) later = inl same
    by true e (inr other) later = inr (later (omega (arith, from, other)))
    by false e (inl same) later = let clash : true ≡ false = sym has ∙ ap (has_choice mask) same ∙ e in absurd (cc clash)
    by false e (inr other) later = later (omega (arith, from, other))

-- exactly the lists of choices that are left are listed
list_is_left : (slots : List (List Cost)) (masks choices : List ℕ) → Among choices (lists_left slots masks) → are_left slots masks choices ≡ true
list_is_left [] [] choices (inl e) = ap (λ cs. are_left [] [] cs) e
list_is_left [] [] choices (inr h) = absurd h
list_is_left [] (mask ∷ masks) choices h = absurd h
list_is_left (costs ∷ slots) [] choices h = absurd h
list_is_left (costs ∷ slots) (mask ∷ masks) choices h =
    let made : MadeOf (λ choice. map (λ cs. choice ∷ cs) (lists_left slots masks)) (choices_left 0 costs mask) choices = made_of (λ choice. map (λ cs. choice ∷ cs) (lists_left slots masks)) (choices_left 0 costs mask) choices h in
    let mapped : MappedFrom (λ cs. made.source ∷ cs) (lists_left slots masks) choices = mapped_from (λ cs. made.source ∷ cs) (lists_left slots masks) choices made.item in
    let left : IsLeftFrom 0 costs mask made.source = choice_is_left 0 costs mask made.source made.listed in
    let below = left.below in
    ap (λ cs. are_left (costs ∷ slots) (mask ∷ masks) cs) mapped.is
    ∙ and_from (is_left costs mask made.source) (are_left slots masks mapped.source)
    (and_from (nat_lt made.source (length costs)) (has_choice mask made.source) (lt-ltb made.source (length costs) (omega (arith, below))) left.has)
    (list_is_left slots masks mapped.source mapped.listed)

left_list : (slots : List (List Cost)) (masks choices : List ℕ) → are_left slots masks choices ≡ true → Among choices (lists_left slots masks)
left_list [] [] [] h = inl refl
left_list [] [] (choice ∷ choices) h = absurd (cc h)
left_list [] (mask ∷ masks) [] h = absurd (cc h)
left_list [] (mask ∷ masks) (choice ∷ choices) h = absurd (cc h)
left_list (costs ∷ slots) [] [] h = absurd (cc h)
left_list (costs ∷ slots) [] (choice ∷ choices) h = absurd (cc h)
left_list (costs ∷ slots) (mask ∷ masks) [] h = absurd (cc h)
left_list (costs ∷ slots) (mask ∷ masks) (choice ∷ choices) h =
    let parts = and_parts (is_left costs mask choice) (are_left slots masks choices) h in
    let here = and_parts (nat_lt choice (length costs)) (has_choice mask choice) parts.0 in
    let below : choice < length costs = ltb-true choice (length costs) here.0 in
    among_flat (λ c. map (λ cs. c ∷ cs) (lists_left slots masks)) (choices_left 0 costs mask) choice (choice ∷ choices)
    (left_choice 0 costs mask choice (omega arith) (omega (arith, below)) here.1)
    (among_map (λ cs. choice ∷ cs) (lists_left slots masks) choices (left_list slots masks choices parts.1))

-- a rank of a member is what the zone ranks its choices as
pub rank_of_member : (slots : List (List Cost)) (r : Rank) (zone : ZoneValue) → ranks_in slots r zone ≡ true → r ≡ rank_in slots zone r.choices
rank_of_member slots r zone h =
    let parts = and_parts (is_member slots zone (candidate_of r)) (nat_eq r.cost.0 (zone.base.0 + choices_cost slots r.choices)) h in
    let member = and_parts (nat_eq r.source zone.source) (are_left slots zone.masks r.choices) parts.0 in
    let source : r.source ≡ zone.source = eqb-true r.source zone.source member.0 in
    let cost : r.cost.0 ≡ zone.base.0 + choices_cost slots r.choices = eqb-true r.cost.0 (zone.base.0 + choices_cost slots r.choices) parts.1 in
    λ i. record { cost = record { 0 = cost i }; source = source i; choices = r.choices }

ranked_by_zone : (slots : List (List Cost)) (zone : ZoneValue) (choices : List ℕ) → are_left slots zone.masks choices ≡ true → ranks_in slots (rank_in slots zone choices) zone ≡ true
ranked_by_zone slots zone choices h =
    and_from (is_member slots zone (record { source = zone.source; choices = choices })) (nat_eq (zone.base.0 + choices_cost slots choices) (zone.base.0 + choices_cost slots choices))
    (and_from (nat_eq zone.source zone.source) (are_left slots zone.masks choices) (eq-eqb zone.source zone.source refl) h)
    (eq-eqb (zone.base.0 + choices_cost slots choices) (zone.base.0 + choices_cost slots choices) refl)

pub among_members : (slots : List (List Cost)) (r : Rank) (zone : ZoneValue) → is_among r (members_of slots zone) ≡ ranks_in slots r zone
among_members slots r zone = one_test (is_among r (members_of slots zone)) (ranks_in slots r zone) listed is_listed
  where
    listed : is_among r (members_of slots zone) ≡ true → ranks_in slots r zone ≡ true
    listed h =
        let mapped : MappedFrom (rank_in slots zone) (lists_left slots zone.masks) r = mapped_from (rank_in slots zone) (lists_left slots zone.masks) r (among_by_test r (members_of slots zone) h) in
        ap (λ (q : Rank). ranks_in slots q zone) mapped.is ∙ ranked_by_zone slots zone mapped.source (list_is_left slots zone.masks mapped.source mapped.listed)

    is_listed : ranks_in slots r zone ≡ true → is_among r (members_of slots zone) ≡ true
    is_listed h =
        let parts = and_parts (is_member slots zone (candidate_of r)) (nat_eq r.cost.0 (zone.base.0 + choices_cost slots r.choices)) h in
        let member = and_parts (nat_eq r.source zone.source) (are_left slots zone.masks r.choices) parts.0 in
        ap (λ (q : Rank). is_among q (members_of slots zone)) (rank_of_member slots r zone h)
        ∙ test_by_among (rank_in slots zone r.choices) (members_of slots zone) (among_map (rank_in slots zone) (lists_left slots zone.masks) r.choices (left_list slots zone.masks r.choices member.1))

-- some zone has it
pub is_in_some : List (List Cost) → Rank → List ZoneValue → Bool
is_in_some slots r zones = nat_lt 0 (times_in slots r zones)

pub some_by_first : (slots : List (List Cost)) (r : Rank) (zone : ZoneValue) (zones : List ZoneValue) → nat_lt 0 (times_in slots r (zone ∷ zones)) ≡ (ranks_in slots r zone || nat_lt 0 (times_in slots r zones))
some_by_first slots r zone zones = by (ranks_in slots r zone)
  where
    by : (b : Bool) → nat_lt 0 (cond b 1 0 + times_in slots r zones) ≡ (b || nat_lt 0 (times_in slots r zones))
    by true = lt-ltb 0 (1 + times_in slots r zones) (omega arith)
    by false = let same : 0 + times_in slots r zones ≡ times_in slots r zones = omega arith in ap (nat_lt 0) same

among_all_members : (slots : List (List Cost)) (r : Rank) (zones : List ZoneValue) → is_among r (flat_map (members_of slots) zones) ≡ nat_lt 0 (times_in slots r zones)
among_all_members slots r [] = refl
among_all_members slots r (zone ∷ zones) =
    list_any-append (is_rank r) (members_of slots zone) (flat_map (members_of slots) zones)
    ∙ (λ i. among_members slots r zone i || among_all_members slots r zones i)
    ∙ sym (some_by_first slots r zone zones)

-- what stands in the ranked list
pub among_ranked_members : (slots : List (List Cost)) (r : Rank) (zones : List ZoneValue) → is_among r (ranked_members slots zones) ≡ nat_lt 0 (times_in slots r zones)
among_ranked_members slots r zones = among_ranked r (flat_map (members_of slots) zones) ∙ among_all_members slots r zones

pub ranked_members_rise : (slots : List (List Cost)) (zones : List ZoneValue) → rises (ranked_members slots zones) ≡ true
ranked_members_rise slots zones = rises_ranked (flat_map (members_of slots) zones)

some_has : (slots : List (List Cost)) (r : Rank) (zones : List ZoneValue) → nat_lt 0 (times_in slots r zones) ≡ list_any (ranks_in slots r) zones
some_has slots r [] = refl
some_has slots r (zone ∷ zones) = some_by_first slots r zone zones ∙ ap (λ b. ranks_in slots r zone || b) (some_has slots r zones)

pub among_ranked_members_any : (slots : List (List Cost)) (zones : List ZoneValue) (r : Rank) → is_among r (ranked_members slots zones) ≡ list_any (ranks_in slots r) zones
among_ranked_members_any slots zones r = among_ranked_members slots r zones ∙ some_has slots r zones

-- what passes wherever it is among some ranks passes among all of them
all_among : (p : Rank → Bool) (rs : List Rank) → ((r : Rank) → is_among r rs ≡ true → p r ≡ true) → list_all p rs ≡ true
all_among p [] h = refl
all_among p (r ∷ rs) h =
    and_from (p r) (list_all p rs) (h r (or_left (is_rank r r) (is_among r rs) (is_itself r))) (all_among p rs (λ q a. h q (or_right (is_rank q r) (is_among q rs) a)))

member_of_some : (slots : List (List Cost)) (r : Rank) (zones : List ZoneValue) → list_any (ranks_in slots r) zones ≡ true → list_any (λ (zone : ZoneValue). is_member slots zone (candidate_of r)) zones ≡ true
member_of_some slots r [] h = absurd (cc h)
member_of_some slots r (zone ∷ zones) h =
    ⊎_elim
    (λ e. or_left (is_member slots zone (candidate_of r)) (list_any (λ (z : ZoneValue). is_member slots z (candidate_of r)) zones)
    (and_parts (is_member slots zone (candidate_of r)) (nat_eq r.cost.0 (zone.base.0 + choices_cost slots r.choices)) e).0)
    (λ e. or_right (is_member slots zone (candidate_of r)) (list_any (λ (z : ZoneValue). is_member slots z (candidate_of r)) zones) (member_of_some slots r zones e))
    (or_cases (ranks_in slots r zone) (list_any (ranks_in slots r) zones) h)

pub all_members_pass : (slots : List (List Cost)) (zones : List ZoneValue) (suits : Candidate → Bool)
    → ((c : Candidate) → list_any (λ (zone : ZoneValue). is_member slots zone c) zones ≡ true → suits c ≡ true) → suit_all suits (ranked_members slots zones) ≡ true
all_members_pass slots zones suits passes =
    all_among (λ (r : Rank). suits (candidate_of r)) (ranked_members slots zones)
    (λ r a. passes (candidate_of r) (member_of_some slots r zones (sym (among_ranked_members_any slots zones r) ∙ a)))

module _ (slots : List (List Cost)) where
  -- a zone in which some slot has no choice left has no members
  pub lacking_has_none : (zone : ZoneValue) (r : Rank) → lacks_choice slots zone.masks ≡ true → ranks_in slots r zone ≡ false
  lacking_has_none zone r lacks =
      and_left (is_member slots zone (candidate_of r)) (nat_eq r.cost.0 (zone.base.0 + choices_cost slots r.choices))
      (and_right (nat_eq r.source zone.source) (are_left slots zone.masks r.choices) (lacks_choice-none slots zone.masks r.choices lacks))

  -- a zone has its least member
  pub has_least_rank : (zone : ZoneValue) (r : Rank) → IsLeastRank slots zone r → ranks_in slots r zone ≡ true
  has_least_rank zone r l =
      ap (λ (q : Rank). ranks_in slots q zone) l.is
      ∙ and_from (is_member slots zone (record { source = zone.source; choices = r.choices })) (nat_eq (zone.base.0 + choices_cost slots r.choices) (zone.base.0 + choices_cost slots r.choices))
      l.least.member
      (eq-eqb (zone.base.0 + choices_cost slots r.choices) (zone.base.0 + choices_cost slots r.choices) refl)
