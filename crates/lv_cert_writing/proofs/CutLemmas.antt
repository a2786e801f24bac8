-- By what a zone is split: evidence for its least member, which leaves parts of the zone that weigh less.
use Rattle.std.proofs.Common.{◌≡◌, ℕ, zero, suc, ◌+◌, ◌-◌, ◌<◌, ◌≤◌, Bool, true, false, not, ◌&&◌, ◌||◌, ◌⊎◌, inl, inr, List, [], ◌∷◌, ◌++◌, length, map, drop, get_or, position, slice_get, Option, Some, None, option_map, refl, sym, ◌∙◌, ap, subst, cond, nat_eq, nat_lt, arith, add-one, drop-cons, length-drop}
use Rattle.std.specs.Option.{option_or, option_and_then, option_map_or}
use Rattle.std.specs.List.{list_any, position_or_len}
use Rattle.std.proofs.lemmas.Bool.{and_parts, and_from, or_cases, lt-ltb, ltb-false, leb-true, eq-eqb}
use Rattle.std.proofs.lemmas.Option.{slice_get-get_or}
use Rattle.std.proofs.lemmas.List.Quantifiers.{position-Some}
use Rattle.lv_base.specs.declared.ids.Cost.{Cost}
use Rattle.lv_base.specs.declared.rank.Rank.{Rank}
use Rattle.lv_base.specs.declared.search.Pair.{Pair}
use Rattle.lv_base.specs.Choices.{contains_all, pairs_from, pairs_of}
use Rattle.lv_base.specs.Rank.{ranks_before}
use Rattle.lv_boxes.specs.Members.{ZoneValue}
use Rattle.lv_boxes.specs.Parts.{parts_of}
use Rattle.lv_boxes.specs.GroupParts.{parts_by_groups}
use Rattle.lv_boxes.specs.RankedMembers.{ranks_in}
use Rattle.lv_boxes.specs.Ranked.{is_rank, is_among}
use Rattle.lv_boxes.specs.Walk.{candidate_of, is_ruled_out}
use Rattle.lv_boxes.specs.Groups.{have_same_groups}
use Rattle.lv_boxes.proofs.RankedLemmas.{same_rank, not_before_itself, not_both_before}
use Rattle.lv_model.specs.declared.plant.Plant.{Plant}
use Rattle.lv_meaning.specs.Targets.{targets_of_moves}
use Rattle.lv_cert.specs.declared.line.Question.{Question}
use Rattle.lv_cert.specs.declared.line.Question.TheVariants.{Diagnosis, Recovery}
use Rattle.lv_cert.specs.declared.line.Evidence.TheVariants as evidence
use Rattle.lv_cert.specs.Order.{splits}
use Rattle.lv_cert_meaning.specs.Counting.{at_number}
use Rattle.lv_cert_meaning.specs.Space.{least_rank, has_before, is_behind}
use Rattle.lv_cert_meaning.specs.Judging.{Judged, listed_choices, parts_by_target, split_parts}
use Rattle.lv_cert_writing.specs.Explained.{stands_for, is_explained}
use Rattle.lv_cert_writing.specs.Closing.{can_be_listed, listed_evidence, Cut, cut_by_conflict, cut_by_listed, cut_by_target, cut_of_listed, cut_of, cut_before, AreForQuestion, AsksBy, MayHaveTargets}
use Rattle.lv_cert_writing.proofs.CountLemmas.{weights, split_weighs_less}
use Rattle.lv_cert_writing.proofs.GroupCountLemmas.{group_split_weighs_less, among_group_parts}
use Rattle.lv_cert_writing.proofs.LeastLemmas.{slots_within, IsLeastOf, among_parts}

-- the item at a place, by its number
pub item_of_number : {X : Type 0} (xs : List X) (place : ℕ) (d : X) → place < length xs → at_number xs (place + 1) ≡ Some (get_or xs place d)
item_of_number xs place d within =
    let counted : nat_lt 0 (place + 1) ≡ true = lt-ltb 0 (place + 1) (omega arith) in
    let same : place + 1 - 1 ≡ place = omega arith in
    (λ i. cond (counted i) (slice_get xs (same i)) None) ∙ slice_get-get_or xs place d within

none_before : {X : Type 0} (p : X → Bool) (xs : List X) → length xs ≤ position_or_len p xs → list_any p xs ≡ false
none_before p [] past = refl
none_before p (x ∷ xs) past = by (p x) past (none_before p xs)
  where
    by : (b : Bool) → suc (length xs) ≤ cond (not b) (1 + position_or_len p xs) 0 → (length xs ≤ position_or_len p xs → list_any p xs ≡ false) → (b || list_any p xs) ≡ false
    by true past rest = absurd (omega arith)
    by false past rest = rest (omega arith)

-- where no item passes, none is found
position-None : {X : Type 0} (p : X → Bool) (xs : List X) → position p xs ≡ None → list_any p xs ≡ false
position-None p xs none = none_before p xs (ltb-false (position_or_len p xs) (length xs) (by (nat_lt (position_or_len p xs) (length xs)) none))
  where
    by : (b : Bool) → cond b (Some (position_or_len p xs)) None ≡ None → b ≡ false
    by true e = absurd (cc e)
    by false e = refl

-- one pair for each choice
length-pairs : (n : ℕ) (choices : List ℕ) → length (pairs_from n choices) ≡ length choices
length-pairs n [] = refl
length-pairs n (choice ∷ choices) = let rest = length-pairs (n + 1) choices in omega (arith, rest)

has_own : (whole : List ℕ) (n : ℕ) (choices : List ℕ) → drop n whole ≡ choices → contains_all whole (pairs_from n choices) ≡ true
has_own whole n [] e = refl
has_own whole n (choice ∷ choices) e =
    let left : length whole - n ≡ suc (length choices) = sym (length-drop n whole) ∙ ap length e in
    let within : n < length whole = omega arith in
    let split : drop n whole ≡ get_or whole n 0 ∷ drop (suc n) whole = drop-cons whole n 0 within in
    let here : get_or whole n 0 ≡ choice = cc in
    let later : drop (suc n) whole ≡ choices = cc in
    let rest : contains_all whole (pairs_from (n + 1) choices) ≡ true = has_own whole (n + 1) choices (rw add-one later) in
    rw (rest, here) (grind arith)

-- how many pairs the conflicts have together
abbrev pub total_length : List (List Pair) → ℕ
total_length [] = 0
total_length (c ∷ cs) = length c + total_length cs

within_total : (cs : List (List Pair)) (place : ℕ) → length (get_or cs place []) ≤ total_length cs
within_total [] place = omega arith
within_total (c ∷ cs) zero = omega arith
within_total (c ∷ cs) (suc place) = let rest = within_total cs place in omega (arith, rest)

-- choices are of the same groups as themselves
same_as_itself : (groups : List (List ℕ)) (choices : List ℕ) → have_same_groups groups choices choices ≡ true
same_as_itself [] choices = refl
same_as_itself (numbers ∷ groups) [] = refl
same_as_itself (numbers ∷ groups) (c ∷ cs) = and_from _ _ (eq-eqb _ _ refl) (same_as_itself groups cs)

-- a candidate that stands for the rank has the same groups, and the rank isn't before it
standing : (groups : List (List ℕ)) (r q : Rank) → stands_for (Some groups) r q ≡ true → (have_same_groups groups r.choices q.choices ≡ true) × (ranks_before r q ≡ false)
standing groups r q h = by (or_cases (is_rank r q) (have_same_groups groups r.choices q.choices && ranks_before q r) h)
  where
    not_before : (b : Bool) → ranks_before r q ≡ b → ranks_before q r ≡ true → b ≡ false
    not_before true e before = absurd (not_both_before r q e before)
    not_before false e before = refl

    by : (is_rank r q ≡ true) ⊎ ((have_same_groups groups r.choices q.choices && ranks_before q r) ≡ true) → (have_same_groups groups r.choices q.choices ≡ true) × (ranks_before r q ≡ false)
    by (inl e) =
        let same : r ≡ q = same_rank r q e in
        (ap (λ (x : Rank). have_same_groups groups r.choices x.choices) (sym same) ∙ same_as_itself groups r.choices, ap (ranks_before r) (sym same) ∙ not_before_itself r)
    by (inr e) =
        let two = and_parts (have_same_groups groups r.choices q.choices) (ranks_before q r) e in
        (two.0, not_before (ranks_before r q) refl two.1)

-- where none is alike another, only the rank itself stands for it
plainly_standing : (r : Rank) (rs : List Rank) → list_any (stands_for None r) rs ≡ is_among r rs
plainly_standing r [] = refl
plainly_standing r (q ∷ qs) = by (is_rank r q) (plainly_standing r qs)
  where
    by : (b : Bool) → list_any (stands_for None r) qs ≡ is_among r qs → ((b || false) || list_any (stands_for None r) qs) ≡ (b || is_among r qs)
    by true e = refl
    by false e = e

module _ (groups : Option (List (List ℕ))) (question : Question) (slots : List (List Cost)) (listed : List Rank) (excluded : List (List Pair)) where
  abbrev room : ℕ
  room = length slots + total_length excluded

  -- a split of the zone by evidence that a certificate may name, into parts that weigh less and have none but its members
  pub record IsCut (zone : ZoneValue) (cut : Cut) : Type 0 where
    pub lighter : (rest : List (Option ZoneValue)) → weights slots room (rest ++ map Some (cut.parts zone)) < weights slots room (Some zone ∷ rest)
    pub within : (q : Rank) → list_any (ranks_in slots q) (cut.parts zone) ≡ true → ranks_in slots q zone ≡ true
    pub chosen : (plant : Plant) (j : Judged) → MayHaveTargets plant j.stated.distinct groups → j.space.slots ≡ slots → j.listed ≡ listed → j.excluded ≡ excluded → split_parts plant j zone cut.by ≡ Some (cut.parts zone)
    pub fitting : splits question cut.by ≡ true

  module _ (zone : ZoneValue) (r : Rank) (is_least : least_rank slots zone ≡ Some r) (least : IsLeastOf slots zone r) where
    -- by choices that the least member has
    record IsPairsCut (pairs : List Pair) : Type 0 where
      lighter : (rest : List (Option ZoneValue)) → weights slots room (rest ++ map Some (parts_of zone pairs)) < weights slots room (Some zone ∷ rest)
      within : (q : Rank) → list_any (ranks_in slots q) (parts_of zone pairs) ≡ true → ranks_in slots q zone ≡ true

    pairs_cut : (pairs : List Pair) → contains_all r.choices pairs ≡ true → length pairs ≤ length r.choices + total_length excluded → IsPairsCut pairs
    pairs_cut pairs inside few =
        let below = slots_within r.choices (length zone.masks) pairs least.masks inside in
        let same = least.slots_are in
        record {
          lighter = λ rest. split_weighs_less slots room (candidate_of r) zone pairs rest below least.member inside (omega (arith, few, same));
          within = λ q. among_parts slots q (length zone.masks) zone pairs refl below;
        }

    conflict_is_cut : (place : ℕ) → position (contains_all r.choices) excluded ≡ Some place → IsCut zone (cut_by_conflict excluded place)
    conflict_is_cut place found =
        let at = position-Some (contains_all r.choices) excluded place [] found in
        let cuts = pairs_cut (get_or excluded place []) at.1 (let few = within_total excluded place in omega (arith, few)) in
        record {
          lighter = cuts.lighter;
          within = cuts.within;
          chosen = λ plant j may slots_are listed_are excluded_are.
              ap (λ cs. option_map (parts_of zone) (at_number cs (place + 1))) excluded_are ∙ ap (option_map (parts_of zone)) (item_of_number excluded place [] at.0);
          fitting = refl;
        }

    own_choices : (j : Judged) (place : ℕ) → j.listed ≡ listed → position (is_rank r) listed ≡ Some place → listed_choices j zone (place + 1) ≡ Some (pairs_of r.choices)
    own_choices j place listed_are found =
        let at = position-Some (is_rank r) listed place r found in
        let same : r ≡ get_or listed place r = same_rank r (get_or listed place r) at.1 in
        ap (λ (rs : List Rank). option_and_then choices (at_number rs (place + 1))) listed_are
        ∙ ap (option_and_then choices) (item_of_number listed place r at.0)
        ∙ sym (ap choices same)
        ∙ ap (λ b. cond b (Some (pairs_of r.choices)) None) (eq-eqb r.source zone.source least.source)
      where
        choices : Rank → Option (List Pair)
        choices q = cond (nat_eq q.source zone.source) (Some (pairs_of q.choices)) None

    listed_is_cut : can_be_listed question (length listed) ≡ true → (place : ℕ) → position (is_rank r) listed ≡ Some place → IsCut zone (cut_by_listed question r place)
    listed_is_cut can place found =
        let cuts = pairs_cut (pairs_of r.choices) (has_own r.choices 0 r.choices refl) (let same = length-pairs 0 r.choices in omega (arith, same)) in
        record {
          lighter = cuts.lighter;
          within = cuts.within;
          chosen = λ plant j may slots_are listed_are excluded_are. by plant question can j listed_are;
          fitting = fits question;
        }
      where
        by : (plant : Plant) (asked : Question) → can_be_listed asked (length listed) ≡ true → (j : Judged) → j.listed ≡ listed → split_parts plant j zone (listed_evidence asked (place + 1)) ≡ Some (parts_of zone (pairs_of r.choices))
        by plant Diagnosis can j listed_are = ap (option_map (parts_of zone)) (own_choices j place listed_are found)
        by plant Recovery can j listed_are =
            let few : length listed ≤ 1 = leb-true (length listed) 1 can in
            let within : place < length listed = (position-Some (is_rank r) listed place r found).0 in
            let first : 1 ≡ place + 1 = omega (arith, few, within) in
            ap (λ n. option_map (parts_of zone) (listed_choices j zone n)) first ∙ ap (option_map (parts_of zone)) (own_choices j place listed_are found)

        fits : (asked : Question) → splits asked (listed_evidence asked (place + 1)) ≡ true
        fits Diagnosis = refl
        fits Recovery = refl

  -- by the target of a listed candidate that stands for the least member
  target_is_cut : (zone : ZoneValue) (r : Rank) → least_rank slots zone ≡ Some r → IsLeastOf slots zone r → question ≡ Diagnosis → (targets : List (List ℕ)) → groups ≡ Some targets → (place : ℕ)
      → position (stands_for (Some targets) r) listed ≡ Some place → IsCut zone (cut_by_target targets listed r place)
  target_is_cut zone r is_least least asks targets of place found =
      let at = position-Some (stands_for (Some targets) r) listed place r found in
      let q : Rank = get_or listed place r in
      let stands = standing targets r q at.1 in
      let same = least.slots_are in
      record {
        lighter = λ rest. group_split_weighs_less slots room (candidate_of r) zone targets q.choices rest (sym least.masks) least.member stands.0 (omega (arith, same));
        within = λ p. among_group_parts slots p 0 targets q.choices zone;
        chosen = λ plant j may slots_are listed_are excluded_are. chosen plant j (asked plant j may) slots_are listed_are q stands.1 (item_of_number listed place r at.0);
        fitting = ap (λ (x : Question). splits x (evidence.Target (place + 1))) asks;
      }
    where
      asked : (plant : Plant) (j : Judged) → MayHaveTargets plant j.stated.distinct groups → AsksBy plant j.stated.distinct targets
      asked plant j may = subst (MayHaveTargets plant j.stated.distinct) of may

      none_before_it : (q : Rank) → ranks_before r q ≡ false → has_before slots zone q ≡ false
      none_before_it q free = ap (λ (o : Option Rank). option_map_or (λ (first : Rank). ranks_before first q) o false) is_least ∙ free

      chosen : (plant : Plant) (j : Judged) → AsksBy plant j.stated.distinct targets → j.space.slots ≡ slots → j.listed ≡ listed → (q : Rank) → ranks_before r q ≡ false
          → at_number listed (place + 1) ≡ Some q → split_parts plant j zone (evidence.Target (place + 1)) ≡ Some (parts_by_groups zone targets q.choices)
      chosen plant j by slots_are listed_are q free item =
          ap (λ b. cond b (option_and_then (parts_by_target plant j zone) (at_number j.listed (place + 1))) None) by.distinct_is
          ∙ ap (λ (rs : List Rank). option_and_then (parts_by_target plant j zone) (at_number rs (place + 1))) listed_are
          ∙ ap (option_and_then (parts_by_target plant j zone)) item
          ∙ ap (λ (ss : List (List Cost)). cond (has_before ss zone q) None (Some (parts_by_groups zone (targets_of_moves plant) q.choices))) slots_are
          ∙ ap (λ b. cond b None (Some (parts_by_groups zone (targets_of_moves plant) q.choices))) (none_before_it q free)
          ∙ ap (λ gs. Some (parts_by_groups zone gs q.choices)) (sym by.targets_are)

module _ (question : Question) (slots : List (List Cost)) (listed : List Rank) (excluded : List (List Pair)) where
  -- what is found splits the zone
  pub cut_told : (groups : Option (List (List ℕ))) → AreForQuestion groups question → (zone : ZoneValue) (r : Rank) → least_rank slots zone ≡ Some r → IsLeastOf slots zone r
      → can_be_listed question (length listed) ≡ true → (cut : Cut) → cut_of groups question listed excluded r ≡ Some cut → IsCut groups question slots listed excluded zone cut
  cut_told groups asks zone r is_least least can cut is = by (position (contains_all r.choices) excluded) refl is
    where
      by_listed : (o : Option (List (List ℕ))) → groups ≡ o → AreForQuestion o question → cut_of_listed o question listed r ≡ Some cut → IsCut groups question slots listed excluded zone cut
      by_listed None of for found = plain (position (is_rank r) listed) refl found
        where
          plain : (p : Option ℕ) → position (is_rank r) listed ≡ p → option_map (cut_by_listed question r) p ≡ Some cut → IsCut groups question slots listed excluded zone cut
          plain (Some place) f same = let made : cut_by_listed question r place ≡ cut = cc same in subst (IsCut groups question slots listed excluded zone) made (listed_is_cut groups question slots listed excluded zone r is_least least can place f)
          plain None f same = absurd (cc same)
      by_listed (Some targets) of for found = target (position (stands_for (Some targets) r) listed) refl found
        where
          target : (p : Option ℕ) → position (stands_for (Some targets) r) listed ≡ p → option_map (cut_by_target targets listed r) p ≡ Some cut → IsCut groups question slots listed excluded zone cut
          target (Some place) f same =
              let made : cut_by_target targets listed r place ≡ cut = cc same in
              subst (IsCut groups question slots listed excluded zone) made (target_is_cut groups question slots listed excluded zone r is_least least for targets of place f)
          target None f same = absurd (cc same)

      by : (o : Option ℕ) → position (contains_all r.choices) excluded ≡ o → option_or (option_map (cut_by_conflict excluded) o) (cut_of_listed groups question listed r) ≡ Some cut
          → IsCut groups question slots listed excluded zone cut
      by (Some place) e same =
          let made : cut_by_conflict excluded place ≡ cut = cc same in
          subst (IsCut groups question slots listed excluded zone) made (conflict_is_cut groups question slots listed excluded zone r is_least least place e)
      by None e same = by_listed groups refl asks same

  -- what isn't split though it is explained ranks behind the last
  pub uncut_told : (groups : Option (List (List ℕ))) (last : Option Rank) (r : Rank) → is_explained groups last listed excluded r ≡ true → cut_before groups question last listed excluded r ≡ None → is_behind last r ≡ true
  uncut_told groups last r explained uncut = by (is_behind last r) refl explained uncut
    where
      none_listed : (o : Option (List (List ℕ))) → cut_of_listed o question listed r ≡ None → list_any (stands_for o r) listed ≡ false
      none_listed None none = plainly_standing r listed ∙ plain (position (is_rank r) listed) refl none
        where
          plain : (p : Option ℕ) → position (is_rank r) listed ≡ p → option_map (cut_by_listed question r) p ≡ None → is_among r listed ≡ false
          plain (Some place) f same = absurd (cc same)
          plain None f same = position-None (is_rank r) listed f
      none_listed (Some targets) none = target (position (stands_for (Some targets) r) listed) refl none
        where
          target : (p : Option ℕ) → position (stands_for (Some targets) r) listed ≡ p → option_map (cut_by_target targets listed r) p ≡ None → list_any (stands_for (Some targets) r) listed ≡ false
          target (Some place) f same = absurd (cc same)
          target None f same = position-None (stands_for (Some targets) r) listed f

      none_found : cut_of groups question listed excluded r ≡ None → (is_ruled_out excluded r.choices || list_any (stands_for groups r) listed) ≡ false
      none_found none = look (position (contains_all r.choices) excluded) refl none
        where
          look : (o : Option ℕ) → position (contains_all r.choices) excluded ≡ o → option_or (option_map (cut_by_conflict excluded) o) (cut_of_listed groups question listed r) ≡ None
              → (is_ruled_out excluded r.choices || list_any (stands_for groups r) listed) ≡ false
          look (Some place) e same = absurd (cc same)
          look None e same = (λ i. position-None (contains_all r.choices) excluded e i || none_listed groups same i)

      by : (b : Bool) → is_behind last r ≡ b → (b || (is_ruled_out excluded r.choices || list_any (stands_for groups r) listed)) ≡ true → cond b None (cut_of groups question listed excluded r) ≡ None → b ≡ true
      by true e h none = refl
      by false e h none = sym (none_found none) ∙ h
