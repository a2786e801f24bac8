-- Prices are lowered where a conflict is broken, by no more than what is found there, so what a member costs is never passed.
use Rattle.std.proofs.Common.{◌≡◌, ℕ, zero, suc, ◌+◌, ◌-◌, ◌<◌, ◌≤◌, Bool, true, false, not, nat_lt, ◌&&◌, List, [], ◌∷◌, Option, Some, None, length, get_or, ◌⊎◌, inl, inr, refl, sym, ◌∙◌, ap, subst, arith}
use Rattle.std.specs.Prelude.{slice_index, slice_index_or, slice_set, IfSome}
use Rattle.std.specs.List.{AllByRecursion}
use Rattle.std.proofs.lemmas.Bool.{and_from, and_parts, and_cases, ltb-true, lt-ltb, false_from_ne_true, not_from_false, cases_eq}
use Rattle.std.proofs.lemmas.List.{get_or-set_other}
use Rattle.std.proofs.lemmas.List.Folds.{list_any_at}
use Rattle.std.proofs.Math.ListN.{length-set}
use Rattle.lv_base.specs.declared.ids.Cost.{Cost}
use Rattle.lv_base.specs.declared.search.Pair.{Pair}
use Rattle.lv_boxes.specs.Masks.{has_choice}
use Rattle.lv_boxes.specs.Members.{is_left, are_left, choice_cost, choices_cost}
use Rattle.lv_boxes.specs.Walk.{is_ruled_out}
use Rattle.lv_search_bans.specs.Boxes.{is_free, CostsAtLeast}
use Rattle.lv_search_bans.proofs.BoxLemmas.{free_is_left, none_of_zero}
use Rattle.lv_search_bans.proofs.BanLemmas.{has_choice-beside}
use Rattle.lv_search_bans.specs.declared.bans.Choices.{Choices}
use Rattle.lv_search_bans.specs.Bans.{has_some, meets, sets_rise_from, AreBans}
use Rattle.lv_search_bans.specs.Prices.{IsAtLeast, LeastTells, lesser_of, price_after, lowered_from, lowered_at, lowered_all, others_at, FallsBy, FallsTo, RaisesBy, BreaksEach, IsBound}

pub length-lowered : (n mask by : ℕ) (prices : List Cost) → length (lowered_from n mask by prices) ≡ length prices
length-lowered n mask by [] = refl
length-lowered n mask by (price ∷ prices) = let rest = length-lowered (n + 1) mask by prices in omega (arith, rest)

price_of_none : (b : Bool) (by : ℕ) → price_after b by 0 ≡ 0
price_of_none true by = omega arith
price_of_none false by = refl

pub lowered_cost : (n mask by : ℕ) (prices : List Cost) (choice : ℕ) → choice_cost (lowered_from n mask by prices) choice ≡ price_after (has_choice mask (n + choice)) by (choice_cost prices choice)
lowered_cost n mask by [] choice = sym (price_of_none (has_choice mask (n + choice)) by)
lowered_cost n mask by (price ∷ prices) zero = let same : n + zero ≡ n = omega arith in rw same refl
lowered_cost n mask by (price ∷ prices) (suc choice) =
    let same : n + suc choice ≡ (n + 1) + choice = omega arith in
    rw same (lowered_cost (n + 1) mask by prices choice)

-- where a mask has no choices, none is lowered, and none is priced less
pub lowered_none : (n mask by : ℕ) (prices : List Cost) → mask ≡ 0 → lowered_from n mask by prices ≡ prices
lowered_none n mask by [] none = refl
lowered_none n mask by (price ∷ prices) none =
    let here : has_choice mask n ≡ false = subst (λ m. has_choice m n ≡ false) (sym none) (none_of_zero n) in
    λ i. record { 0 = price_after (here i) by price.0 } ∷ lowered_none (n + 1) mask by prices none i

pub least_of_none : (prices : List Cost) (mask n : ℕ) (before : Option ℕ) → mask ≡ 0 → LeastTells prices mask n before before
least_of_none prices mask n before none =
    record {
      each = λ choice below has. let lacks : has_choice mask choice ≡ false = subst (λ m. has_choice m choice ≡ false) (sym none) (none_of_zero choice) in absurd (cc (sym has ∙ lacks));
      weaker = λ price h. h;
    }

-- a row of the same length fits the same members
pub left_set : (rows : List (List Cost)) (s : ℕ) (row : List Cost) (masks choices : List ℕ) → length row ≡ length (slice_index_or rows s []) → are_left (slice_set rows s row) masks choices ≡ are_left rows masks choices
left_set [] s row masks choices same = refl
left_set (old ∷ rows) zero row [] choices same = refl
left_set (old ∷ rows) zero row (mask ∷ masks) [] same = refl
left_set (old ∷ rows) zero row (mask ∷ masks) (choice ∷ choices) same =
    ap (λ n. (nat_lt choice n && has_choice mask choice) && are_left rows masks choices) same
left_set (old ∷ rows) (suc s) row [] choices same = refl
left_set (old ∷ rows) (suc s) row (mask ∷ masks) [] same = refl
left_set (old ∷ rows) (suc s) row (mask ∷ masks) (choice ∷ choices) same = ap (λ b. is_left old mask choice && b) (left_set rows s row masks choices same)

-- what a changed row changes
pub cost_set : (rows : List (List Cost)) (s : ℕ) (row : List Cost) (masks choices : List ℕ) → s < length rows → are_left rows masks choices ≡ true
    → choices_cost (slice_set rows s row) choices + choice_cost (slice_index_or rows s []) (slice_index choices s) ≡ choices_cost rows choices + choice_cost row (slice_index choices s)
cost_set [] s row masks choices within left = absurd (omega (arith, within))
cost_set (old ∷ rows) zero row [] choices within left = absurd (cc left)
cost_set (old ∷ rows) zero row (mask ∷ masks) [] within left = absurd (cc left)
cost_set (old ∷ rows) zero row (mask ∷ masks) (choice ∷ choices) within left = omega arith
cost_set (old ∷ rows) (suc s) row [] choices within left = absurd (cc left)
cost_set (old ∷ rows) (suc s) row (mask ∷ masks) [] within left = absurd (cc left)
cost_set (old ∷ rows) (suc s) row (mask ∷ masks) (choice ∷ choices) within left =
    let rest = cost_set rows s row masks choices (omega (arith, within)) (and_parts (is_left old mask choice) (are_left rows masks choices) left).1 in
    omega (arith, rest)

-- the choice at a slot is left there
pub left_at : (rows : List (List Cost)) (s : ℕ) (masks choices : List ℕ) → s < length rows → are_left rows masks choices ≡ true → is_left (slice_index_or rows s []) (slice_index masks s) (slice_index choices s) ≡ true
left_at [] s masks choices within left = absurd (omega (arith, within))
left_at (row ∷ rows) s [] choices within left = absurd (cc left)
left_at (row ∷ rows) s (mask ∷ masks) [] within left = absurd (cc left)
left_at (row ∷ rows) zero (mask ∷ masks) (choice ∷ choices) within left = (and_parts (is_left row mask choice) (are_left rows masks choices) left).0
left_at (row ∷ rows) (suc s) (mask ∷ masks) (choice ∷ choices) within left = left_at rows s masks choices (omega (arith, within)) (and_parts (is_left row mask choice) (are_left rows masks choices) left).1

pub left_long : (rows : List (List Cost)) (masks choices : List ℕ) → are_left rows masks choices ≡ true → length choices ≡ length rows
left_long [] [] [] h = refl
left_long [] [] (choice ∷ choices) h = absurd (cc h)
left_long [] (mask ∷ masks) [] h = absurd (cc h)
left_long [] (mask ∷ masks) (choice ∷ choices) h = absurd (cc h)
left_long (costs ∷ rows) [] [] h = absurd (cc h)
left_long (costs ∷ rows) [] (choice ∷ choices) h = absurd (cc h)
left_long (costs ∷ rows) (mask ∷ masks) [] h = absurd (cc h)
left_long (costs ∷ rows) (mask ∷ masks) (choice ∷ choices) h = let rest = left_long rows masks choices (and_parts (is_left costs mask choice) (are_left rows masks choices) h).1 in omega (arith, rest)

-- the prices with those at one pair lowered fit the same members
pub alike_at : (masks : List ℕ) (by : ℕ) (rows : List (List Cost)) (p : Choices) (others choices : List ℕ) → are_left (lowered_at masks by rows p) others choices ≡ are_left rows others choices
alike_at masks by rows p others choices =
    left_set rows p.slot (lowered_from 0 (others_at masks p) by (slice_index_or rows p.slot [])) others choices (length-lowered 0 (others_at masks p) by (slice_index_or rows p.slot []))

-- what a member is priced at afterwards, whether it has the pair's choice or not
pub record Lowered (masks : List ℕ) (by : ℕ) (rows : List (List Cost)) (p : Choices) (choices : List ℕ) : Type 0 where
  pub less : choices_cost (lowered_at masks by rows p) choices ≤ choices_cost rows choices
  pub broken : has_some choices p ≡ false → choices_cost (lowered_at masks by rows p) choices + by ≤ choices_cost rows choices

price_less : (b : Bool) (by price : ℕ) → price_after b by price ≤ price
price_less true by price = omega arith
price_less false by price = omega arith

pub lowered_one : (masks : List ℕ) (by : ℕ) (rows : List (List Cost)) (p : Choices) (choices : List ℕ) → FallsBy masks rows by p → are_left rows masks choices ≡ true → Lowered masks by rows p choices
lowered_one masks by rows p choices f left = record { less = less; broken = broken }
  where
    sums : choices_cost (lowered_at masks by rows p) choices + choice_cost (slice_index_or rows p.slot []) (slice_index choices p.slot) ≡ choices_cost rows choices + choice_cost (lowered_from 0 (others_at masks p) by (slice_index_or rows p.slot [])) (slice_index choices p.slot)
    sums = cost_set rows p.slot (lowered_from 0 (others_at masks p) by (slice_index_or rows p.slot [])) masks choices f.within left

    now : choice_cost (lowered_from 0 (others_at masks p) by (slice_index_or rows p.slot [])) (slice_index choices p.slot) ≡ price_after (has_choice (others_at masks p) (slice_index choices p.slot)) by (choice_cost (slice_index_or rows p.slot []) (slice_index choices p.slot))
    now = let same : 0 + (slice_index choices p.slot) ≡ (slice_index choices p.slot) = omega arith in subst (λ n. choice_cost (lowered_from 0 (others_at masks p) by (slice_index_or rows p.slot [])) (slice_index choices p.slot) ≡ price_after (has_choice (others_at masks p) n) by (choice_cost (slice_index_or rows p.slot []) (slice_index choices p.slot))) same (lowered_cost 0 (others_at masks p) by (slice_index_or rows p.slot []) (slice_index choices p.slot))

    less : choices_cost (lowered_at masks by rows p) choices ≤ choices_cost rows choices
    less =
        let down : price_after (has_choice (others_at masks p) (slice_index choices p.slot)) by (choice_cost (slice_index_or rows p.slot []) (slice_index choices p.slot)) ≤ choice_cost (slice_index_or rows p.slot []) (slice_index choices p.slot) = price_less (has_choice (others_at masks p) (slice_index choices p.slot)) by (choice_cost (slice_index_or rows p.slot []) (slice_index choices p.slot)) in
        let all = sums in
        let is = now in
        omega (arith, all, is, down)

    broken : has_some choices p ≡ false → choices_cost (lowered_at masks by rows p) choices + by ≤ choices_cost rows choices
    broken lacks =
        let here = and_parts (nat_lt (slice_index choices p.slot) (length (slice_index_or rows p.slot []))) (has_choice (slice_index masks p.slot) (slice_index choices p.slot)) (left_at rows p.slot masks choices f.within left) in
        let long : p.slot < length choices = subst (λ n. p.slot < n) (sym (left_long rows masks choices left)) f.within in
        let other : has_choice p.mask (slice_index choices p.slot) ≡ false = by_cases (and_cases (nat_lt p.slot (length choices)) (has_choice p.mask (slice_index choices p.slot)) lacks) long in
        let beside : has_choice (others_at masks p) (slice_index choices p.slot) ≡ true = has_choice-beside (slice_index masks p.slot) p.mask (slice_index choices p.slot) ∙ and_from (has_choice (slice_index masks p.slot) (slice_index choices p.slot)) (not (has_choice p.mask (slice_index choices p.slot))) here.1 (not_from_false (has_choice p.mask (slice_index choices p.slot)) other) in
        let much : by ≤ choice_cost (slice_index_or rows p.slot []) (slice_index choices p.slot) = f.each (slice_index choices p.slot) (ltb-true (slice_index choices p.slot) (length (slice_index_or rows p.slot [])) here.0) beside in
        let is : choice_cost (lowered_from 0 (others_at masks p) by (slice_index_or rows p.slot [])) (slice_index choices p.slot) ≡ choice_cost (slice_index_or rows p.slot []) (slice_index choices p.slot) - by = now ∙ ap (λ b. price_after b by (choice_cost (slice_index_or rows p.slot []) (slice_index choices p.slot))) beside in
        let all = sums in
        omega (arith, all, is, much)
      where
        by_cases : (nat_lt p.slot (length choices) ≡ false) ⊎ (has_choice p.mask (slice_index choices p.slot) ≡ false) → p.slot < length choices → has_choice p.mask (slice_index choices p.slot) ≡ false
        by_cases (inl short) long = let yes : nat_lt p.slot (length choices) ≡ true = lt-ltb p.slot (length choices) long in absurd (cc (sym yes ∙ short))
        by_cases (inr other) long = other

-- other slots are priced as before
falls_still : (masks : List ℕ) (by : ℕ) (rows : List (List Cost)) (p q : Choices) → p.slot < q.slot → FallsBy masks rows by q → FallsBy masks (lowered_at masks by rows p) by q
falls_still masks by rows p q later f =
    let same : slice_index_or (lowered_at masks by rows p) q.slot [] ≡ slice_index_or rows q.slot [] = get_or-set_other rows p.slot q.slot (lowered_from 0 (others_at masks p) by (slice_index_or rows p.slot [])) [] (λ e. absurd (omega (arith, e, later))) in
    record {
      within = rw (length-set) f.within;
      each = λ choice below beside. subst (λ (row : List Cost). by ≤ choice_cost row choice) (sym same) (f.each choice (subst (λ (row : List Cost). choice < length row) same below) beside);
    }

falls_later : (masks : List ℕ) (by low : ℕ) (rows : List (List Cost)) (p : Choices) (ps : List Choices) → p.slot < low → sets_rise_from low ps ≡ true → AllByRecursion (FallsBy masks rows by) ps → AllByRecursion (FallsBy masks (lowered_at masks by rows p) by) ps
falls_later masks by low rows p [] below rise f = f
falls_later masks by low rows p (q ∷ qs) below rise f =
    let parts = and_parts (nat_lt low (q.slot + 1)) (sets_rise_from (q.slot + 1) qs) rise in
    let above : low < q.slot + 1 = ltb-true low (q.slot + 1) parts.0 in
    (falls_still masks by rows p q (omega (arith, below, above)) f.0, falls_later masks by (q.slot + 1) rows p qs (omega (arith, below, above)) parts.1 f.1)

-- all slots of a ban
record LoweredAll (masks : List ℕ) (by : ℕ) (rows : List (List Cost)) (sets : List Choices) : Type 0 where
  pub alike : (others choices : List ℕ) → are_left (lowered_all masks by rows sets) others choices ≡ are_left rows others choices
  pub less : (choices : List ℕ) → are_left rows masks choices ≡ true → choices_cost (lowered_all masks by rows sets) choices ≤ choices_cost rows choices
  pub broken : (choices : List ℕ) → are_left rows masks choices ≡ true → meets choices sets ≡ false → choices_cost (lowered_all masks by rows sets) choices + by ≤ choices_cost rows choices

lower_all_sets : (masks : List ℕ) (by low : ℕ) (rows : List (List Cost)) (sets : List Choices) → sets_rise_from low sets ≡ true → AllByRecursion (FallsBy masks rows by) sets → LoweredAll masks by rows sets
lower_all_sets masks by low rows [] rise f = record { alike = λ others choices. refl; less = λ choices left. omega arith; broken = λ choices left lacks. absurd (cc lacks) }
lower_all_sets masks by low rows (p ∷ ps) rise f =
    let parts = and_parts (nat_lt low (p.slot + 1)) (sets_rise_from (p.slot + 1) ps) rise in
    let rest : LoweredAll masks by (lowered_at masks by rows p) ps =
    lower_all_sets masks by (p.slot + 1) (lowered_at masks by rows p) ps parts.1 (falls_later masks by (p.slot + 1) rows p ps (omega arith) parts.1 f.1) in
    record {
      alike = λ others choices. rest.alike others choices ∙ alike_at masks by rows p others choices;
      less = λ choices left.
          let one : Lowered masks by rows p choices = lowered_one masks by rows p choices f.0 left in
          let here = one.less in
          let later = rest.less choices (alike_at masks by rows p masks choices ∙ left) in
          omega (arith, here, later);
      broken = λ choices left lacks. first choices (lowered_one masks by rows p choices f.0 left) rest left (and_cases (has_some choices p) (meets choices ps) lacks);
    }
  where
    first : (choices : List ℕ) → Lowered masks by rows p choices → LoweredAll masks by (lowered_at masks by rows p) ps → are_left rows masks choices ≡ true
        → (has_some choices p ≡ false) ⊎ (meets choices ps ≡ false) → choices_cost (lowered_all masks by (lowered_at masks by rows p) ps) choices + by ≤ choices_cost rows choices
    first choices one rest left (inl lacks) =
        let here = one.broken lacks in
        let later = rest.less choices (alike_at masks by rows p masks choices ∙ left) in
        omega (arith, here, later)
    first choices one rest left (inr lacks) =
        let here = one.less in
        let later = rest.broken choices (alike_at masks by rows p masks choices ∙ left) lacks in
        omega (arith, here, later)

pub raised : (masks : List ℕ) (by : ℕ) (old new : List (List Cost)) (sets : List Choices) → sets_rise_from 0 sets ≡ true → AllByRecursion (FallsBy masks old by) sets → new ≡ lowered_all masks by old sets → RaisesBy masks sets old new by
raised masks by old new sets rise f is =
    let all : LoweredAll masks by old sets = lower_all_sets masks by 0 old sets rise f in
    subst (λ rows. RaisesBy masks sets old rows by) (sym is) (record { alike = all.alike; broken = all.broken })

pub not_raised : (masks : List ℕ) (rows : List (List Cost)) (sets : List Choices) → RaisesBy masks sets rows rows 0
not_raised masks rows sets = record { alike = λ others choices. refl; broken = λ choices left lacks. omega arith }

-- a bound that is raised
pub bound_raised : (slots : List (List Cost)) (conflicts : List (List Pair)) (masks : List ℕ) (sets : List Choices) (low by now : ℕ) (old new : List (List Cost)) → RaisesBy masks sets old new by → now ≤ low + by
    → BreaksEach slots conflicts masks sets → IsBound slots conflicts masks low old → IsBound slots conflicts masks now new
bound_raised slots conflicts masks sets low by now old new r less b i =
    record { alike = λ others choices. r.alike others choices ∙ i.alike others choices; bound = bound }
  where
    bound : (choices : List ℕ) → is_free slots conflicts masks choices ≡ true → now + choices_cost new choices ≤ choices_cost slots choices
    bound choices free =
        let left : are_left old masks choices ≡ true = i.alike masks choices ∙ free_is_left slots conflicts masks choices free in
        let down : choices_cost new choices + by ≤ choices_cost old choices = r.broken choices left (b.breaks choices free) in
        let whole : low + choices_cost old choices ≤ choices_cost slots choices = i.bound choices free in
        omega (arith, less, down, whole)

pub bound_begins : (slots : List (List Cost)) (conflicts : List (List Pair)) (masks : List ℕ) (rows : List (List Cost)) → rows ≡ slots → IsBound slots conflicts masks 0 rows
bound_begins slots conflicts masks rows is = subst (IsBound slots conflicts masks 0) (sym is) (record { alike = λ others choices. refl; bound = λ choices free. omega arith })

pub bound_is_low : (slots : List (List Cost)) (conflicts : List (List Pair)) (masks : List ℕ) (low : ℕ) (rows : List (List Cost)) → IsBound slots conflicts masks low rows → CostsAtLeast slots conflicts masks low
bound_is_low slots conflicts masks low rows i = record { least = λ choices free. let whole : low + choices_cost rows choices ≤ choices_cost slots choices = i.bound choices free in omega (arith, whole) }

-- no member has a choice of none
pub no_choice : (slots : List (List Cost)) (conflicts : List (List Pair)) (masks : List ℕ) (s : ℕ) → BreaksEach slots conflicts masks (record { slot = s; mask = 0 } ∷ [])
no_choice slots conflicts masks s = record { breaks = λ choices free. ap (λ b. (nat_lt s (length choices) && b) && true) (none_of_zero (slice_index choices s)) ∙ none (nat_lt s (length choices)) }
  where
    none : (b : Bool) → ((b && false) && true) ≡ false
    none true = refl
    none false = refl

-- a member without conflict has one of each of no ban
pub ban_breaks : (slots : List (List Cost)) (conflicts : List (List Pair)) (masks : List ℕ) (bans : List (List Choices)) (i : ℕ) (d sets : List Choices) → i < length bans → sets ≡ get_or bans i d → AreBans conflicts bans → BreaksEach slots conflicts masks sets
ban_breaks slots conflicts masks bans i d sets within is a =
    subst (BreaksEach slots conflicts masks) (sym is) (record { breaks = λ choices free. false_from_ne_true _ (λ has. not_free choices free has) })
  where
    not_free : (choices : List ℕ) → is_free slots conflicts masks choices ≡ true → meets choices (get_or bans i d) ≡ true → ⊥
    not_free choices free has =
        let parts = and_parts (are_left slots masks choices) (not (is_ruled_out conflicts choices)) free in
        let ruled : is_ruled_out conflicts choices ≡ true = a.barred choices (list_any_at (meets choices) bans i d within has) in
        let not_ruled : not true ≡ true = rw ruled at parts.1 in
        cc not_ruled

-- a slot that there isn't changes nothing, and none changes how many slots there are
pub lowered_past : (masks : List ℕ) (by : ℕ) (rows : List (List Cost)) (p : Choices) → length rows ≤ p.slot → lowered_at masks by rows p ≡ rows
lowered_past masks by rows p past = set_past rows p.slot (lowered_from 0 (others_at masks p) by (slice_index_or rows p.slot [])) past
  where
    set_past : (xs : List (List Cost)) (i : ℕ) (x : List Cost) → length xs ≤ i → slice_set xs i x ≡ xs
    set_past [] i x past = refl
    set_past (y ∷ ys) zero x past = absurd (omega (arith, past))
    set_past (y ∷ ys) (suc i) x past = ap (λ (zs : List (List Cost)). y ∷ zs) (set_past ys i x (omega (arith, past)))

pub length-lowered_at : (masks : List ℕ) (by : ℕ) (rows : List (List Cost)) (p : Choices) → length (lowered_at masks by rows p) ≡ length rows
length-lowered_at masks by rows p = length-set rows p.slot (lowered_from 0 (others_at masks p) by (slice_index_or rows p.slot []))

pub length-lowered_all : (masks : List ℕ) (by : ℕ) (rows : List (List Cost)) (sets : List Choices) → length (lowered_all masks by rows sets) ≡ length rows
length-lowered_all masks by rows [] = refl
length-lowered_all masks by rows (p ∷ ps) = length-lowered_all masks by (lowered_at masks by rows p) ps ∙ length-lowered_at masks by rows p

-- one choice more is no cheaper than the least
at_least_lesser : (least : Option ℕ) (price : ℕ) → IsAtLeast (Some (lesser_of least price)) price
at_least_lesser None price = omega arith
at_least_lesser (Some least) price = omega arith

lesser_weaker : (least : Option ℕ) (price other : ℕ) → IsAtLeast least other → IsAtLeast (Some (lesser_of least price)) other
lesser_weaker None price other h = absurd h
lesser_weaker (Some least) price other h = let low : least ≤ other = h in omega (arith, low)

pub least_begins : (prices : List Cost) (mask : ℕ) (before : Option ℕ) → LeastTells prices mask 0 before before
least_begins prices mask before = record { each = λ choice below has. absurd (omega (arith, below)); weaker = λ price h. h }

pub least_passed : (prices : List Cost) (mask n : ℕ) (before least : Option ℕ) → has_choice mask n ≡ false → LeastTells prices mask n before least → LeastTells prices mask (n + 1) before least
least_passed prices mask n before least out t = record { each = λ choice below has. by choice below has (cases_eq choice n); weaker = t.weaker }
  where
    by : (choice : ℕ) → choice < n + 1 → has_choice mask choice ≡ true → (choice ≡ n) ⊎ (choice ≡ n → ⊥) → IsAtLeast least (choice_cost prices choice)
    by choice below has (inl same) = let is : has_choice mask n ≡ true = subst (λ k. has_choice mask k ≡ true) same has in let both : true ≡ false = sym is ∙ out in absurd (cc both)
    by choice below has (inr other) = t.each choice (omega (arith, below, other)) has

pub least_taken : (prices : List Cost) (mask n : ℕ) (before least : Option ℕ) → LeastTells prices mask n before least → LeastTells prices mask (n + 1) before (Some (lesser_of least (choice_cost prices n)))
least_taken prices mask n before least t =
    record {
      each = λ choice below has. by choice below has (cases_eq choice n);
      weaker = λ price h. lesser_weaker least (choice_cost prices n) price (t.weaker price h);
    }
  where
    by : (choice : ℕ) → choice < n + 1 → has_choice mask choice ≡ true → (choice ≡ n) ⊎ (choice ≡ n → ⊥) → IsAtLeast (Some (lesser_of least (choice_cost prices n))) (choice_cost prices choice)
    by choice below has (inl same) = subst (λ k. IsAtLeast (Some (lesser_of least (choice_cost prices n))) (choice_cost prices k)) (sym same) (at_least_lesser least (choice_cost prices n))
    by choice below has (inr other) = lesser_weaker least (choice_cost prices n) (choice_cost prices choice) (t.each choice (omega (arith, below, other)) has)

-- the slots that were looked at
pub record FallSoFar (masks : List ℕ) (rows : List (List Cost)) (least : Option ℕ) (sets : List Choices) (i : ℕ) : Type 0 where
  pub each : (k : ℕ) (d : Choices) → k < i → FallsTo masks rows least (get_or sets k d)

pub fall_begins : (masks : List ℕ) (rows : List (List Cost)) (sets : List Choices) → FallSoFar masks rows None sets 0
fall_begins masks rows sets = record { each = λ k d below. absurd (omega (arith, below)) }

pub fall_more : (masks : List ℕ) (rows : List (List Cost)) (before least : Option ℕ) (sets : List Choices) (i : ℕ) (p : Choices) → ((d : Choices) → get_or sets i d ≡ p) → p.slot < length rows
    → LeastTells (slice_index_or rows p.slot []) (others_at masks p) (length (slice_index_or rows p.slot [])) before least → FallSoFar masks rows before sets i → FallSoFar masks rows least sets (i + 1)
fall_more masks rows before least sets i p is within t f = record { each = λ k d below. by k d below (cases_eq k i) }
  where
    by : (k : ℕ) (d : Choices) → k < i + 1 → (k ≡ i) ⊎ (k ≡ i → ⊥) → FallsTo masks rows least (get_or sets k d)
    by k d below (inl same) = subst (λ (q : Choices). FallsTo masks rows least q) (sym (ap (λ n. get_or sets n d) same ∙ is d)) (record { within = within; each = t.each })
    by k d below (inr other) =
        let old : FallsTo masks rows before (get_or sets k d) = f.each k d (omega (arith, below, other)) in
        record { within = old.within; each = λ choice inside beside. t.weaker _ (old.each choice inside beside) }

pub fall_ends : (masks : List ℕ) (rows : List (List Cost)) (least : Option ℕ) (sets : List Choices) (i : ℕ) → length sets ≤ i → FallSoFar masks rows least sets i → IfSome least (λ by. AllByRecursion (FallsBy masks rows by) sets)
fall_ends masks rows None sets i past f = tt
fall_ends masks rows (Some by) sets i past f = all sets (λ k d below. f.each k d (omega (arith, below, past)))
  where
    all : (ps : List Choices) → ((k : ℕ) (d : Choices) → k < length ps → FallsBy masks rows by (get_or ps k d)) → AllByRecursion (FallsBy masks rows by) ps
    all [] g = tt
    all (p ∷ ps) g = (g 0 p (omega arith), all ps (λ k d below. g (suc k) d (omega (arith, below))))

-- what is no more than a bound is a bound
pub at_least_less : (slots : List (List Cost)) (conflicts : List (List Pair)) (masks : List ℕ) (low under : ℕ) → CostsAtLeast slots conflicts masks low → under ≤ low → CostsAtLeast slots conflicts masks under
at_least_less slots conflicts masks low under l less = record { least = λ choices free. let far : low ≤ choices_cost slots choices = l.least choices free in omega (arith, far, less) }
