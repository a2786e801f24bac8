-- Ranks put in among ranks in rising order stay in rising order, and a rising list is determined by the ranks in it.
use Rattle.std.proofs.Common.{◌≡◌, Bool, true, false, ◌&&◌, ◌||◌, List, [], ◌∷◌, ⊎_elim, refl, sym, ◌∙◌, ap, ap₂, subst}
use Rattle.std.specs.List.{list_all}
use Rattle.std.specs.declared.cmp.Ordering.{Ordering}
use Rattle.std.specs.declared.cmp.Ordering.TheVariants.{Less, Equal, Greater}
use Rattle.std.specs.BTreeSet.{insert_key}
use Rattle.std.specs.Ordering.{match_ordering}
use Rattle.std.proofs.lemmas.Bool.{and_from, and_parts, or_from, or_parts, or_cases, or_left, not-true, not_from_false, both_ways, false_from_ne_true}
use Rattle.lv_base.specs.declared.rank.Rank.{Rank}
use Rattle.lv_base.specs.Rank.{rank_key, rank_cmp, ranks_before}
use Rattle.lv_base.proofs.OrderLemmas.{irreflexive, transitive, connected, less_is_before, greater_is_after, before_by_cmp, after_by_cmp}
use Rattle.lv_boxes.specs.Ranked.{rises, is_rank, is_among, put_in_order, ranked}

pub neither_is_same : (a b : Rank) → ranks_before a b ≡ false → ranks_before b a ≡ false → a ≡ b
neither_is_same a b p q =
    let e : rank_key a ≡ rank_key b = connected (rank_key a) (rank_key b) p q in
    let cost : a.cost.0 ≡ b.cost.0 = cc e in
    let source : a.source ≡ b.source = cc e in
    let choices : a.choices ≡ b.choices = cc e in
    λ i. record { cost = record { 0 = cost i }; source = source i; choices = choices i }

pub equal_by_cmp : (a b : Rank) → rank_cmp a b ≡ Equal → a ≡ b
equal_by_cmp a b e =
    neither_is_same a b (sym (less_is_before (rank_key a) (rank_key b) Equal (sym e))) (sym (greater_is_after (rank_key a) (rank_key b) Equal (sym e)))

pub not_before_itself : (r : Rank) → ranks_before r r ≡ false
not_before_itself r = irreflexive (rank_key r)

-- of two ranks only one comes before the other
pub not_both_before : (a b : Rank) → ranks_before a b ≡ true → ranks_before b a ≡ true → ⊥
not_both_before a b p q = both_ways (ranks_before a a) (not_before_itself a) (transitive (rank_key a) (rank_key b) (rank_key a) p q)

pub is_itself : (r : Rank) → is_rank r r ≡ true
is_itself r = not_from_false (ranks_before r r || ranks_before r r) (or_from (ranks_before r r) (ranks_before r r) (not_before_itself r) (not_before_itself r))

pub same_rank : (r s : Rank) → is_rank r s ≡ true → r ≡ s
same_rank r s h =
    let parts = or_parts (ranks_before r s) (ranks_before s r) (not-true (ranks_before r s || ranks_before s r) h) in
    neither_is_same r s parts.0 parts.1

-- what ranks before all of these ranks before each
pub before_each : (a r : Rank) (rs : List Rank) → list_all (ranks_before a) rs ≡ true → is_among r rs ≡ true → ranks_before a r ≡ true
before_each a r [] h is = absurd (cc is)
before_each a r (s ∷ rs) h is =
    ⊎_elim (λ e. subst (λ (t : Rank). ranks_before a t ≡ true) (sym (same_rank r s e)) (and_parts (ranks_before a s) (list_all (ranks_before a) rs) h).0)
    (λ e. before_each a r rs (and_parts (ranks_before a s) (list_all (ranks_before a) rs) h).1 e)
    (or_cases (is_rank r s) (is_among r rs) is)

pub not_among_later : (r : Rank) (rs : List Rank) → list_all (ranks_before r) rs ≡ true → is_among r rs ≡ false
not_among_later r rs h = false_from_ne_true (is_among r rs) (λ is. both_ways (ranks_before r r) (not_before_itself r) (before_each r r rs h is))

-- what ranks before the first of some ranks in order ranks before all of them
before_all : (a b : Rank) (rs : List Rank) → ranks_before a b ≡ true → list_all (ranks_before b) rs ≡ true → list_all (ranks_before a) rs ≡ true
before_all a b [] ab h = refl
before_all a b (r ∷ rs) ab h =
    let parts = and_parts (ranks_before b r) (list_all (ranks_before b) rs) h in
    and_from (ranks_before a r) (list_all (ranks_before a) rs)
    (transitive (rank_key a) (rank_key b) (rank_key r) ab parts.0)
    (before_all a b rs ab parts.1)

-- what ranks before all and before one more ranks before all with the one put in
before_inserted : (a r : Rank) (rs : List Rank) → ranks_before a r ≡ true → list_all (ranks_before a) rs ≡ true → list_all (ranks_before a) (insert_key rank_cmp rs r) ≡ true
before_inserted a r [] ar h = and_from (ranks_before a r) true ar refl
before_inserted a r (x ∷ xs) ar h =
    by (rank_cmp r x) (before_inserted a r xs ar (and_parts (ranks_before a x) (list_all (ranks_before a) xs) h).1)
  where
    by : (o : Ordering) → list_all (ranks_before a) (insert_key rank_cmp xs r) ≡ true
        → list_all (ranks_before a) (match_ordering o (r ∷ x ∷ xs) (x ∷ xs) (x ∷ insert_key rank_cmp xs r)) ≡ true
    by Less rest = and_from (ranks_before a r) (ranks_before a x && list_all (ranks_before a) xs) ar h
    by Equal rest = h
    by Greater rest =
        and_from (ranks_before a x) (list_all (ranks_before a) (insert_key rank_cmp xs r)) (and_parts (ranks_before a x) (list_all (ranks_before a) xs) h).0 rest

rises_inserted : (r : Rank) (rs : List Rank) → rises rs ≡ true → rises (insert_key rank_cmp rs r) ≡ true
rises_inserted r [] h = refl
rises_inserted r (x ∷ xs) h = by (rank_cmp r x) refl (rises_inserted r xs behind)
  where
    first : list_all (ranks_before x) xs ≡ true
    first = (and_parts (list_all (ranks_before x) xs) (rises xs) h).0

    behind : rises xs ≡ true
    behind = (and_parts (list_all (ranks_before x) xs) (rises xs) h).1

    by : (o : Ordering) → rank_cmp r x ≡ o → rises (insert_key rank_cmp xs r) ≡ true
        → rises (match_ordering o (r ∷ x ∷ xs) (x ∷ xs) (x ∷ insert_key rank_cmp xs r)) ≡ true
    by Less e rest =
        and_from (ranks_before r x && list_all (ranks_before r) xs) (rises (x ∷ xs))
        (and_from (ranks_before r x) (list_all (ranks_before r) xs) (before_by_cmp r x e) (before_all r x xs (before_by_cmp r x e) first)) h
    by Equal e rest = h
    by Greater e rest =
        and_from (list_all (ranks_before x) (insert_key rank_cmp xs r)) (rises (insert_key rank_cmp xs r)) (before_inserted x r xs (after_by_cmp r x e) first) rest

pub rises_put : (rs sorted : List Rank) → rises sorted ≡ true → rises (put_in_order sorted rs) ≡ true
rises_put [] sorted h = h
rises_put (r ∷ rs) sorted h = rises_put rs (insert_key rank_cmp sorted r) (rises_inserted r sorted h)

swap_or : (a b c : Bool) → (a || (b || c)) ≡ (b || (a || c))
swap_or true true c = refl
swap_or true false c = refl
swap_or false b c = refl

twice_or : (a b : Bool) → (a || (a || b)) ≡ (a || b)
twice_or true b = refl
twice_or false b = refl

among_inserted : (q r : Rank) (rs : List Rank) → is_among q (insert_key rank_cmp rs r) ≡ (is_rank q r || is_among q rs)
among_inserted q r [] = refl
among_inserted q r (x ∷ xs) = by (rank_cmp r x) refl (among_inserted q r xs)
  where
    by : (o : Ordering) → rank_cmp r x ≡ o → is_among q (insert_key rank_cmp xs r) ≡ (is_rank q r || is_among q xs)
        → is_among q (match_ordering o (r ∷ x ∷ xs) (x ∷ xs) (x ∷ insert_key rank_cmp xs r)) ≡ (is_rank q r || (is_rank q x || is_among q xs))
    by Less e rest = refl
    by Equal e rest =
        let same : r ≡ x = equal_by_cmp r x e in
        sym (ap (λ (s : Rank). is_rank q s || (is_rank q x || is_among q xs)) same ∙ twice_or (is_rank q x) (is_among q xs))
    by Greater e rest = ap (λ b. is_rank q x || b) rest ∙ swap_or (is_rank q x) (is_rank q r) (is_among q xs)

or_assoc_swapped : (a b c : Bool) → ((a || b) || c) ≡ (b || (a || c))
or_assoc_swapped true true c = refl
or_assoc_swapped true false c = refl
or_assoc_swapped false b c = refl

among_put : (q : Rank) (rs sorted : List Rank) → is_among q (put_in_order sorted rs) ≡ (is_among q sorted || is_among q rs)
among_put q [] sorted = sym (or_false (is_among q sorted))
  where
    or_false : (b : Bool) → (b || false) ≡ b
    or_false true = refl
    or_false false = refl
among_put q (r ∷ rs) sorted =
    among_put q rs (insert_key rank_cmp sorted r)
    ∙ ap (λ b. b || is_among q rs) (among_inserted q r sorted)
    ∙ or_assoc_swapped (is_rank q r) (is_among q sorted) (is_among q rs)

pub rises_ranked : (rs : List Rank) → rises (ranked rs) ≡ true
rises_ranked rs = rises_put rs [] refl

pub among_ranked : (r : Rank) (rs : List Rank) → is_among r (ranked rs) ≡ is_among r rs
among_ranked r rs = among_put r rs []

first_is_among : (r : Rank) (rs : List Rank) → is_among r (r ∷ rs) ≡ true
first_is_among r rs = or_left (is_rank r r) (is_among r rs) (is_itself r)

-- the first of two rising lists of the same ranks is one
same_first : (r s : Rank) (rs ss : List Rank) → list_all (ranks_before r) rs ≡ true → list_all (ranks_before s) ss ≡ true
    → is_among r (s ∷ ss) ≡ true → is_among s (r ∷ rs) ≡ true → r ≡ s
same_first r s rs ss before after there here =
    ⊎_elim (λ e. same_rank r s e)
    (λ later. ⊎_elim (λ e. sym (same_rank s r e))
    (λ behind. absurd (not_both_before r s (before_each r s rs before behind) (before_each s r ss after later)))
    (or_cases (is_rank s r) (is_among s rs) here))
    (or_cases (is_rank r s) (is_among r ss) there)

-- behind it too the same ranks stand in both
same_behind : (r q : Rank) (rs ss : List Rank) → list_all (ranks_before r) rs ≡ true → list_all (ranks_before r) ss ≡ true
    → is_among q (r ∷ rs) ≡ is_among q (r ∷ ss) → is_among q rs ≡ is_among q ss
same_behind r q rs ss before after same = by (is_rank q r) refl same
  where
    by : (b : Bool) → is_rank q r ≡ b → (b || is_among q rs) ≡ (b || is_among q ss) → is_among q rs ≡ is_among q ss
    by true e h =
        let is : q ≡ r = same_rank q r e in
        (ap (λ (p : Rank). is_among p rs) is ∙ not_among_later r rs before) ∙ sym (ap (λ (p : Rank). is_among p ss) is ∙ not_among_later r ss after)
    by false e h = h

pub one_list : (rs ss : List Rank) → rises rs ≡ true → rises ss ≡ true → ((r : Rank) → is_among r rs ≡ is_among r ss) → rs ≡ ss
one_list [] [] up down same = refl
one_list [] (s ∷ ss) up down same = let clash : false ≡ true = same s ∙ first_is_among s ss in absurd (cc clash)
one_list (r ∷ rs) [] up down same = let clash : false ≡ true = sym (same r) ∙ first_is_among r rs in absurd (cc clash)
one_list (r ∷ rs) (s ∷ ss) up down same =
    let left = and_parts (list_all (ranks_before r) rs) (rises rs) up in
    let right = and_parts (list_all (ranks_before s) ss) (rises ss) down in
    let first : r ≡ s = same_first r s rs ss left.0 right.0 (sym (same r) ∙ first_is_among r rs) (same s ∙ first_is_among s ss) in
    let after : list_all (ranks_before r) ss ≡ true = subst (λ (t : Rank). list_all (ranks_before t) ss ≡ true) (sym first) right.0 in
    ap₂ (λ (t : Rank) (ts : List Rank). t ∷ ts) first
    (one_list rs ss left.1 right.1 (λ q. same_behind r q rs ss left.0 after (same q ∙ sym (ap (λ (t : Rank). is_among q (t ∷ ss)) first))))
