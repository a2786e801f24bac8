-- Bans rule out no more than the conflicts that they are made of.
use Rattle.std.proofs.Common.{◌≡◌, ℕ, zero, suc, ◌+◌, ◌<◌, ◌%◌, Bool, true, false, not, nat_lt, nat_eq, max, min, ◌&&◌, ◌||◌, List, [], ◌∷◌, ◌++◌, map, length, drop, drop-cons, get_or, Option, Some, None, ◌⊎◌, inl, inr, refl, sym, ◌∙◌, ap, ap₂, subst, add-one, arith}
use Rattle.std.specs.Prelude.{is_some, slice_index, slice_set, bit_and, bit_or}
use Rattle.std.specs.Int.{bit_at}
use Rattle.std.proofs.lemmas.Bool.{and_from, and_parts, or_left, or_right, or_cases, eqb-true}
use Rattle.std.proofs.lemmas.List.Folds.{list_any-append, list_any_at}
use Rattle.std.proofs.lemmas.Nat.Bits.{bit_at_or, bit_at_and, bit_at_xor, bit_at-lt}
use Rattle.lv_base.specs.declared.search.Pair.{Pair}
use Rattle.lv_base.specs.Choices.{picks, contains_all, slots_rise_from}
use Rattle.lv_boxes.specs.Masks.{has_choice, only_choice}
use Rattle.lv_boxes.proofs.MaskLemmas.{has_choice-only}
use Rattle.lv_boxes.specs.Walk.{is_ruled_out}
use Rattle.lv_search_bans.specs.declared.bans.Choices.{Choices}
use Rattle.lv_search_bans.specs.Bans.{without_these, has_some, meets, is_banned, sets_rise_from, set_of, AreBans, IsAlikeBut, TakesIn, HasOneMore}

-- both masks' choices, in one
pub either_has : (a b c : ℕ) → has_choice (bit_or a b) c ≡ (has_choice a c || has_choice b c)
either_has a b c = ap (λ n. nat_eq n 1) (bit_at_or a b c) ∙ by (bit_at a c) (bit_at b c) (bit_at-lt a c) (bit_at-lt b c)
  where
    by : (m n : ℕ) → m < 2 → n < 2 → nat_eq (max m n) 1 ≡ (nat_eq m 1 || nat_eq n 1)
    by zero zero less more = refl
    by zero (suc zero) less more = refl
    by (suc zero) zero less more = refl
    by (suc zero) (suc zero) less more = refl
    by zero (suc (suc n)) less more = absurd (omega (arith, more))
    by (suc zero) (suc (suc n)) less more = absurd (omega (arith, more))
    by (suc (suc m)) n less more = absurd (omega (arith, less))

-- the set that takes in the choices of another
abbrev pub both_sets : Choices → Choices → Choices
both_sets a b = record { slot = a.slot; mask = bit_or a.mask b.mask }

has_either : (choices : List ℕ) (a b : Choices) → a.slot ≡ b.slot → has_some choices (both_sets a b) ≡ true → (has_some choices a || has_some choices b) ≡ true
has_either choices a b same h =
    let parts = and_parts (nat_lt a.slot (length choices)) (has_choice (bit_or a.mask b.mask) (slice_index choices a.slot)) h in
    by (or_cases (has_choice a.mask (slice_index choices a.slot)) (has_choice b.mask (slice_index choices a.slot)) (sym (either_has a.mask b.mask (slice_index choices a.slot)) ∙ parts.1)) parts.0
  where
    by : (has_choice a.mask (slice_index choices a.slot) ≡ true) ⊎ (has_choice b.mask (slice_index choices a.slot) ≡ true) → nat_lt a.slot (length choices) ≡ true → (has_some choices a || has_some choices b) ≡ true
    by (inl own) within = or_left (has_some choices a) (has_some choices b) (and_from (nat_lt a.slot (length choices)) (has_choice a.mask (slice_index choices a.slot)) within own)
    by (inr other) within =
        or_right (has_some choices a) (has_some choices b)
        (subst (λ s. (nat_lt s (length choices) && has_choice b.mask (slice_index choices s)) ≡ true) same (and_from (nat_lt a.slot (length choices)) (has_choice b.mask (slice_index choices a.slot)) within other))

-- what has one of each of the widened has one of each of one of both
widened : (choices : List ℕ) (i : ℕ) (one other : List Choices) (a b d e : Choices) → IsAlikeBut i one other → a ≡ get_or one i d → b ≡ get_or other i e
    → meets choices (slice_set one i (both_sets a b)) ≡ true → (meets choices one || meets choices other) ≡ true
widened choices zero (x ∷ xs) (y ∷ ys) a b d e alike a_is b_is h = by (has_either choices x y alike.0 (subst (λ s. has_some choices s ≡ true) (ap₂ both_sets a_is b_is) parts.0))
  where
    parts : (has_some choices (both_sets a b) ≡ true) × (meets choices xs ≡ true)
    parts = and_parts (has_some choices (both_sets a b)) (meets choices xs) h

    by : (has_some choices x || has_some choices y) ≡ true → ((has_some choices x && meets choices xs) || (has_some choices y && meets choices ys)) ≡ true
    by either = of (or_cases (has_some choices x) (has_some choices y) either)
      where
        of : (has_some choices x ≡ true) ⊎ (has_some choices y ≡ true) → ((has_some choices x && meets choices xs) || (has_some choices y && meets choices ys)) ≡ true
        of (inl own) = or_left (has_some choices x && meets choices xs) (has_some choices y && meets choices ys) (and_from (has_some choices x) (meets choices xs) own parts.1)
        of (inr own) =
            or_right (has_some choices x && meets choices xs) (has_some choices y && meets choices ys)
            (and_from (has_some choices y) (meets choices ys) own (subst (λ zs. meets choices zs ≡ true) alike.1 parts.1))
widened choices (suc i) (x ∷ xs) (y ∷ ys) a b d e alike a_is b_is h = by (or_cases (meets choices xs) (meets choices ys) (widened choices i xs ys a b d e alike.1 a_is b_is parts.1))
  where
    parts : (has_some choices x ≡ true) × (meets choices (slice_set xs i (both_sets a b)) ≡ true)
    parts = and_parts (has_some choices x) (meets choices (slice_set xs i (both_sets a b))) h

    by : (meets choices xs ≡ true) ⊎ (meets choices ys ≡ true) → ((has_some choices x && meets choices xs) || (has_some choices y && meets choices ys)) ≡ true
    by (inl own) = or_left (has_some choices x && meets choices xs) (has_some choices y && meets choices ys) (and_from (has_some choices x) (meets choices xs) parts.0 own)
    by (inr own) =
        or_right (has_some choices x && meets choices xs) (has_some choices y && meets choices ys)
        (and_from (has_some choices y) (meets choices ys) (subst (λ s. has_some choices s ≡ true) alike.0 parts.0) own)
widened choices zero [] other a b d e alike a_is b_is h = absurd alike
widened choices (suc i) [] other a b d e alike a_is b_is h = absurd alike
widened choices zero (x ∷ xs) [] a b d e alike a_is b_is h = absurd alike
widened choices (suc i) (x ∷ xs) [] a b d e alike a_is b_is h = absurd alike

pub taken_in : (i : ℕ) (one other new : List Choices) (a b d e : Choices) → IsAlikeBut i one other → a ≡ get_or one i d → b ≡ get_or other i e → new ≡ slice_set one i (both_sets a b) → TakesIn one other new
taken_in i one other new a b d e alike a_is b_is is = record { either = λ choices h. widened choices i one other a b d e alike a_is b_is (subst (λ ss. meets choices ss ≡ true) is h) }

-- the slots of the widened are the same
pub rising_still : (i low : ℕ) (sets : List Choices) (a d : Choices) (mask : ℕ) → a ≡ get_or sets i d → sets_rise_from low (slice_set sets i (record { slot = a.slot; mask = mask })) ≡ sets_rise_from low sets
rising_still i low [] a d mask is = refl
rising_still zero low (s ∷ ss) a d mask is = ap (λ n. nat_lt low (n + 1) && sets_rise_from (n + 1) ss) (ap (λ (c : Choices). c.slot) is)
rising_still (suc i) low (s ∷ ss) a d mask is = ap (λ b. nat_lt low (s.slot + 1) && b) (rising_still i (s.slot + 1) ss a d mask is)

-- going through both: where they differ so far
pub record IsAlikeSoFar (one other : List Choices) (j : ℕ) (found : Option ℕ) : Type 0 where
  pub before : found ≡ None → (i : ℕ) → IsAlikeBut i (drop j one) (drop j other) → IsAlikeBut (j + i) one other
  pub after : (i : ℕ) → found ≡ Some i → drop j one ≡ drop j other → IsAlikeBut i one other

pub alike_begins : (one other : List Choices) → IsAlikeSoFar one other 0 None
alike_begins one other = record { before = λ is i alike. let none : 0 + i ≡ i = omega arith in subst (λ n. IsAlikeBut n one other) (sym none) alike; after = λ i is same. absurd (cc is) }

pub alike_same : (one other : List Choices) (j : ℕ) (found : Option ℕ) (d : Choices) → j < length one → j < length other → get_or one j d ≡ get_or other j d → IsAlikeSoFar one other j found → IsAlikeSoFar one other (j + 1) found
alike_same one other j found d within within_too same a = record { before = before; after = after }
  where
    cut : drop j one ≡ get_or one j d ∷ drop (suc j) one
    cut = drop-cons one j d within

    cut_too : drop j other ≡ get_or other j d ∷ drop (suc j) other
    cut_too = drop-cons other j d within_too

    before : found ≡ None → (i : ℕ) → IsAlikeBut i (drop (j + 1) one) (drop (j + 1) other) → IsAlikeBut ((j + 1) + i) one other
    before none i alike =
        let here : IsAlikeBut i (drop (suc j) one) (drop (suc j) other) = subst (λ n. IsAlikeBut i (drop n one) (drop n other)) (add-one j) alike in
        let there : IsAlikeBut (suc i) (drop j one) (drop j other) = subst (λ xs. IsAlikeBut (suc i) xs (drop j other)) (sym cut) (subst (λ ys. IsAlikeBut (suc i) (get_or one j d ∷ drop (suc j) one) ys) (sym cut_too) (same, here)) in
        let next : j + suc i ≡ (j + 1) + i = omega arith in
        subst (λ n. IsAlikeBut n one other) next (a.before none (suc i) there)

    after : (i : ℕ) → found ≡ Some i → drop (j + 1) one ≡ drop (j + 1) other → IsAlikeBut i one other
    after i some rest = a.after i some (cut ∙ ap₂ (λ (x : Choices) (xs : List Choices). x ∷ xs) same (sym (ap (λ n. drop n one) (add-one j)) ∙ rest ∙ ap (λ n. drop n other) (add-one j)) ∙ sym cut_too)

pub alike_other : (one other : List Choices) (j : ℕ) (found : Option ℕ) (d : Choices) → j < length one → j < length other → (get_or one j d).slot ≡ (get_or other j d).slot → is_some found ≡ false → IsAlikeSoFar one other j found
    → IsAlikeSoFar one other (j + 1) (Some j)
alike_other one other j (Some i) d within within_too same none a = absurd (cc none)
alike_other one other j None d within within_too same none a = record { before = λ is. absurd (cc is); after = after }
  where
    after : (i : ℕ) → Some j ≡ Some i → drop (j + 1) one ≡ drop (j + 1) other → IsAlikeBut i one other
    after i some rest =
        let is : j ≡ i = cc some in
        let here : IsAlikeBut zero (drop j one) (drop j other) = subst (λ xs. IsAlikeBut zero xs (drop j other)) (sym (drop-cons one j d within)) (subst (λ ys. IsAlikeBut zero (get_or one j d ∷ drop (suc j) one) ys) (sym (drop-cons other j d within_too)) (same, sym (ap (λ n. drop n one) (add-one j)) ∙ rest ∙ ap (λ n. drop n other) (add-one j))) in
        let there : j + zero ≡ i = omega (arith, is) in
        subst (λ n. IsAlikeBut n one other) there (a.before refl zero here)

-- equal sets
pub same_sets : (a b : Choices) → not (nat_eq a.slot b.slot && nat_eq a.mask b.mask) ≡ false → a ≡ b
same_sets a b h = let parts = and_parts (nat_eq a.slot b.slot) (nat_eq a.mask b.mask) (not-false _ h) in λ i. record { slot = eqb-true a.slot b.slot parts.0 i; mask = eqb-true a.mask b.mask parts.1 i }
  where
    not-false : (b : Bool) → not b ≡ false → b ≡ true
    not-false true h = refl
    not-false false h = absurd (cc h)

-- a conflict as a ban
pub pairs_met : (choices : List ℕ) (pairs : List Pair) → meets choices (map set_of pairs) ≡ true → contains_all choices pairs ≡ true
pairs_met choices [] h = refl
pairs_met choices (p ∷ ps) h =
    let parts = and_parts (has_some choices (set_of p)) (meets choices (map set_of ps)) h in
    let own = and_parts (nat_lt p.slot (length choices)) (has_choice (only_choice 18446744073709551615 p.choice) (slice_index choices p.slot)) parts.0 in
    let is = and_parts (has_choice 18446744073709551615 (slice_index choices p.slot)) (nat_eq (slice_index choices p.slot) p.choice) (sym (has_choice-only 18446744073709551615 p.choice (slice_index choices p.slot)) ∙ own.1) in
    and_from (picks choices p) (contains_all choices ps) (and_from (nat_lt p.slot (length choices)) (nat_eq (slice_index choices p.slot) p.choice) own.0 is.1) (pairs_met choices ps parts.1)

pub pairs_rise : (low : ℕ) (pairs : List Pair) → sets_rise_from low (map set_of pairs) ≡ slots_rise_from low pairs
pairs_rise low [] = refl
pairs_rise low (p ∷ ps) = ap (λ b. nat_lt low (p.slot + 1) && b) (pairs_rise (p.slot + 1) ps)

-- one ban more at the end, and one of them widened
any_append : (choices : List ℕ) (bans : List (List Choices)) (sets : List Choices) → is_banned (bans ++ sets ∷ []) choices ≡ true → (is_banned bans choices || meets choices sets) ≡ true
any_append choices [] sets h = by (or_cases (meets choices sets) false h)
  where
    by : (meets choices sets ≡ true) ⊎ (false ≡ true) → meets choices sets ≡ true
    by (inl own) = own
    by (inr never) = absurd (cc never)
any_append choices (b ∷ bs) sets h = by (or_cases (meets choices b) (is_banned (bs ++ sets ∷ []) choices) h) (λ later. any_append choices bs sets later)
  where
    of : (is_banned bs choices ≡ true) ⊎ (meets choices sets ≡ true) → ((meets choices b || is_banned bs choices) || meets choices sets) ≡ true
    of (inl some) = or_left (meets choices b || is_banned bs choices) (meets choices sets) (or_right (meets choices b) (is_banned bs choices) some)
    of (inr some) = or_right (meets choices b || is_banned bs choices) (meets choices sets) some

    by : (meets choices b ≡ true) ⊎ (is_banned (bs ++ sets ∷ []) choices ≡ true) → (is_banned (bs ++ sets ∷ []) choices ≡ true → (is_banned bs choices || meets choices sets) ≡ true)
        → ((meets choices b || is_banned bs choices) || meets choices sets) ≡ true
    by (inl own) rest = or_left (meets choices b || is_banned bs choices) (meets choices sets) (or_left (meets choices b) (is_banned bs choices) own)
    by (inr later) rest = of (or_cases (is_banned bs choices) (meets choices sets) (rest later))

pub one_more-pushed : (bans new : List (List Choices)) (sets ban : List Choices) → ban ≡ sets → new ≡ bans ++ ban ∷ [] → HasOneMore bans sets new
one_more-pushed bans new sets ban same is = record { either = λ choices h. any_append choices bans sets (subst (λ bs. is_banned bs choices ≡ true) (is ∙ ap (λ b. bans ++ b ∷ []) same) h) }

any_set : (choices : List ℕ) (bans : List (List Choices)) (i : ℕ) (sets old new d : List Choices) → old ≡ get_or bans i d → TakesIn old sets new → is_banned (slice_set bans i new) choices ≡ true → (is_banned bans choices || meets choices sets) ≡ true
any_set choices [] i sets old new d is t h = absurd (cc h)
any_set choices (b ∷ bs) zero sets old new d is t h = by (or_cases (meets choices new) (is_banned bs choices) h)
  where
    by : (meets choices new ≡ true) ⊎ (is_banned bs choices ≡ true) → ((meets choices b || is_banned bs choices) || meets choices sets) ≡ true
    by (inl own) = of (or_cases (meets choices old) (meets choices sets) (t.either choices own))
      where
        of : (meets choices old ≡ true) ⊎ (meets choices sets ≡ true) → ((meets choices b || is_banned bs choices) || meets choices sets) ≡ true
        of (inl some) = or_left (meets choices b || is_banned bs choices) (meets choices sets) (or_left (meets choices b) (is_banned bs choices) (subst (λ c. meets choices c ≡ true) is some))
        of (inr some) = or_right (meets choices b || is_banned bs choices) (meets choices sets) some
    by (inr later) = or_left (meets choices b || is_banned bs choices) (meets choices sets) (or_right (meets choices b) (is_banned bs choices) later)
any_set choices (b ∷ bs) (suc i) sets old new d is t h = by (or_cases (meets choices b) (is_banned (slice_set bs i new) choices) h) (λ later. any_set choices bs i sets old new d is t later)
  where
    of : (is_banned bs choices ≡ true) ⊎ (meets choices sets ≡ true) → ((meets choices b || is_banned bs choices) || meets choices sets) ≡ true
    of (inl some) = or_left (meets choices b || is_banned bs choices) (meets choices sets) (or_right (meets choices b) (is_banned bs choices) some)
    of (inr some) = or_right (meets choices b || is_banned bs choices) (meets choices sets) some

    by : (meets choices b ≡ true) ⊎ (is_banned (slice_set bs i new) choices ≡ true) → (is_banned (slice_set bs i new) choices ≡ true → (is_banned bs choices || meets choices sets) ≡ true)
        → ((meets choices b || is_banned bs choices) || meets choices sets) ≡ true
    by (inl own) rest = or_left (meets choices b || is_banned bs choices) (meets choices sets) (or_left (meets choices b) (is_banned bs choices) own)
    by (inr later) rest = of (or_cases (is_banned bs choices) (meets choices sets) (rest later))

pub one_more-taken : (bans made : List (List Choices)) (i : ℕ) (sets old new d : List Choices) → old ≡ get_or bans i d → TakesIn old sets new → made ≡ slice_set bans i new → HasOneMore bans sets made
one_more-taken bans made i sets old new d is t made_is = record { either = λ choices h. any_set choices bans i sets old new d is t (subst (λ bs. is_banned bs choices ≡ true) made_is h) }

-- the bans of no conflict, and of one conflict more
pub bans_begin : (conflicts : List (List Pair)) → AreBans conflicts []
bans_begin conflicts = record { barred = λ choices h. absurd (cc h) }

ruled_at : (conflicts : List (List Pair)) (i : ℕ) (d : List Pair) (choices : List ℕ) → i < length conflicts → contains_all choices (get_or conflicts i d) ≡ true → is_ruled_out conflicts choices ≡ true
ruled_at conflicts i d choices within h = list_any_at (contains_all choices) conflicts i d within h

pub bans_pushed : (conflicts : List (List Pair)) (bans : List (List Choices)) (k : List Pair) (ban : List Choices) → ban ≡ map set_of k → AreBans conflicts bans → AreBans (conflicts ++ k ∷ []) (bans ++ ban ∷ [])
bans_pushed conflicts bans k ban is a = record { barred = λ choices h. list_any-append (contains_all choices) conflicts (k ∷ []) ∙ by choices (or_cases (is_banned bans choices) (meets choices ban) (any_append choices bans ban h)) }
  where
    by : (choices : List ℕ) → (is_banned bans choices ≡ true) ⊎ (meets choices ban ≡ true) → (is_ruled_out conflicts choices || (contains_all choices k || false)) ≡ true
    by choices (inl before) = or_left (is_ruled_out conflicts choices) (contains_all choices k || false) (a.barred choices before)
    by choices (inr own) = or_right (is_ruled_out conflicts choices) (contains_all choices k || false) (or_left (contains_all choices k) false (pairs_met choices k (subst (λ ss. meets choices ss ≡ true) is own)))

pub bans_more : (conflicts : List (List Pair)) (i : ℕ) (d pairs : List Pair) (sets : List Choices) (old new : List (List Choices)) → i < length conflicts → pairs ≡ get_or conflicts i d → sets ≡ map set_of pairs
    → AreBans conflicts old → HasOneMore old sets new → AreBans conflicts new
bans_more conflicts i d pairs sets old new within is sets_are a more = record { barred = λ choices h. by choices (or_cases (is_banned old choices) (meets choices sets) (more.either choices h)) }
  where
    by : (choices : List ℕ) → (is_banned old choices ≡ true) ⊎ (meets choices sets ≡ true) → is_ruled_out conflicts choices ≡ true
    by choices (inl before) = a.barred choices before
    by choices (inr own) = ruled_at conflicts i d choices within (subst (λ ps. contains_all choices ps ≡ true) is (pairs_met choices pairs (subst (λ ss. meets choices ss ≡ true) sets_are own)))

-- bans of bans: what each of them rules out the conflicts do
pub bans_on : (conflicts : List (List Pair)) (rows : List (List Choices)) (i : ℕ) (d sets : List Choices) (old new : List (List Choices)) → i < length rows → sets ≡ get_or rows i d
    → AreBans conflicts rows → AreBans conflicts old → HasOneMore old sets new → AreBans conflicts new
bans_on conflicts rows i d sets old new within is r a more = record { barred = λ choices h. by choices (or_cases (is_banned old choices) (meets choices sets) (more.either choices h)) }
  where
    by : (choices : List ℕ) → (is_banned old choices ≡ true) ⊎ (meets choices sets ≡ true) → is_ruled_out conflicts choices ≡ true
    by choices (inl before) = a.barred choices before
    by choices (inr own) = r.barred choices (list_any_at (meets choices) rows i d within (subst (λ c. meets choices c ≡ true) is own))

-- more conflicts rule out no less
pub bans_still : (conflicts : List (List Pair)) (more : List (List Pair)) (bans : List (List Choices)) → AreBans conflicts bans → AreBans (conflicts ++ more) bans
bans_still conflicts more bans a = record { barred = λ choices h. list_any-append (contains_all choices) conflicts more ∙ or_left (is_ruled_out conflicts choices) (is_ruled_out more choices) (a.barred choices h) }

-- a choice that is left beside some is left, and none of them
pub has_choice-beside : (mask these c : ℕ) → has_choice (without_these mask these) c ≡ (has_choice mask c && not (has_choice these c))
has_choice-beside mask these c = ap (λ n. nat_eq n 1) (bit_at_xor mask (bit_and mask these) c ∙ ap (λ n. (bit_at mask c + n) % 2) (bit_at_and mask these c)) ∙ by (bit_at mask c) (bit_at these c) (bit_at-lt mask c) (bit_at-lt these c)
  where
    by : (m n : ℕ) → m < 2 → n < 2 → nat_eq ((m + min m n) % 2) 1 ≡ (nat_eq m 1 && not (nat_eq n 1))
    by zero zero less more = refl
    by zero (suc zero) less more = refl
    by (suc zero) zero less more = refl
    by (suc zero) (suc zero) less more = refl
    by zero (suc (suc n)) less more = absurd (omega (arith, more))
    by (suc zero) (suc (suc n)) less more = absurd (omega (arith, more))
    by (suc (suc m)) n less more = absurd (omega (arith, less))
