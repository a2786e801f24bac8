-- A move put in its place among others: they stay in their order, and each mode keeps its stays.
use Rattle.std.proofs.Common.{◌⊎◌, inl, inr, ◌≡◌, ◌+◌, ◌<◌, ◌≤◌, ℕ, suc, Bool, true, false, ◌&&◌, ◌||◌, nat_lt, nat_le, nat_eq, List, [], ◌∷◌, ◌++◌, length, count_by, insert, cond, refl, sym, ap, ap₂, ◌∙◌, arith}
use Rattle.std.specs.List.{list_all, position_or_len}
use Rattle.std.proofs.lemmas.Bool.{and_parts, and_from, and_right, ltb-true, cases_lt}
use Rattle.std.proofs.lemmas.List.Sums.{sum_by-cons, sum_by-insert}
use Rattle.lv_model.specs.declared.plant.Move.{Move}
use Rattle.lv_model.specs.WellFormed.{kind_place, moves_rise, is_stay, is_stay_of, stays_once}
use Rattle.lv_checker.specs.Drafts.{stands_before, place_among, with_move_in_place}

-- the same by recursion
abbrev put_when : Bool → Move → Move → List Move → List Move → List Move
put_when true m x xs rest = m ∷ x ∷ xs
put_when false m x xs rest = x ∷ rest

abbrev pub put : Move → List Move → List Move
put m [] = m ∷ []
put m (x ∷ xs) = put_when (stands_before m x) m x xs (put m xs)

put_later : (m x : Move) (xs : List Move) (n : ℕ) → insert (x ∷ xs) (1 + n) m ≡ x ∷ insert xs n m
put_later m x xs n = let e : 1 + n ≡ suc n = omega arith in ap (λ (k : ℕ). insert (x ∷ xs) k m) e

put_by_place : (m : Move) (xs : List Move) → insert xs (position_or_len (stands_before m) xs) m ≡ put m xs
put_by_place m [] = refl
put_by_place m (x ∷ xs) = by (stands_before m x) refl (put_by_place m xs)
  where
    by : (b : Bool) → stands_before m x ≡ b → insert xs (position_or_len (stands_before m) xs) m ≡ put m xs → insert (x ∷ xs) (position_or_len (stands_before m) (x ∷ xs)) m ≡ put m (x ∷ xs)
    by true e h = rw e refl
    by false e h = rw e (put_later m x xs (position_or_len (stands_before m) xs) ∙ ap (λ (ys : List Move). x ∷ ys) h)

first_place : (m : Move) (xs : List Move) → position_or_len (stands_before m) xs ≤ length xs
first_place m [] = omega arith
first_place m (x ∷ xs) = by (stands_before m x) refl (first_place m xs)
  where
    by : (b : Bool) → stands_before m x ≡ b → position_or_len (stands_before m) xs ≤ length xs → position_or_len (stands_before m) (x ∷ xs) ≤ length (x ∷ xs)
    by true e h = rw e (omega arith)
    by false e h = rw e (omega (arith, h))

place_is : (m : Move) (xs : List Move) → place_among m xs ≡ position_or_len (stands_before m) xs
place_is m xs = by (cases_lt (position_or_len (stands_before m) xs) (length xs))
  where
    by : (position_or_len (stands_before m) xs < length xs) ⊎ (length xs ≤ position_or_len (stands_before m) xs) → place_among m xs ≡ position_or_len (stands_before m) xs
    by (inl less) = let e : nat_lt (position_or_len (stands_before m) xs) (length xs) ≡ true = grind (arith, less) in rw e refl
    by (inr more) =
        let e : nat_lt (position_or_len (stands_before m) xs) (length xs) ≡ false = grind (arith, more) in
        let few = first_place m xs in
        let same : length xs ≡ position_or_len (stands_before m) xs = omega (arith, few, more) in
        rw e same

pub put_is : (m : Move) (xs : List Move) → with_move_in_place m xs ≡ put m xs
put_is m xs = ap (λ (n : ℕ). insert xs n m) (place_is m xs) ∙ put_by_place m xs

pub put_length : (m : Move) (xs : List Move) → length (put m xs) ≡ length xs + 1
put_length m [] = refl
put_length m (x ∷ xs) = by (stands_before m x) (put_length m xs)
  where
    by : (b : Bool) → length (put m xs) ≡ length xs + 1 → length (put_when b m x xs (put m xs)) ≡ length (x ∷ xs) + 1
    by true h = omega arith
    by false h = omega (arith, h)

pub put_all : (p : Move → Bool) (m : Move) (xs : List Move) → list_all p xs ≡ true → p m ≡ true → list_all p (put m xs) ≡ true
put_all p m [] h e = and_from (p m) true e refl
put_all p m (x ∷ xs) h e = by (stands_before m x) (put_all p m xs (and_parts (p x) (list_all p xs) h).1 e)
  where
    by : (b : Bool) → list_all p (put m xs) ≡ true → list_all p (put_when b m x xs (put m xs)) ≡ true
    by true rest = and_from (p m) (list_all p (x ∷ xs)) e h
    by false rest = and_from (p x) (list_all p (put m xs)) (and_parts (p x) (list_all p xs) h).0 rest

-- a move may stand behind one of this mode and kind
abbrev pub may_follow : ℕ → ℕ → Move → Bool
may_follow mode place m = nat_lt mode m.source.0 || (nat_eq mode m.source.0 && nat_le place (kind_place m.kind))

before_follows : (m x : Move) → stands_before m x ≡ true → may_follow m.source.0 (kind_place m.kind) x ≡ true
before_follows m x h = grind arith

others_follow : (m x : Move) → stands_before m x ≡ false → may_follow x.source.0 (kind_place x.kind) m ≡ true
others_follow m x h = grind arith

pub put_rises : (m : Move) (low place : ℕ) (xs : List Move) → moves_rise low place xs ≡ true → may_follow low place m ≡ true → moves_rise low place (put m xs) ≡ true
put_rises m low place [] h e = and_from (may_follow low place m) true e refl
put_rises m low place (x ∷ xs) h e = by (stands_before m x) refl (put_rises m x.source.0 (kind_place x.kind) xs two.1)
  where
    two : (may_follow low place x ≡ true) × (moves_rise x.source.0 (kind_place x.kind) xs ≡ true)
    two = and_parts (may_follow low place x) (moves_rise x.source.0 (kind_place x.kind) xs) h

    by : (b : Bool) → stands_before m x ≡ b → (may_follow x.source.0 (kind_place x.kind) m ≡ true → moves_rise x.source.0 (kind_place x.kind) (put m xs) ≡ true)
        → moves_rise low place (put_when b m x xs (put m xs)) ≡ true
    by true s rest =
        and_from (may_follow low place m) (moves_rise m.source.0 (kind_place m.kind) (x ∷ xs)) e
        (and_from (may_follow m.source.0 (kind_place m.kind) x) (moves_rise x.source.0 (kind_place x.kind) xs) (before_follows m x s) two.1)
    by false s rest = and_from (may_follow low place x) (moves_rise x.source.0 (kind_place x.kind) (put m xs)) two.0 (rest (others_follow m x s))

pub from_first : (m : Move) → may_follow 0 0 m ≡ true
from_first m = grind arith

pub put_count : (p : Move → Bool) (m : Move) (xs : List Move) → count_by p (with_move_in_place m xs) ≡ count_by p xs + cond (p m) 1 0
put_count p m xs = sum_by-insert (λ (y : Move). cond (p y) 1 0) xs (place_among m xs) m

pub none_of : (n : ℕ) (xs : List Move) → list_all (λ (m : Move). nat_lt m.source.0 n) xs ≡ true → count_by (is_stay_of n) xs ≡ 0
none_of n [] h = refl
none_of n (x ∷ xs) h =
    let two = and_parts (nat_lt x.source.0 n) (list_all (λ (m : Move). nat_lt m.source.0 n) xs) h in
    let less : x.source.0 < n = ltb-true x.source.0 n two.0 in
    let other : nat_eq x.source.0 n ≡ false = grind (arith, less) in
    let here : is_stay_of n x ≡ false = and_right (is_stay x.kind) (nat_eq x.source.0 n) other in
    let one : count_by (is_stay_of n) (x ∷ xs) ≡ cond (is_stay_of n x) 1 0 + count_by (is_stay_of n) xs = sum_by-cons (λ (y : Move). cond (is_stay_of n y) 1 0) x xs in
    let rest : count_by (is_stay_of n) xs ≡ 0 = none_of n xs two.1 in
    one ∙ ap₂ (λ (c : Bool) (k : ℕ). cond c 1 0 + k) here rest

-- the same counts of stays
pub once_same : (mode : ℕ) (names : List (List ℕ)) (xs ys : List Move) → ((k : ℕ) → k < mode + length names → count_by (is_stay_of k) xs ≡ count_by (is_stay_of k) ys)
    → stays_once mode names ys ≡ true → stays_once mode names xs ≡ true
once_same mode [] xs ys e h = refl
once_same mode (n ∷ names) xs ys e h =
    let two = and_parts (nat_eq (count_by (is_stay_of mode) ys) 1) (stays_once (mode + 1) names ys) h in
    and_from (nat_eq (count_by (is_stay_of mode) xs) 1) (stays_once (mode + 1) names xs)
    (ap (λ (k : ℕ). nat_eq k 1) (e mode (omega arith)) ∙ two.0) (once_same (mode + 1) names xs ys (λ k less. e k (omega (arith, less))) two.1)

-- one mode more
pub once_more : (mode : ℕ) (names : List (List ℕ)) (name : List ℕ) (xs : List Move) → stays_once mode names xs ≡ true → count_by (is_stay_of (mode + length names)) xs ≡ 1
    → stays_once mode (names ++ name ∷ []) xs ≡ true
once_more mode [] name xs h one =
    let e : mode + 0 ≡ mode = omega arith in
    and_from (nat_eq (count_by (is_stay_of mode) xs) 1) true (ap (λ (k : ℕ). nat_eq k 1) (sym (ap (λ (k : ℕ). count_by (is_stay_of k) xs) e) ∙ one)) refl
once_more mode (n ∷ names) name xs h one =
    let two = and_parts (nat_eq (count_by (is_stay_of mode) xs) 1) (stays_once (mode + 1) names xs) h in
    let e : mode + 1 + length names ≡ mode + length (n ∷ names) = omega arith in
    and_from (nat_eq (count_by (is_stay_of mode) xs) 1) (stays_once (mode + 1) (names ++ name ∷ []) xs) two.0
    (once_more (mode + 1) names name xs two.1 (ap (λ (k : ℕ). count_by (is_stay_of k) xs) e ∙ one))
