-- Literals in another order: they are a clause still, and say the same.
use Rattle.std.proofs.Common.{◌≡◌, ℕ, ◌+◌, ◌≤◌, Bool, true, false, not, nat_eq, ◌&&◌, List, [], ◌∷◌, ◌++◌, cond, reverse, refl, sym, subst, ap, ◌∙◌, arith, ◌⊎◌, Contains, IsPermutation}
use Rattle.std.specs.List.{list_all, sum_by}
use Rattle.std.proofs.lemmas.Bool.{and_parts, and_from}
use Rattle.std.proofs.lemmas.Bool.Decides.{nat_tests}
use Rattle.std.proofs.lemmas.List.Elements.{Contains-append_cases}
use Rattle.std.proofs.lemmas.List.{append_assoc}
use Rattle.std.proofs.lemmas.List.Sums.{sum_by-cons}
use Rattle.std.proofs.lemmas.List.Sorted.{IsPermutation-sym, IsPermutation-trans, IsPermutation-append_left, IsPermutation-append_right, IsPermutation-append_comm, IsPermutation-reverse, Contains-permutation, sum_by-IsPermutation}
use Rattle.lv_base.specs.declared.ids.Lit.{Lit}
use Rattle.lv_clauses.specs.Literals.{in_range, distinct, is_clause}

-- how many of the literals fail a test
abbrev fails : (Lit → Bool) → Lit → ℕ
fails p l = cond (p l) 0 1

abbrev failing : (Lit → Bool) → List Lit → ℕ
failing p ls = sum_by (fails p) ls

none_fails : (p : Lit → Bool) (ls : List Lit) → nat_eq (failing p ls) 0 ≡ list_all p ls
none_fails p [] = refl
none_fails p (l ∷ ls) = ap (λ (n : ℕ). nat_eq n 0) (sum_by-cons (fails p) l ls) ∙ first (p l) (failing p ls) ∙ ap (λ (b : Bool). p l && b) (none_fails p ls)
  where
    first : (b : Bool) (n : ℕ) → nat_eq (cond b 0 1 + n) 0 ≡ (b && nat_eq n 0)
    first true n = ap (λ (m : ℕ). nat_eq m 0) (let is : 0 + n ≡ n = omega arith in is)
    first false n = grind (arith, nat_tests)

pub all_permuted : (p : Lit → Bool) (xs ys : List Lit) → IsPermutation xs ys → list_all p xs ≡ list_all p ys
all_permuted p xs ys s = sym (none_fails p xs) ∙ ap (λ (n : ℕ). nat_eq n 0) (sym (sum_by-IsPermutation (fails p) xs ys s)) ∙ none_fails p ys

-- the literal is of another boolean; so how many are of this one
abbrev is_other : ℕ → Lit → Bool
is_other n l = not (nat_eq n l.var.0)

counted_once : (ls : List Lit) → distinct ls ≡ true → (n : ℕ) → failing (is_other n) ls ≤ 1
counted_once [] h n = let none : failing (is_other n) [] ≡ 0 = refl in omega (arith, none)
counted_once (l ∷ ls) h n =
    let two = and_parts (list_all (is_other l.var.0) ls) (distinct ls) h in
    let step = sum_by-cons (fails (is_other n)) l ls in
    let rest = counted_once ls two.1 n in
    by (nat_eq n l.var.0) refl step rest
    (λ (is : n ≡ l.var.0). none_fails (is_other n) ls ∙ subst (λ (m : ℕ). list_all (is_other m) ls ≡ true) (sym is) two.0)
  where
    by : (b : Bool) → nat_eq n l.var.0 ≡ b → failing (is_other n) (l ∷ ls) ≡ fails (is_other n) l + failing (is_other n) ls → failing (is_other n) ls ≤ 1
        → (n ≡ l.var.0 → nat_eq (failing (is_other n) ls) 0 ≡ true) → failing (is_other n) (l ∷ ls) ≤ 1
    by false e step rest none = let own : fails (is_other n) l ≡ 0 = ap (λ (b : Bool). cond (not b) 0 1) e in omega (arith, step, rest, own)
    by true e step rest none =
        let own : fails (is_other n) l ≡ 1 = ap (λ (b : Bool). cond (not b) 0 1) e in
        let same : n ≡ l.var.0 = grind (arith, nat_tests, e) in
        let nothing : failing (is_other n) ls ≡ 0 = grind (arith, nat_tests, none same) in
        omega (arith, step, own, nothing)

distinct_by_counts : (ls : List Lit) → ((n : ℕ) → failing (is_other n) ls ≤ 1) → distinct ls ≡ true
distinct_by_counts [] h = refl
distinct_by_counts (l ∷ ls) h =
    let n : ℕ = l.var.0 in
    let step = sum_by-cons (fails (is_other n)) l ls in
    let once : failing (is_other n) (l ∷ ls) ≤ 1 = h n in
    let itself : nat_eq n n ≡ true = grind (arith, nat_tests) in
    let own : fails (is_other n) l ≡ 1 = ap (λ (b : Bool). cond (not b) 0 1) itself in
    let nothing : failing (is_other n) ls ≡ 0 = omega (arith, step, once, own) in
    and_from (list_all (is_other n) ls) (distinct ls) (sym (none_fails (is_other n) ls) ∙ ap (λ (m : ℕ). nat_eq m 0) nothing)
    (distinct_by_counts ls (λ (m : ℕ). let later = sum_by-cons (fails (is_other m)) l ls in let most : failing (is_other m) (l ∷ ls) ≤ 1 = h m in omega (arith, later, most)))

pub clause_permuted : (bools : ℕ) (xs ys : List Lit) → IsPermutation xs ys → is_clause bools xs ≡ true → is_clause bools ys ≡ true
clause_permuted bools xs ys s h =
    let two = and_parts (list_all (in_range bools) xs) (distinct xs) h in
    and_from (list_all (in_range bools) ys) (distinct ys) (sym (all_permuted (in_range bools) xs ys s) ∙ two.0)
    (distinct_by_counts ys (λ (n : ℕ). subst (λ (m : ℕ). m ≤ 1) (sym (sum_by-IsPermutation (fails (is_other n)) xs ys s)) (counted_once xs two.1 n)))

-- what is in the two in another order is in one of them
pub one_of_permuted : (xs ys out : List Lit) (l : Lit) → IsPermutation (xs ++ ys) out → Contains out l → Contains xs l ⊎ Contains ys l
one_of_permuted xs ys out l s h = Contains-append_cases xs ys l (Contains-permutation out (xs ++ ys) l (IsPermutation-sym (xs ++ ys) out s) h)

-- a list in four parts, of which the last comes first and the third is turned round
pub parts_permuted : (a b c d : List Lit) → IsPermutation (((a ++ b) ++ c) ++ d) (((d ++ a) ++ reverse c) ++ b)
parts_permuted a b c d =
    IsPermutation-trans (((a ++ b) ++ c) ++ d) (d ++ ((a ++ b) ++ c)) (((d ++ a) ++ reverse c) ++ b)
    (IsPermutation-append_comm ((a ++ b) ++ c) d)
    (subst (λ (ls : List Lit). IsPermutation ls (((d ++ a) ++ reverse c) ++ b)) (append_assoc d a (b ++ c) ∙ ap (λ (ls : List Lit). d ++ ls) (sym (append_assoc a b c)))
    (subst (IsPermutation ((d ++ a) ++ (b ++ c))) (sym (append_assoc (d ++ a) (reverse c) b))
    (IsPermutation-append_right (d ++ a) (b ++ c) (reverse c ++ b)
    (IsPermutation-trans (b ++ c) (c ++ b) (reverse c ++ b) (IsPermutation-append_comm b c) (IsPermutation-append_left b c (reverse c) (IsPermutation-reverse c))))))
