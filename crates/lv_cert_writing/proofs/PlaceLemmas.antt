-- Items of lists by their places, and clauses by their numbers.
use Rattle.std.proofs.Common.{◌≡◌, ◌<◌, ◌+◌, ◌-◌, ℕ, suc, zero, false, nat_eq, List, [], ◌∷◌, ◌++◌, length, take, Some, slice_get, refl, sym, ◌∙◌, arith}
use Rattle.std.proofs.lemmas.Bool.Decides.{nat_tests}
use Rattle.lv_base.specs.declared.ids.Lit.{Lit}
use Rattle.lv_cert_meaning.specs.Following.{numbered}

pub slice_get-more : {X : Type 0} (xs ys : List X) (n : ℕ) (x : X) → slice_get xs n ≡ Some x → slice_get (xs ++ ys) n ≡ Some x
slice_get-more [] ys n x e = absurd (cc e)
slice_get-more (y ∷ xs) ys zero x e = e
slice_get-more (y ∷ xs) ys (suc n) x e = slice_get-more xs ys n x e

pub slice_get-seam : {X : Type 0} (xs : List X) (x : X) → slice_get (xs ++ x ∷ []) (length xs) ≡ Some x
slice_get-seam [] x = refl
slice_get-seam (y ∷ xs) x = slice_get-seam xs x

-- what is found in a front
pub slice_get-take : {X : Type 0} (n : ℕ) (xs : List X) (k : ℕ) (x : X) → slice_get (take n xs) k ≡ Some x → slice_get xs k ≡ Some x
slice_get-take zero xs k x e = absurd (cc e)
slice_get-take (suc n) [] k x e = e
slice_get-take (suc n) (y ∷ xs) zero x e = e
slice_get-take (suc n) (y ∷ xs) (suc k) x e = slice_get-take n xs k x e

pub below_front : {X : Type 0} (n : ℕ) (xs : List X) (k : ℕ) (x : X) → slice_get (take n xs) k ≡ Some x → k < n
below_front zero xs k x e = absurd (cc e)
below_front (suc n) [] k x e = absurd (cc e)
below_front (suc n) (y ∷ xs) zero x e = omega arith
below_front (suc n) (y ∷ xs) (suc k) x e = let below = below_front n xs k x e in omega (arith, below)

-- clauses by their numbers
pub by_place : (clauses : List (List Lit)) (number n : ℕ) → number ≡ n + 1 → numbered clauses number ≡ slice_get clauses n
by_place clauses number n e =
    let some : nat_eq number 0 ≡ false = grind (arith, nat_tests, e) in
    let same : number - 1 ≡ n = omega (arith, e) in
    rw (some, same) refl

-- a number of a clause stays one behind which more clauses stand
pub numbered-more : (clauses more : List (List Lit)) (n : ℕ) (c : List Lit) → numbered clauses n ≡ Some c → numbered (clauses ++ more) n ≡ Some c
numbered-more clauses more zero c e = absurd (cc e)
numbered-more clauses more (suc n) c e =
    let up : suc n ≡ n + 1 = omega arith in
    by_place (clauses ++ more) (suc n) n up ∙ slice_get-more clauses more n c (sym (by_place clauses (suc n) n up) ∙ e)

pub numbered-last : (clauses : List (List Lit)) (c : List Lit) (n : ℕ) → n ≡ length clauses + 1 → numbered (clauses ++ c ∷ []) n ≡ Some c
numbered-last clauses c n e = by_place (clauses ++ c ∷ []) n (length clauses) e ∙ slice_get-seam clauses c
