-- The order of lists of numbers is total, and it is the order of sorted collections.
use Rattle.std.proofs.Common.{◌≡◌, ℕ, true, false, List, [], ◌∷◌, refl, sym, arith}
use Rattle.std.specs.declared.cmp.Ordering.{Ordering}
use Rattle.std.specs.declared.cmp.Ordering.TheVariants.{Less, Greater}
use Rattle.std.specs.Cmp.Lexicographic.{slice_cmp}
use Rattle.std.specs.Ordering.{nat_cmp, is_lt, is_gt}
use Rattle.std.proofs.lemmas.Cmp.{same_from_slice_cmp}
use Rattle.std.proofs.lemmas.Bool.Decides.{nat_tests}
use Rattle.lv_base.specs.declared.rank.Rank.{Rank}
use Rattle.lv_base.specs.Order.{comes_before}
use Rattle.lv_base.specs.Rank.{rank_key, rank_cmp, ranks_before}

pub irreflexive : (xs : List ℕ) → comes_before xs xs ≡ false
irreflexive [] = refl
irreflexive (x ∷ xs) = grind (arith, irreflexive xs)

pub transitive : (xs ys zs : List ℕ) → comes_before xs ys ≡ true → comes_before ys zs ≡ true → comes_before xs zs ≡ true
transitive [] [] zs p q = (cc)
transitive [] (y ∷ ys) [] p q = (cc)
transitive [] (y ∷ ys) (z ∷ zs) p q = refl
transitive (x ∷ xs) [] zs p q = (cc)
transitive (x ∷ xs) (y ∷ ys) [] p q = (cc)
transitive (x ∷ xs) (y ∷ ys) (z ∷ zs) p q = grind (arith, transitive xs ys zs)

pub connected : (xs ys : List ℕ) → comes_before xs ys ≡ false → comes_before ys xs ≡ false → xs ≡ ys
connected [] [] p q = refl
connected [] (y ∷ ys) p q = (cc)
connected (x ∷ xs) [] p q = (cc)
connected (x ∷ xs) (y ∷ ys) p q = grind (arith, connected xs ys)

pub less_is_before : (xs ys : List ℕ) (o : Ordering) → o ≡ slice_cmp nat_cmp xs ys → is_lt o ≡ comes_before xs ys
less_is_before = same_from_slice_cmp nat_cmp is_lt comes_before refl (λ _ _. refl) (λ _ _. refl) (λ x y xs ys o h. grind (arith, nat_tests))

pub greater_is_after : (xs ys : List ℕ) (o : Ordering) → o ≡ slice_cmp nat_cmp xs ys → is_gt o ≡ comes_before ys xs
greater_is_after = same_from_slice_cmp nat_cmp is_gt (λ xs ys. comes_before ys xs) refl (λ _ _. refl) (λ _ _. refl) (λ x y xs ys o h. grind (arith, nat_tests))

pub before_by_cmp : (a b : Rank) → rank_cmp a b ≡ Less → ranks_before a b ≡ true
before_by_cmp a b e = sym (less_is_before (rank_key a) (rank_key b) Less (sym e))

pub after_by_cmp : (a b : Rank) → rank_cmp a b ≡ Greater → ranks_before b a ≡ true
after_by_cmp a b e = sym (greater_is_after (rank_key a) (rank_key b) Greater (sym e))
