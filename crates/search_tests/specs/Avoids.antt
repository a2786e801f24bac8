-- A conflict of one choice.
use Rattle.std.specs.Prelude.{◌≡◌, ℕ, Bool, true, false, not, ◌&&◌, List, [], ◌∷◌}
use Rattle.std.proofs.Common.{refl, sym}
use Rattle.lv_base.specs.declared.search.Pair.{Pair}
use Rattle.lv_base.specs.Choices.{picks, contains_all}

by_test_inside : (b : Bool) → not b ≡ false → (b && true) ≡ true
by_test_inside true h = refl
by_test_inside false h = sym h

by_test_apart : (b : Bool) → not b ≡ true → (b && true) ≡ false
by_test_apart true h = sym h
by_test_apart false h = refl

pub has_it : (choices : List ℕ) (p : Pair) → not (picks choices p) ≡ false → contains_all choices (p ∷ []) ≡ true
has_it choices p = by_test_inside (picks choices p)

pub others_lack_it : (choices : List ℕ) (p : Pair) → not (picks choices p) ≡ true → contains_all choices (p ∷ []) ≡ false
others_lack_it choices p = by_test_apart (picks choices p)
