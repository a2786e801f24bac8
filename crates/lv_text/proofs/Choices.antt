-- Facts on tests and on `if` that the other lemmas share.
use Rattle.std.proofs.Common.{◌≡◌, Bool, true, false, ◌&&◌, cond, List, [], ◌∷◌, refl}
use Rattle.std.proofs.lemmas.Bool.{and_parts, and_from}
use Rattle.std.specs.List.{list_all}

-- what holds of and_from sides of a choice holds of what is chosen
pub if_holds : {X : Type 0} (P : X → Type 0) (c : Bool) (x y : X) → (c ≡ true → P x) → (c ≡ false → P y) → P (cond c x y)
if_holds P true x y f g = f refl
if_holds P false x y f g = g refl

-- a test that implies another, of all elements
pub list_all-weaker : {X : Type 0} (p q : X → Bool) → ((x : X) → p x ≡ true → q x ≡ true) → (xs : List X) → list_all p xs ≡ true → list_all q xs ≡ true
list_all-weaker p q weaker [] h = refl
list_all-weaker p q weaker (x ∷ xs) h =
    and_from _ _ (weaker x ((and_parts (p x) (list_all p xs) h).0)) (list_all-weaker p q weaker xs ((and_parts (p x) (list_all p xs) h).1))
