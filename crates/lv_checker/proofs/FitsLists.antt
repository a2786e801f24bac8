-- Lists whose elements pass a test, and what is found in them.
use Rattle.std.proofs.Common.{◌≡◌, ◌+◌, ◌<◌, ◌^◌, ℕ, zero, suc, Bool, true, false, nat_lt, List, [], ◌∷◌, ◌++◌, length, map, sum_by, slice_get, Option, Some, None, option_map, if◌then◌else◌, refl, sym, ap₂, subst, ◌∙◌, arith}
use Rattle.std.specs.List.{list_all, flat_map}
use Rattle.std.specs.Option.{option_map_or, option_and_then}
use Rattle.std.proofs.lemmas.Bool.{and_parts, and_from}
use Rattle.std.proofs.lemmas.List.Sums.{sum_by-cons}
use Rattle.lv_model_entries.specs.Places.{placed}

pub all_more : {X : Type 0} (p : X → Bool) (xs : List X) (x : X) → list_all p xs ≡ true → p x ≡ true → list_all p (xs ++ x ∷ []) ≡ true
all_more p [] x h e = and_from (p x) true e refl
all_more p (y ∷ ys) x h e = let two = and_parts (p y) (list_all p ys) h in and_from (p y) (list_all p (ys ++ x ∷ [])) two.0 (all_more p ys x two.1 e)

pub all_behind : {X : Type 0} (p : X → Bool) (xs ys : List X) → list_all p xs ≡ true → list_all p ys ≡ true → list_all p (xs ++ ys) ≡ true
all_behind p [] ys h e = e
all_behind p (x ∷ xs) ys h e = let two = and_parts (p x) (list_all p xs) h in and_from (p x) (list_all p (xs ++ ys)) two.0 (all_behind p xs ys two.1 e)

pub all_kept : {X : Type 0} (p q : X → Bool) (xs : List X) → ((x : X) → p x ≡ true → q x ≡ true) → list_all p xs ≡ true → list_all q xs ≡ true
all_kept p q [] f h = refl
all_kept p q (x ∷ xs) f h = let two = and_parts (p x) (list_all p xs) h in and_from (q x) (list_all q xs) (f x two.0) (all_kept p q xs f two.1)

-- what two tests give together
pub all_joined : {X : Type 0} (p q r : X → Bool) (xs : List X) → ((x : X) → p x ≡ true → q x ≡ true → r x ≡ true) → list_all p xs ≡ true → list_all q xs ≡ true → list_all r xs ≡ true
all_joined p q r [] f h k = refl
all_joined p q r (x ∷ xs) f h k =
    let two = and_parts (p x) (list_all p xs) h in
    let more = and_parts (q x) (list_all q xs) k in
    and_from (r x) (list_all r xs) (f x two.0 more.0) (all_joined p q r xs f two.1 more.1)

pub all_at : {X : Type 0} (p : X → Bool) (xs : List X) (n : ℕ) (x : X) → list_all p xs ≡ true → slice_get xs n ≡ Some x → p x ≡ true
all_at p [] n x h here = absurd (cc)
all_at p (y ∷ ys) zero x h here = let e : y ≡ x = cc here in subst (λ z. p z ≡ true) e (and_parts (p y) (list_all p ys) h).0
all_at p (y ∷ ys) (suc n) x h here = all_at p ys n x (and_parts (p y) (list_all p ys) h).1 here

pub flat_map_same : {X A : Type 0} (p : X → Bool) (f g : X → List A) (xs : List X) → ((x : X) → p x ≡ true → f x ≡ g x) → list_all p xs ≡ true → flat_map f xs ≡ flat_map g xs
flat_map_same {A = A} p f g [] e h = refl
flat_map_same {A = A} p f g (x ∷ xs) e h = let two = and_parts (p x) (list_all p xs) h in ap₂ (λ (a b : List A). a ++ b) (e x two.0) (flat_map_same p f g xs e two.1)

pub map_same : {X A : Type 0} (p : X → Bool) (f g : X → A) (xs : List X) → ((x : X) → p x ≡ true → f x ≡ g x) → list_all p xs ≡ true → map f xs ≡ map g xs
map_same {A = A} p f g [] e h = refl
map_same {A = A} p f g (x ∷ xs) e h = let two = and_parts (p x) (list_all p xs) h in ap₂ (λ (a : A) (b : List A). a ∷ b) (e x two.0) (map_same p f g xs e two.1)

pub sum_same : {X : Type 0} (p : X → Bool) (f g : X → ℕ) (xs : List X) → ((x : X) → p x ≡ true → f x ≡ g x) → list_all p xs ≡ true → sum_by f xs ≡ sum_by g xs
sum_same p f g [] e h = refl
sum_same p f g (x ∷ xs) e h =
    let two = and_parts (p x) (list_all p xs) h in
    sum_by-cons f x xs ∙ ap₂ (λ (a b : ℕ). a + b) (e x two.0) (sum_same p f g xs e two.1) ∙ sym (sum_by-cons g x xs)

pub found_below : {X : Type 0} (xs ys : List X) (n : ℕ) → n < length xs → slice_get (xs ++ ys) n ≡ slice_get xs n
found_below [] ys n h = absurd (omega (arith, h))
found_below (x ∷ xs) ys zero h = refl
found_below (x ∷ xs) ys (suc n) h = found_below xs ys n (omega (arith, h))

pub found_further : {X : Type 0} (xs ys : List X) (n : ℕ) (x : X) → slice_get xs n ≡ Some x → slice_get (xs ++ ys) n ≡ Some x
found_further [] ys n x h = absurd (cc)
found_further (y ∷ xs) ys zero x h = h
found_further (y ∷ xs) ys (suc n) x h = found_further xs ys n x h

pub passed : {X : Type 0} (f : X → Bool) (o : Option X) → option_map_or f o false ≡ true → (x : X) × (o ≡ Some x) × (f x ≡ true)
passed f None h = absurd (cc)
passed f (Some x) h = (x, refl, h)

pub mapped : {X Y : Type 0} (f : X → Y) (o : Option X) (y : Y) → option_map f o ≡ Some y → (x : X) × (o ≡ Some x) × (f x ≡ y)
mapped f None y h = absurd (cc)
mapped f (Some x) y h = let e : f x ≡ y = cc h in (x, refl, e)

pub chained : {X Y : Type 0} (f : X → Option Y) (o : Option X) (y : Y) → option_and_then f o ≡ Some y → (x : X) × (o ≡ Some x) × (f x ≡ Some y)
chained f None y h = absurd (cc)
chained f (Some x) y h = (x, refl, h)

pub placed_is : (n m : ℕ) → placed n ≡ Some m → n ≡ m
placed_is n m h = by (nat_lt n (2 ^ 32)) h
  where
    by : (b : Bool) → (if b then Some n else None) ≡ Some m → n ≡ m
    by true h = cc h
    by false h = absurd (cc)

pub guarded : {X : Type 0} (b : Bool) (o : Option X) (x : X) → (if b then o else None) ≡ Some x → (b ≡ true) × (o ≡ Some x)
guarded true o x h = (refl, h)
guarded false o x h = absurd (cc)
