-- What options tell that were made of others, and items at places.
use Rattle.std.proofs.Common.{◌≡◌, ℕ, zero, suc, ◌-◌, Bool, true, false, nat_lt, List, [], ◌∷◌, Option, Some, None, slice_get, cond, inl, inr, refl, sym}
use Rattle.std.specs.Prelude.{option_map}
use Rattle.std.specs.Option.{option_map_or, option_and_then}
use Rattle.lv_cert_meaning.proofs.lv_meaning.Among.{Among}
use Rattle.lv_cert_meaning.specs.Counting.{at_number}

module _ {A B : Type 0} where
  -- what an answer was made of
  pub record ComesFrom (f : A → B) (o : Option A) (y : B) : Type 0 where
    pub source : A
    pub at : o ≡ Some source
    pub made : f source ≡ y

  pub mapped : (f : A → B) (o : Option A) (y : B) → option_map f o ≡ Some y → ComesFrom f o y
  mapped f None y h = absurd (cc h)
  mapped f (Some x) y h = record { source = x; at = refl; made = cc h }

  pub anded : (f : A → Option B) (o : Option A) (y : B) → option_and_then f o ≡ Some y → (x : A) × (o ≡ Some x) × (f x ≡ Some y)
  anded f None y h = absurd (cc h)
  anded f (Some x) y h = (x, refl, h)

module _ {A : Type 0} where
  pub when_true : (b : Bool) (o : Option A) (y : A) → cond b o None ≡ Some y → o ≡ Some y
  when_true true o y h = h
  when_true false o y h = absurd (cc h)

  pub tested : (f : A → Bool) (o : Option A) → option_map_or f o false ≡ true → (x : A) × (o ≡ Some x) × (f x ≡ true)
  tested f None h = absurd (cc h)
  tested f (Some x) h = (x, refl, h)

  -- what stands at a place is among the items
  pub got_among : (xs : List A) (i : ℕ) (x : A) → slice_get xs i ≡ Some x → Among x xs
  got_among [] i x h = absurd (cc h)
  got_among (y ∷ ys) zero x h = inl (sym (cc h))
  got_among (y ∷ ys) (suc i) x h = inr (got_among ys i x h)

  pub numbered_at : (xs : List A) (n : ℕ) (x : A) → at_number xs n ≡ Some x → slice_get xs (n - 1) ≡ Some x
  numbered_at xs n x h = by (nat_lt 0 n) h
    where
      by : (b : Bool) → cond b (slice_get xs (n - 1)) None ≡ Some x → slice_get xs (n - 1) ≡ Some x
      by true e = e
      by false e = absurd (cc e)

  pub number_among : (xs : List A) (n : ℕ) (x : A) → at_number xs n ≡ Some x → Among x xs
  number_among xs n x h = got_among xs (n - 1) x (numbered_at xs n x h)
