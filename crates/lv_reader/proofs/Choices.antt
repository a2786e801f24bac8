-- What is told of an answer that is made of others.
use Rattle.std.proofs.Common.{◌≡◌, Bool, true, false, cond, Option, Some, None, option_map, refl}
use Rattle.std.specs.Option.{option_and_then}

-- what is told behind a test
pub told_if : {A : Type 0} {a : A} (b : Bool) (x : Option A) → cond b x None ≡ Some a → (b ≡ true) × (x ≡ Some a)
told_if true x e = (refl, e)
told_if false x e = absurd (cc)

-- what is told of what is told
pub told_then : {A B : Type 0} {b : B} (f : A → Option B) (o : Option A) → option_and_then f o ≡ Some b → (a : A) × (o ≡ Some a) × (f a ≡ Some b)
told_then f (Some a) e = (a, refl, e)
told_then f None e = absurd (cc)

pub told_of : {A B : Type 0} {b : B} (f : A → B) (o : Option A) → option_map f o ≡ Some b → (a : A) × (o ≡ Some a) × (f a ≡ b)
told_of f (Some a) e = (a, refl, (cc))
told_of f None e = absurd (cc)
