-- Being among the items of a list, by recursion, and what it is for lists put together.
use Rattle.std.proofs.Common.{◌≡◌, List, [], ◌∷◌, ◌++◌, ◌⊎◌, inl, inr, ⊎_elim, refl, ap, subst}
use Rattle.std.specs.Prelude.{map}
use Rattle.std.specs.List.{flat_map}

abbrev pub Among : {X : Type 0} → X → List X → Type 0
Among x [] = ⊥
Among x (y ∷ ys) = (x ≡ y) ⊎ Among x ys

module _ {X : Type 0} where
  pub among_left : (xs ys : List X) (x : X) → Among x xs → Among x (xs ++ ys)
  among_left [] ys x h = absurd h
  among_left (y ∷ xs) ys x (inl e) = inl e
  among_left (y ∷ xs) ys x (inr h) = inr (among_left xs ys x h)

  pub among_right : (xs ys : List X) (x : X) → Among x ys → Among x (xs ++ ys)
  among_right [] ys x h = h
  among_right (y ∷ xs) ys x h = inr (among_right xs ys x h)

  pub among_either : (xs ys : List X) (x : X) → Among x (xs ++ ys) → Among x xs ⊎ Among x ys
  among_either [] ys x h = inr h
  among_either (y ∷ xs) ys x (inl e) = inl (inl e)
  among_either (y ∷ xs) ys x (inr h) = ⊎_elim (λ a. inl (inr a)) (λ b. inr b) (among_either xs ys x h)

module _ {X Y : Type 0} where
  -- an item that was made of one of the others
  pub record MadeOf (f : Y → List X) (ys : List Y) (x : X) : Type 0 where
    pub source : Y
    pub listed : Among source ys
    pub item : Among x (f source)

  pub made_of : (f : Y → List X) (ys : List Y) (x : X) → Among x (flat_map f ys) → MadeOf f ys x
  made_of f [] x h = absurd h
  made_of f (y ∷ ys) x h =
      ⊎_elim (λ a. record { source = y; listed = inl refl; item = a })
      (λ b. let r : MadeOf f ys x = made_of f ys x b in record { source = r.source; listed = inr r.listed; item = r.item })
      (among_either (f y) (flat_map f ys) x h)

  pub among_flat : (f : Y → List X) (ys : List Y) (y : Y) (x : X) → Among y ys → Among x (f y) → Among x (flat_map f ys)
  among_flat f [] y x h a = absurd h
  among_flat f (z ∷ ys) y x (inl e) a = among_left (f z) (flat_map f ys) x (subst (λ k. Among x (f k)) e a)
  among_flat f (z ∷ ys) y x (inr h) a = among_right (f z) (flat_map f ys) x (among_flat f ys y x h a)

  pub record MappedFrom (f : Y → X) (ys : List Y) (x : X) : Type 0 where
    pub source : Y
    pub listed : Among source ys
    pub is : x ≡ f source

  pub mapped_from : (f : Y → X) (ys : List Y) (x : X) → Among x (map f ys) → MappedFrom f ys x
  mapped_from f [] x h = absurd h
  mapped_from f (y ∷ ys) x (inl e) = record { source = y; listed = inl refl; is = e }
  mapped_from f (y ∷ ys) x (inr h) = let r : MappedFrom f ys x = mapped_from f ys x h in record { source = r.source; listed = inr r.listed; is = r.is }

  pub among_map : (f : Y → X) (ys : List Y) (y : Y) → Among y ys → Among (f y) (map f ys)
  among_map f [] y h = absurd h
  among_map f (z ∷ ys) y (inl e) = inl (ap f e)
  among_map f (z ∷ ys) y (inr h) = inr (among_map f ys y h)
