-- Being among the items of a list, by recursion, and what it is for lists put together.
use Rattle.std.proofs.Common.{◌≡◌, ℕ, zero, suc, Bool, true, List, [], ◌∷◌, ◌++◌, Contains, ◌⊎◌, inl, inr, ⊎_elim, refl, sym, subst, ◌∙◌, ap, arith}
use Rattle.std.proofs.lemmas.Bool.{and_parts}
use Rattle.std.specs.List.{flat_map, list_all}

abbrev pub Among : {X : Type 0} → X → List X → Type 0
Among x [] = ⊥
Among x (y ∷ ys) = (x ≡ y) ⊎ Among x ys

module _ {X : Type 0} where
  pub among : (xs : List X) (x : X) → Contains xs x → Among x xs
  among [] x (k, lt, e) = absurd (omega arith)
  among (y ∷ ys) x (zero, lt, e) = inl (sym e)
  among (y ∷ ys) x (suc k, lt, e) = inr (among ys x (k, omega arith, e))

  pub contained : (xs : List X) (x : X) → Among x xs → Contains xs x
  contained [] x h = absurd h
  contained (y ∷ ys) x (inl e) = (0, omega arith, sym e)
  contained (y ∷ ys) x (inr h) = let c = contained ys x h in let lt = c.1 in (suc c.0, omega arith, c.2)

  pub among_left : (xs ys : List X) (x : X) → Among x xs → Among x (xs ++ ys)
  among_left [] ys x h = absurd h
  among_left (y ∷ xs) ys x (inl e) = inl e
  among_left (y ∷ xs) ys x (inr h) = inr (among_left xs ys x h)

  pub among_right : (xs ys : List X) (x : X) → Among x ys → Among x (xs ++ ys)
  among_right [] ys x h = h
  among_right (y ∷ xs) ys x h = inr (among_right xs ys x h)

  pub among_either : (xs ys : List X) (x : X) → Among x (xs ++ ys) → Among x xs ⊎ Among x ys
  among_either [] ys x h = inr h
  among_either (y ∷ xs) ys x (inl e) = inl (inl e)
  among_either (y ∷ xs) ys x (inr h) = ⊎_elim (λ a. inl (inr a)) (λ b. inr b) (among_either xs ys x h)

  pub all_among : (f : X → Bool) (xs : List X) (x : X) → list_all f xs ≡ true → Among x xs → f x ≡ true
  all_among f [] x h a = absurd a
  all_among f (y ∷ ys) x h (inl e) = ap f e ∙ (and_parts (f y) (list_all f ys) h).0
  all_among f (y ∷ ys) x h (inr a) = all_among f ys x ((and_parts (f y) (list_all f ys) h).1) a

  -- an item of the list made of one number
  pub record FromNumber (f : ℕ → List X) (ns : List ℕ) (x : X) : Type 0 where
    pub number : ℕ
    pub listed : Among number ns
    pub item : Among x (f number)

  pub from_number : (f : ℕ → List X) (ns : List ℕ) (x : X) → Among x (flat_map f ns) → FromNumber f ns x
  from_number f [] x h = absurd h
  from_number f (n ∷ ns) x h =
      ⊎_elim (λ a. record { number = n; listed = inl refl; item = a })
      (λ b. let r : FromNumber f ns x = from_number f ns x b in record { number = r.number; listed = inr r.listed; item = r.item })
      (among_either (f n) (flat_map f ns) x h)

  pub among_flat : (f : ℕ → List X) (ns : List ℕ) (n : ℕ) (x : X) → Among n ns → Among x (f n) → Among x (flat_map f ns)
  among_flat f [] n x h a = absurd h
  among_flat f (m ∷ ns) n x (inl e) a = among_left (f m) (flat_map f ns) x (subst (λ k. Among x (f k)) e a)
  among_flat f (m ∷ ns) n x (inr h) a = among_right (f m) (flat_map f ns) x (among_flat f ns n x h a)
