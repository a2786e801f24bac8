-- What is best looked at.
use Rattle.std.proofs.Common.{◌≡◌, ℕ, ◌<◌, ◌≤◌, Bool, true, false, nat_lt, nat_le, cond, List, [], ◌∷◌, ◌++◌, Contains, Option, Some, None, option_map, ◌⊎◌, inl, inr, lt-ltb, refl, sym, subst, ap, ◌∙◌, arith}
use Rattle.std.specs.List.{list_all, find}
use Rattle.std.proofs.lemmas.Bool.{and_parts, and_from, ltb-true, leb-true, le-leb, cases_lt}
use Rattle.lv_base.specs.declared.ids.VarId.{VarId}
use Rattle.lv_meaning.proofs.Among.{Among, among, all_among}
use Rattle.lv_meaning.proofs.NominalSteps.{each_passes}
use Rattle.lv_reply.specs.declared.probes.Probed.{Probed}
use Rattle.lv_probe.specs.Probing.{largest, is_best, best}
use Rattle.lv_probe.specs.Laws.{IsBest}

module _ {X : Type 0} (p : X → Bool) where
  -- the first item that passes, and those before it
  record FoundAt (xs : List X) (x : X) : Type 0 where
    front : List X
    back : List X
    splits : xs ≡ front ++ x ∷ back
    passes : p x ≡ true
    none : (y : X) → Among y front → p y ≡ false

  found_at : (xs : List X) (x : X) → find p xs ≡ Some x → FoundAt xs x
  found_at [] x e = absurd (cc e)
  found_at (y ∷ ys) x e = by (p y) refl e (found_at ys x)
    where
      behind : p y ≡ false → FoundAt ys x → (z : X) → (z ≡ y) ⊎ ⊥ → p z ≡ false
      behind h f z (inl is) = ap p is ∙ h
      behind h f z (inr never) = absurd never

      each : p y ≡ false → (f : FoundAt ys x) → (z : X) → Among z (y ∷ f.front) → p z ≡ false
      each h f z (inl is) = ap p is ∙ h
      each h f z (inr there) = f.none z there

      by : (b : Bool) → p y ≡ b → cond b (Some y) (find p ys) ≡ Some x → (find p ys ≡ Some x → FoundAt ys x) → FoundAt (y ∷ ys) x
      by true h e later =
          let same : y ≡ x = cc e in
          record { front = []; back = ys; splits = ap (λ z. z ∷ ys) same; passes = subst (λ z. p z ≡ true) same h; none = λ z a. absurd a }
      by false h e later =
          let f : FoundAt ys x = later e in
          record { front = y ∷ f.front; back = f.back; splits = ap (λ zs. y ∷ zs) f.splits; passes = f.passes; none = each h f }

  none_found : (xs : List X) → find p xs ≡ None → (x : X) → Among x xs → p x ≡ false
  none_found [] e x a = absurd a
  none_found (y ∷ ys) e x a = by (p y) refl e a (none_found ys)
    where
      by : (b : Bool) → p y ≡ b → cond b (Some y) (find p ys) ≡ None → Among x (y ∷ ys) → (find p ys ≡ None → (z : X) → Among z ys → p z ≡ false) → p x ≡ false
      by true h e a later = absurd (cc e)
      by false h e (inl is) later = ap p is ∙ h
      by false h e (inr there) later = later e x there

module _ {X : Type 0} (f : X → ℕ) where
  -- an item of which nothing is smaller
  record IsLeast (xs : List X) : Type 0 where
    item : X
    there : Among item xs
    least : (x : X) → Among x xs → f item ≤ f x

  -- of some items there is one
  some_least : (x : X) (xs : List X) → IsLeast (x ∷ xs)
  some_least x [] = record { item = x; there = inl refl; least = only }
    where
      only : (y : X) → Among y (x ∷ []) → f x ≤ f y
      only y (inl is) = let same : f y ≡ f x = ap f is in omega (arith, same)
      only y (inr never) = absurd never
  some_least x (y ∷ ys) = by (some_least y ys)
    where
      by : IsLeast (y ∷ ys) → IsLeast (x ∷ y ∷ ys)
      by l = either (cases_lt (f l.item) (f x))
        where
          first : f x ≤ f l.item → (z : X) → Among z (x ∷ y ∷ ys) → f x ≤ f z
          first less z (inl is) = let same : f z ≡ f x = ap f is in omega (arith, same)
          first less z (inr there) = let more = l.least z there in omega (arith, less, more)

          later : f l.item < f x → (z : X) → Among z (x ∷ y ∷ ys) → f l.item ≤ f z
          later less z (inl is) = let same : f z ≡ f x = ap f is in omega (arith, same, less)
          later less z (inr there) = l.least z there

          either : (f l.item < f x) ⊎ (f x ≤ f l.item) → IsLeast (x ∷ y ∷ ys)
          either (inl less) = record { item = l.item; there = inr l.there; least = later less }
          either (inr less) = record { item = x; there = inl refl; least = first less }

abbrev most : Probed → ℕ
most p = largest p.numbers

below_all : (ps : List Probed) (p : Probed) → ((q : Probed) → Among q ps → most p ≤ most q) → list_all (λ (q : Probed). nat_le (most p) (most q)) ps ≡ true
below_all ps p h = each_passes (λ (q : Probed). nat_le (most p) (most q)) ps (λ q a. le-leb (most p) (most q) (h q a))

best_if : (listed : ℕ) (ps : List Probed) (p : Probed) → most p < listed → ((q : Probed) → Among q ps → most p ≤ most q) → is_best listed ps p ≡ true
best_if listed ps p below least =
    and_from (nat_lt (most p) listed) (list_all (λ (q : Probed). nat_le (most p) (most q)) ps) (lt-ltb (most p) listed below) (below_all ps p least)

pub best_found : (listed : ℕ) (ps : List Probed) (x : VarId) → best listed ps ≡ Some x → IsBest listed ps x
best_found listed ps x e = by (find (is_best listed ps) ps) refl e
  where
    of : (p : Probed) → FoundAt (is_best listed ps) ps p → p.var ≡ x → IsBest listed ps x
    of p f is =
        record { front = f.front; back = f.back; numbers = p; splits = f.splits; var = is; below = below; least = λ other there. least other (among ps other there); first = λ earlier there. first earlier (among f.front earlier there) }
      where
        two : (nat_lt (most p) listed ≡ true) × (list_all (λ (q : Probed). nat_le (most p) (most q)) ps ≡ true)
        two = and_parts (nat_lt (most p) listed) (list_all (λ (q : Probed). nat_le (most p) (most q)) ps) f.passes

        below : most p < listed
        below = ltb-true (most p) listed two.0

        least : (q : Probed) → Among q ps → most p ≤ most q
        least q a = leb-true (most p) (most q) (all_among (λ (q : Probed). nat_le (most p) (most q)) ps q two.1 a)

        first : (q : Probed) → Among q f.front → most p < most q
        first q a = either (cases_lt (most p) (most q))
          where
            either : (most p < most q) ⊎ (most q ≤ most p) → most p < most q
            either (inl less) = less
            either (inr less) =
                let under : most p < listed = below in
                let clash : true ≡ false = sym (best_if listed ps q (omega (arith, less, under)) (λ r b. let more = least r b in omega (arith, less, more))) ∙ f.none q a in
                absurd (cc clash)

    by : (o : Option Probed) → find (is_best listed ps) ps ≡ o → option_map (λ (p : Probed). p.var) o ≡ Some x → IsBest listed ps x
    by None found e = absurd (cc e)
    by (Some p) found e = of p (found_at (is_best listed ps) ps p found) (cc e)

pub none_best : (listed : ℕ) (ps : List Probed) → best listed ps ≡ None → (p : Probed) → Contains ps p → listed ≤ most p
none_best listed ps e p there = by (find (is_best listed ps) ps) refl e
  where
    some : (qs : List Probed) → Among p qs → IsLeast most qs
    some [] a = absurd a
    some (q ∷ qs) a = some_least most q qs

    never : find (is_best listed ps) ps ≡ None → listed ≤ most p
    never found = either (cases_lt (most p) listed)
      where
        l : IsLeast most ps
        l = some ps (among ps p there)

        either : (most p < listed) ⊎ (listed ≤ most p) → listed ≤ most p
        either (inr more) = more
        either (inl less) =
            let lower : most l.item ≤ most p = l.least p (among ps p there) in
            let clash : true ≡ false = sym (best_if listed ps l.item (omega (arith, less, lower)) l.least) ∙ none_found (is_best listed ps) ps found l.item l.there in
            absurd (cc clash)

    by : (o : Option Probed) → find (is_best listed ps) ps ≡ o → option_map (λ (p : Probed). p.var) o ≡ None → listed ≤ most p
    by None found e = never found
    by (Some q) found e = absurd (cc e)
