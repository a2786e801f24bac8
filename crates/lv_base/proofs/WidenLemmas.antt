-- What fits ranges fits wider ones.
use Rattle.std.proofs.Common.{◌≡◌, ◌≤◌, ℕ, zero, suc, true, false, List, [], ◌∷◌, ◌++◌, slice_get, slice_set, nat_lt, Option, Some, None, refl, sym, ap, ap₂, subst, ◌∙◌, arith}
use Rattle.std.proofs.lemmas.Bool.{and_parts}
use Rattle.std.specs.Option.{option_map_or}
use Rattle.lv_base.specs.declared.range.Range.{Range}
use Rattle.lv_base.specs.Tree.{Tree, always, never, is, same, negation, all, any, implies, iff, Trees, none, more}
use Rattle.lv_base.specs.Fits.{is_same_sort, has_value, are_alike, fits, each_fits}
use Rattle.lv_base.specs.FitLaws.{Widens, AllWiden}

-- a range is as wide as itself
itself : (r : Range) → Widens r r
itself r = record { sort = refl; size = omega arith }

pub further : (ranges behind : List Range) → AllWiden ranges (ranges ++ behind)
further [] behind = tt
further (r ∷ ranges) behind = (itself r, further ranges behind)

pub all_themselves : (ranges : List Range) → AllWiden ranges ranges
all_themselves [] = tt
all_themselves (r ∷ ranges) = (itself r, all_themselves ranges)

pub grown : (ranges : List Range) (x size : ℕ) (r : Range) → slice_get ranges x ≡ Some r → r.size ≤ size → AllWiden ranges (slice_set ranges x (record r { size = size }))
grown [] x size r here h = tt
grown (s ∷ ranges) zero size r here h =
    let e : s ≡ r = cc in
    let f : s.size ≡ r.size = ap (λ (q : Range). q.size) e in
    (record { sort = ap (λ (q : Range). q.sort) e; size = omega arith }, all_themselves ranges)
grown (s ∷ ranges) (suc x) size r here h = (itself s, grown ranges x size r here h)

-- what is found in the old ranges has a wider one in its place in the new
wider_at : (old new : List Range) → AllWiden old new → (x : ℕ) (r : Range) → slice_get old x ≡ Some r → (s : Range) × (slice_get new x ≡ Some s) × Widens r s
wider_at [] new wide x r here = absurd (cc)
wider_at (o ∷ old) [] wide x r here = absurd wide
wider_at (o ∷ old) (n ∷ new) wide zero r here =
    let e : o ≡ r = cc in
    (n, refl, subst (λ (q : Range). Widens q n) e wide.0)
wider_at (o ∷ old) (n ∷ new) wide (suc x) r here = wider_at old new wide.1 x r here

module _ (old new : List Range) (wide : AllWiden old new) where
  value_kept : (x v : ℕ) → has_value old x v ≡ true → has_value new x v ≡ true
  value_kept x v h = by (slice_get old x) refl h
    where
      by : (o : Option Range) → slice_get old x ≡ o → option_map_or (λ (r : Range). nat_lt v r.size) o false ≡ true → has_value new x v ≡ true
      by None here h = absurd (cc)
      by (Some r) here h =
          let w = wider_at old new wide x r here in
          let larger : r.size ≤ w.0.size = w.2.size in
          let below : nat_lt v w.0.size ≡ true = grind arith in
          ap (λ (o : Option Range). option_map_or (λ (s : Range). nat_lt v s.size) o false) w.1 ∙ below

  alike_kept : (x y : ℕ) → are_alike old x y ≡ true → are_alike new x y ≡ true
  alike_kept x y h = by (slice_get old x) (slice_get old y) refl refl h
    where
      by : (o p : Option Range) → slice_get old x ≡ o → slice_get old y ≡ p → option_map_or (λ (r : Range). option_map_or (λ (s : Range). is_same_sort r.sort s.sort) p false) o false ≡ true → are_alike new x y ≡ true
      by None p left right h = absurd (cc)
      by (Some r) None left right h = absurd (cc)
      by (Some r) (Some s) left right h =
          let v = wider_at old new wide x r left in
          let w = wider_at old new wide y s right in
          rw (v.1, w.1) (ap₂ is_same_sort (sym v.2.sort) (sym w.2.sort) ∙ h)

  mutual
    pub fits_wider : (f : Tree) → fits old f ≡ true → fits new f ≡ true
    fits_wider always h = refl
    fits_wider never h = refl
    fits_wider (is x v) h = value_kept x v h
    fits_wider (same x y) h = alike_kept x y h
    fits_wider (negation f) h = fits_wider f h
    fits_wider (all fs) h = each_fits_wider fs h
    fits_wider (any fs) h = each_fits_wider fs h
    fits_wider (implies f g) h = let two = and_parts (fits old f) (fits old g) h in rw (fits_wider f two.0, fits_wider g two.1) refl
    fits_wider (iff f g) h = let two = and_parts (fits old f) (fits old g) h in rw (fits_wider f two.0, fits_wider g two.1) refl

    each_fits_wider : (fs : Trees) → each_fits old fs ≡ true → each_fits new fs ≡ true
    each_fits_wider none h = refl
    each_fits_wider (more f fs) h = let two = and_parts (fits old f) (each_fits old fs) h in rw (fits_wider f two.0, each_fits_wider fs two.1) refl
