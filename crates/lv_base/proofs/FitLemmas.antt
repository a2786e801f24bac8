-- What fits a list of ranges reads variables of that list alone.
use Rattle.std.proofs.Common.{◌≡◌, ◌+◌, ◌≤◌, ◌<◌, ℕ, Bool, true, false, List, [], ◌∷◌, length, slice_get, Option, Some, None, refl, arith, nat_lt, zero, suc}
use Rattle.std.proofs.lemmas.Bool.{and_parts}
use Rattle.std.specs.Option.{option_map_or}
use Rattle.lv_base.specs.declared.range.Range.{Range}
use Rattle.lv_base.specs.Tree.{Tree, always, never, is, same, negation, all, any, implies, iff, Trees, none, more, reads_below, each_reads_below}
use Rattle.lv_base.specs.Fits.{is_same_sort, are_alike, fits, each_fits}

-- what is found at a place stands within the list
within : {R : Type 0} (xs : List R) (n : ℕ) (x : R) → slice_get xs n ≡ Some x → n < length xs
within [] n x here = absurd (cc)
within (y ∷ ys) zero x here = omega arith
within (y ∷ ys) (suc n) x here = let rest = within ys n x here in omega arith

found_below : (ranges : List Range) (test : Range → Bool) (n : ℕ) (o : Option Range) → slice_get ranges n ≡ o → option_map_or test o false ≡ true → n < length ranges
found_below ranges test n None here h = absurd (cc)
found_below ranges test n (Some r) here h = within ranges n r here

module _ (ranges : List Range) (bound base : ℕ) (ends : base + length ranges ≤ bound) where
  below : (n : ℕ) → n < length ranges → nat_lt (base + n) bound ≡ true
  below n inside = grind arith

  left_below : (x y : ℕ) → are_alike ranges x y ≡ true → x < length ranges
  left_below x y h = found_below ranges (λ (r : Range). option_map_or (λ (s : Range). is_same_sort r.sort s.sort) (slice_get ranges y) false) x (slice_get ranges x) refl h

  right_of : (y : ℕ) (o p : Option Range) → slice_get ranges y ≡ p → option_map_or (λ (r : Range). option_map_or (λ (s : Range). is_same_sort r.sort s.sort) p false) o false ≡ true → y < length ranges
  right_of y None p here h = absurd (cc)
  right_of y (Some r) p here h = found_below ranges (λ (s : Range). is_same_sort r.sort s.sort) y p here h

  mutual
    pub fits_reads : (f : Tree) → fits ranges f ≡ true → reads_below bound base f ≡ true
    fits_reads always h = refl
    fits_reads never h = refl
    fits_reads (is x v) h = below x (found_below ranges (λ (r : Range). nat_lt v r.size) x (slice_get ranges x) refl h)
    fits_reads (same x y) h =
        let left = below x (left_below x y h) in
        let right = below y (right_of y (slice_get ranges x) (slice_get ranges y) refl h) in
        rw (left, right) refl
    fits_reads (negation f) h = fits_reads f h
    fits_reads (all fs) h = each_fits_reads fs h
    fits_reads (any fs) h = each_fits_reads fs h
    fits_reads (implies f g) h = let two = and_parts (fits ranges f) (fits ranges g) h in rw (fits_reads f two.0, fits_reads g two.1) refl
    fits_reads (iff f g) h = let two = and_parts (fits ranges f) (fits ranges g) h in rw (fits_reads f two.0, fits_reads g two.1) refl

    each_fits_reads : (fs : Trees) → each_fits ranges fs ≡ true → each_reads_below bound base fs ≡ true
    each_fits_reads none h = refl
    each_fits_reads (more f fs) h = let two = and_parts (fits ranges f) (each_fits ranges fs) h in rw (fits_reads f two.0, each_fits_reads fs two.1) refl
