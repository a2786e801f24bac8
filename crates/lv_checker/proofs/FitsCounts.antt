-- The clauses of a formula that fits its ranges are as many where further variables stand behind.
use Rattle.std.proofs.Common.{◌≡◌, ◌+◌, ◌<◌, ◌≤◌, ℕ, Bool, true, false, not, nat_lt, is_some, List, ◌++◌, length, Option, refl, ap, ap₂, arith}
use Rattle.std.specs.Option.{option_map_or}
use Rattle.std.proofs.lemmas.Bool.{and_parts, ltb-true}
use Rattle.std.proofs.lemmas.List.{get_or_append_left}
use Rattle.lv_base.specs.declared.range.Range.{Range}
use Rattle.lv_base.specs.Tree.{Tree, always, never, is, same, negation, all, any, implies, iff, Trees, none, more}
use Rattle.lv_base.specs.Fits.{fits, each_fits}
use Rattle.lv_base.specs.Counts.{within, gathered, whole, size_at, clause_count, gathered_count}
use Rattle.lv_base.proofs.FitLemmas.{fits_reads}
use Rattle.lv_model.specs.Counts.{has_count, formula_count, law_count}

module _ (ranges : List Range) (sizes behind : List ℕ) (few : length ranges ≤ length sizes) where
  size_kept : (x : ℕ) → x < length ranges → size_at (sizes ++ behind) x ≡ size_at sizes x
  size_kept x h = get_or_append_left sizes behind 0 x (omega (arith, few, h))

  first_inside : (x y : ℕ) → fits ranges (same x y) ≡ true → x < length ranges
  first_inside x y h =
      let two = and_parts (nat_lt (0 + x) (length ranges)) (nat_lt (0 + y) (length ranges)) (fits_reads ranges (length ranges) 0 (omega arith) (same x y) h) in
      let e : 0 + x < length ranges = ltb-true (0 + x) (length ranges) two.0 in
      omega (arith, e)

  mutual
    pub count_kept : (sign : Bool) (f : Tree) → fits ranges f ≡ true → clause_count (sizes ++ behind) sign f ≡ clause_count sizes sign f
    count_kept sign always h = refl
    count_kept sign never h = refl
    count_kept sign (is x v) h = refl
    count_kept sign (same x y) h = ap within (size_kept x (first_inside x y h))
    count_kept sign (negation f) h = count_kept (not sign) f h
    count_kept sign (all fs) h = ap whole (gathered_kept sign sign fs h)
    count_kept sign (any fs) h = ap whole (gathered_kept (not sign) sign fs h)
    count_kept sign (implies f g) h =
        let two = and_parts (fits ranges f) (fits ranges g) h in
        ap₂ (λ (a b : Option ℕ). whole (gathered (not sign) a b)) (count_kept (not sign) f two.0) (count_kept sign g two.1)
    count_kept sign (iff f g) h =
        let two = and_parts (fits ranges f) (fits ranges g) h in
        ap₂ (λ (a b : Option ℕ). whole (gathered true a b))
        (ap₂ (λ (a b : Option ℕ). gathered false a b) (count_kept (not sign) f two.0) (count_kept true g two.1))
        (ap₂ (λ (a b : Option ℕ). gathered false a b) (count_kept sign f two.0) (count_kept false g two.1))

    gathered_kept : (of_all sign : Bool) (fs : Trees) → each_fits ranges fs ≡ true → gathered_count (sizes ++ behind) of_all sign fs ≡ gathered_count sizes of_all sign fs
    gathered_kept of_all sign none h = refl
    gathered_kept of_all sign (more f fs) h =
        let two = and_parts (fits ranges f) (each_fits ranges fs) h in
        ap₂ (λ (a b : Option ℕ). gathered of_all a b) (count_kept sign f two.0) (gathered_kept of_all sign fs two.1)

  pub has_kept : (sign : Bool) (f : Tree) → fits ranges f ≡ true → has_count (sizes ++ behind) sign f ≡ has_count sizes sign f
  has_kept sign f h = ap (λ (o : Option ℕ). is_some o) (count_kept sign f h)

  pub formula_kept : (sign : Bool) (f : Tree) → fits ranges f ≡ true → formula_count (sizes ++ behind) sign f ≡ formula_count sizes sign f
  formula_kept sign f h = ap (λ (o : Option ℕ). option_map_or (λ (n : ℕ). n) o 0) (count_kept sign f h)

  pub law_kept : (f : Tree) → fits ranges f ≡ true → law_count (sizes ++ behind) f ≡ law_count sizes f
  law_kept f h = ap₂ (λ (a b : ℕ). a + b) (formula_kept true f h) (formula_kept true f h)
