-- A formula's clauses in a sign are no more than its count.
use Rattle.std.proofs.Common.{◌≡◌, ◌+◌, ◌*◌, ◌≤◌, ℕ, zero, suc, Bool, true, false, not, nat_le, if◌then◌else◌, List, [], ◌∷◌, ◌++◌, length, slice_get, Option, Some, None, is_some, refl, ap, arith}
use Rattle.std.specs.List.{range_with_len}
use Rattle.std.specs.Option.{option_map_or}
use Rattle.std.proofs.lemmas.Bool.{and_parts}
use Rattle.std.proofs.lemmas.List.{length-append, length-map}
use Rattle.std.proofs.lemmas.Nat.{mul-le}
use Rattle.std.proofs.Math.Nat.{suc-mul}
use Rattle.lv_base.specs.declared.limits.TheConstants.{FORMULA_CLAUSES}
use Rattle.lv_base.specs.declared.ids.Lit.{Lit}
use Rattle.lv_base.specs.declared.range.Range.{Range}
use Rattle.lv_base.specs.Tree.{Tree, always, never, is, same, negation, all, any, implies, iff, Trees, none, more}
use Rattle.lv_base.specs.Fits.{fits, each_fits}
use Rattle.lv_base.specs.Counts.{within, joined, gathered, whole, size_at, clause_count, gathered_count}
use Rattle.lv_model.specs.Counts.{has_count, formula_count}
use Rattle.lv_compile.specs.Booleans.{Booleans}
use Rattle.lv_compile.specs.FormulaClauses.{Clauses, each_after, product, gather, size_of, equality_clause, formula_clauses, gathered_clauses}
use Rattle.lv_compile.proofs.FormulaLemmas.{Alike, alike_of}

-- how long lists are

length_product : (ps qs : Clauses) → length (product ps qs) ≡ length ps * length qs
length_product [] qs = let e : 0 ≡ 0 * length qs = omega arith in e
length_product (p ∷ ps) qs =
    let rest = length_product ps qs in
    let one = length-map qs (λ (q : List Lit). p ++ q) in
    let front = length-append (each_after qs p) (product ps qs) in
    let times = suc-mul (length ps) (length qs) in
    omega (arith, rest, one, front, times)

length_gather : (of_all : Bool) (ps qs : Clauses) → length (gather of_all ps qs) ≡ joined of_all (length ps) (length qs)
length_gather true ps qs = length-append ps qs
length_gather false ps qs = length_product ps qs

joined_le : (of_all : Bool) (k l m n : ℕ) → k ≤ m → l ≤ n → joined of_all k l ≤ joined of_all m n
joined_le true k l m n a b = omega (arith, a, b)
joined_le false k l m n a b = mul-le k l m n a b

pub length_row : (n first : ℕ) → length (range_with_len first n) ≡ n
length_row zero first = refl
length_row (suc n) first = let rest = length_row n (first + 1) in omega (arith, rest)

-- what counts come from

within_is : (n m : ℕ) → within n ≡ Some m → n ≡ m
within_is n m h = by (nat_le n FORMULA_CLAUSES) h
  where
    by : (b : Bool) → (if b then Some n else None) ≡ Some m → n ≡ m
    by true e = cc
    by false e = absurd (cc)

whole_is : (o : Option ℕ) (m : ℕ) → whole o ≡ Some m → o ≡ Some m
whole_is None m h = absurd (cc)
whole_is (Some n) m h = ap Some (within_is n m h)

record Gathered (of_all : Bool) (o p : Option ℕ) (m : ℕ) : Type 0 where
  pub left : ℕ
  pub right : ℕ
  pub at_left : o ≡ Some left
  pub at_right : p ≡ Some right
  pub is : joined of_all left right ≡ m

gathered_of : (of_all : Bool) (o p : Option ℕ) (m : ℕ) → gathered of_all o p ≡ Some m → Gathered of_all o p m
gathered_of of_all None p m h = absurd (cc)
gathered_of of_all (Some k) None m h = absurd (cc)
gathered_of of_all (Some k) (Some l) m h = record { left = k; right = l; at_left = refl; at_right = refl; is = cc }

both_bounded : (of_all : Bool) (o p : Option ℕ) (m : ℕ) (ps qs : Clauses) → gathered of_all o p ≡ Some m → ((k : ℕ) → o ≡ Some k → length ps ≤ k) → ((l : ℕ) → p ≡ Some l → length qs ≤ l)
    → length (gather of_all ps qs) ≤ m
both_bounded of_all o p m ps qs h left right =
    let g : Gathered of_all o p m = gathered_of of_all o p m h in
    let le = joined_le of_all (length ps) (length qs) g.left g.right (left g.left g.at_left) (right g.right g.at_right) in
    let long = length_gather of_all ps qs in
    let is = g.is in
    omega (arith, le, long, is)

module _ (ranges : List Range) (b : Booleans) (base : ℕ) (sizes : List ℕ) (few : (x : ℕ) (r : Range) → slice_get ranges x ≡ Some r → size_of b (base + x) ≤ size_at sizes x) where
  mutual
    bounded : (f : Tree) → fits ranges f ≡ true → (sign : Bool) (m : ℕ) → clause_count sizes sign f ≡ Some m → length (formula_clauses b base sign f) ≤ m
    bounded always h true m e = omega arith
    bounded always h false m e = let one : 1 ≡ m = cc in omega (arith, one)
    bounded never h true m e = let one : 1 ≡ m = cc in omega (arith, one)
    bounded never h false m e = omega arith
    bounded (is x v) h sign m e = let one : 1 ≡ m = cc in omega (arith, one)
    bounded (same x y) h sign m e =
        let found : Alike ranges x y = alike_of ranges x y (slice_get ranges x) (slice_get ranges y) refl refl h in
        let size = few x found.left found.at_left in
        let count = within_is (size_at sizes x) m e in
        let long = length-map (range_with_len 0 (size_of b (base + x))) (equality_clause b (base + x) (base + y) sign) in
        let row = length_row (size_of b (base + x)) 0 in
        omega (arith, size, count, long, row)
    bounded (negation f) h sign m e = bounded f h (not sign) m e
    bounded (all fs) h sign m e = gathered_bounded fs h sign sign m (whole_is (gathered_count sizes sign sign fs) m e)
    bounded (any fs) h sign m e = gathered_bounded fs h (not sign) sign m (whole_is (gathered_count sizes (not sign) sign fs) m e)
    bounded (implies f g) h sign m e =
        let two = and_parts (fits ranges f) (fits ranges g) h in
        both_bounded (not sign) (clause_count sizes (not sign) f) (clause_count sizes sign g) m (formula_clauses b base (not sign) f) (formula_clauses b base sign g)
        (whole_is (gathered (not sign) (clause_count sizes (not sign) f) (clause_count sizes sign g)) m e) (bounded f two.0 (not sign)) (bounded g two.1 sign)
    bounded (iff f g) h sign m e =
        let two = and_parts (fits ranges f) (fits ranges g) h in
        let o1 : Option ℕ = clause_count sizes (not sign) f in
        let o2 : Option ℕ = clause_count sizes true g in
        let o3 : Option ℕ = clause_count sizes sign f in
        let o4 : Option ℕ = clause_count sizes false g in
        both_bounded true (gathered false o1 o2) (gathered false o3 o4) m
        (product (formula_clauses b base (not sign) f) (formula_clauses b base true g)) (product (formula_clauses b base sign f) (formula_clauses b base false g))
        (whole_is (gathered true (gathered false o1 o2) (gathered false o3 o4)) m e)
        (λ k at. both_bounded false o1 o2 k (formula_clauses b base (not sign) f) (formula_clauses b base true g) at (bounded f two.0 (not sign)) (bounded g two.1 true))
        (λ k at. both_bounded false o3 o4 k (formula_clauses b base sign f) (formula_clauses b base false g) at (bounded f two.0 sign) (bounded g two.1 false))

    gathered_bounded : (fs : Trees) → each_fits ranges fs ≡ true → (of_all sign : Bool) (m : ℕ) → gathered_count sizes of_all sign fs ≡ Some m → length (gathered_clauses b base of_all sign fs) ≤ m
    gathered_bounded none h true sign m e = omega arith
    gathered_bounded none h false sign m e = let one : 1 ≡ m = cc in omega (arith, one)
    gathered_bounded (more f fs) h of_all sign m e =
        let two = and_parts (fits ranges f) (each_fits ranges fs) h in
        both_bounded of_all (clause_count sizes sign f) (gathered_count sizes of_all sign fs) m (formula_clauses b base sign f) (gathered_clauses b base of_all sign fs) e
        (bounded f two.0 sign) (gathered_bounded fs two.1 of_all sign)

  -- where no rule gives too long a list
  pub formula_bounded : (f : Tree) → fits ranges f ≡ true → (sign : Bool) → has_count sizes sign f ≡ true → length (formula_clauses b base sign f) ≤ formula_count sizes sign f
  formula_bounded f h sign has = by (clause_count sizes sign f) refl has
    where
      by : (o : Option ℕ) → clause_count sizes sign f ≡ o → is_some o ≡ true → length (formula_clauses b base sign f) ≤ option_map_or (λ (n : ℕ). n) (clause_count sizes sign f) 0
      by None e some = absurd (cc)
      by (Some m) e some = let le = bounded f h sign m e in let count = ap (λ (o : Option ℕ). option_map_or (λ (n : ℕ). n) o 0) e in omega (arith, le, count)
