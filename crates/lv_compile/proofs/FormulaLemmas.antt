-- A formula's clauses in a sign are all true exactly where the formula has that truth.
use Rattle.std.proofs.Common.{◌≡◌, ◌+◌, ◌≤◌, ◌<◌, ℕ, suc, zero, Bool, true, false, not, ◌&&◌, ◌||◌, nat_eq, nat_lt, List, [], ◌∷◌, ◌++◌, slice_get, Option, Some, None, refl, sym, ap, ap₂, ◌∙◌, arith}
use Rattle.std.specs.List.{list_all, range_with_len}
use Rattle.std.specs.Option.{option_map_or}
use Rattle.std.proofs.lemmas.Bool.{and_parts}
use Rattle.std.proofs.lemmas.List.Folds.{list_all-append, list_any-append, list_all-map}
use Rattle.lv_base.specs.declared.ids.Lit.{Lit}
use Rattle.lv_base.specs.declared.ids.ValId.{ValId}
use Rattle.lv_clauses.specs.Literals.{same_truth}
use Rattle.lv_base.specs.declared.range.Range.{Range}
use Rattle.lv_base.specs.Tree.{Tree, always, never, is, same, negation, all, any, implies, iff, Trees, none, more, truth_of, all_true, some_true, number_of, both_or_neither}
use Rattle.lv_base.specs.Fits.{is_same_sort, fits, each_fits}
use Rattle.lv_compile.specs.Booleans.{Booleans, value_bool, value_literal}
use Rattle.lv_compile.specs.FormulaClauses.{Clauses, each_after, size_of, equality_clause, product, formula_clauses, gathered_clauses}
use Rattle.lv_compile.specs.Laws.{literal_is_true, clause_is_true, are_true, Encode, HaveBooleans}

-- laws of truth values

one_literal : (p : Bool) → ((p || false) && true) ≡ p
one_literal true = refl
one_literal false = refl

two_literals : (p q : Bool) → (p || (q || false)) ≡ (p || q)
two_literals true q = refl
two_literals false true = refl
two_literals false false = refl

together : (p q r : Bool) → ((p || q) && (p || r)) ≡ (p || (q && r))
together true q r = refl
together false q r = refl

apart_from : (p q r : Bool) → ((p || r) && (q || r)) ≡ ((p && q) || r)
apart_from true true r = refl
apart_from true false r = refl
apart_from false true true = refl
apart_from false true false = refl
apart_from false false true = refl
apart_from false false false = refl

pub and_true : (p : Bool) → (p && true) ≡ p
and_true true = refl
and_true false = refl

true_or : (p : Bool) → (p || true) ≡ true
true_or true = refl
true_or false = refl

pub as_true : (p : Bool) → same_truth p true ≡ p
as_true true = refl
as_true false = refl

pub as_false : (p : Bool) → same_truth p false ≡ not p
as_false true = refl
as_false false = refl

turned : (p s : Bool) → same_truth p (not s) ≡ same_truth (not p) s
turned true true = refl
turned true false = refl
turned false true = refl
turned false false = refl

both_true : (p q : Bool) → (same_truth p true && same_truth q true) ≡ same_truth (p && q) true
both_true true q = refl
both_true false q = refl

one_false : (p q : Bool) → (same_truth p false || same_truth q false) ≡ same_truth (p && q) false
one_false true true = refl
one_false true false = refl
one_false false q = refl

one_true : (p q : Bool) → (same_truth p true || same_truth q true) ≡ same_truth (p || q) true
one_true true q = refl
one_true false q = refl

both_false : (p q : Bool) → (same_truth p false && same_truth q false) ≡ same_truth (p || q) false
both_false true q = refl
both_false false q = refl

implied : (p q : Bool) → (same_truth p false || same_truth q true) ≡ same_truth (not p || q) true
implied true true = refl
implied true false = refl
implied false q = refl

not_implied : (p q : Bool) → (same_truth p true && same_truth q false) ≡ same_truth (not p || q) false
not_implied true true = refl
not_implied true false = refl
not_implied false q = refl

equal : (p q : Bool) → ((same_truth p false || same_truth q true) && (same_truth p true || same_truth q false)) ≡ same_truth (both_or_neither p q) true
equal true true = refl
equal true false = refl
equal false true = refl
equal false false = refl

not_equal : (p q : Bool) → ((same_truth p true || same_truth q true) && (same_truth p false || same_truth q false)) ≡ same_truth (both_or_neither p q) false
not_equal true true = refl
not_equal true false = refl
not_equal false true = refl
not_equal false false = refl

-- of values of which one is meant: what is asked of each that is meant is asked of that one

module _ (asked tells : ℕ → Bool) (meant : ℕ) where
  past : (n first : ℕ) → ((v : ℕ) → first ≤ v → v < first + n → tells v ≡ (not (nat_eq meant v) || asked v)) → meant < first → list_all tells (range_with_len first n) ≡ true
  past zero first are h = refl
  past (suc n) first are h =
      let other : nat_eq meant first ≡ false = grind (arith, h) in
      ap₂ (λ (p q : Bool). p && q) (are first (omega arith) (omega arith) ∙ ap (λ (b : Bool). not b || asked first) other)
      (past n (first + 1) (λ v l m. are v (omega (arith, l)) (omega (arith, m))) (omega (arith, h)))

  pub only_meant : (n first : ℕ) → ((v : ℕ) → first ≤ v → v < first + n → tells v ≡ (not (nat_eq meant v) || asked v)) → first ≤ meant → meant < first + n → list_all tells (range_with_len first n) ≡ asked meant
  only_meant zero first are low high = absurd (omega (arith, low, high))
  only_meant (suc n) first are low high = by (nat_eq meant first) refl (only_meant n (first + 1) (λ v l m. are v (omega (arith, l)) (omega (arith, m))))
    where
      here : tells first ≡ (not (nat_eq meant first) || asked first)
      here = are first (omega arith) (omega arith)

      by : (b : Bool) → nat_eq meant first ≡ b → (first + 1 ≤ meant → meant < first + 1 + n → list_all tells (range_with_len (first + 1) n) ≡ asked meant) → (tells first && list_all tells (range_with_len (first + 1) n)) ≡ asked meant
      by true e rest =
          let same : meant ≡ first = grind (arith, e) in
          let after = past n (first + 1) (λ v l m. are v (omega (arith, l)) (omega (arith, m))) (omega (arith, same)) in
          rw (here, e, after, same) (and_true (asked first))
      by false e rest =
          let above : first + 1 ≤ meant = grind (arith, e, low) in
          rw (here, e) (rest above (omega (arith, high)))

pub nat_eq_turned : (a b : ℕ) → nat_eq a b ≡ nat_eq b a
nat_eq_turned a b = by (nat_eq a b) refl (nat_eq b a) refl
  where
    by : (p : Bool) → nat_eq a b ≡ p → (q : Bool) → nat_eq b a ≡ q → p ≡ q
    by true e true f = refl
    by true e false f = absurd (grind (arith, e, f))
    by false e true f = absurd (grind (arith, e, f))
    by false e false f = refl

module _ (truth : ℕ → Bool) where
  pub each_longer : (p : List Lit) (qs : Clauses) → are_true truth (each_after qs p) ≡ (clause_is_true truth p || are_true truth qs)
  each_longer p [] = sym (true_or (clause_is_true truth p))
  each_longer p (q ∷ qs) =
      ap₂ (λ (a b : Bool). a && b) (list_any-append (literal_is_true truth) p q) (each_longer p qs) ∙ together (clause_is_true truth p) (clause_is_true truth q) (are_true truth qs)

  pub joined_true : (ps qs : Clauses) → are_true truth (ps ++ qs) ≡ (are_true truth ps && are_true truth qs)
  joined_true ps qs = list_all-append (clause_is_true truth) ps qs

  pub product_true : (ps qs : Clauses) → are_true truth (product ps qs) ≡ (are_true truth ps || are_true truth qs)
  product_true [] qs = refl
  product_true (p ∷ ps) qs =
      joined_true (each_after qs p) (product ps qs)
      ∙ ap₂ (λ (a b : Bool). a && b) (each_longer p qs) (product_true ps qs)
      ∙ apart_from (clause_is_true truth p) (are_true truth ps) (are_true truth qs)

-- what fitting equations compare

pub record Alike (ranges : List Range) (x y : ℕ) : Type 0 where
  pub left : Range
  pub right : Range
  pub at_left : slice_get ranges x ≡ Some left
  pub at_right : slice_get ranges y ≡ Some right
  pub sorts : is_same_sort left.sort right.sort ≡ true

pub alike_of : (ranges : List Range) (x y : ℕ) (o p : Option Range) → slice_get ranges x ≡ o → slice_get ranges y ≡ p
    → option_map_or (λ (r : Range). option_map_or (λ (s : Range). is_same_sort r.sort s.sort) p false) o false ≡ true → Alike ranges x y
alike_of ranges x y None p e f h = absurd (cc)
alike_of ranges x y (Some r) None e f h = absurd (cc)
alike_of ranges x y (Some r) (Some s) e f h = record { left = r; right = s; at_left = e; at_right = f; sorts = h }

pub record Within (ranges : List Range) (x v : ℕ) : Type 0 where
  pub range : Range
  pub at : slice_get ranges x ≡ Some range
  pub below : v < range.size

pub within_of : (ranges : List Range) (x v : ℕ) (o : Option Range) → slice_get ranges x ≡ o → option_map_or (λ (r : Range). nat_lt v r.size) o false ≡ true → Within ranges x v
within_of ranges x v None e h = absurd (cc)
within_of ranges x v (Some r) e h = record { range = r; at = e; below = grind (arith, h) }

module _ (ranges : List Range) (b : Booleans) (base : ℕ) (have : HaveBooleans ranges b base) (truth : ℕ → Bool) (a : List ValId) (code : Encode truth b a) where
  is_exact : (x v : ℕ) → fits ranges (is x v) ≡ true → (sign : Bool) → are_true truth (formula_clauses b base sign (is x v)) ≡ same_truth (nat_eq (number_of a (base + x)) v) sign
  is_exact x v h sign =
      let found : Within ranges x v = within_of ranges x v (slice_get ranges x) refl h in
      let within = have.within x found.range found.at in
      let size = have.size x found.range found.at in
      let below = found.below in
      let value = code.values (base + x) v within (omega (arith, size, below)) in
      one_literal (literal_is_true truth (value_literal b (base + x) v sign)) ∙ ap (λ (t : Bool). same_truth t sign) value

  same_exact : (x y : ℕ) → fits ranges (same x y) ≡ true → (sign : Bool)
      → are_true truth (formula_clauses b base sign (same x y)) ≡ same_truth (nat_eq (number_of a (base + x)) (number_of a (base + y))) sign
  same_exact x y h sign =
      let found : Alike ranges x y = alike_of ranges x y (slice_get ranges x) (slice_get ranges y) refl refl h in
      let x_within = have.within x found.left found.at_left in
      let y_within = have.within y found.right found.at_right in
      let x_size = have.size x found.left found.at_left in
      let y_size = have.size y found.right found.at_right in
      let sizes = have.alike x y found.left found.right found.at_left found.at_right found.sorts in
      let in_range = code.in_range (base + x) x_within in
      list_all-map (clause_is_true truth) (equality_clause b (base + x) (base + y) sign) (range_with_len 0 (size_of b (base + x)))
      ∙ only_meant (λ v. same_truth (nat_eq (number_of a (base + y)) v) sign) (λ v. clause_is_true truth (equality_clause b (base + x) (base + y) sign v)) (number_of a (base + x))
      (size_of b (base + x)) 0
      (λ v low high.
      two_literals (same_truth (truth (value_bool b (base + x) v)) false) (same_truth (truth (value_bool b (base + y) v)) sign)
      ∙ ap₂ (λ (p q : Bool). p || q)
      (ap (λ (t : Bool). same_truth t false) (code.values (base + x) v x_within (omega (arith, high))) ∙ as_false (nat_eq (number_of a (base + x)) v))
      (ap (λ (t : Bool). same_truth t sign) (code.values (base + y) v y_within (omega (arith, high, x_size, y_size, sizes)))))
      (omega arith) (omega (arith, in_range))
      ∙ ap (λ (t : Bool). same_truth t sign) (nat_eq_turned (number_of a (base + y)) (number_of a (base + x)))

  mutual
    pub exact : (f : Tree) → fits ranges f ≡ true → (sign : Bool) → are_true truth (formula_clauses b base sign f) ≡ same_truth (truth_of a base f) sign
    exact always h true = refl
    exact always h false = refl
    exact never h true = refl
    exact never h false = refl
    exact (is x v) h sign = is_exact x v h sign
    exact (same x y) h sign = same_exact x y h sign
    exact (negation f) h sign = exact f h (not sign) ∙ turned (truth_of a base f) sign
    exact (all fs) h true = all_exact fs h
    exact (all fs) h false = not_all_exact fs h
    exact (any fs) h true = any_exact fs h
    exact (any fs) h false = not_any_exact fs h
    exact (implies f g) h true =
        let two = and_parts (fits ranges f) (fits ranges g) h in
        product_true truth (formula_clauses b base false f) (formula_clauses b base true g)
        ∙ ap₂ (λ (p q : Bool). p || q) (exact f two.0 false) (exact g two.1 true)
        ∙ implied (truth_of a base f) (truth_of a base g)
    exact (implies f g) h false =
        let two = and_parts (fits ranges f) (fits ranges g) h in
        joined_true truth (formula_clauses b base true f) (formula_clauses b base false g)
        ∙ ap₂ (λ (p q : Bool). p && q) (exact f two.0 true) (exact g two.1 false)
        ∙ not_implied (truth_of a base f) (truth_of a base g)
    exact (iff f g) h true =
        let two = and_parts (fits ranges f) (fits ranges g) h in
        let ft = exact f two.0 true in
        let ff = exact f two.0 false in
        let gt = exact g two.1 true in
        let gf = exact g two.1 false in
        joined_true truth (product (formula_clauses b base false f) (formula_clauses b base true g)) (product (formula_clauses b base true f) (formula_clauses b base false g))
        ∙ ap₂ (λ (p q : Bool). p && q)
        (product_true truth (formula_clauses b base false f) (formula_clauses b base true g) ∙ ap₂ (λ (p q : Bool). p || q) ff gt)
        (product_true truth (formula_clauses b base true f) (formula_clauses b base false g) ∙ ap₂ (λ (p q : Bool). p || q) ft gf)
        ∙ equal (truth_of a base f) (truth_of a base g)
    exact (iff f g) h false =
        let two = and_parts (fits ranges f) (fits ranges g) h in
        let ft = exact f two.0 true in
        let ff = exact f two.0 false in
        let gt = exact g two.1 true in
        let gf = exact g two.1 false in
        joined_true truth (product (formula_clauses b base true f) (formula_clauses b base true g)) (product (formula_clauses b base false f) (formula_clauses b base false g))
        ∙ ap₂ (λ (p q : Bool). p && q)
        (product_true truth (formula_clauses b base true f) (formula_clauses b base true g) ∙ ap₂ (λ (p q : Bool). p || q) ft gt)
        (product_true truth (formula_clauses b base false f) (formula_clauses b base false g) ∙ ap₂ (λ (p q : Bool). p || q) ff gf)
        ∙ not_equal (truth_of a base f) (truth_of a base g)

    all_exact : (fs : Trees) → each_fits ranges fs ≡ true → are_true truth (gathered_clauses b base true true fs) ≡ same_truth (all_true a base fs) true
    all_exact none h = refl
    all_exact (more f fs) h =
        let two = and_parts (fits ranges f) (each_fits ranges fs) h in
        joined_true truth (formula_clauses b base true f) (gathered_clauses b base true true fs)
        ∙ ap₂ (λ (p q : Bool). p && q) (exact f two.0 true) (all_exact fs two.1)
        ∙ both_true (truth_of a base f) (all_true a base fs)

    not_all_exact : (fs : Trees) → each_fits ranges fs ≡ true → are_true truth (gathered_clauses b base false false fs) ≡ same_truth (all_true a base fs) false
    not_all_exact none h = refl
    not_all_exact (more f fs) h =
        let two = and_parts (fits ranges f) (each_fits ranges fs) h in
        product_true truth (formula_clauses b base false f) (gathered_clauses b base false false fs)
        ∙ ap₂ (λ (p q : Bool). p || q) (exact f two.0 false) (not_all_exact fs two.1)
        ∙ one_false (truth_of a base f) (all_true a base fs)

    any_exact : (fs : Trees) → each_fits ranges fs ≡ true → are_true truth (gathered_clauses b base false true fs) ≡ same_truth (some_true a base fs) true
    any_exact none h = refl
    any_exact (more f fs) h =
        let two = and_parts (fits ranges f) (each_fits ranges fs) h in
        product_true truth (formula_clauses b base true f) (gathered_clauses b base false true fs)
        ∙ ap₂ (λ (p q : Bool). p || q) (exact f two.0 true) (any_exact fs two.1)
        ∙ one_true (truth_of a base f) (some_true a base fs)

    not_any_exact : (fs : Trees) → each_fits ranges fs ≡ true → are_true truth (gathered_clauses b base true false fs) ≡ same_truth (some_true a base fs) false
    not_any_exact none h = refl
    not_any_exact (more f fs) h =
        let two = and_parts (fits ranges f) (each_fits ranges fs) h in
        joined_true truth (formula_clauses b base false f) (gathered_clauses b base true false fs)
        ∙ ap₂ (λ (p q : Bool). p && q) (exact f two.0 false) (not_any_exact fs two.1)
        ∙ both_false (truth_of a base f) (some_true a base fs)
