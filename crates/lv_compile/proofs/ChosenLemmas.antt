-- Of booleans in a row of which one is true, the clauses that say so are true.
use Rattle.std.proofs.Common.{◌≡◌, ◌+◌, ◌-◌, ◌<◌, ◌≤◌, ℕ, zero, suc, Bool, true, false, nat_eq, ◌&&◌, ◌||◌, List, [], ◌∷◌, length, map, take, slice_index_or, refl, sym, ap, ap₂, ◌∙◌, arith}
use Rattle.std.specs.List.{sum, range_with_len}
use Rattle.std.proofs.lemmas.List.Sums.{sum_by-cons}
use Rattle.lv_clauses.specs.Literals.{same_truth}
use Rattle.lv_compile.specs.Booleans.{literal}
use Rattle.lv_compile.specs.Laws.{clause_is_true, are_true}
use Rattle.lv_compile.specs.ModelClauses.{not_both, apart, exactly_one, values_clauses}
use Rattle.lv_compile.proofs.FormulaLemmas.{joined_true}

module _ (truth : ℕ → Bool) where
  module _ (chosen : ℕ) where
    one_false : (one other : ℕ) → one < other → (same_truth (nat_eq chosen one) false || (same_truth (nat_eq chosen other) false || false)) ≡ true
    one_false one other less = by (nat_eq chosen one) refl (nat_eq chosen other) refl
      where
        by : (p : Bool) → nat_eq chosen one ≡ p → (q : Bool) → nat_eq chosen other ≡ q → (same_truth p false || (same_truth q false || false)) ≡ true
        by true e true f = absurd (grind (arith, e, f, less))
        by true e false f = refl
        by false e q f = refl

    pairs_true : (one start n : ℕ) → one < start → truth one ≡ nat_eq chosen one → ((k : ℕ) → start ≤ k → k < start + n → truth k ≡ nat_eq chosen k)
        → are_true truth (map (not_both one) (range_with_len start n)) ≡ true
    pairs_true one start zero less here are = refl
    pairs_true one start (suc n) less here are =
        let first : clause_is_true truth (not_both one start) ≡ true =
        ap₂ (λ (p q : Bool). same_truth p false || (same_truth q false || false)) here (are start (omega arith) (omega arith)) ∙ one_false one start less in
        ap₂ (λ (p q : Bool). p && q) first (pairs_true one (start + 1) n (omega (arith, less)) here (λ k low high. are k (omega (arith, low)) (omega (arith, high))))

    apart_true : (first n : ℕ) → ((k : ℕ) → first ≤ k → k < first + n → truth k ≡ nat_eq chosen k) → are_true truth (apart first n) ≡ true
    apart_true first zero are = refl
    apart_true first (suc n) are =
        joined_true truth (map (not_both first) (range_with_len (first + 1) n)) (apart (first + 1) n)
        ∙ ap₂ (λ (p q : Bool). p && q)
        (pairs_true first (first + 1) n (omega arith) (are first (omega arith) (omega arith)) (λ k low high. are k (omega (arith, low)) (omega (arith, high))))
        (apart_true (first + 1) n (λ k low high. are k (omega (arith, low)) (omega (arith, high))))

    some_true : (first n : ℕ) → ((k : ℕ) → first ≤ k → k < first + n → truth k ≡ nat_eq chosen k) → first ≤ chosen → chosen < first + n
        → clause_is_true truth (map (λ (k : ℕ). literal k true) (range_with_len first n)) ≡ true
    some_true first zero are low high = absurd (omega (arith, low, high))
    some_true first (suc n) are low high = by (nat_eq chosen first) refl (some_true (first + 1) n (λ k l m. are k (omega (arith, l)) (omega (arith, m))))
      where
        by : (b : Bool) → nat_eq chosen first ≡ b
            → (first + 1 ≤ chosen → chosen < first + 1 + n → clause_is_true truth (map (λ (k : ℕ). literal k true) (range_with_len (first + 1) n)) ≡ true)
            → (same_truth (truth first) true || clause_is_true truth (map (λ (k : ℕ). literal k true) (range_with_len (first + 1) n))) ≡ true
        by true e others = ap (λ (p : Bool). same_truth p true || clause_is_true truth (map (λ (k : ℕ). literal k true) (range_with_len (first + 1) n))) (are first (omega arith) (omega arith) ∙ e)
        by false e others =
            let above : first + 1 ≤ chosen = grind (arith, e, low) in
            ap₂ (λ (p q : Bool). same_truth p true || q) (are first (omega arith) (omega arith) ∙ e) (others above (omega (arith, high)))

    pub one_true : (first n : ℕ) → ((k : ℕ) → first ≤ k → k < first + n → truth k ≡ nat_eq chosen k) → first ≤ chosen → chosen < first + n → are_true truth (exactly_one first n) ≡ true
    one_true first n are low high = ap₂ (λ (p q : Bool). p && q) (some_true first n are low high) (apart_true first n are)

  -- the same, counted from the first of them
  pub one_of_row : (value first n : ℕ) → ((v : ℕ) → v < n → truth (first + v) ≡ nat_eq value v) → value < n → are_true truth (exactly_one first n) ≡ true
  one_of_row value first n are below =
      one_true (first + value) first n
      (λ k low high. at k (k - first) (omega (arith, low)) (omega (arith, low, high))) (omega arith) (omega (arith, below))
    where
      at : (k v : ℕ) → first + v ≡ k → v < n → truth k ≡ nat_eq (first + value) k
      at k v is inside = ap truth (sym is) ∙ are v inside ∙ shifted (nat_eq value v) refl (nat_eq (first + value) k) refl
        where
          shifted : (p : Bool) → nat_eq value v ≡ p → (q : Bool) → nat_eq (first + value) k ≡ q → nat_eq value v ≡ nat_eq (first + value) k
          shifted true e true f = e ∙ sym f
          shifted true e false f = absurd (grind (arith, e, f, is))
          shifted false e true f = absurd (grind (arith, e, f, is))
          shifted false e false f = e ∙ sym f

  pub values_true : (ns : List ℕ) (first : ℕ) (value : ℕ → ℕ) → ((x v : ℕ) → x < length ns → v < slice_index_or ns x 0 → truth (first + sum (take x ns) + v) ≡ nat_eq (value x) v)
      → ((x : ℕ) → x < length ns → value x < slice_index_or ns x 0) → are_true truth (values_clauses first ns) ≡ true
  values_true [] first value are below = refl
  values_true (n ∷ ns) first value are below =
      joined_true truth (exactly_one first n) (values_clauses (first + n) ns)
      ∙ ap₂ (λ (p q : Bool). p && q)
      (one_of_row (value 0) first n (λ v inside. let e : first + v ≡ first + 0 + v = omega arith in ap truth e ∙ are 0 v (omega arith) inside) (below 0 (omega arith)))
      (values_true ns (first + n) (λ x. value (suc x))
      (λ x v there inside.
      let more = sum_by-cons (λ (k : ℕ). k) n (take x ns) in
      let e : first + n + sum (take x ns) + v ≡ first + sum (n ∷ take x ns) + v = omega (arith, more) in
      ap truth e ∙ are (suc x) v (omega (arith, there)) inside)
      (λ x there. below (suc x) (omega (arith, there))))
