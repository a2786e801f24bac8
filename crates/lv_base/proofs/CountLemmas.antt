-- A count that is held back at one more than the limit comes to the same within the limit, whatever is still to be gathered.
use Rattle.std.proofs.Common.{◌≡◌, ◌+◌, ◌*◌, ◌≤◌, ◌<◌, ℕ, zero, suc, min, Bool, true, false, Option, Some, None, refl, sym, ap, ◌∙◌, arith, nat_le, ◌⊎◌, inl, inr}
use Rattle.std.proofs.lemmas.Bool.{cases_lt}
use Rattle.std.proofs.Math.Nat.{mul-zero, mul-suc, mul_assoc, add_assoc, one-mul, mul-one}
use Rattle.lv_base.specs.declared.limits.TheConstants.{FORMULA_CLAUSES}
use Rattle.lv_base.specs.Counts.{within, joined, gathered, whole, truth_count, taken}

some_is_one : {m n : ℕ} → Some m ≡ Some n → m ≡ n
some_is_one h = (cc)

-- what is too much is not within the limit
past : (n : ℕ) → FORMULA_CLAUSES < n → within n ≡ None
past n h = let e : nat_le n FORMULA_CLAUSES ≡ false = grind (arith, h) in rw e refl

held_sum : (a r : ℕ) → within (min a (FORMULA_CLAUSES + 1) + r) ≡ within (a + r)
held_sum a r = by (cases_lt FORMULA_CLAUSES a)
  where
    by : (FORMULA_CLAUSES < a) ⊎ (a ≤ FORMULA_CLAUSES) → within (min a (FORMULA_CLAUSES + 1) + r) ≡ within (a + r)
    by (inl more) = past (min a (FORMULA_CLAUSES + 1) + r) (omega (arith, more)) ∙ sym (past (a + r) (omega (arith, more)))
    by (inr few) = let e : min a (FORMULA_CLAUSES + 1) ≡ a = omega (arith, few) in ap (λ (n : ℕ). within (n + r)) e

held_product : (a r : ℕ) → within (min a (FORMULA_CLAUSES + 1) * r) ≡ within (a * r)
held_product a zero = ap within (mul-zero (min a (FORMULA_CLAUSES + 1)) ∙ sym (mul-zero a))
held_product a (suc r) = by (cases_lt FORMULA_CLAUSES a)
  where
    by : (FORMULA_CLAUSES < a) ⊎ (a ≤ FORMULA_CLAUSES) → within (min a (FORMULA_CLAUSES + 1) * suc r) ≡ within (a * suc r)
    by (inl more) =
        let held : FORMULA_CLAUSES < min a (FORMULA_CLAUSES + 1) = omega (arith, more) in
        let one = mul-suc (min a (FORMULA_CLAUSES + 1)) r in
        let other = mul-suc a r in
        past (min a (FORMULA_CLAUSES + 1) * suc r) (omega (arith, held, one)) ∙ sym (past (a * suc r) (omega (arith, more, other)))
    by (inr few) = let e : min a (FORMULA_CLAUSES + 1) ≡ a = omega (arith, few) in ap (λ (n : ℕ). within (n * suc r)) e

held : (of_all : Bool) (a r : ℕ) → within (joined of_all (min a (FORMULA_CLAUSES + 1)) r) ≡ within (joined of_all a r)
held true a r = held_sum a r
held false a r = held_product a r

joined_assoc : (of_all : Bool) (a m r : ℕ) → joined of_all (joined of_all a m) r ≡ joined of_all a (joined of_all m r)
joined_assoc true a m r = add_assoc a m r
joined_assoc false a m r = mul_assoc a m r

-- one operand more
pub counted_more : (of_all : Bool) (count more new : ℕ) (rest left w : Option ℕ) → new ≡ min (joined of_all count more) (FORMULA_CLAUSES + 1) → left ≡ gathered of_all (Some more) rest
    → whole (gathered of_all (Some count) left) ≡ w → whole (gathered of_all (Some new) rest) ≡ w
counted_more of_all count more new None left w is cut so_far = sym (ap (λ (o : Option ℕ). whole (gathered of_all (Some count) o)) cut) ∙ so_far
counted_more of_all count more new (Some r) left w is cut so_far =
    ap (λ (n : ℕ). within (joined of_all n r)) is
    ∙ held of_all (joined of_all count more) r
    ∙ ap within (joined_assoc of_all count more r)
    ∙ sym (ap (λ (o : Option ℕ). whole (gathered of_all (Some count) o)) cut)
    ∙ so_far

-- an operand that is too long by itself
pub counted_none : (of_all : Bool) (count : ℕ) (one rest left w : Option ℕ) → one ≡ None → left ≡ gathered of_all one rest → whole (gathered of_all (Some count) left) ≡ w → None ≡ w
counted_none of_all count one rest left w is cut so_far =
    sym (ap (λ (o : Option ℕ). whole (gathered of_all (Some count) (gathered of_all o rest))) is)
    ∙ sym (ap (λ (o : Option ℕ). whole (gathered of_all (Some count) o)) cut)
    ∙ so_far

pub count_start : (of_all : Bool) (o : Option ℕ) → gathered of_all (Some (truth_count of_all)) o ≡ o
count_start true None = refl
count_start true (Some n) = let e : 0 + n ≡ n = omega arith in ap Some e
count_start false None = refl
count_start false (Some n) = ap Some (one-mul n)

pub count_end : (of_all : Bool) (n : ℕ) → gathered of_all (Some n) (Some (truth_count of_all)) ≡ Some n
count_end true n = let e : n + 0 ≡ n = omega arith in ap Some e
count_end false n = ap Some (mul-one n)

-- one operand more, which may be too long by itself
pub counted : (of_all : Bool) (count one new rest left w : Option ℕ) → new ≡ taken of_all count one → left ≡ gathered of_all one rest
    → whole (gathered of_all count left) ≡ w → whole (gathered of_all new rest) ≡ w
counted of_all None one new rest left w is cut so_far = ap (λ (o : Option ℕ). whole (gathered of_all o rest)) is ∙ so_far
counted of_all (Some a) None new rest left w is cut so_far =
    ap (λ (o : Option ℕ). whole (gathered of_all o rest)) is ∙ counted_none of_all a None rest left w refl cut so_far
counted of_all (Some a) (Some m) None rest left w is cut so_far = absurd (cc)
counted of_all (Some a) (Some m) (Some n) rest left w is cut so_far = counted_more of_all a m n rest left w (some_is_one is) cut so_far
