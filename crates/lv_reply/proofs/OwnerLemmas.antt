-- Which part a variable is of: where the parts' variables lie one behind the other, the last that begins at or before it, or none.
use Rattle.std.proofs.Common.{◌≡◌, ◌≢◌, ℕ, zero, suc, ◌+◌, ◌<◌, ◌≤◌, List, [], ◌∷◌, Bool, true, false, not, ◌&&◌, ◌||◌, if◌then◌else◌, nat_eq, nat_le, nat_lt, slice_get, slice_index_or, length, Option, Some, None, refl, sym, ◌∙◌, ap, subst, arith, ◌-◌}
use Rattle.std.proofs.lemmas.Bool.{and_parts, leb-true, leb-false}
use Rattle.std.proofs.lemmas.Bool.Decides.{nat_tests}
use Rattle.std.specs.List.{find, AllAdjacentBelow}
use Rattle.std.specs.List.Sorted.{IsNonDecreasingBy}
use Rattle.std.proofs.lemmas.List.Sorted.{IsNonDecreasingBy-from_all_adjacent}
use borrow.Author.Tests.{eqb-true}
use native.Mathlib.Numerals.{unary_clauses}
use Rattle.lv_model.specs.declared.plant.ComponentType.{ComponentType}
use Rattle.lv_model.specs.declared.plant.Part.{Part}
use Rattle.lv_model.specs.Lists.{part_width}
use Rattle.lv_model.specs.WellFormed.{firsts_follow}
use Rattle.lv_reply.specs.Variables.{has_variable, begins_at, ends_there, AreBegun}

pub positive : (n : ℕ) → n ≢ 0 → 0 < n
positive zero other = absurd (other refl)
positive (suc n) other = omega arith

module _ (types : List ComponentType) where
  -- what follows a part begins where that ends
  next_begins : (next : ℕ) (p q : Part) (ps : List Part) → firsts_follow types next (p ∷ q ∷ ps) ≡ true → q.first.0 ≡ p.first.0 + part_width types p
  next_begins next p q ps h =
      let outer = and_parts (nat_eq p.first.0 next) (firsts_follow types (next + part_width types p) (q ∷ ps)) h in
      let inner = and_parts (nat_eq q.first.0 (next + part_width types p)) (firsts_follow types ((next + part_width types p) + part_width types q) ps) outer.1 in
      eqb-true q.first.0 (next + part_width types p) inner.0 ∙ ap (λ (n : ℕ). n + part_width types p) (sym (eqb-true p.first.0 next outer.0))

  -- the parts begin one behind the other
  rise : (next : ℕ) (ps : List Part) (k : ℕ) (d : Part) → firsts_follow types next ps ≡ true → suc k < length ps → (slice_index_or ps k d).first.0 ≤ (slice_index_or ps (suc k) d).first.0
  rise next [] k d h below = absurd (omega arith)
  rise next (p ∷ []) k d h below = absurd (omega arith)
  rise next (p ∷ q ∷ ps) zero d h below = let e = next_begins next p q ps h in omega (arith, e)
  rise next (p ∷ q ∷ ps) (suc k) d h below =
      rise (next + part_width types p) (q ∷ ps) k d (and_parts (nat_eq p.first.0 next) (firsts_follow types (next + part_width types p) (q ∷ ps)) h).1 (omega arith)

  pub firsts_rise : (next : ℕ) (ps : List Part) → firsts_follow types next ps ≡ true → AllAdjacentBelow (λ (p q : Part). p.first.0 ≤ q.first.0) ps (length ps)
  firsts_rise next ps h k d below = simp unary_clauses (rise next ps k d h (omega arith))

  module _ (x : ℕ) where
    -- a part that begins behind the variable hasn't it
    not_begun : (p : Part) → x < p.first.0 → has_variable types x p ≡ false
    not_begun p less = grind (arith, nat_tests, less)

    -- nor has one that ends at or before it
    ended : (p : Part) → p.first.0 + part_width types p ≤ x → has_variable types x p ≡ false
    ended p less = grind (arith, nat_tests, less)

    -- one that begins at or before it has it where it is wide enough
    begun : (p : Part) → p.first.0 ≤ x → has_variable types x p ≡ nat_lt x (p.first.0 + part_width types p)
    begun p less = grind (arith, nat_tests, less)

    passed : (p : Part) (ps : List Part) → has_variable types x p ≡ false → find (has_variable types x) (p ∷ ps) ≡ find (has_variable types x) ps
    passed p ps e = ap (λ (b : Bool). if b then Some p else find (has_variable types x) ps) e

    -- none of those that all begin behind it
    none_behind : (next : ℕ) (ps : List Part) → firsts_follow types next ps ≡ true → x < next → find (has_variable types x) ps ≡ None
    none_behind next [] h less = refl
    none_behind next (p ∷ ps) h less =
        let both = and_parts (nat_eq p.first.0 next) (firsts_follow types (next + part_width types p) ps) h in
        let first : p.first.0 ≡ next = eqb-true p.first.0 next both.0 in
        passed p ps (not_begun p (omega (arith, first))) ∙ none_behind (next + part_width types p) ps both.1 (omega arith)

    -- none where the first begins behind it
    pub none_begun : (next : ℕ) (ps : List Part) → firsts_follow types next ps ≡ true → ((k : ℕ) (d : Part) → k < length ps → x < (slice_index_or ps k d).first.0)
        → find (has_variable types x) ps ≡ None
    none_begun next [] h behind = refl
    none_begun next (p ∷ ps) h behind =
        let both = and_parts (nat_eq p.first.0 next) (firsts_follow types (next + part_width types p) ps) h in
        let first : p.first.0 ≡ next = eqb-true p.first.0 next both.0 in
        let less = behind zero p (omega arith) in
        none_behind next (p ∷ ps) h (omega (arith, first, less))

    -- else the last that begins at or before it, if that is wide enough
    pub last_begun : (next : ℕ) (ps : List Part) (n : ℕ) (d : Part) → firsts_follow types next ps ≡ true → n < length ps
        → ((k : ℕ) (d : Part) → k < suc n → (slice_index_or ps k d).first.0 ≤ x)
        → ((k : ℕ) (d : Part) → suc n ≤ k → k < length ps → x < (slice_index_or ps k d).first.0)
        → find (has_variable types x) ps
        ≡ (if nat_lt x ((slice_index_or ps n d).first.0 + part_width types (slice_index_or ps n d)) then Some (slice_index_or ps n d) else None)
    last_begun next [] n d h few by behind = absurd (omega arith)
    last_begun next (p ∷ ps) zero d h few by behind =
        let both = and_parts (nat_eq p.first.0 next) (firsts_follow types (next + part_width types p) ps) h in
        ap (λ (b : Bool). if b then Some p else find (has_variable types x) ps) (begun p (by zero p (omega arith)))
        ∙ ap (λ (o : Option Part). if nat_lt x (p.first.0 + part_width types p) then Some p else o)
        (none_begun (next + part_width types p) ps both.1 (λ k e less. behind (suc k) e (omega arith) (omega arith)))
    last_begun next (p ∷ []) (suc n) d h few by behind = absurd (omega arith)
    last_begun next (p ∷ q ∷ ps) (suc n) d h few by behind =
        let both = and_parts (nat_eq p.first.0 next) (firsts_follow types (next + part_width types p) (q ∷ ps)) h in
        let e = next_begins next p q ps h in
        let less = by 1 p (omega arith) in
        passed p (q ∷ ps) (ended p (omega (arith, e, less)))
        ∙ last_begun (next + part_width types p) (q ∷ ps) n d both.1 (omega arith) (λ k f below. by (suc k) f (omega arith)) (λ k f above below. behind (suc k) f (omega arith) (omega arith))

    -- the same for parts of which i begin at or before it, and what such a part has
    module _ (ps : List Part) (follow : firsts_follow types 0 ps ≡ true) (i : ℕ) (some : 0 < i) (few : i ≤ length ps)
        (by : (k : ℕ) (d : Part) → 0 ≤ k → k < i → (slice_index_or ps k d).first.0 ≤ x)
        (behind : (k : ℕ) (d : Part) → i ≤ k → k < length ps → x < (slice_index_or ps k d).first.0)
        (p : Part) (is : p ≡ slice_index_or ps (i - 1) p) where
      pub last_of_them : find (has_variable types x) ps ≡ (if nat_lt x (p.first.0 + part_width types p) then Some p else None)
      last_of_them =
          subst (λ (q : Part). find (has_variable types x) ps ≡ (if nat_lt x (q.first.0 + part_width types q) then Some q else None)) (sym is)
          (last_begun 0 ps (i - 1) p follow (omega (arith, some, few)) (λ k d below. by k d (omega arith) (omega (arith, some, below)))
          (λ k d above below. behind k d (omega (arith, some, above)) below))

      begins : p.first.0 ≤ x
      begins = subst (λ (q : Part). q.first.0 ≤ x) (sym is) (by (i - 1) p (omega arith) (omega (arith, some)))

      pub is_owner : nat_lt (x - p.first.0) (part_width types p) ≡ true → Some p ≡ find (has_variable types x) ps
      is_owner wide =
          let wider : nat_lt x (p.first.0 + part_width types p) ≡ true = let le = begins in grind (arith, nat_tests, wide, le) in
          sym (last_of_them ∙ ap (λ (b : Bool). if b then Some p else None) wider)

      pub has_no_owner : nat_lt (x - p.first.0) (part_width types p) ≡ false → None ≡ find (has_variable types x) ps
      has_no_owner narrow =
          let narrower : nat_lt x (p.first.0 + part_width types p) ≡ false = let le = begins in grind (arith, nat_tests, narrow, le) in
          sym (last_of_them ∙ ap (λ (b : Bool). if b then Some p else None) narrower)

-- the part at a place that begins at or before the variable, and one that doesn't
begins_within : (x : ℕ) (ps : List Part) (k : ℕ) → begins_at ps x k ≡ true → k < length ps
begins_within x [] k e = absurd (cc)
begins_within x (p ∷ ps) zero e = omega arith
begins_within x (p ∷ ps) (suc k) e = let rest = begins_within x ps k e in omega (arith, rest)

begins_is : (x : ℕ) (ps : List Part) (k : ℕ) (d : Part) → begins_at ps x k ≡ true → (slice_index_or ps k d).first.0 ≤ x
begins_is x [] k d e = absurd (cc)
begins_is x (p ∷ ps) zero d e = leb-true _ _ e
begins_is x (p ∷ ps) (suc k) d e = begins_is x ps k d e

begins_not : (x : ℕ) (ps : List Part) (k : ℕ) (d : Part) → begins_at ps x k ≡ false → k < length ps → x < (slice_index_or ps k d).first.0
begins_not x [] k d e below = absurd (omega arith)
begins_not x (p ∷ ps) zero d e below = leb-false _ _ e
begins_not x (p ∷ ps) (suc k) d e below = begins_not x ps k d e (omega arith)

-- where the last of so many parts begins at or before the variable, and the one behind them doesn't, just those do
module _ (x : ℕ) (ps : List Part) (n : ℕ) (rise : IsNonDecreasingBy (λ (p : Part). p.first.0) ps) where
  by_last : (b : Bool) → nat_eq n 0 ≡ b → (b || begins_at ps x (n - 1)) ≡ true
      → (n ≤ length ps) × ((k : ℕ) (d : Part) → k < n → (slice_index_or ps k d).first.0 ≤ x)
  by_last true none e = let zero_is = eqb-true n 0 none in (omega (arith, zero_is), λ k d below. absurd (omega (arith, zero_is, below)))
  by_last false some e =
      let more : 0 < n = grind (arith, nat_tests, some) in
      let within = begins_within x ps (n - 1) e in (
        omega (arith, more, within),
        λ k d below.
            let last = begins_is x ps (n - 1) d e in
            let up = rise k (n - 1) d (omega (arith, below)) within in
            omega (arith, up, last),
      )

  pub begun_there : ends_there ps x n ≡ true → AreBegun x ps n
  begun_there e =
      let both = and_parts (nat_eq n 0 || begins_at ps x (n - 1)) (not (begins_at ps x n)) e in
      let behind : begins_at ps x n ≡ false = by_not (begins_at ps x n) both.1 in
      let front = by_last (nat_eq n 0) refl both.0 in
      record {
        place = (
          λ k d low below. front.1 k d below,
          λ k d low below.
              let first = begins_not x ps n d behind (omega (arith, low, below)) in
              let up = rise n k d low below in
              omega (arith, up, first),
        );
        few = front.0;
      }
    where
      by_not : (b : Bool) → not b ≡ true → b ≡ false
      by_not true h = absurd (cc)
      by_not false h = refl

pub parts_rise : (types : List ComponentType) (ps : List Part) → firsts_follow types 0 ps ≡ true → IsNonDecreasingBy (λ (p : Part). p.first.0) ps
parts_rise types ps follow = IsNonDecreasingBy-from_all_adjacent (λ (p : Part). p.first.0) ps (firsts_rise types 0 ps follow)
