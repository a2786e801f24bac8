-- The clauses that a formula comes to in a sign: all of them are true exactly where the formula has that truth. That all of
-- some operands hold is said by the clauses of each, one list behind the other; that one of them holds by the product of
-- their lists. In the negative sign a conjunction says that one operand fails, a disjunction that all do.
use Rattle.std.specs.Prelude.{ℕ, ◌+◌, Bool, true, false, not, nat_lt, nat_le, ◌&&◌, List, [], ◌∷◌, ◌++◌, map, length, slice_index_or}
use Rattle.std.specs.List.{flat_map, range_with_len}
use Rattle.lv_base.specs.declared.ids.Lit.{Lit}
use Rattle.lv_base.specs.Tree.{Tree, always, never, is, same, negation, all, any, implies, iff, Trees, none, more}
use Rattle.lv_compile.specs.Booleans.{Booleans, value_literal}

abbrev pub Clauses : Type 0
Clauses = List (List Lit)

-- the clauses with these literals before their own
abbrev pub each_after : Clauses → List Lit → Clauses
each_after qs p = map (λ (q : List Lit). p ++ q) qs

-- for each clause of the first list and each of the second, the literals of both
abbrev pub product : Clauses → Clauses → Clauses
product ps qs = flat_map (each_after qs) ps

-- what says that both lists hold, or that one of them does
abbrev pub gather : Bool → Clauses → Clauses → Clauses
gather true ps qs = ps ++ qs
gather false ps qs = product ps qs

-- true of everything, false of everything
abbrev pub no_clause : Clauses
no_clause = []

abbrev pub empty_clause : Clauses
empty_clause = [] ∷ []

abbrev pub when_true : Bool → Clauses
when_true true = no_clause
when_true false = empty_clause

-- the clauses where they are asked for, and else none
abbrev pub asked : Bool → Clauses → Clauses
asked true cs = cs
asked false cs = no_clause

-- how many values the variable has
abbrev pub size_of : Booleans → ℕ → ℕ
size_of b x = slice_index_or b.sizes x 0

-- if x has the value, then y has it, or hasn't
abbrev pub equality_clause : Booleans → ℕ → ℕ → Bool → ℕ → List Lit
equality_clause b x y sign v = value_literal b x v false ∷ value_literal b y v sign ∷ []

-- for each value of x
abbrev pub equality_clauses : Booleans → ℕ → ℕ → Bool → Clauses
equality_clauses b x y sign = map (equality_clause b x y sign) (range_with_len 0 (size_of b x))

abbrev mutual
  -- where variable x of the formula is variable base + x of the copy
  pub formula_clauses : Booleans → ℕ → Bool → Tree → Clauses
  formula_clauses b base sign always = when_true sign
  formula_clauses b base sign never = when_true (not sign)
  formula_clauses b base sign (is x v) = (value_literal b (base + x) v sign ∷ []) ∷ []
  formula_clauses b base sign (same x y) = equality_clauses b (base + x) (base + y) sign
  formula_clauses b base sign (negation f) = formula_clauses b base (not sign) f
  formula_clauses b base sign (all fs) = gathered_clauses b base sign sign fs
  formula_clauses b base sign (any fs) = gathered_clauses b base (not sign) sign fs
  formula_clauses b base sign (implies f g) = gather (not sign) (formula_clauses b base (not sign) f) (formula_clauses b base sign g)
  formula_clauses b base sign (iff f g) =
      product (formula_clauses b base (not sign) f) (formula_clauses b base true g) ++ product (formula_clauses b base sign f) (formula_clauses b base false g)

  -- that all operands have the sign, or that one of them has it
  pub gathered_clauses : Booleans → ℕ → Bool → Bool → Trees → Clauses
  gathered_clauses b base of_all sign none = when_true of_all
  gathered_clauses b base of_all sign (more f fs) = gather of_all (formula_clauses b base sign f) (gathered_clauses b base of_all sign fs)

-- both variables are there, and y has each value that x has
abbrev pub are_comparable : Booleans → ℕ → ℕ → Bool
are_comparable b x y = (nat_lt x (length b.sizes) && nat_lt y (length b.sizes)) && nat_le (size_of b x) (size_of b y)

abbrev mutual
  -- each equation speaks of values that have booleans
  pub speaks_of : Booleans → ℕ → Tree → Bool
  speaks_of b base always = true
  speaks_of b base never = true
  speaks_of b base (is x v) = nat_lt v (size_of b (base + x))
  speaks_of b base (same x y) = are_comparable b (base + x) (base + y)
  speaks_of b base (negation f) = speaks_of b base f
  speaks_of b base (all fs) = each_speaks_of b base fs
  speaks_of b base (any fs) = each_speaks_of b base fs
  speaks_of b base (implies f g) = speaks_of b base f && speaks_of b base g
  speaks_of b base (iff f g) = speaks_of b base f && speaks_of b base g

  pub each_speaks_of : Booleans → ℕ → Trees → Bool
  each_speaks_of b base none = true
  each_speaks_of b base (more f fs) = speaks_of b base f && each_speaks_of b base fs
