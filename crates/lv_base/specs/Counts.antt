-- How many clauses say that a formula is true, or false, counted without making them. That both of two lists of clauses hold is
-- said by one list behind the other, that one of them holds by their product. Each rule is for a kind of formula and a sign, and
-- no list that a rule gives may be longer than the limit; what is multiplied on the way to it may.
use Rattle.std.specs.Prelude.{ℕ, ◌+◌, ◌*◌, min, Bool, true, false, not, nat_le, List, slice_index_or, Option, Some, None, if◌then◌else◌}
use Rattle.std.specs.Option.{option_and_then}
use Rattle.lv_base.specs.declared.limits.TheConstants.{FORMULA_CLAUSES}
use Rattle.lv_base.specs.Tree.{Tree, always, never, is, same, negation, all, any, implies, iff, Trees, none, more}

-- as many as a list may have
abbrev pub within : ℕ → Option ℕ
within n = if nat_le n FORMULA_CLAUSES then Some n else None

-- as many as say that both of two lists hold, or that one of them does
abbrev pub joined : Bool → ℕ → ℕ → ℕ
joined true m n = m + n
joined false m n = m * n

-- of two lists, each of which may be too long
abbrev pub gathered : Bool → Option ℕ → Option ℕ → Option ℕ
gathered of_all None n = None
gathered of_all (Some m) None = None
gathered of_all (Some m) (Some n) = Some (joined of_all m n)

-- the list that a rule gives
abbrev pub whole : Option ℕ → Option ℕ
whole o = option_and_then within o

-- true of everything, false of everything
abbrev pub truth_count : Bool → ℕ
truth_count true = 0
truth_count false = 1

-- where x has so many values, and none that isn't there
abbrev pub size_at : List ℕ → ℕ → ℕ
size_at sizes x = slice_index_or sizes x 0

abbrev mutual
  -- in the sign; none where a list is too long
  pub clause_count : List ℕ → Bool → Tree → Option ℕ
  clause_count sizes sign always = Some (truth_count sign)
  clause_count sizes sign never = Some (truth_count (not sign))
  clause_count sizes sign (is x v) = Some 1
  clause_count sizes sign (same x y) = within (size_at sizes x)
  clause_count sizes sign (negation f) = clause_count sizes (not sign) f
  clause_count sizes sign (all fs) = whole (gathered_count sizes sign sign fs)
  clause_count sizes sign (any fs) = whole (gathered_count sizes (not sign) sign fs)
  clause_count sizes sign (implies f g) = whole (gathered (not sign) (clause_count sizes (not sign) f) (clause_count sizes sign g))
  clause_count sizes sign (iff f g) =
      whole
      (gathered true (gathered false (clause_count sizes (not sign) f) (clause_count sizes true g))
      (gathered false (clause_count sizes sign f) (clause_count sizes false g)))

  -- that all operands have the sign, or that one of them has it
  pub gathered_count : List ℕ → Bool → Bool → Trees → Option ℕ
  gathered_count sizes of_all sign none = Some (truth_count of_all)
  gathered_count sizes of_all sign (more f fs) = gathered of_all (clause_count sizes sign f) (gathered_count sizes of_all sign fs)

-- as many as a list held back at one more than the limit comes to with one more behind it, or multiplied by it
abbrev pub taken : Bool → Option ℕ → Option ℕ → Option ℕ
taken of_all None n = None
taken of_all (Some m) None = None
taken of_all (Some m) (Some n) = Some (min (joined of_all m n) (FORMULA_CLAUSES + 1))
