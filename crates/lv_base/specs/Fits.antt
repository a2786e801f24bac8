-- What a variable ranges over, and the formulas whose equations keep to that.
use Rattle.std.specs.Prelude.{ℕ, Bool, true, false, nat_eq, nat_lt, ◌&&◌, List, slice_get}
use Rattle.std.specs.Option.{option_map_or}
use Rattle.lv_base.specs.declared.range.Sort.{Sort}
use Rattle.lv_base.specs.declared.range.Sort.TheVariants.{Modes, Values}
use Rattle.lv_base.specs.declared.range.Range.{Range}
use Rattle.lv_base.specs.Tree.{Tree, always, never, is, same, negation, all, any, implies, iff, Trees, none, more}

abbrev pub is_same_sort : Sort → Sort → Bool
is_same_sort (Modes a) (Modes b) = nat_eq a b
is_same_sort (Values a) (Values b) = nat_eq a b
is_same_sort _ _ = false

-- the variable is there, and has a value of this number
abbrev pub has_value : List Range → ℕ → ℕ → Bool
has_value ranges x v = option_map_or (λ (r : Range). nat_lt v r.size) (slice_get ranges x) false

-- both variables are there, and range over one domain
abbrev pub are_alike : List Range → ℕ → ℕ → Bool
are_alike ranges x y =
    option_map_or (λ (r : Range). option_map_or (λ (s : Range). is_same_sort r.sort s.sort) (slice_get ranges y) false) (slice_get ranges x) false

abbrev mutual
  -- each equation compares a variable with one of its values, or two variables of one domain
  pub fits : List Range → Tree → Bool
  fits ranges always = true
  fits ranges never = true
  fits ranges (is x v) = has_value ranges x v
  fits ranges (same x y) = are_alike ranges x y
  fits ranges (negation f) = fits ranges f
  fits ranges (all fs) = each_fits ranges fs
  fits ranges (any fs) = each_fits ranges fs
  fits ranges (implies f g) = fits ranges f && fits ranges g
  fits ranges (iff f g) = fits ranges f && fits ranges g

  pub each_fits : List Range → Trees → Bool
  each_fits ranges none = true
  each_fits ranges (more f fs) = fits ranges f && each_fits ranges fs
