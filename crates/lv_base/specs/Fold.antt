-- The truth of a formula as a fold over the formula itself, which is how the code goes through it. That it is the truth of the
-- formula's tree is a lemma of `proofs/FoldLemmas.antt`.
use Rattle.std.specs.Prelude.{ℕ, ◌+◌, Bool, true, false, nat_eq, nat_lt, not, ◌&&◌, ◌||◌, List, [], ◌∷◌}
use Rattle.lv_base.specs.declared.ids.ValId.{ValId}
use Rattle.lv_base.specs.declared.formula.Formula.{Formula}
use Rattle.lv_base.specs.declared.formula.Formula.TheOpen.{Formula-F, True, False, Is, Same, Not, And, Or, Implies, Iff}
use Rattle.lv_base.specs.declared.formula.Formula.TheFolds.{fold-Formula}
use Rattle.lv_base.specs.declared.range.Range.{Range}
use Rattle.lv_base.specs.Tree.{number_of, both_or_neither}
use Rattle.lv_base.specs.Fits.{has_value, are_alike}

abbrev pub every : List Bool → Bool
every [] = true
every (b ∷ bs) = b && every bs

abbrev pub some : List Bool → Bool
some [] = false
some (b ∷ bs) = b || some bs

abbrev pub truth_step : List ValId → ℕ → Formula-F Bool → Bool
truth_step values base True = true
truth_step values base False = false
truth_step values base (Is x v) = nat_eq (number_of values (base + x.0)) v.0
truth_step values base (Same x y) = nat_eq (number_of values (base + x.0)) (number_of values (base + y.0))
truth_step values base (Not f) = not f.value
truth_step values base (And fs) = every fs.items
truth_step values base (Or fs) = some fs.items
truth_step values base (Implies f g) = not f.value || g.value
truth_step values base (Iff f g) = both_or_neither f.value g.value

abbrev pub is_true_in : List ValId → ℕ → Formula → Bool
is_true_in values base = fold-Formula Bool (truth_step values base)

abbrev pub reads_step : ℕ → ℕ → Formula-F Bool → Bool
reads_step bound base True = true
reads_step bound base False = true
reads_step bound base (Is x v) = nat_lt (base + x.0) bound
reads_step bound base (Same x y) = nat_lt (base + x.0) bound && nat_lt (base + y.0) bound
reads_step bound base (Not f) = f.value
reads_step bound base (And fs) = every fs.items
reads_step bound base (Or fs) = every fs.items
reads_step bound base (Implies f g) = f.value && g.value
reads_step bound base (Iff f g) = f.value && g.value

-- each variable, counted from base, is below the bound
abbrev pub reads_in : ℕ → ℕ → Formula → Bool
reads_in bound base = fold-Formula Bool (reads_step bound base)

abbrev pub fits_step : List Range → Formula-F Bool → Bool
fits_step ranges True = true
fits_step ranges False = true
fits_step ranges (Is x v) = has_value ranges x.0 v.0
fits_step ranges (Same x y) = are_alike ranges x.0 y.0
fits_step ranges (Not f) = f.value
fits_step ranges (And fs) = every fs.items
fits_step ranges (Or fs) = every fs.items
fits_step ranges (Implies f g) = f.value && g.value
fits_step ranges (Iff f g) = f.value && g.value

-- each equation keeps to what its variables range over
abbrev pub fits_in : List Range → Formula → Bool
fits_in ranges = fold-Formula Bool (fits_step ranges)
