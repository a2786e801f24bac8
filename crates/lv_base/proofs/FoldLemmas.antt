-- A formula's truth by the fold is that of its tree, and so is what it reads and whether it fits.
use Rattle.std.proofs.Common.{◌≡◌, ℕ, Bool, not, ◌&&◌, ◌||◌, List, [], ◌∷◌, map, refl, ap, ap₂, subst}
use Rattle.lv_base.specs.declared.ids.ValId.{ValId}
use Rattle.lv_base.specs.declared.formula.Formula.{Formula, roll-Formula}
use Rattle.lv_base.specs.declared.formula.Formula.TheOpen.{Formula-F, True, False, Is, Same, Not, And, Or, Implies, Iff}
use Rattle.lv_base.specs.declared.formula.Formula.TheFolds.{map-Formula, ind-Formula, fold-roll-Formula}
use Rattle.lv_base.specs.Tree.{Tree, tree_step, tree_of, trees_of, truth_of, all_true, some_true, reads_below, each_reads_below, both_or_neither}
use Rattle.lv_base.specs.declared.range.Range.{Range}
use Rattle.lv_base.specs.Fits.{fits, each_fits}
use Rattle.lv_base.specs.Fold.{every, some, truth_step, is_true_in, reads_step, reads_in, fits_step, fits_in}

module _ (values : List ValId) (base : ℕ) (E : Type 0) (v : E → Formula) (same_truth : (e : E) → truth_of values base (tree_of (v e)) ≡ is_true_in values base (v e)) where
  all_as_every : (es : List E) → all_true values base (trees_of (map tree_of (map v es))) ≡ every (map (is_true_in values base) (map v es))
  all_as_every [] = refl
  all_as_every (e ∷ es) = ap₂ (λ (p q : Bool). p && q) (same_truth e) (all_as_every es)

  any_as_some : (es : List E) → some_true values base (trees_of (map tree_of (map v es))) ≡ some (map (is_true_in values base) (map v es))
  any_as_some [] = refl
  any_as_some (e ∷ es) = ap₂ (λ (p q : Bool). p || q) (same_truth e) (any_as_some es)

  truth_layer : (y : Formula-F E) → truth_of values base (tree_step (map-Formula Formula Tree tree_of (map-Formula E Formula v y))) ≡ truth_step values base (map-Formula Formula Bool (is_true_in values base) (map-Formula E Formula v y))
  truth_layer True = refl
  truth_layer False = refl
  truth_layer (Is x w) = refl
  truth_layer (Same x w) = refl
  truth_layer (Not f) = ap not (same_truth f.value)
  truth_layer (And fs) = all_as_every fs.items
  truth_layer (Or fs) = any_as_some fs.items
  truth_layer (Implies f g) = ap₂ (λ (p q : Bool). not p || q) (same_truth f.value) (same_truth g.value)
  truth_layer (Iff f g) = ap₂ both_or_neither (same_truth f.value) (same_truth g.value)

pub truth_of-tree_of : (values : List ValId) (base : ℕ) (f : Formula) → truth_of values base (tree_of f) ≡ is_true_in values base f
truth_of-tree_of values base =
    ind-Formula (λ f. truth_of values base (tree_of f) ≡ is_true_in values base f)
    (λ x y is.
    subst (λ z. truth_of values base (tree_of (roll-Formula z)) ≡ is_true_in values base (roll-Formula z)) is
    (rw (fold-roll-Formula Tree tree_step, fold-roll-Formula Bool (truth_step values base)) (truth_layer values base _ (λ e. e.0) (λ e. e.1) y)))

module _ (bound base : ℕ) (E : Type 0) (v : E → Formula) (same_reads : (e : E) → reads_below bound base (tree_of (v e)) ≡ reads_in bound base (v e)) where
  each_as_every : (es : List E) → each_reads_below bound base (trees_of (map tree_of (map v es))) ≡ every (map (reads_in bound base) (map v es))
  each_as_every [] = refl
  each_as_every (e ∷ es) = ap₂ (λ (p q : Bool). p && q) (same_reads e) (each_as_every es)

  reads_layer : (y : Formula-F E) → reads_below bound base (tree_step (map-Formula Formula Tree tree_of (map-Formula E Formula v y))) ≡ reads_step bound base (map-Formula Formula Bool (reads_in bound base) (map-Formula E Formula v y))
  reads_layer True = refl
  reads_layer False = refl
  reads_layer (Is x w) = refl
  reads_layer (Same x w) = refl
  reads_layer (Not f) = same_reads f.value
  reads_layer (And fs) = each_as_every fs.items
  reads_layer (Or fs) = each_as_every fs.items
  reads_layer (Implies f g) = ap₂ (λ (p q : Bool). p && q) (same_reads f.value) (same_reads g.value)
  reads_layer (Iff f g) = ap₂ (λ (p q : Bool). p && q) (same_reads f.value) (same_reads g.value)

pub reads_below-tree_of : (bound base : ℕ) (f : Formula) → reads_below bound base (tree_of f) ≡ reads_in bound base f
reads_below-tree_of bound base =
    ind-Formula (λ f. reads_below bound base (tree_of f) ≡ reads_in bound base f)
    (λ x y is.
    subst (λ z. reads_below bound base (tree_of (roll-Formula z)) ≡ reads_in bound base (roll-Formula z)) is
    (rw (fold-roll-Formula Tree tree_step, fold-roll-Formula Bool (reads_step bound base)) (reads_layer bound base _ (λ e. e.0) (λ e. e.1) y)))

module _ (ranges : List Range) (E : Type 0) (v : E → Formula) (same_fits : (e : E) → fits ranges (tree_of (v e)) ≡ fits_in ranges (v e)) where
  fits_as_every : (es : List E) → each_fits ranges (trees_of (map tree_of (map v es))) ≡ every (map (fits_in ranges) (map v es))
  fits_as_every [] = refl
  fits_as_every (e ∷ es) = ap₂ (λ (p q : Bool). p && q) (same_fits e) (fits_as_every es)

  fits_layer : (y : Formula-F E) → fits ranges (tree_step (map-Formula Formula Tree tree_of (map-Formula E Formula v y))) ≡ fits_step ranges (map-Formula Formula Bool (fits_in ranges) (map-Formula E Formula v y))
  fits_layer True = refl
  fits_layer False = refl
  fits_layer (Is x w) = refl
  fits_layer (Same x w) = refl
  fits_layer (Not f) = same_fits f.value
  fits_layer (And fs) = fits_as_every fs.items
  fits_layer (Or fs) = fits_as_every fs.items
  fits_layer (Implies f g) = ap₂ (λ (p q : Bool). p && q) (same_fits f.value) (same_fits g.value)
  fits_layer (Iff f g) = ap₂ (λ (p q : Bool). p && q) (same_fits f.value) (same_fits g.value)

pub fits-tree_of : (ranges : List Range) (f : Formula) → fits ranges (tree_of f) ≡ fits_in ranges f
fits-tree_of ranges =
    ind-Formula (λ f. fits ranges (tree_of f) ≡ fits_in ranges f)
    (λ x y is.
    subst (λ z. fits ranges (tree_of (roll-Formula z)) ≡ fits_in ranges (roll-Formula z)) is
    (rw (fold-roll-Formula Tree tree_step, fold-roll-Formula Bool (fits_step ranges)) (fits_layer ranges _ (λ e. e.0) (λ e. e.1) y)))
