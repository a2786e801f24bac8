-- A formula as clauses see it, and its truth.
use Rattle.std.specs.Prelude.{ℕ, ◌+◌, Bool, true, false, nat_eq, nat_lt, not, ◌&&◌, ◌||◌, List, [], ◌∷◌, slice_index_or}
use Rattle.lv_base.specs.declared.ids.ValId.{ValId}
use Rattle.lv_base.specs.declared.formula.Formula.{Formula}
use Rattle.lv_base.specs.declared.formula.Formula.TheOpen.{Formula-F, True, False, Is, Same, Not, And, Or, Implies, Iff}
use Rattle.lv_base.specs.declared.formula.Formula.TheFolds.{fold-Formula}

mutual
  pub data Tree : Type 0 where
    always : Tree
    never : Tree
    is : ℕ → ℕ → Tree
    same : ℕ → ℕ → Tree
    negation : Tree → Tree
    all : Trees → Tree
    any : Trees → Tree
    implies : Tree → Tree → Tree
    iff : Tree → Tree → Tree

  -- operands in written order
  pub data Trees : Type 0 where
    none : Trees
    more : Tree → Trees → Trees

abbrev pub trees_of : List Tree → Trees
trees_of [] = none
trees_of (t ∷ ts) = more t (trees_of ts)

abbrev pub tree_step : Formula-F Tree → Tree
tree_step True = always
tree_step False = never
tree_step (Is x v) = is x.0 v.0
tree_step (Same x y) = same x.0 y.0
tree_step (Not f) = negation f.value
tree_step (And fs) = all (trees_of fs.items)
tree_step (Or fs) = any (trees_of fs.items)
tree_step (Implies f g) = implies f.value g.value
tree_step (Iff f g) = iff f.value g.value

-- the formula without the room of its vectors
abbrev pub tree_of : Formula → Tree
tree_of = fold-Formula Tree tree_step

-- the value that an assignment gives to a variable
abbrev pub value_of : List ValId → ℕ → ValId
value_of values x = slice_index_or values x (record { 0 = 0 })

abbrev pub number_of : List ValId → ℕ → ℕ
number_of values x = (value_of values x).0

abbrev pub both_or_neither : Bool → Bool → Bool
both_or_neither true b = b
both_or_neither false b = not b

abbrev mutual
  -- truth where variable x has the value at base + x
  pub truth_of : List ValId → ℕ → Tree → Bool
  truth_of values base always = true
  truth_of values base never = false
  truth_of values base (is x v) = nat_eq (number_of values (base + x)) v
  truth_of values base (same x y) = nat_eq (number_of values (base + x)) (number_of values (base + y))
  truth_of values base (negation f) = not (truth_of values base f)
  truth_of values base (all fs) = all_true values base fs
  truth_of values base (any fs) = some_true values base fs
  truth_of values base (implies f g) = not (truth_of values base f) || truth_of values base g
  truth_of values base (iff f g) = both_or_neither (truth_of values base f) (truth_of values base g)

  pub all_true : List ValId → ℕ → Trees → Bool
  all_true values base none = true
  all_true values base (more f fs) = truth_of values base f && all_true values base fs

  pub some_true : List ValId → ℕ → Trees → Bool
  some_true values base none = false
  some_true values base (more f fs) = truth_of values base f || some_true values base fs

abbrev mutual
  -- each variable, counted from base, is below the bound
  pub reads_below : ℕ → ℕ → Tree → Bool
  reads_below bound base always = true
  reads_below bound base never = true
  reads_below bound base (is x v) = nat_lt (base + x) bound
  reads_below bound base (same x y) = nat_lt (base + x) bound && nat_lt (base + y) bound
  reads_below bound base (negation f) = reads_below bound base f
  reads_below bound base (all fs) = each_reads_below bound base fs
  reads_below bound base (any fs) = each_reads_below bound base fs
  reads_below bound base (implies f g) = reads_below bound base f && reads_below bound base g
  reads_below bound base (iff f g) = reads_below bound base f && reads_below bound base g

  pub each_reads_below : ℕ → ℕ → Trees → Bool
  each_reads_below bound base none = true
  each_reads_below bound base (more f fs) = reads_below bound base f && each_reads_below bound base fs
