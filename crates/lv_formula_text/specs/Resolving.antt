-- A formula whose names are given what they stand for.
use Rattle.std.specs.Prelude.{ℕ, Bool, List, Option, Some, None, Result, Ok, Err, if◌then◌else◌, map, Vec, Box}
use Rattle.std.specs.declared.alloc.Global.{Global}
use Rattle.lv_base.specs.declared.ids.VarId.{VarId}
use Rattle.lv_base.specs.declared.ids.ValId.{ValId}
use Rattle.lv_base.specs.declared.formula.Formula.{Formula}
use Rattle.lv_base.specs.Tree.{Tree, Trees, tree_of, trees_of, always, never, is, same, negation, all, any, implies, iff, none, more}
use Rattle.lv_formula_text.specs.declared.path.Path.{Path}
use Rattle.lv_formula_text.specs.declared.path.Path.TheVariants.{Own, OfPart}
use Rattle.lv_formula_text.specs.declared.resolver.NameFault.{NameFault}
use Rattle.lv_formula_text.specs.declared.resolver.NameFault.TheVariants.{UnknownName, NoFit}
use Rattle.lv_formula_text.specs.PhraseTree as phrase

-- what names stand for
pub record Names : Type 0 where
  pub variable : Path → Option VarId
  pub value : VarId → List ℕ → Option ValId
  pub share_domain : VarId → VarId → Bool

-- what names stand for in a scope
abbrev pub names_of : {S : Type 0} → (S → Path → Option VarId) → (S → VarId → List ℕ → Option ValId) → (S → VarId → VarId → Bool) → S → Names
names_of variable value share_domain scope = record { variable = variable scope; value = value scope; share_domain = share_domain scope }

-- the formula of a result, as its tree
abbrev pub tree_result : Result Formula NameFault → Result Tree NameFault
tree_result (Ok f) = Ok (tree_of f)
tree_result (Err fault) = Err fault

-- the same in a box
abbrev pub boxed_result : Result (Box Formula Global) NameFault → Result Tree NameFault
boxed_result (Ok f) = Ok (tree_of f.value)
boxed_result (Err fault) = Err fault

abbrev pub trees_result : Result (Vec Formula Global) NameFault → Result Trees NameFault
trees_result (Ok fs) = Ok (trees_of (map tree_of fs.items))
trees_result (Err fault) = Err fault

-- the value of a variable's domain that a path names: only a word alone may
abbrev pub value_named : Names → VarId → Path → Option ValId
value_named names x (Own name) = names.value x name
value_named names x (OfPart part name) = None

-- the right side is a value of the left side's domain, else a variable of that domain
abbrev pub right_side : Names → VarId → Option ValId → Option VarId → Result Tree NameFault
right_side names x (Some v) other = Ok (is x.0 v.0)
right_side names x None (Some y) = if names.share_domain x y then Ok (same x.0 y.0) else Err NoFit
right_side names x None None = Err NoFit

-- the left side is a variable
abbrev pub left_side : Names → Option VarId → Path → Result Tree NameFault
left_side names (Some x) right = right_side names x (value_named names x right) (names.variable right)
left_side names None right = Err UnknownName

abbrev pub equation_of : Names → Path → Path → Result Tree NameFault
equation_of names left right = left_side names (names.variable left) right

-- what is made of a result, where it is no fault
abbrev pub on_ok : {A B : Type 0} → Result A NameFault → (A → Result B NameFault) → Result B NameFault
on_ok (Ok x) next = next x
on_ok (Err fault) next = Err fault

abbrev mutual
  -- the formula, or the first fault from the left
  pub resolved : Names → phrase.PhraseTree → Result Tree NameFault
  resolved names phrase.always = Ok always
  resolved names phrase.never = Ok never
  resolved names (phrase.equals l r) = equation_of names l r
  resolved names (phrase.negation f) = on_ok (resolved names f) (λ t. Ok (negation t))
  resolved names (phrase.all fs) = on_ok (resolved_all names fs) (λ ts. Ok (all ts))
  resolved names (phrase.any fs) = on_ok (resolved_all names fs) (λ ts. Ok (any ts))
  resolved names (phrase.implies f g) = on_ok (resolved names f) (λ t. on_ok (resolved names g) (λ u. Ok (implies t u)))
  resolved names (phrase.iff f g) = on_ok (resolved names f) (λ t. on_ok (resolved names g) (λ u. Ok (iff t u)))

  pub resolved_all : Names → phrase.PhraseTrees → Result Trees NameFault
  resolved_all names phrase.none = Ok none
  resolved_all names (phrase.more f fs) = on_ok (resolved names f) (λ t. on_ok (resolved_all names fs) (λ ts. Ok (more t ts)))
