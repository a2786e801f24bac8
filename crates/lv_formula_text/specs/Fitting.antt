-- Scopes whose answers keep to what their variables range over.
use Rattle.std.specs.Prelude.{◌≡◌, ℕ, true, List, Some, Ok}
use Rattle.lv_base.specs.declared.ids.VarId.{VarId}
use Rattle.lv_base.specs.declared.ids.ValId.{ValId}
use Rattle.lv_formula_text.specs.declared.path.Path.{Path}
use Rattle.lv_base.specs.declared.range.Range.{Range}
use Rattle.lv_base.specs.Tree.{Tree}
use Rattle.lv_base.specs.Fits.{has_value, are_alike, fits}
use Rattle.lv_formula_text.specs.PhraseTree.{PhraseTree}
use Rattle.lv_formula_text.specs.Resolving.{Names, resolved}

-- of the variables that paths name: a value named for one is in its range, and two that share a domain range over one
pub record ScopeFits (names : Names) (ranges : List Range) : Type 0 where
  pub values : (path : Path) (x : VarId) (name : List ℕ) (v : ValId) → names.variable path ≡ Some x → names.value x name ≡ Some v → has_value ranges x.0 v.0 ≡ true
  pub domains : (left right : Path) (x y : VarId) → names.variable left ≡ Some x → names.variable right ≡ Some y → names.share_domain x y ≡ true → are_alike ranges x.0 y.0 ≡ true

-- what is resolved in such a scope fits
abbrev pub ResolvedFits : Type 0
ResolvedFits = (names : Names) (ranges : List Range) → ScopeFits names ranges → (phrase : PhraseTree) (f : Tree) → resolved names phrase ≡ Ok f → fits ranges f ≡ true
