-- Parts of lists of literals.
use Rattle.std.specs.Prelude.{List, [], ◌∷◌}
use Rattle.lv_base.specs.declared.ids.Lit.{Lit}

-- some of the literals, in their order
pub data IsSublist : List Lit → List Lit → Type 0 where
  nothing : IsSublist [] []
  left_out : {core whole : List Lit} (l : Lit) → IsSublist core whole → IsSublist core (l ∷ whole)
  taken : {core whole : List Lit} (l : Lit) → IsSublist core whole → IsSublist (l ∷ core) (l ∷ whole)
