-- A formula with names as written, as clauses see it.
use Rattle.std.specs.Prelude.{List, [], ◌∷◌, Box}
use Rattle.std.specs.declared.alloc.Global.{Global}
use Rattle.lv_formula_text.specs.declared.path.Path.{Path}
use Rattle.lv_formula_text.specs.declared.phrase.PhraseNode.{PhraseNode}
use Rattle.lv_formula_text.specs.declared.phrase.PhraseNode.TheOpen.{PhraseNode-F, True, False, Equals, Not, And, Or, Implies, Iff}
use Rattle.lv_formula_text.specs.declared.phrase.PhraseNode.TheFolds.{fold-PhraseNode}

mutual
  pub data PhraseTree : Type 0 where
    always : PhraseTree
    never : PhraseTree
    equals : Path → Path → PhraseTree
    negation : PhraseTree → PhraseTree
    all : PhraseTrees → PhraseTree
    any : PhraseTrees → PhraseTree
    implies : PhraseTree → PhraseTree → PhraseTree
    iff : PhraseTree → PhraseTree → PhraseTree

  -- operands in written order
  pub data PhraseTrees : Type 0 where
    none : PhraseTrees
    more : PhraseTree → PhraseTrees → PhraseTrees

abbrev pub trees_of : List PhraseTree → PhraseTrees
trees_of [] = none
trees_of (t ∷ ts) = more t (trees_of ts)

abbrev pub tree_step : PhraseNode-F PhraseTree → PhraseTree
tree_step True = always
tree_step False = never
tree_step (Equals sides) = equals sides.left sides.right
tree_step (Not f) = negation f.value
tree_step (And fs) = all (trees_of fs.items)
tree_step (Or fs) = any (trees_of fs.items)
tree_step (Implies f g) = implies f.value g.value
tree_step (Iff f g) = iff f.value g.value

-- the formula without the room of its vectors
abbrev pub tree_of : PhraseNode → PhraseTree
tree_of = fold-PhraseNode PhraseTree tree_step

-- the formula in a box
abbrev pub tree_in : Box PhraseNode Global → PhraseTree
tree_in node = tree_of node.value
