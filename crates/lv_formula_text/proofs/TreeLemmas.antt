-- The tree of each kind of formula.
use Rattle.std.proofs.Common.{◌≡◌, map, rules, Box, Vec, Global}
use Rattle.lv_formula_text.specs.declared.phrase.Equation.{Equation}
use Rattle.lv_formula_text.specs.declared.phrase.PhraseNode.{PhraseNode, True, False, Equals, Not, And, Or, Implies, Iff, the_lemmas}
use Rattle.lv_formula_text.specs.PhraseTree.{tree_of, trees_of, always, never, equals, negation, all, any, implies, iff}

pub tree_of-True : tree_of True ≡ always
tree_of-True = search (rules, the_lemmas)

pub tree_of-False : tree_of False ≡ never
tree_of-False = search (rules, the_lemmas)

pub tree_of-Equals : (sides : Equation) → tree_of (Equals sides) ≡ equals sides.left sides.right
tree_of-Equals sides = search (rules, the_lemmas)

pub tree_of-Not : (f : Box PhraseNode Global) → tree_of (Not f) ≡ negation (tree_of f.value)
tree_of-Not f = search (rules, the_lemmas)

pub tree_of-And : (fs : Vec PhraseNode Global) → tree_of (And fs) ≡ all (trees_of (map tree_of fs.items))
tree_of-And fs = search (rules, the_lemmas)

pub tree_of-Or : (fs : Vec PhraseNode Global) → tree_of (Or fs) ≡ any (trees_of (map tree_of fs.items))
tree_of-Or fs = search (rules, the_lemmas)

pub tree_of-Implies : (f g : Box PhraseNode Global) → tree_of (Implies f g) ≡ implies (tree_of f.value) (tree_of g.value)
tree_of-Implies f g = search (rules, the_lemmas)

pub tree_of-Iff : (f g : Box PhraseNode Global) → tree_of (Iff f g) ≡ iff (tree_of f.value) (tree_of g.value)
tree_of-Iff f g = search (rules, the_lemmas)
