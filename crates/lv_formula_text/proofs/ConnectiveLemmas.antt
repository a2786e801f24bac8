-- Operands taken from the end.
use Rattle.std.proofs.Common.{◌≡◌, List, [], ◌∷◌, ◌++◌, refl, ap}
use Rattle.lv_formula_text.specs.declared.connective.Connective.TheVariants.{Equivalence, Implication}
use Rattle.lv_formula_text.specs.PhraseTree.{PhraseTree, implies, iff}
use Rattle.lv_formula_text.specs.Connectives.{joined, nested}

nested_last : (op : PhraseTree → PhraseTree → PhraseTree) (f : PhraseTree) (gs : List PhraseTree) (g h : PhraseTree) → nested op f ((gs ++ g ∷ []) ++ h ∷ []) ≡ nested op f (gs ++ op g h ∷ [])
nested_last op f [] g h = refl
nested_last op f (x ∷ gs) g h = ap (op f) (nested_last op x gs g h)

pub equivalences_last : (fs : List PhraseTree) (g h : PhraseTree) → joined Equivalence ((fs ++ g ∷ []) ++ h ∷ []) ≡ joined Equivalence (fs ++ iff g h ∷ [])
equivalences_last [] g h = refl
equivalences_last (f ∷ fs) g h = nested_last iff f fs g h

pub implications_last : (fs : List PhraseTree) (g h : PhraseTree) → joined Implication ((fs ++ g ∷ []) ++ h ∷ []) ≡ joined Implication (fs ++ implies g h ∷ [])
implications_last [] g h = refl
implications_last (f ∷ fs) g h = nested_last implies f fs g h
