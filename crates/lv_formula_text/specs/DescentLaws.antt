-- The law of the function to the grammar.
use Rattle.std.specs.Prelude.{◌≡◌, List, Some}
use Rattle.lv_text.specs.Lexemes.{Lexeme}
use Rattle.lv_formula_text.specs.PhraseTree.{PhraseTree}
use Rattle.lv_formula_text.specs.Grammar.{IsFormula}
use Rattle.lv_formula_text.specs.Descent.{phrase_of}

-- the tree answered is the one that the grammar derives
pub record PhraseOfIsFormula : Type 0 where
  pub sound : (ts : List Lexeme) (f : PhraseTree) → phrase_of ts ≡ Some f → IsFormula ts f
  pub complete : (ts : List Lexeme) (f : PhraseTree) → IsFormula ts f → phrase_of ts ≡ Some f
