-- What reading a formula answers.
use Rattle.std.specs.Prelude.{◌≡◌, ℕ, true, false, List, drop}
use Rattle.lv_text.specs.Lexemes.{Lexeme}
use Rattle.lv_formula_text.specs.declared.fault.PhraseFault.{PhraseFault}
use Rattle.lv_formula_text.specs.declared.fault.PhraseFault.TheVariants.{TooDeep, Form, Memory}
use Rattle.lv_formula_text.specs.PhraseTree.{PhraseTree}
use Rattle.lv_formula_text.specs.Grammar.{IsFormula}
use Rattle.lv_formula_text.specs.Nesting.{is_too_deep}

-- the line doesn't nest too deep, and its tokens from a place to the end are a formula with that tree
pub record IsReadAs (line : List Lexeme) (place : ℕ) (tree : PhraseTree) : Type 0 where
  pub shallow : is_too_deep line ≡ false
  pub formula : IsFormula (drop place line) tree

-- the line doesn't nest too deep, and its tokens from a place to the end are no formula
pub record IsNone (line : List Lexeme) (place : ℕ) : Type 0 where
  pub shallow : is_too_deep line ≡ false
  pub refuted : (tree : PhraseTree) → IsFormula (drop place line) tree → ⊥

-- why there is no formula; want of memory tells nothing
abbrev pub Explains : List Lexeme → ℕ → PhraseFault → Type 0
Explains line place TooDeep = is_too_deep line ≡ true
Explains line place Form = IsNone line place
Explains line place Memory = Unit {0}
