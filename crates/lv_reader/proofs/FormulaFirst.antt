-- No formula begins with the sign that stands between names.
use Rattle.std.proofs.Common.{◌≡◌, false, cond, List, [], ◌∷◌, Some, ap, refl, ◌∙◌}
use Rattle.lv_text.specs.declared.lexer.TokenKind.{TokenKind}
use Rattle.lv_text.specs.declared.lexer.TokenKind.TheVariants.{Word, Not, Open}
use Rattle.lv_text.specs.Lexemes.{Lexeme}
use Rattle.lv_formula_text.specs.declared.connective.Connective.{Connective}
use Rattle.lv_formula_text.specs.PhraseTree.{PhraseTree}
use Rattle.lv_formula_text.specs.Grammar.{IsPath, own_word, word_of_part, IsEquation, sides, IsAtom, truth, falsity, equation, IsUnary, negated, enclosed, atomic, IsOperand, implication, disjunction, conjunction, unary, IsChain, alone, followed, IsJoined, joining, IsFormula}
use Rattle.lv_reader.specs.Words.{is_or, alternatives, alternative_first}

first_is : (t : Lexeme) (ls : List Lexeme) (k : TokenKind) → t.kind ≡ k → is_or k ≡ false → alternatives (t ∷ ls) ≡ Some []
first_is t ls k e h = ap (λ b. cond b (alternative_first ls) (Some [])) (ap is_or e ∙ h)

path_first : {ts rest : List Lexeme} {p : _} → IsPath ts p rest → alternatives ts ≡ Some []
path_first (own_word {rest} word is next) = first_is word rest Word is refl
path_first (word_of_part {rest} part dot word is is_dot is_word) = first_is part (dot ∷ word ∷ rest) Word is refl

equation_first : {ts rest : List Lexeme} {f : PhraseTree} → IsEquation ts f rest → alternatives ts ≡ Some []
equation_first (sides left right sign one is other) = path_first one

atom_first : {ts rest : List Lexeme} {f : PhraseTree} → IsAtom ts f rest → alternatives ts ≡ Some []
atom_first (truth {rest} word is named) = first_is word rest Word is refl
atom_first (falsity {rest} word is named) = first_is word rest Word is refl
atom_first (equation plain e) = equation_first e

mutual
  unary_first : {ts rest : List Lexeme} {f : PhraseTree} → IsUnary ts f rest → alternatives ts ≡ Some []
  unary_first (negated {ts} sign is u) = first_is sign ts Not is refl
  unary_first (enclosed {ts} opening closing is ends j) = first_is opening ts Open is refl
  unary_first (atomic a) = atom_first a

  operand_first : {c : Connective} {ts rest : List Lexeme} {f : PhraseTree} → IsOperand c ts f rest → alternatives ts ≡ Some []
  operand_first (implication j) = joined_first j
  operand_first (disjunction j) = joined_first j
  operand_first (conjunction j) = joined_first j
  operand_first (unary u) = unary_first u

  chain_first : {c : Connective} {ts rest : List Lexeme} {fs : List PhraseTree} → IsChain c ts fs rest → alternatives ts ≡ Some []
  chain_first (alone o) = operand_first o
  chain_first (followed sign o is others) = operand_first o

  joined_first : {c : Connective} {ts rest : List Lexeme} {f : PhraseTree} → IsJoined c ts f rest → alternatives ts ≡ Some []
  joined_first (joining fs chain) = chain_first chain

pub no_sign_first : (ts : List Lexeme) (f : PhraseTree) → IsFormula ts f → alternatives ts ≡ Some []
no_sign_first ts f h = joined_first h
