-- The grammar of formulas. Each relation says that a text of its kind stands at the head of a list of tokens, which tree it has,
-- and what stands behind it.
--
--     formula     := implication | implication "<=>" formula
--     implication := disjunction | disjunction "=>" implication
--     disjunction := conjunction ("|" conjunction)*
--     conjunction := unary ("&" unary)*
--     unary       := "!" unary | "(" formula ")" | "true" | "false" | path "=" path
--     path        := Word | Word "." Word
use Rattle.std.specs.Prelude.{◌≡◌, ◌≢◌, Some, Bool, true, false, ◌||◌, List, [], ◌∷◌, codes}
use Rattle.lv_base.specs.Names.{is_named}
use Rattle.lv_text.specs.declared.lexer.TokenKind.TheVariants.{Word, Equals, Not, Open, Close, Dot}
use Rattle.lv_text.specs.Lexemes.{Lexeme}
use Rattle.lv_formula_text.specs.declared.path.Path.{Path}
use Rattle.lv_formula_text.specs.declared.path.Path.TheVariants.{Own, OfPart}
use Rattle.lv_formula_text.specs.declared.connective.Connective.{Connective}
use Rattle.lv_formula_text.specs.declared.connective.Connective.TheVariants.{Equivalence, Implication, Disjunction, Conjunction}
use Rattle.lv_formula_text.specs.PhraseTree.{PhraseTree, always, never, equals, negation}
use Rattle.lv_formula_text.specs.Connectives.{sign_of, joined, first_kind}

-- behind a word alone no dot stands: it would go on with the path
pub data IsPath : List Lexeme → Path → List Lexeme → Type 0 where
  own_word : {rest : List Lexeme} → (word : Lexeme) → word.kind ≡ Word → first_kind rest ≢ Some Dot → IsPath (word ∷ rest) (Own word.text) rest
  word_of_part : {rest : List Lexeme} → (part dot word : Lexeme) → part.kind ≡ Word → dot.kind ≡ Dot → word.kind ≡ Word
      → IsPath (part ∷ dot ∷ word ∷ rest) (OfPart part.text word.text) rest

-- two paths with `=` between them
pub data IsEquation : List Lexeme → PhraseTree → List Lexeme → Type 0 where
  sides : {ts us rest : List Lexeme} → (left right : Path) (sign : Lexeme) → IsPath ts left (sign ∷ us) → sign.kind ≡ Equals → IsPath us right rest
      → IsEquation ts (equals left right) rest

-- the first token is a truth, with which no equation begins
abbrev pub begins_with_truth : List Lexeme → Bool
begins_with_truth [] = false
begins_with_truth (word ∷ ts) = is_named (codes "true") word.text || is_named (codes "false") word.text

-- a truth, or an equation of which the left side doesn't begin with one
pub data IsAtom : List Lexeme → PhraseTree → List Lexeme → Type 0 where
  truth : {rest : List Lexeme} → (word : Lexeme) → word.kind ≡ Word → is_named (codes "true") word.text ≡ true → IsAtom (word ∷ rest) always rest
  falsity : {rest : List Lexeme} → (word : Lexeme) → word.kind ≡ Word → is_named (codes "false") word.text ≡ true → IsAtom (word ∷ rest) never rest
  equation : {ts rest : List Lexeme} {f : PhraseTree} → begins_with_truth ts ≡ false → IsEquation ts f rest → IsAtom ts f rest

mutual
  pub data IsUnary : List Lexeme → PhraseTree → List Lexeme → Type 0 where
    negated : {ts rest : List Lexeme} {f : PhraseTree} → (sign : Lexeme) → sign.kind ≡ Not → IsUnary ts f rest → IsUnary (sign ∷ ts) (negation f) rest
    enclosed : {ts rest : List Lexeme} {f : PhraseTree} → (opening closing : Lexeme) → opening.kind ≡ Open → closing.kind ≡ Close
        → IsJoined Equivalence ts f (closing ∷ rest) → IsUnary (opening ∷ ts) f rest
    atomic : {ts rest : List Lexeme} {f : PhraseTree} → IsAtom ts f rest → IsUnary ts f rest

  -- what stands between two signs of a connective
  pub data IsOperand : Connective → List Lexeme → PhraseTree → List Lexeme → Type 0 where
    implication : {ts rest : List Lexeme} {f : PhraseTree} → IsJoined Implication ts f rest → IsOperand Equivalence ts f rest
    disjunction : {ts rest : List Lexeme} {f : PhraseTree} → IsJoined Disjunction ts f rest → IsOperand Implication ts f rest
    conjunction : {ts rest : List Lexeme} {f : PhraseTree} → IsJoined Conjunction ts f rest → IsOperand Disjunction ts f rest
    unary : {ts rest : List Lexeme} {f : PhraseTree} → IsUnary ts f rest → IsOperand Conjunction ts f rest

  -- one or more operands with the connective's sign between them, in written order
  pub data IsChain : Connective → List Lexeme → List PhraseTree → List Lexeme → Type 0 where
    alone : {c : Connective} {ts rest : List Lexeme} {f : PhraseTree} → IsOperand c ts f rest → IsChain c ts (f ∷ []) rest
    followed : {c : Connective} {ts us rest : List Lexeme} {f : PhraseTree} {gs : List PhraseTree} → (sign : Lexeme) → IsOperand c ts f (sign ∷ us)
        → sign.kind ≡ sign_of c → IsChain c us gs rest → IsChain c ts (f ∷ gs) rest

  -- what such operands make
  pub data IsJoined : Connective → List Lexeme → PhraseTree → List Lexeme → Type 0 where
    joining : {c : Connective} {ts rest : List Lexeme} → (fs : List PhraseTree) → IsChain c ts fs rest → IsJoined c ts (joined c fs) rest

-- all the tokens are a formula with that tree
abbrev pub IsFormula : List Lexeme → PhraseTree → Type 0
IsFormula ts f = IsJoined Equivalence ts f []
