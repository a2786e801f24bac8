-- The signs of connectives, how tightly they bind, and what operands with a connective between them make.
use Rattle.std.specs.Prelude.{ℕ, zero, suc, List, [], ◌∷◌, Option, Some, None}
use Rattle.lv_text.specs.declared.lexer.TokenKind.{TokenKind}
use Rattle.lv_text.specs.declared.lexer.TokenKind.TheVariants.{Iff, Implies, And, Or}
use Rattle.lv_text.specs.Lexemes.{Lexeme}
use Rattle.lv_formula_text.specs.declared.connective.Connective.{Connective}
use Rattle.lv_formula_text.specs.declared.connective.Connective.TheVariants.{Equivalence, Implication, Disjunction, Conjunction}
use Rattle.lv_formula_text.specs.PhraseTree.{PhraseTree, always, negation, all, any, implies, iff, trees_of}

-- the token that stands between the operands
abbrev pub sign_of : Connective → TokenKind
sign_of Equivalence = Iff
sign_of Implication = Implies
sign_of Disjunction = Or
sign_of Conjunction = And

-- from the loosest to the tightest
abbrev pub level : Connective → ℕ
level Equivalence = 1
level Implication = 2
level Disjunction = 3
level Conjunction = 4

-- operands of which the last two belong together, and these with the one before, and so on
abbrev pub nested : (PhraseTree → PhraseTree → PhraseTree) → PhraseTree → List PhraseTree → PhraseTree
nested op t [] = t
nested op t (u ∷ us) = op t (nested op u us)

-- what operands in written order make; one alone is itself
abbrev pub joined : Connective → List PhraseTree → PhraseTree
joined c [] = always
joined Equivalence (t ∷ ts) = nested iff t ts
joined Implication (t ∷ ts) = nested implies t ts
joined Disjunction (t ∷ []) = t
joined Disjunction (t ∷ u ∷ ts) = any (trees_of (t ∷ u ∷ ts))
joined Conjunction (t ∷ []) = t
joined Conjunction (t ∷ u ∷ ts) = all (trees_of (t ∷ u ∷ ts))

-- so many negations of a formula
abbrev pub negations : ℕ → PhraseTree → PhraseTree
negations zero f = f
negations (suc n) f = negations n (negation f)

-- the kind of the first token
abbrev pub first_kind : List Lexeme → Option TokenKind
first_kind [] = None
first_kind (l ∷ ls) = Some l.kind

-- how tightly a token binds what stands before it to what stands behind it; 0 where it doesn't
abbrev pub tightness : TokenKind → ℕ
tightness Iff = 1
tightness Implies = 2
tightness Or = 3
tightness And = 4
tightness kind = 0

abbrev pub binding_of : Option TokenKind → ℕ
binding_of None = 0
binding_of (Some kind) = tightness kind

-- how tightly the first token binds what stands before it
abbrev pub binding : List Lexeme → ℕ
binding ts = binding_of (first_kind ts)
