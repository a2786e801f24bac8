-- The canonical text of a formula: parentheses stand where the tree can't be read without them, and nowhere else.
use Rattle.std.specs.Prelude.{ℕ, ◌+◌, Bool, false, nat_lt, List, [], ◌∷◌, ◌++◌, if◌then◌else◌, codes}
use Rattle.lv_text.specs.declared.lexer.TokenKind.TheVariants.{Equals, Not, Open, Close, Dot}
use Rattle.lv_text.specs.Lexemes.{Lexeme}
use Rattle.lv_formula_text.specs.declared.path.Path.{Path}
use Rattle.lv_formula_text.specs.declared.path.Path.TheVariants.{Own, OfPart}
use Rattle.lv_formula_text.specs.declared.connective.Connective.{Connective}
use Rattle.lv_formula_text.specs.declared.connective.Connective.TheVariants.{Equivalence, Implication, Disjunction, Conjunction}
use Rattle.lv_formula_text.specs.PhraseTree.{PhraseTree, PhraseTrees, always, never, equals, negation, all, any, implies, iff, none, more}
use Rattle.lv_formula_text.specs.Connectives.{sign_of, level}
use Rattle.lv_formula_text.specs.Spacing.{symbol, word, spaced}

abbrev pub path_tokens : Path → List Lexeme
path_tokens (Own name) = word name ∷ []
path_tokens (OfPart part name) = word part ∷ symbol Dot ∷ word name ∷ []

-- the level of a formula's outermost connective; what has none binds most tightly
abbrev pub level_of : PhraseTree → ℕ
level_of (iff f g) = level Equivalence
level_of (implies f g) = level Implication
level_of (any fs) = level Disjunction
level_of (all fs) = level Conjunction
level_of f = 5

-- in parentheses, if it binds less tightly than its place asks for
abbrev pub enclosed : ℕ → PhraseTree → List Lexeme → List Lexeme
enclosed bound f ts = if nat_lt (level_of f) bound then symbol Open ∷ (ts ++ symbol Close ∷ []) else ts

abbrev mutual
  pub tokens_of : PhraseTree → List Lexeme
  tokens_of always = word (codes "true") ∷ []
  tokens_of never = word (codes "false") ∷ []
  tokens_of (equals l r) = path_tokens l ++ symbol Equals ∷ path_tokens r
  tokens_of (negation f) = symbol Not ∷ enclosed 5 f (tokens_of f)
  tokens_of (all fs) = operand_tokens Conjunction fs
  tokens_of (any fs) = operand_tokens Disjunction fs
  tokens_of (implies f g) = enclosed (level Implication + 1) f (tokens_of f) ++ symbol (sign_of Implication) ∷ enclosed (level Implication) g (tokens_of g)
  tokens_of (iff f g) = enclosed (level Equivalence + 1) f (tokens_of f) ++ symbol (sign_of Equivalence) ∷ enclosed (level Equivalence) g (tokens_of g)

  -- operands with the connective's sign between them
  pub operand_tokens : Connective → PhraseTrees → List Lexeme
  operand_tokens c none = []
  operand_tokens c (more f fs) = enclosed (level c + 1) f (tokens_of f) ++ further_tokens c fs

  -- further operands, each behind the sign
  pub further_tokens : Connective → PhraseTrees → List Lexeme
  further_tokens c none = []
  further_tokens c (more f fs) = symbol (sign_of c) ∷ (enclosed (level c + 1) f (tokens_of f) ++ further_tokens c fs)

-- what stands before an operand
abbrev pub sign_before : Connective → Bool → List Lexeme
sign_before c is_first = if is_first then [] else symbol (sign_of c) ∷ []

abbrev pub canonical_text : PhraseTree → List ℕ
canonical_text f = spaced false (tokens_of f)
