-- Worked examples.
use Rattle.std.specs.Prelude.{◌≡◌, List, [], ◌∷◌, Some, None, codes}
use Rattle.lv_text.specs.declared.lexer.TokenKind.TheVariants.{Implies, Equals, Not, And, Or, Open, Close, Dot}
use Rattle.lv_text.specs.Lexemes.{Lexeme}
use Rattle.lv_formula_text.specs.declared.path.Path.TheVariants.{Own, OfPart}
use Rattle.lv_formula_text.specs.PhraseTree.{PhraseTree, always, never, equals, negation, all, any, implies, none, more}
use Rattle.lv_formula_text.specs.Spacing.{symbol, word}
use Rattle.lv_formula_text.specs.Descent.{phrase_of}

-- `a.b = c & !(d.e = f | true) => false`
abbrev pub example_tokens : List Lexeme
example_tokens =
    word (codes "a") ∷ symbol Dot ∷ word (codes "b") ∷ symbol Equals ∷ word (codes "c") ∷ symbol And ∷ symbol Not
    ∷ symbol Open ∷ word (codes "d") ∷ symbol Dot ∷ word (codes "e") ∷ symbol Equals ∷ word (codes "f") ∷ symbol Or
    ∷ word (codes "true") ∷ symbol Close ∷ symbol Implies ∷ word (codes "false") ∷ []

abbrev pub left_operands : PhraseTree
left_operands =
    all (more (equals (OfPart (codes "a") (codes "b")) (Own (codes "c")))
    (more (negation (any (more (equals (OfPart (codes "d") (codes "e")) (Own (codes "f"))) (more always none)))) none))

pub record Examples : Type 0 where
  pub formula : phrase_of example_tokens ≡ Some (implies left_operands never)
  -- `a.b =`
  pub cut_short : phrase_of (word (codes "a") ∷ symbol Dot ∷ word (codes "b") ∷ symbol Equals ∷ []) ≡ None
  -- `true )`
  pub one_more : phrase_of (word (codes "true") ∷ symbol Close ∷ []) ≡ None
  -- `true = a`, of which the left side is a truth
  pub truth_is_no_name : phrase_of (word (codes "true") ∷ symbol Equals ∷ word (codes "a") ∷ []) ≡ None
