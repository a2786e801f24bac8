-- What it is to read a text at the head of a list of tokens.
use Rattle.std.specs.Prelude.{ℕ, ◌<◌, List, Option, Some, None}
use Rattle.lv_text.specs.Lexemes.{Lexeme}
use Rattle.lv_formula_text.specs.Connectives.{binding}

module _ {T : Type 0} (IsText : List Lexeme → T → List Lexeme → Type 0) (bound : ℕ) where
  -- a text stands at the head, and what is left behind it doesn't go on with it
  pub record Reads (ts : List Lexeme) (tree : T) (rest : List Lexeme) : Type 0 where
    pub text : IsText ts tree rest
    pub ends : binding rest < bound

  -- no such text stands at the head
  pub record HasNone (ts : List Lexeme) : Type 0 where
    pub refuted : (tree : T) (rest : List Lexeme) → Reads ts tree rest → ⊥

  -- what was found at the head, and what is left behind it; or there is nothing to find
  abbrev pub Finds : List Lexeme → Option T → List Lexeme → Type 0
  Finds ts (Some tree) rest = Reads ts tree rest
  Finds ts None rest = HasNone ts
