-- Tokens of which some pairs of parentheses are left out.
use Rattle.std.specs.Prelude.{◌≡◌, List, ◌∷◌, ◌++◌}
use Rattle.lv_text.specs.declared.lexer.TokenKind.TheVariants.{Open, Close}
use Rattle.lv_text.specs.Lexemes.{Lexeme}
use Rattle.lv_formula_text.specs.Spacing.{symbol}

-- each time an opening parenthesis and a closing one somewhere behind it; nothing else changes
pub data Omits (ts : List Lexeme) : List Lexeme → Type 0 where
  nothing : Omits ts ts
  pair : {us vs : List Lexeme} → (x y z : List Lexeme) → Omits ts us → us ≡ x ++ symbol Open ∷ (y ++ symbol Close ∷ z) → vs ≡ x ++ (y ++ z) → Omits ts vs
