-- What it is to go past the first token, if it is of a kind.
use Rattle.std.specs.Prelude.{◌≡◌, ◌≢◌, ℕ, Bool, true, false, List, ◌∷◌, Option, Some, None}
use Rattle.lv_base.specs.Names.{is_named}
use Rattle.lv_text.specs.declared.lexer.TokenKind.{TokenKind}
use Rattle.lv_text.specs.declared.lexer.TokenKind.TheVariants.{Word}
use Rattle.lv_text.specs.Lexemes.{Lexeme}
use Rattle.lv_formula_text.specs.Connectives.{first_kind}

-- a token of that kind stands first, and the others are left; or none does, and all are
abbrev pub Takes : TokenKind → List Lexeme → Bool → List Lexeme → Type 0
Takes kind ts true rest = (token : Lexeme) × (ts ≡ token ∷ rest) × (token.kind ≡ kind)
Takes kind ts false rest = (rest ≡ ts) × (first_kind ts ≢ Some kind)

-- a word with that text stands first, and the others are left; or none does, and all are
abbrev pub TakesWord : List Lexeme → Option (List ℕ) → List Lexeme → Type 0
TakesWord ts (Some text) rest = (token : Lexeme) × (ts ≡ token ∷ rest) × (token.kind ≡ Word) × (token.text ≡ text)
TakesWord ts None rest = (rest ≡ ts) × (first_kind ts ≢ Some Word)

-- that word stands first, and the other tokens are left; or it doesn't, and all are
abbrev pub TakesName : List ℕ → List Lexeme → Bool → List Lexeme → Type 0
TakesName text ts true rest = (token : Lexeme) × (ts ≡ token ∷ rest) × (token.kind ≡ Word) × (is_named text token.text ≡ true)
TakesName text ts false rest = (rest ≡ ts) × ((token : Lexeme) (others : List Lexeme) → ts ≡ token ∷ others → token.kind ≡ Word → is_named text token.text ≡ false)
