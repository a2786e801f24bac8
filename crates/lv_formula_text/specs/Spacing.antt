-- The text of tokens: one space stands between two neighbours that are words or numbers, and nowhere else.
use Rattle.std.specs.Prelude.{ℕ, Bool, true, false, ◌&&◌, List, [], ◌∷◌, ◌++◌, if◌then◌else◌, codes}
use Rattle.lv_text.specs.declared.lexer.TokenKind.{TokenKind}
use Rattle.lv_text.specs.declared.lexer.TokenKind.TheVariants.{Word, Number, Iff, Implies, Arrow, Equals, Not, And, Or, Open, Close, Dot}
use Rattle.lv_text.specs.Lexemes.{Lexeme}

abbrev pub is_wordlike : TokenKind → Bool
is_wordlike Word = true
is_wordlike Number = true
is_wordlike kind = false

abbrev pub symbol_text : TokenKind → List ℕ
symbol_text Word = []
symbol_text Number = []
symbol_text Iff = codes "<=>"
symbol_text Implies = codes "=>"
symbol_text Arrow = codes "->"
symbol_text Equals = codes "="
symbol_text Not = codes "!"
symbol_text And = codes "&"
symbol_text Or = codes "|"
symbol_text Open = codes "("
symbol_text Close = codes ")"
symbol_text Dot = codes "."

-- the token of a symbol
abbrev pub symbol : TokenKind → Lexeme
symbol kind = record { kind = kind; text = symbol_text kind }

-- the token of a word
abbrev pub word : List ℕ → Lexeme
word text = record { kind = Word; text = text }

-- the text of tokens, behind a word or not
abbrev pub spaced : Bool → List Lexeme → List ℕ
spaced after_word [] = []
spaced after_word (t ∷ ts) = (if after_word && is_wordlike t.kind then codes " " else []) ++ (t.text ++ spaced (is_wordlike t.kind) ts)

-- whether the last token is a word or a number; what stood before where there is none
abbrev pub ends_in_word : Bool → List Lexeme → Bool
ends_in_word after_word [] = after_word
ends_in_word after_word (t ∷ ts) = ends_in_word (is_wordlike t.kind) ts

-- a text that ends in a word or not, and these tokens behind it
abbrev pub written : List Lexeme → List ℕ × Bool → List ℕ × Bool
written ts w = (w.0 ++ spaced w.1 ts, ends_in_word w.1 ts)
