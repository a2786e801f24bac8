-- What a text reads as further on in a line.
use Rattle.std.proofs.Common.{◌≡◌, ℕ, zero, suc, ◌+◌, ◌-◌, List, [], ◌∷◌, refl, sym, ap, ap₂, ◌∙◌, arith}
use Rattle.lv_text.specs.declared.lexer.Token.{Token}
use Rattle.lv_text.specs.declared.lexer.Piece.{Piece}
use Rattle.lv_text.specs.declared.lexer.Piece.TheVariants.{End, Blank, Lexeme, Fault}
use Rattle.lv_text.specs.Pieces.{piece_of}
use Rattle.lv_text.specs.Tokens.{Lexed, lexed, bad_byte, long_line, prepended, piece_tokens, tokens_from, all_tokens}
use Rattle.lv_text.specs.Laws.{moved, moved_token, token_at}

moved-prepended : (k : ℕ) (t : Token) (found : Lexed) → moved k (prepended t found) ≡ prepended (moved_token k t) (moved k found)
moved-prepended k t (lexed ts) = refl
moved-prepended k t (bad_byte p) = refl
moved-prepended k t long_line = refl

further : (k place n : ℕ) → (k + place) + n ≡ k + (place + n)
further k place n = omega arith

-- a piece further on
piece_tokens-moved : (k place : ℕ) (p : Piece) (here there : ℕ → Lexed) → ((n : ℕ) → there n ≡ moved k (here n)) → piece_tokens (k + place) p there ≡ moved k (piece_tokens place p here)
piece_tokens-moved k place End here there later = refl
piece_tokens-moved k place Blank here there later = later 0
piece_tokens-moved k place (Lexeme kind n) here there later =
    ap₂ (λ (e : ℕ) (found : Lexed). prepended (token_at kind (k + place) e) found) (further k place n) (later (n - 1))
    ∙ sym (moved-prepended k (token_at kind place (place + n)) (here (n - 1)))
piece_tokens-moved k place (Fault n) here there later = ap bad_byte (further k place n)

-- the tokens of the same bytes further on
pub tokens_from-moved : (xs : List ℕ) (k place passed : ℕ) → tokens_from (k + place) passed xs ≡ moved k (tokens_from place passed xs)
tokens_from-moved [] k place passed = refl
tokens_from-moved (x ∷ more) k place (suc passed) =
    ap (λ n. tokens_from n passed more) (further k place 1) ∙ tokens_from-moved more k (place + 1) passed
tokens_from-moved (x ∷ more) k place zero =
    piece_tokens-moved k place (piece_of (x ∷ more)) (λ passed. tokens_from (place + 1) passed more) (λ passed. tokens_from ((k + place) + 1) passed more)
    (λ passed. ap (λ n. tokens_from n passed more) (further k place 1) ∙ tokens_from-moved more k (place + 1) passed)

-- the tokens of a whole text further on
pub tokens_from-place : (xs : List ℕ) (place : ℕ) → tokens_from place 0 xs ≡ moved place (all_tokens xs)
tokens_from-place xs place =
    let e : place ≡ place + 0 = omega arith in
    ap (λ n. tokens_from n 0 xs) e ∙ tokens_from-moved xs place 0 0
