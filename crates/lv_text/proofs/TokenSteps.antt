-- The tokens from a place on, by the piece that stands there.
use Rattle.std.proofs.Common.{◌≡◌, ℕ, zero, suc, ◌+◌, ◌-◌, List, [], ◌∷◌, ◌++◌, length, take, drop, refl, sym, ap, subst, ◌∙◌, arith, append_assoc}
use Rattle.std.proofs.lemmas.List.{drop-drop, take_rest}
use Rattle.lv_text.specs.declared.lexer.Token.{Token}
use Rattle.lv_text.specs.declared.lexer.Piece.{Piece}
use Rattle.lv_text.specs.declared.lexer.Piece.TheVariants.{End, Blank, Lexeme, Fault}
use Rattle.lv_text.specs.Pieces.{piece_of}
use Rattle.lv_text.specs.Kinds.{BeginsWith}
use Rattle.lv_text.specs.Tokens.{Lexed, lexed, bad_byte, long_line, prepended, piece_tokens, tokens_from, tokens_at, tokens_behind, joined}
use Rattle.lv_text.proofs.PieceFacts.{piece_fits}

-- passing over bytes is beginning further on
pub tokens_from-passed : (xs : List ℕ) (place n : ℕ) → tokens_from place n xs ≡ tokens_from (place + n) 0 (drop n xs)
tokens_from-passed [] place zero = refl
tokens_from-passed [] place (suc n) = refl
tokens_from-passed (x ∷ xs) place zero =
    let e : place ≡ place + 0 = omega arith in
    ap (λ k. tokens_from k 0 (x ∷ xs)) e
tokens_from-passed (x ∷ xs) place (suc n) =
    let e : (place + 1) + n ≡ place + suc n = omega arith in
    tokens_from-passed xs (place + 1) n ∙ ap (λ k. tokens_from k 0 (drop n xs)) e

-- a step from the front of a list
front_step : (x : ℕ) (more : List ℕ) (line : List ℕ) (place : ℕ) → ((n : ℕ) → drop n more ≡ drop (place + suc n) line)
    → (p : Piece) → BeginsWith (x ∷ more) p → piece_tokens place p (λ passed. tokens_from (place + 1) passed more) ≡ tokens_behind line place p
front_step x more line place rest End h = refl
front_step x more line place rest Blank h =
    tokens_from-passed more (place + 1) 0 ∙ moved 0
  where
    moved : (n : ℕ) → tokens_from ((place + 1) + n) 0 (drop n more) ≡ tokens_at line (place + suc n)
    moved n =
        let e : (place + 1) + n ≡ place + suc n = omega arith in
        ap (λ k. tokens_from k 0 (drop n more)) e ∙ ap (tokens_from (place + suc n) 0) (rest n)
front_step x more line place rest (Lexeme kind zero) h = absurd (omega (arith, h.0))
front_step x more line place rest (Lexeme kind (suc n)) h =
    let less : suc n - 1 ≡ n = omega arith in
    let e : (place + 1) + n ≡ place + suc n = omega arith in
    ap (prepended _) (ap (λ k. tokens_from (place + 1) k more) less ∙ tokens_from-passed more (place + 1) n
    ∙ ap (λ k. tokens_from k 0 (drop n more)) e ∙ ap (tokens_from (place + suc n) 0) (rest n))
front_step x more line place rest (Fault n) h = refl

step_on : (xs line : List ℕ) (place : ℕ) → ((n : ℕ) → drop n xs ≡ drop (place + n) line) → tokens_from place 0 xs ≡ tokens_behind line place (piece_of xs)
step_on [] line place rest = refl
step_on (x ∷ more) line place rest = front_step x more line place (λ n. rest (suc n)) (piece_of (x ∷ more)) (piece_fits (x ∷ more))

-- the tokens from a place on, by what stands there
pub tokens_at-step : (line : List ℕ) (place : ℕ) → tokens_at line place ≡ tokens_behind line place (piece_of (drop place line))
tokens_at-step line place = step_on (drop place line) line place (λ n. drop-drop n place line)

-- the same, for a piece that was found in a slice of the line
pub piece_tokens_at : (line : List ℕ) (place : ℕ) (p : Piece) → p ≡ piece_of (take (length line - place) (drop place line)) → tokens_at line place ≡ tokens_behind line place p
piece_tokens_at line place p is =
    subst (λ q. tokens_at line place ≡ tokens_behind line place q) (ap piece_of (sym (take_rest line place)) ∙ sym is) (tokens_at-step line place)

pub piece_stands_at : (line : List ℕ) (place : ℕ) (p : Piece) → p ≡ piece_of (take (length line - place) (drop place line)) → BeginsWith (drop place line) p
piece_stands_at line place p is =
    subst (BeginsWith (drop place line)) (ap piece_of (sym (take_rest line place)) ∙ sym is) (piece_fits (drop place line))

pub joined-prepended : (ts : List Token) (t : Token) (found : Lexed) → joined ts (prepended t found) ≡ joined (ts ++ t ∷ []) found
joined-prepended ts t (lexed us) = ap lexed (sym (append_assoc ts (t ∷ []) us))
joined-prepended ts t (bad_byte p) = refl
joined-prepended ts t long_line = refl
