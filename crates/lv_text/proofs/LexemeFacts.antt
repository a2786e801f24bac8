-- What a line reads as, with and without the places of its tokens.
use Rattle.std.proofs.Common.{◌≡◌, ℕ, ◌<◌, ◌≤◌, List, [], ◌∷◌, ◌++◌, length, All, refl, sym, ap, ap₂, ◌∙◌, arith, length-append}
use Rattle.lv_base.specs.declared.limits.TheConstants.{LINE_BYTES}
use Rattle.lv_text.specs.declared.lexer.Token.{Token}
use Rattle.lv_text.specs.declared.lexer.TextFault.{TextFault}
use Rattle.lv_text.specs.declared.lexer.TextFault.TheVariants.{LongLine, BadByte, Memory}
use Rattle.lv_text.specs.Kinds.{IsTokenOf}
use Rattle.lv_text.specs.Tokens.{Lexed, lexed, bad_byte, long_line, Tells, all_tokens}
use Rattle.lv_text.specs.Lexemes.{reads, reading_by, lexemes_of, Explains, Lexeme}
use Rattle.std.proofs.lemmas.List.Elements.{All-head, All-tail}
use Rattle.lv_text.proofs.SliceLaws.{text_stays}
use Rattle.lv_text.specs.Laws.{CommentKeepsReading}
use Rattle.lv_text.proofs.TokenLaws.{comment_law, short}
use Rattle.lv_text.proofs.TokenFacts.{all_tokens_each}

-- a fault that tells of the tokens tells of the reading
pub fault_explains : (line : List ℕ) (fault : TextFault) (found : Lexed) → Tells fault found → Explains fault (reading_by line found)
fault_explains line LongLine found h = ap (reading_by line) h
fault_explains line (BadByte place) found h = ap (reading_by line) h
fault_explains line Memory found h = tt

-- the lexemes of tokens of a line, whatever stands behind it
lexemes-more : (line more : List ℕ) (ts : List Token) → All (IsTokenOf line) ts → lexemes_of (line ++ more) ts ≡ lexemes_of line ts
lexemes-more line more [] h = refl
lexemes-more line more (t ∷ ts) h =
    let one : IsTokenOf line t = All-head (IsTokenOf line) t ts h in
    let begins : t.start < t.end = one.begins in
    ap₂ (λ (x : List ℕ) (ls : List Lexeme). record { kind = t.kind; text = x } ∷ ls) (text_stays line more t (omega arith) one.ends)
    (lexemes-more line more ts (All-tail (IsTokenOf line) t ts h))

reading-more : (line more : List ℕ) (found : Lexed) → all_tokens line ≡ found → reading_by (line ++ more) found ≡ reading_by line found
reading-more line more (lexed ts) is = ap reads (lexemes-more line more ts (all_tokens_each line ts is))
reading-more line more (bad_byte place) is = refl
reading-more line more long_line is = refl

pub comment_keeps : CommentKeepsReading
comment_keeps line comment le =
    let less : length line ≤ LINE_BYTES = omega (arith, le, length-append line (35 ∷ comment)) in
    ap (reading_by (line ++ 35 ∷ comment)) (comment_law line comment le ∙ short line less)
    ∙ reading-more line (35 ∷ comment) (all_tokens line) refl
    ∙ ap (reading_by line) (sym (short line less))
