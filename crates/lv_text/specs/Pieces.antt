-- What the rest of a line begins with: a blank, a token of a kind and a length, a fault, or nothing more.
use Rattle.std.specs.Prelude.{ℕ, List, [], ◌∷◌, ◌&&◌, length, nat_eq, nat_lt, if◌then◌else◌, slice_index, codes}
use Rattle.std.specs.List.{prefix_len, starts_with}
use Rattle.lv_text.specs.declared.lexer.TokenKind.TheVariants.{Word, Number, Iff, Implies, Arrow, Equals, Not, And, Or, Open, Close, Dot}
use Rattle.lv_text.specs.declared.lexer.Piece.{Piece}
use Rattle.lv_text.specs.declared.lexer.Piece.TheVariants.{End, Blank, Lexeme, Fault}
use Rattle.lv_text.specs.Bytes.{is_letter, is_digit, is_word_byte, is_blank, is_comment_mark}

-- a number: all the digits, behind which no letter may stand
abbrev pub number_piece : List ℕ → Piece
number_piece rest =
    let digits = prefix_len is_digit rest in
    if nat_lt digits (length rest) && is_letter (slice_index rest digits) then Fault digits else Lexeme Number digits

-- a symbol, the longest that stands there
abbrev pub symbol_piece : List ℕ → Piece
symbol_piece rest =
    if starts_with nat_eq rest (codes "<=>") then Lexeme Iff 3
    else (if starts_with nat_eq rest (codes "=>") then Lexeme Implies 2
    else (if starts_with nat_eq rest (codes "->") then Lexeme Arrow 2
    else (if starts_with nat_eq rest (codes "=") then Lexeme Equals 1
    else (if starts_with nat_eq rest (codes "!") then Lexeme Not 1
    else (if starts_with nat_eq rest (codes "&") then Lexeme And 1
    else (if starts_with nat_eq rest (codes "|") then Lexeme Or 1
    else (if starts_with nat_eq rest (codes "(") then Lexeme Open 1
    else (if starts_with nat_eq rest (codes ")") then Lexeme Close 1
    else (if starts_with nat_eq rest (codes ".") then Lexeme Dot 1
    else Fault 0)))))))))

-- what the rest of a line begins with
abbrev pub piece_of : List ℕ → Piece
piece_of [] = End
piece_of (b ∷ more) =
    if is_comment_mark b then End
    else (if is_blank b then Blank
    else (if is_letter b then Lexeme Word (prefix_len is_word_byte (b ∷ more))
    else (if is_digit b then number_piece (b ∷ more)
    else symbol_piece (b ∷ more))))
