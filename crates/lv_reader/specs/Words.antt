-- The words and numbers of a line's lexemes, by their places, and what statements have of them.
use Rattle.std.specs.Prelude.{◌≡◌, ℕ, ◌+◌, List, [], ◌∷◌, Bool, true, false, ◌||◌, ◌&&◌, length, drop, nat_eq, nat_le, nat_lt, if◌then◌else◌, Option, Some, None, option_map, codes}
use Rattle.std.specs.Option.{option_and_then, option_map_or}
use Rattle.lv_base.specs.Names.{is_named}
use Rattle.lv_text.specs.declared.lexer.TokenKind.{TokenKind}
use Rattle.lv_text.specs.declared.lexer.TokenKind.TheVariants.{Arrow, Equals, Or, Dot}
use Rattle.lv_text.specs.Lexemes.{Lexeme, word_of, kind_at, word_at, number_at, is_number, says}
use Rattle.lv_formula_text.specs.PhraseTree.{PhraseTree}
use Rattle.lv_formula_text.specs.Grammar.{IsFormula}
use Rattle.lv_reader.specs.declared.words.TheConstants.{OVER_EVERY_LIMIT}
use Rattle.lv_reader.specs.declared.statement.Repair.{Repair}
use Rattle.lv_reader.specs.declared.words.NameAndNames.{NameAndNames}
use Rattle.lv_reader.specs.declared.words.TwoNames.{TwoNames}
use Rattle.lv_reader.specs.declared.words.ThreeNames.{ThreeNames}

abbrev pub is_arrow : TokenKind → Bool
is_arrow Arrow = true
is_arrow kind = false

abbrev pub is_equals : TokenKind → Bool
is_equals Equals = true
is_equals kind = false

abbrev pub is_dot : TokenKind → Bool
is_dot Dot = true
is_dot kind = false

abbrev pub is_or : TokenKind → Bool
is_or Or = true
is_or kind = false

-- the lexeme at this place, counted from 0, has such a kind
abbrev pub has_kind_at : (TokenKind → Bool) → List Lexeme → ℕ → Bool
has_kind_at test line i = option_map_or test (kind_at line i) false

-- the texts of lexemes that are all words
abbrev pub words_of : List Lexeme → Option (List (List ℕ))
words_of [] = Some []
words_of (l ∷ ls) = option_and_then (λ word. option_map (λ words. word ∷ words) (words_of ls)) (word_of l)

-- a word that names no part and no variable
abbrev pub is_reserved : List ℕ → Bool
is_reserved word = is_named (codes "true") word || (is_named (codes "false") word || is_named (codes "mode") word)

-- the word at this place, if it may name a part or a variable
abbrev pub free_word_at : List Lexeme → ℕ → Option (List ℕ)
free_word_at line i = option_and_then (λ word. if is_reserved word then None else Some word) (word_at line i)

-- a number, or the least over every limit of a number where it is greater: those all are refused alike
abbrev pub capped : Option ℕ → ℕ
capped None = OVER_EVERY_LIMIT
capped (Some n) = if nat_lt n OVER_EVERY_LIMIT then n else OVER_EVERY_LIMIT

abbrev pub numeral_at : List Lexeme → ℕ → Option ℕ
numeral_at line i = if has_kind_at is_number line i then Some (capped (number_at line i)) else None

-- `.. N`
abbrev pub only_numeral : List Lexeme → Option ℕ
only_numeral line = if nat_eq (length line) 2 then numeral_at line 1 else None

-- `.. NAME`
abbrev pub only_name : List Lexeme → Option (List ℕ)
only_name line = if nat_eq (length line) 2 then word_at line 1 else None

-- `.. NAME NAME NAME ..`
abbrev pub name_and_names : List Lexeme → Option NameAndNames
name_and_names line =
    if nat_le 3 (length line)
    then option_and_then (λ n. option_map (λ ns. record { name = n; others = ns }) (words_of (drop 2 line))) (word_at line 1)
    else None

-- `.. NAME NAME`, of which the first may name a variable
abbrev pub two_names : List Lexeme → Option TwoNames
two_names line =
    if nat_eq (length line) 3
    then option_and_then (λ a. option_map (λ b. record { first = a; second = b }) (word_at line 2)) (free_word_at line 1)
    else None

-- `.. NAME NAME NAME`, of which the first may name a part
abbrev pub three_names : List Lexeme → Option ThreeNames
three_names line =
    if nat_eq (length line) 4
    then option_and_then (λ a. option_and_then (λ b. option_map (λ c. record { first = a; second = b; third = c }) (word_at line 3)) (word_at line 2)) (free_word_at line 1)
    else None

-- `.. MODE -> MODE ..`
abbrev pub both_ends : List Lexeme → Option TwoNames
both_ends line =
    if has_kind_at is_arrow line 2
    then option_and_then (λ a. option_map (λ b. record { first = a; second = b }) (word_at line 3)) (word_at line 1)
    else None

abbrev mutual
  -- the names behind the signs `|` that lexemes begin with, as far as these go
  pub alternatives : List Lexeme → Option (List (List ℕ))
  alternatives [] = Some []
  alternatives (sign ∷ ls) = if is_or sign.kind then alternative_first ls else Some []

  -- such a name, and others behind it
  pub alternative_first : List Lexeme → Option (List (List ℕ))
  alternative_first [] = None
  alternative_first (name ∷ ls) = option_and_then (λ n. option_map (λ ns. n ∷ ns) (alternatives ls)) (word_of name)

-- `.. NAME | NAME ..`: a name, and those behind it that may stand in its place
abbrev pub one_or_more : List Lexeme → Option (List (List ℕ))
one_or_more line = alternative_first (drop 1 line)

-- `.. -> MODE ..`
abbrev pub bare_target : List Lexeme → Option (List ℕ)
bare_target line = if has_kind_at is_arrow line 1 then word_at line 2 else None

-- `.. repair CONTROL = VALUE ..` behind the cost of a fault
abbrev pub repair_of : List Lexeme → Option Repair
repair_of line =
    if says (codes "repair") line 6 && has_kind_at is_equals line 8
    then option_and_then (λ c. option_map (λ v. record { control = c; value = v }) (word_at line 9)) (word_at line 7)
    else None

-- `.. PART.CONTROL = VALUE N`
abbrev pub priced_names : List Lexeme → Option ThreeNames
priced_names line =
    if nat_eq (length line) 7 && (has_kind_at is_dot line 2 && has_kind_at is_equals line 4)
    then option_and_then (λ a. option_and_then (λ b. option_map (λ c. record { first = a; second = b; third = c }) (word_at line 5)) (word_at line 3)) (word_at line 1)
    else None

-- the lexemes from this place to the end are a formula with that tree
abbrev pub EndsInFormula : List Lexeme → ℕ → PhraseTree → Type 0
EndsInFormula line i f = IsFormula (drop i line) f

-- they are no formula
pub record EndsInNone (line : List Lexeme) (i : ℕ) : Type 0 where
  pub none : (f : PhraseTree) → EndsInFormula line i f → ⊥

-- from this place on the line has no lexeme, or `when FORMULA`
abbrev pub HasGuard : List Lexeme → ℕ → Option PhraseTree → Type 0
HasGuard line i None = length line ≡ i
HasGuard line i (Some f) = (says (codes "when") line i ≡ true) × EndsInFormula line (i + 1) f

-- it has something else
pub record HasNoGuard (line : List Lexeme) (i : ℕ) : Type 0 where
  pub none : (guard : Option PhraseTree) → HasGuard line i guard → ⊥
