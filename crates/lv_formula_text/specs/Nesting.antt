-- How deep a line nests. It is counted over all its tokens, whether they are a formula or not.
use Rattle.std.specs.Prelude.{ℕ, ◌+◌, ◌-◌, Bool, true, false, ◌||◌, nat_lt, List, [], ◌∷◌, if◌then◌else◌}
use Rattle.lv_base.specs.declared.limits.TheConstants.{OPEN_PARENTHESES, NESTING_OPERATORS}
use Rattle.lv_text.specs.declared.lexer.TokenKind.{TokenKind}
use Rattle.lv_text.specs.declared.lexer.TokenKind.TheVariants.{Iff, Implies, Not, Open, Close}
use Rattle.lv_text.specs.Lexemes.{Lexeme}

abbrev pub opens : TokenKind → Bool
opens Open = true
opens kind = false

abbrev pub closes : TokenKind → Bool
closes Close = true
closes kind = false

-- an operator that nests without parentheses
abbrev pub nests : TokenKind → Bool
nests Not = true
nests Implies = true
nests Iff = true
nests kind = false

abbrev pub one_if : Bool → ℕ
one_if test = if test then 1 else 0

-- how many tokens are of such a kind
abbrev pub how_many : (TokenKind → Bool) → List Lexeme → ℕ
how_many test [] = 0
how_many test (t ∷ ts) = one_if (test t.kind) + how_many test ts

-- some front of the tokens passes the test, all of them and none of them included
abbrev pub some_front : (List Lexeme → Bool) → List Lexeme → Bool
some_front test [] = test []
some_front test (t ∷ ts) = test [] || some_front (λ front. test (t ∷ front)) ts

-- by how much more parentheses are opened than closed
abbrev pub open_by : List Lexeme → ℕ
open_by front = how_many opens front - how_many closes front

-- at some place too many parentheses are open
abbrev pub is_too_open : List Lexeme → Bool
is_too_open ts = some_front (λ front. nat_lt OPEN_PARENTHESES (open_by front)) ts

-- too many operators nest
abbrev pub nests_too_often : List Lexeme → Bool
nests_too_often ts = nat_lt NESTING_OPERATORS (how_many nests ts)

abbrev pub is_too_deep : List Lexeme → Bool
is_too_deep ts = is_too_open ts || nests_too_often ts
