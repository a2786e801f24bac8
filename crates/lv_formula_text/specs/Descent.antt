-- The tree that tokens have, as a function: the grammar of formulas read from the left. The grammar stays the definition;
-- that this function answers exactly what it derives is a law.
--
-- Each function reads a text of its kind at the head of a list of tokens, and answers what was read and what stands
-- behind it; none where no such text stands there.
use Rattle.std.specs.Prelude.{ℕ, zero, suc, ◌+◌, nat_eq, Bool, true, false, if◌then◌else◌, List, [], ◌∷◌, length, drop, codes, Option, Some, None}
use Rattle.std.specs.Option.{option_and_then}
use Rattle.lv_base.specs.Names.{is_named}
use Rattle.lv_text.specs.declared.lexer.TokenKind.{TokenKind}
use Rattle.lv_text.specs.declared.lexer.TokenKind.TheVariants.{Word, Number, Iff, Implies, Arrow, Equals, Not, And, Or, Open, Close, Dot}
use Rattle.lv_text.specs.Lexemes.{Lexeme, is_word}
use Rattle.lv_formula_text.specs.declared.path.Path.{Path}
use Rattle.lv_formula_text.specs.declared.path.Path.TheVariants.{Own, OfPart}
use Rattle.lv_formula_text.specs.declared.connective.Connective.{Connective}
use Rattle.lv_formula_text.specs.declared.connective.Connective.TheVariants.{Equivalence, Implication, Disjunction, Conjunction}
use Rattle.lv_formula_text.specs.PhraseTree.{PhraseTree, always, never, equals, negation}
use Rattle.lv_formula_text.specs.Connectives.{sign_of, joined}

-- what was read, and the tokens behind it
pub record Parsed (T : Type 0) : Type 0 where
  pub read : T
  pub rest : List Lexeme

abbrev pub parsed : {T : Type 0} → T → List Lexeme → Option (Parsed T)
parsed read rest = Some (record { read = read; rest = rest })

-- what is made of it, with the same tokens behind it
abbrev pub read_as : {T U : Type 0} → (T → U) → Option (Parsed T) → Option (Parsed U)
read_as make None = None
read_as make (Some p) = parsed (make p.read) p.rest

abbrev pub Parser : Type 0 → Type 0
Parser T = List Lexeme → Option (Parsed T)

-- both are the same kind
abbrev pub is_kind : TokenKind → TokenKind → Bool
is_kind Word Word = true
is_kind Number Number = true
is_kind Iff Iff = true
is_kind Implies Implies = true
is_kind Arrow Arrow = true
is_kind Equals Equals = true
is_kind Not Not = true
is_kind And And = true
is_kind Or Or = true
is_kind Open Open = true
is_kind Close Close = true
is_kind Dot Dot = true
is_kind kind other = false

abbrev pub begins_with : TokenKind → List Lexeme → Bool
begins_with kind [] = false
begins_with kind (t ∷ ts) = is_kind kind t.kind

-- what a parser reads behind a token of that kind
abbrev pub behind : {T : Type 0} → TokenKind → Parser T → Parser T
behind kind parser ts = if begins_with kind ts then parser (drop 1 ts) else None

abbrev pub word : Parser (List ℕ)
word [] = None
word (t ∷ ts) = if is_word t.kind then parsed t.text ts else None

-- a word; where a dot stands behind it, a second word behind the dot
abbrev pub path_from : Parsed (List ℕ) → Option (Parsed Path)
path_from first =
    if begins_with Dot first.rest
    then read_as (OfPart first.read) (word (drop 1 first.rest))
    else parsed (Own first.read) first.rest

abbrev pub path : Parser Path
path ts = option_and_then path_from (word ts)

-- two paths with `=` between them
abbrev pub equation_from : Parsed Path → Option (Parsed PhraseTree)
equation_from left = read_as (equals left.read) (behind Equals path left.rest)

abbrev pub equation : Parser PhraseTree
equation ts = option_and_then equation_from (path ts)

-- a truth, or else an equation
abbrev pub atom_from : List Lexeme → Parsed (List ℕ) → Option (Parsed PhraseTree)
atom_from ts first =
    if is_named (codes "true") first.read
    then parsed always first.rest
    else (if is_named (codes "false") first.read then parsed never first.rest else equation ts)

abbrev pub atom : Parser PhraseTree
atom ts = option_and_then (atom_from ts) (word ts)

-- one operand; where the connective's sign stands behind it, the further ones behind the sign
abbrev pub chain_from : Connective → Parser (List PhraseTree) → Parsed PhraseTree → Option (Parsed (List PhraseTree))
chain_from c chain first =
    if begins_with (sign_of c) first.rest
    then read_as (λ further. first.read ∷ further) (chain (drop 1 first.rest))
    else parsed (first.read ∷ []) first.rest

-- operands with the connective's sign between them, at most so many
abbrev pub chain : Connective → Parser PhraseTree → ℕ → Parser (List PhraseTree)
chain c operand zero ts = None
chain c operand (suc most) ts = option_and_then (chain_from c (chain c operand most)) (operand ts)

-- what such operands make; there are no more of them than tokens
abbrev pub joining : Connective → Parser PhraseTree → Parser PhraseTree
joining c operand ts = read_as (joined c) (chain c operand (length ts) ts)

-- the levels, over what reads what binds most tightly
abbrev pub conjunction : Parser PhraseTree → Parser PhraseTree
conjunction unary = joining Conjunction unary

abbrev pub disjunction : Parser PhraseTree → Parser PhraseTree
disjunction unary = joining Disjunction (conjunction unary)

abbrev pub implication : Parser PhraseTree → Parser PhraseTree
implication unary = joining Implication (disjunction unary)

abbrev pub formula : Parser PhraseTree → Parser PhraseTree
formula unary = joining Equivalence (implication unary)

-- what was read, if `)` stands behind it
abbrev pub closed : Parsed PhraseTree → Option (Parsed PhraseTree)
closed inside = behind Close (parsed inside.read) inside.rest

-- a negation, a formula in parentheses, or else an atom
abbrev pub unary_from : Parser PhraseTree → Parser PhraseTree
unary_from unary ts =
    if begins_with Not ts
    then read_as negation (unary (drop 1 ts))
    else (if begins_with Open ts
    then option_and_then closed (formula unary (drop 1 ts))
    else atom ts)

-- with fewer than so many negations and parentheses inside one another
abbrev pub unary : ℕ → Parser PhraseTree
unary zero ts = None
unary (suc depth) ts = unary_from (unary depth) ts

-- what was read, if nothing stands behind it
abbrev pub whole : Parsed PhraseTree → Option PhraseTree
whole p = if nat_eq (length p.rest) 0 then Some p.read else None

-- the tree of the formula that all the tokens are; none where they are no formula. No text nests deeper than it
-- has tokens
unfoldable pub phrase_of : List Lexeme → Option PhraseTree
phrase_of ts = option_and_then whole (formula (unary (length ts + 1)) ts)
