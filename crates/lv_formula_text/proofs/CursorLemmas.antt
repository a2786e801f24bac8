-- The token at a place of a line stands first in what is left from there on.
use Rattle.std.proofs.Common.{◌≡◌, ◌≢◌, ℕ, zero, suc, ◌+◌, ◌<◌, List, [], ◌∷◌, drop, length, Some, None, refl, sym, ap, ◌∙◌, arith, cond, true, false}
use Rattle.lv_base.specs.Names.{is_named}
use Rattle.lv_text.specs.declared.lexer.TokenKind.{TokenKind}
use Rattle.lv_text.specs.declared.lexer.TokenKind.TheVariants.{Word}
use Rattle.lv_text.specs.Lexemes.{Lexeme, kind_at, word_at, word_of, is_word}
use Rattle.lv_formula_text.specs.Connectives.{first_kind}

pub first_at : (ts : List Lexeme) (place : ℕ) → kind_at ts place ≡ first_kind (drop place ts)
first_at [] zero = refl
first_at [] (suc place) = refl
first_at (t ∷ ts) zero = refl
first_at (t ∷ ts) (suc place) = first_at ts place

one_more : (t : Lexeme) (ts : List Lexeme) (place : ℕ) → drop (place + 1) ts ≡ drop (suc place + 1) (t ∷ ts)
one_more t ts place = let e : suc (place + 1) ≡ suc place + 1 = omega arith in ap (λ n. drop n (t ∷ ts)) e

-- a token of a kind is there, and behind it what is left from the next place on
pub token_at : (ts : List Lexeme) (place : ℕ) (kind : TokenKind) → kind_at ts place ≡ Some kind
    → (place < length ts) × ((token : Lexeme) × (drop place ts ≡ token ∷ drop (place + 1) ts) × (token.kind ≡ kind))
token_at [] zero kind e = absurd (cc)
token_at [] (suc place) kind e = absurd (cc)
token_at (t ∷ ts) zero kind e = (omega arith, (t, refl, (cc)))
token_at (t ∷ ts) (suc place) kind e =
    let found = token_at ts place kind e in (omega arith, (found.1.0, found.1.1 ∙ ap (λ rest. found.1.0 ∷ rest) (one_more t ts place), found.1.2))

one_word : (t : Lexeme) (text : List ℕ) → word_of t ≡ Some text → (t.kind ≡ Word) × (t.text ≡ text)
one_word t text e = by t.kind refl e
  where
    by : (k : TokenKind) → t.kind ≡ k → cond (is_word k) (Some t.text) None ≡ Some text → (t.kind ≡ Word) × (t.text ≡ text)
    by Word is f = (is, (cc))
    by k is f = absurd (cc)

pub found_word : (ts : List Lexeme) (place : ℕ) (text : List ℕ) → word_at ts place ≡ Some text
    → (place < length ts) × ((token : Lexeme) × (drop place ts ≡ token ∷ drop (place + 1) ts) × (token.kind ≡ Word) × (token.text ≡ text))
found_word [] zero text e = absurd (cc)
found_word [] (suc place) text e = absurd (cc)
found_word (t ∷ ts) zero text e = let is = one_word t text e in (omega arith, (t, refl, is.0, is.1))
found_word (t ∷ ts) (suc place) text e =
    let found = found_word ts place text e in (omega arith, (found.1.0, found.1.1 ∙ ap (λ rest. found.1.0 ∷ rest) (one_more t ts place), found.1.2, found.1.3))

no_word_of : (t : Lexeme) → word_of t ≡ None → t.kind ≢ Word
no_word_of t e is = absurd (cc)

pub found_no_word : (ts : List Lexeme) (place : ℕ) → word_at ts place ≡ None → first_kind (drop place ts) ≢ Some Word
found_no_word [] zero e is = absurd (cc)
found_no_word [] (suc place) e is = absurd (cc)
found_no_word (t ∷ ts) zero e is = no_word_of t e (cc)
found_no_word (t ∷ ts) (suc place) e is = found_no_word ts place e is

-- the same of what is left, by its own name
pub taken : (ts now : List Lexeme) (place : ℕ) (kind : TokenKind) → now ≡ drop place ts → first_kind now ≡ Some kind
    → (place < length ts) × ((token : Lexeme) × (now ≡ token ∷ drop (place + 1) ts) × (token.kind ≡ kind))
taken ts now place kind is first =
    let found = token_at ts place kind (first_at ts place ∙ ap first_kind (sym is) ∙ first) in
    (found.0, (found.1.0, is ∙ found.1.1, found.1.2))

pub taken_word : (ts now : List Lexeme) (place : ℕ) (text : List ℕ) → now ≡ drop place ts → word_at ts place ≡ Some text
    → (place < length ts) × ((token : Lexeme) × (now ≡ token ∷ drop (place + 1) ts) × (token.kind ≡ Word) × (token.text ≡ text))
taken_word ts now place text is word =
    let found = found_word ts place text word in
    (found.0, (found.1.0, is ∙ found.1.1, found.1.2, found.1.3))

-- the word at a place, and whether it is a given one
pub other_word : (ts now : List Lexeme) (place : ℕ) (text name : List ℕ) → drop place ts ≡ now → word_at ts place ≡ Some name → is_named text name ≡ false
    → (token : Lexeme) (others : List Lexeme) → now ≡ token ∷ others → token.kind ≡ Word → is_named text token.text ≡ false
other_word ts now place text name is word differs token others first kind =
    let found = found_word ts place name word in
    let same : token ≡ found.1.0 = by (sym first ∙ sym is ∙ found.1.1) in
    ap (λ (t : Lexeme). is_named text t.text) same ∙ ap (is_named text) found.1.3 ∙ differs
  where
    by : {x y : Lexeme} {xs ys : List Lexeme} → x ∷ xs ≡ y ∷ ys → x ≡ y
    by e = cc

pub no_word : (ts now : List Lexeme) (place : ℕ) (text : List ℕ) → drop place ts ≡ now → word_at ts place ≡ None
    → (token : Lexeme) (others : List Lexeme) → now ≡ token ∷ others → token.kind ≡ Word → is_named text token.text ≡ false
no_word ts now place text is none token others first kind = absurd (found_no_word ts place none (ap first_kind (is ∙ first) ∙ ap Some kind))

pub same_word : (ts now : List Lexeme) (place : ℕ) (text name : List ℕ) → now ≡ drop place ts → word_at ts place ≡ Some name → is_named text name ≡ true
    → (token : Lexeme) × (now ≡ token ∷ drop (place + 1) ts) × (token.kind ≡ Word) × (is_named text token.text ≡ true)
same_word ts now place text name is word same =
    let found = (taken_word ts now place name is word).1 in
    (found.0, found.1, found.2, ap (is_named text) found.3 ∙ same)
