-- What stands at a place of a line, by what is told of it.
use Rattle.std.proofs.Common.{◌≡◌, ℕ, zero, suc, ◌+◌, Bool, true, false, cond, List, [], ◌∷◌, drop, map, All, Option, Some, None, option_map, refl, sym, ap, ap₂, subst, ◌∙◌, arith}
use Rattle.std.proofs.lemmas.List.Elements.{All-drop, All-head}
use Rattle.std.specs.Option.{option_map_or}
use Rattle.std.specs.Cmp.Lexicographic.{same_text}
use Rattle.lv_base.specs.Names.{is_named}
use Rattle.lv_text.specs.declared.lexer.TokenKind.{TokenKind}
use Rattle.lv_text.specs.declared.lexer.TokenKind.TheVariants.{Word, Number, Arrow, Equals, Or, Dot}
use Rattle.lv_text.specs.Lexemes.{Lexeme, kind_at, word_at, word_of, is_word, is_number, says}
use Rattle.lv_text.specs.Laws.{IsLexeme}
use Rattle.lv_text.specs.Numbers.{number_in_range}
use Rattle.lv_formula_text.specs.Spacing.{is_wordlike, symbol, word}
use Rattle.lv_formula_text.proofs.CursorLemmas.{token_at, found_word}
use Rattle.lv_formula_text.proofs.Canonicals.{symbol_is, word_is}
use Rattle.lv_reader.proofs.Choices.{told_then, told_of}
use Rattle.lv_reader.specs.Words.{is_or, is_arrow, is_equals, is_dot, has_kind_at, words_of, is_reserved, free_word_at, capped, numeral_at}

-- the word at a place
pub word_next : (ts : List Lexeme) (i : ℕ) (name : List ℕ) → word_at ts i ≡ Some name → drop i ts ≡ word name ∷ drop (i + 1) ts
word_next ts i name e =
    let found = (found_word ts i name e).1 in
    found.1 ∙ ap (λ (t : Lexeme). t ∷ drop (i + 1) ts) (word_is found.0 found.2 ∙ ap word found.3)

pub free_word : (ts : List Lexeme) (i : ℕ) (name : List ℕ) → free_word_at ts i ≡ Some name → word_at ts i ≡ Some name
free_word ts i name e =
    let told = told_then (λ word. cond (is_reserved word) None (Some word)) (word_at ts i) e in
    told.1 ∙ by told.0 (is_reserved told.0) told.2
  where
    by : (w : List ℕ) (b : Bool) → cond b None (Some w) ≡ Some name → Some w ≡ Some name
    by w true e = absurd (cc)
    by w false e = e

pub says_next : (text : List ℕ) (ts : List Lexeme) (i : ℕ) → says text ts i ≡ true → drop i ts ≡ word text ∷ drop (i + 1) ts
says_next text ts i e = by (word_at ts i) refl e
  where
    by : (found : Option (List ℕ)) → word_at ts i ≡ found → option_map_or (is_named text) found false ≡ true → drop i ts ≡ word text ∷ drop (i + 1) ts
    by (Some name) is named = word_next ts i text (is ∙ ap Some (same_text name text (sym named)))
    by None is named = absurd (cc)

-- the symbol at a place
symbol_next : (test : TokenKind → Bool) (k : TokenKind) (ts : List Lexeme) (i : ℕ) → ((j : TokenKind) → test j ≡ true → j ≡ k) → is_wordlike k ≡ false → All IsLexeme ts
    → has_kind_at test ts i ≡ true → drop i ts ≡ symbol k ∷ drop (i + 1) ts
symbol_next test k ts i only plain h e = by (kind_at ts i) refl e
  where
    by : (found : Option TokenKind) → kind_at ts i ≡ found → option_map_or test found false ≡ true → drop i ts ≡ symbol k ∷ drop (i + 1) ts
    by (Some j) is passes =
        let there = (token_at ts i j is).1 in
        let one : IsLexeme there.0 = All-head IsLexeme there.0 (drop (i + 1) ts) (subst (All IsLexeme) there.1 (All-drop IsLexeme i ts h)) in
        there.1 ∙ ap (λ (t : Lexeme). t ∷ drop (i + 1) ts) (symbol_is there.0 k one (there.2 ∙ only j passes) plain)
    by None is passes = absurd (cc)

only_arrow : (k : TokenKind) → is_arrow k ≡ true → k ≡ Arrow
only_arrow Arrow e = refl
only_arrow k e = absurd (cc)

only_equals : (k : TokenKind) → is_equals k ≡ true → k ≡ Equals
only_equals Equals e = refl
only_equals k e = absurd (cc)

only_dot : (k : TokenKind) → is_dot k ≡ true → k ≡ Dot
only_dot Dot e = refl
only_dot k e = absurd (cc)

only_or : (k : TokenKind) → is_or k ≡ true → k ≡ Or
only_or Or e = refl
only_or k e = absurd (cc)

-- the sign between names
pub or_first : (t : Lexeme) → IsLexeme t → is_or t.kind ≡ true → t ≡ symbol Or
or_first t h e = symbol_is t Or h (only_or t.kind e) refl

pub arrow_next : (ts : List Lexeme) (i : ℕ) → All IsLexeme ts → has_kind_at is_arrow ts i ≡ true → drop i ts ≡ symbol Arrow ∷ drop (i + 1) ts
arrow_next ts i h e = symbol_next is_arrow Arrow ts i only_arrow refl h e

pub equals_next : (ts : List Lexeme) (i : ℕ) → All IsLexeme ts → has_kind_at is_equals ts i ≡ true → drop i ts ≡ symbol Equals ∷ drop (i + 1) ts
equals_next ts i h e = symbol_next is_equals Equals ts i only_equals refl h e

pub dot_next : (ts : List Lexeme) (i : ℕ) → All IsLexeme ts → has_kind_at is_dot ts i ≡ true → drop i ts ≡ symbol Dot ∷ drop (i + 1) ts
dot_next ts i h e = symbol_next is_dot Dot ts i only_dot refl h e

-- the number at a place
pub record IsNumeralAt (ts : List Lexeme) (i n : ℕ) : Type 0 where
  pub token : Lexeme
  pub there : drop i ts ≡ token ∷ drop (i + 1) ts
  pub kind : token.kind ≡ Number
  pub value : capped (number_in_range token.text) ≡ n

one_more : (t : Lexeme) (ts : List Lexeme) (i : ℕ) → drop (i + 1) ts ≡ drop (suc i + 1) (t ∷ ts)
one_more t ts i = let e : suc (i + 1) ≡ suc i + 1 = omega arith in ap (λ n. drop n (t ∷ ts)) e

pub numeral_next : (ts : List Lexeme) (i n : ℕ) → numeral_at ts i ≡ Some n → IsNumeralAt ts i n
numeral_next [] zero n e = absurd (cc)
numeral_next [] (suc i) n e = absurd (cc)
numeral_next (t ∷ ts) zero n e = by t.kind refl e
  where
    by : (k : TokenKind) → t.kind ≡ k → cond (is_number k) (Some (capped (cond (is_number k) (number_in_range t.text) None))) None ≡ Some n → IsNumeralAt (t ∷ ts) 0 n
    by Number is f = record { token = t; there = refl; kind = is; value = (cc) }
    by k is f = absurd (cc)
numeral_next (t ∷ ts) (suc i) n e =
    let found = numeral_next ts i n e in
    record { token = found.token; there = found.there ∙ ap (λ rest. found.token ∷ rest) (one_more t ts i); kind = found.kind; value = found.value }

-- a lexeme that is a word
pub word_itself : (l : Lexeme) (name : List ℕ) → word_of l ≡ Some name → l ≡ word name
word_itself l name e = by l.kind refl e
  where
    by : (k : TokenKind) → l.kind ≡ k → cond (is_word k) (Some l.text) None ≡ Some name → l ≡ word name
    by Word is f = let same : l.text ≡ name = cc in word_is l is ∙ ap word same
    by k is f = absurd (cc)

-- words and nothing else
pub words_are : (ls : List Lexeme) (names : List (List ℕ)) → words_of ls ≡ Some names → ls ≡ map word names
words_are [] names e = let none : [] ≡ names = cc in ap (map word) none
words_are (l ∷ ls) names e =
    let told = told_then (λ word. option_map (λ words. word ∷ words) (words_of ls)) (word_of l) e in
    let others = told_of (λ words. told.0 ∷ words) (words_of ls) told.2 in
    ap₂ (λ (t : Lexeme) (ts : List Lexeme). t ∷ ts) (word_itself l told.0 told.1) (words_are ls others.0 others.1) ∙ ap (map word) others.2
