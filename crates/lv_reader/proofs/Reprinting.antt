-- The canonical tokens of a statement, beside the tokens that it was read from.
use Rattle.std.proofs.Common.{◌≡◌, ℕ, ◌+◌, ◌≤◌, Bool, true, false, ◌&&◌, cond, List, [], ◌∷◌, ◌++◌, length, All, Option, Some, None, refl, sym, ap, subst, ◌∙◌, arith, length-append, codes}
use Rattle.std.proofs.lemmas.List.Elements.{All-nil, All-append}
use Rattle.std.specs.List.{list_all}
use Rattle.lv_text.specs.declared.lexer.TokenKind.{TokenKind}
use Rattle.lv_text.specs.Lexemes.{Lexeme}
use Rattle.lv_text.specs.Laws.{IsLexeme}
use Rattle.lv_formula_text.specs.PhraseTree.{PhraseTree}
use Rattle.lv_formula_text.specs.Grammar.{IsFormula}
use Rattle.lv_formula_text.specs.Nesting.{is_too_deep}
use Rattle.lv_formula_text.specs.Spacing.{is_wordlike, spaced}
use Rattle.lv_formula_text.specs.Canonical.{tokens_of}
use Rattle.lv_formula_text.specs.Laws.{is_flat}
use Rattle.lv_formula_text.proofs.Omissions.{omits_all, omits_no_longer, flat_front, all_back}
use Rattle.lv_formula_text.proofs.Canonicals.{canonical_omits, canonical_shallow}
use Rattle.lv_reader.specs.declared.statement.Statement.{Statement}
use Rattle.lv_reader.specs.Statements.{HasForm}
use Rattle.lv_reader.specs.CanonicalTokens.{statement_tokens}

-- the canonical tokens are tokens of that statement, and have no longer a text
pub record Reprints (ts : List Lexeme) (s : Statement) : Type 0 where
  pub lexemes : All IsLexeme (statement_tokens s)
  pub shallow : is_too_deep (statement_tokens s) ≡ false
  pub form : HasForm (statement_tokens s) s
  pub shorter : length (spaced false (statement_tokens s)) ≤ length (spaced false ts)

-- where they are the tokens themselves
pub same_tokens : (ts : List Lexeme) (s : Statement) → All IsLexeme ts → is_too_deep ts ≡ false → HasForm ts s → ts ≡ statement_tokens s → Reprints ts s
same_tokens ts s h shallow form is = record {
  lexemes = subst (All IsLexeme) is h;
  shallow = subst (λ us. is_too_deep us ≡ false) is shallow;
  form = subst (λ us. HasForm us s) is form;
  shorter = subst (λ us. length (spaced false us) ≤ length (spaced false ts)) is (omega arith);
}

-- tokens of the same kinds one by one, none longer than before
abbrev pub AreAlike : List Lexeme → List Lexeme → Type 0
AreAlike [] [] = Unit {0}
AreAlike [] (m ∷ ms) = ⊥
AreAlike (l ∷ ls) [] = ⊥
AreAlike (l ∷ ls) (m ∷ ms) = (l.kind ≡ m.kind) × (length m.text ≤ length l.text) × AreAlike ls ms

pub alike_itself : (ls : List Lexeme) → AreAlike ls ls
alike_itself [] = tt
alike_itself (l ∷ ls) = (refl, omega arith, alike_itself ls)

pub alike_behind : (front ls ms : List Lexeme) → AreAlike ls ms → AreAlike (front ++ ls) (front ++ ms)
alike_behind [] ls ms h = h
alike_behind (l ∷ front) ls ms h = (refl, omega arith, alike_behind front ls ms h)

abbrev gap : Bool → TokenKind → List ℕ
gap after k = cond (after && is_wordlike k) (codes " ") []

one_longer : (after : Bool) (t : Lexeme) (ts : List Lexeme) → length (spaced after (t ∷ ts)) ≡ length (gap after t.kind) + (length t.text + length (spaced (is_wordlike t.kind) ts))
one_longer after t ts =
    let a = length-append (gap after t.kind) (t.text ++ spaced (is_wordlike t.kind) ts) in
    let b = length-append t.text (spaced (is_wordlike t.kind) ts) in
    omega arith

alike_shorter : (ls ms xs ys : List Lexeme) → AreAlike ls ms → ((after : Bool) → length (spaced after ys) ≤ length (spaced after xs)) → (after : Bool)
    → length (spaced after (ms ++ ys)) ≤ length (spaced after (ls ++ xs))
alike_shorter [] [] xs ys alike h after = h after
alike_shorter [] (m ∷ ms) xs ys alike h after = absurd alike
alike_shorter (l ∷ ls) [] xs ys alike h after = absurd alike
alike_shorter (l ∷ ls) (m ∷ ms) xs ys alike h after =
    let a = one_longer after l (ls ++ xs) in
    let b = one_longer after m (ms ++ ys) in
    let c = ap (λ k. length (gap after k)) alike.0 in
    let d = ap (λ k. length (spaced (is_wordlike k) (ms ++ ys))) alike.0 in
    let e = alike.1 in
    let f = alike_shorter ls ms xs ys alike.2 h (is_wordlike l.kind) in
    omega arith

-- what a statement may end with
abbrev pub formula_tokens : Option PhraseTree → List Lexeme
formula_tokens None = []
formula_tokens (Some f) = tokens_of f

abbrev pub Derives : List Lexeme → Option PhraseTree → Type 0
Derives ts None = ts ≡ []
Derives ts (Some f) = IsFormula ts f

formula_lexemes : (ts : List Lexeme) (f : Option PhraseTree) → Derives ts f → All IsLexeme ts → All IsLexeme (formula_tokens f)
formula_lexemes ts None d h = All-nil IsLexeme
formula_lexemes ts (Some f) d h = omits_all IsLexeme (canonical_omits ts f h d) h

formula_shallow : (front back ts : List Lexeme) (f : Option PhraseTree) → list_all is_flat front ≡ true → list_all is_flat back ≡ true → All IsLexeme ts → Derives ts f
    → is_too_deep (front ++ ts) ≡ false → is_too_deep (back ++ formula_tokens f) ≡ false
formula_shallow front back ts None flat plain h d shallow = flat_front back [] plain
formula_shallow front back ts (Some f) flat plain h d shallow = canonical_shallow front back ts f flat plain h d shallow

formula_shorter : (ts : List Lexeme) (f : Option PhraseTree) → All IsLexeme ts → Derives ts f → (after : Bool) → length (spaced after (formula_tokens f)) ≤ length (spaced after ts)
formula_shorter ts None h d after = rw d (omega arith)
formula_shorter ts (Some f) h d after = omits_no_longer after (canonical_omits ts f h d)

-- tokens that don't nest, and behind them a formula or nothing
pub record IsCut (ts front back tail : List Lexeme) (f : Option PhraseTree) : Type 0 where
  pub whole : ts ≡ front ++ tail
  pub derives : Derives tail f
  pub alike : AreAlike front back
  pub flat : list_all is_flat front ≡ true
  pub plain : list_all is_flat back ≡ true
  pub lexemes : All IsLexeme back

pub cut_tokens : (ts front back tail : List Lexeme) (f : Option PhraseTree) (s : Statement) → IsCut ts front back tail f → statement_tokens s ≡ back ++ formula_tokens f
    → All IsLexeme ts → is_too_deep ts ≡ false → HasForm (statement_tokens s) s → Reprints ts s
cut_tokens ts front back tail f s cut is h shallow form =
    let all : All IsLexeme (front ++ tail) = subst (All IsLexeme) cut.whole h in
    let behind = all_back IsLexeme front tail all in
    let before : is_too_deep (front ++ tail) ≡ false = subst (λ us. is_too_deep us ≡ false) cut.whole shallow in
    let least = alike_shorter front back tail (formula_tokens f) cut.alike (formula_shorter tail f behind cut.derives) false in
    let a = ap (λ us. length (spaced false us)) is in
    let b = ap (λ us. length (spaced false us)) cut.whole in
    record {
      lexemes = subst (All IsLexeme) (sym is) (All-append IsLexeme back (formula_tokens f) cut.lexemes (formula_lexemes tail f cut.derives behind));
      shallow = ap is_too_deep is ∙ formula_shallow front back tail f cut.flat cut.plain behind cut.derives before;
      form = form;
      shorter = omega arith;
    }
