-- The text of a formula is one word: no two of its tokens that stand side by side are words or numbers, so no space stands between them.
use Rattle.std.proofs.Common.{◌≡◌, ℕ, Bool, true, false, not, ◌&&◌, cond, nat_eq, nat_lt, slice_index, List, [], ◌∷◌, ◌++◌, length, Some, All, refl, sym, ap, subst, ◌∙◌, arith, codes}
use Rattle.std.specs.List.{list_all}
use Rattle.std.specs.Cmp.Derive.{both_true}
use Rattle.std.specs.Cmp.Lexicographic.{pointwise, same_text}
use Rattle.std.proofs.lemmas.Bool.{and_parts, eqb-true, lt-ltb}
use Rattle.std.proofs.lemmas.List.Elements.{All-head, All-tail}
use Rattle.std.proofs.lemmas.List.Folds.{list_all-append}
use Rattle.lv_text.specs.declared.lexer.TokenKind.{TokenKind}
use Rattle.lv_text.specs.declared.lexer.TokenKind.TheVariants.{Word, Number, Iff, Implies, Arrow, Equals, Not, And, Or, Open, Close, Dot}
use Rattle.lv_text.specs.Bytes.{is_letter, is_digit, is_word_byte}
use Rattle.lv_text.specs.Kinds.{has_kind}
use Rattle.lv_text.specs.Lexemes.{Lexeme}
use Rattle.lv_text.specs.Laws.{IsLexeme}
use Rattle.lv_formula_text.specs.declared.path.Path.{Path}
use Rattle.lv_formula_text.specs.declared.connective.Connective.{Connective}
use Rattle.lv_formula_text.specs.declared.connective.Connective.TheVariants.{Equivalence, Implication, Disjunction, Conjunction}
use Rattle.lv_formula_text.specs.PhraseTree.{PhraseTree}
use Rattle.lv_formula_text.specs.Connectives.{sign_of}
use Rattle.lv_formula_text.specs.Spacing.{is_wordlike, spaced}
use Rattle.lv_formula_text.specs.Grammar.{IsPath, own_word, word_of_part, IsEquation, sides, IsAtom, truth, falsity, equation, IsUnary, negated, enclosed, atomic, IsOperand, implication, disjunction, conjunction, unary, IsChain, alone, followed, IsJoined, joining}
use Rattle.lv_formula_text.specs.Descent.{phrase_of}
use Rattle.lv_formula_text.proofs.Sound.{phrase_sound}

-- no word or number stands behind another
abbrev parted : Bool → List Lexeme → Bool
parted after [] = true
parted after (t ∷ ts) = not (after && is_wordlike t.kind) && parted (is_wordlike t.kind) ts

looser : (ts : List Lexeme) → parted true ts ≡ true → parted false ts ≡ true
looser [] h = refl
looser (t ∷ ts) h = (and_parts (not (is_wordlike t.kind)) (parted (is_wordlike t.kind) ts) h).1

behind_word : (t : Lexeme) (ts : List Lexeme) → t.kind ≡ Word → parted true ts ≡ true → parted false (t ∷ ts) ≡ true
behind_word t ts is h = ap (λ (k : TokenKind). parted (is_wordlike k) ts) is ∙ h

behind_sign : (after : Bool) (t : Lexeme) (ts : List Lexeme) (k : TokenKind) → t.kind ≡ k → is_wordlike k ≡ false → parted false ts ≡ true → parted after (t ∷ ts) ≡ true
behind_sign after t ts k is plain h = ap (λ (b : Bool). not (after && b) && parted b ts) (ap is_wordlike is ∙ plain) ∙ by after
  where
    by : (c : Bool) → (not (c && false) && parted false ts) ≡ true
    by true = h
    by false = h

plain_sign : (c : Connective) → is_wordlike (sign_of c) ≡ false
plain_sign Equivalence = refl
plain_sign Implication = refl
plain_sign Disjunction = refl
plain_sign Conjunction = refl

path_parts : {ts rest : List Lexeme} {p : Path} → IsPath ts p rest → parted true rest ≡ true → parted false ts ≡ true
path_parts (own_word {rest = rest} w e last) h = behind_word w rest e h
path_parts (word_of_part {rest = rest} p dot n a b c) h = behind_word p (dot ∷ n ∷ rest) a (behind_sign true dot (n ∷ rest) Dot b refl (behind_word n rest c h))

equation_parts : {ts rest : List Lexeme} {f : PhraseTree} → IsEquation ts f rest → parted true rest ≡ true → parted false ts ≡ true
equation_parts (sides {us = us} l r s p e q) h = path_parts p (behind_sign true s us Equals e refl (path_parts q h))

atom_parts : {ts rest : List Lexeme} {f : PhraseTree} → IsAtom ts f rest → parted true rest ≡ true → parted false ts ≡ true
atom_parts (truth {rest = rest} w e t) h = behind_word w rest e h
atom_parts (falsity {rest = rest} w e t) h = behind_word w rest e h
atom_parts (equation free p) h = equation_parts p h

mutual
  unary_parts : {ts rest : List Lexeme} {f : PhraseTree} → IsUnary ts f rest → parted true rest ≡ true → parted false ts ≡ true
  unary_parts (negated {ts = ts} s e p) h = behind_sign false s ts Not e refl (unary_parts p h)
  unary_parts (enclosed {ts = ts} {rest = rest} o c eo ec p) h = behind_sign false o ts Open eo refl (joined_parts p (behind_sign true c rest Close ec refl (looser rest h)))
  unary_parts (atomic p) h = atom_parts p h

  operand_parts : {c : Connective} {ts rest : List Lexeme} {f : PhraseTree} → IsOperand c ts f rest → parted true rest ≡ true → parted false ts ≡ true
  operand_parts (implication p) h = joined_parts p h
  operand_parts (disjunction p) h = joined_parts p h
  operand_parts (conjunction p) h = joined_parts p h
  operand_parts (unary p) h = unary_parts p h

  chain_parts : {c : Connective} {ts rest : List Lexeme} {fs : List PhraseTree} → IsChain c ts fs rest → parted true rest ≡ true → parted false ts ≡ true
  chain_parts (alone q) h = operand_parts q h
  chain_parts (followed {c = c} {us = us} s q e more) h = operand_parts q (behind_sign true s us (sign_of c) e (plain_sign c) (chain_parts more h))

  joined_parts : {c : Connective} {ts rest : List Lexeme} {f : PhraseTree} → IsJoined c ts f rest → parted true rest ≡ true → parted false ts ≡ true
  joined_parts (joining fs d) h = chain_parts d h

-- no space and no line feed
abbrev inside : ℕ → Bool
inside b = not (nat_eq b 32) && not (nat_eq b 10)

inside_from : (p : ℕ → Bool) → p 32 ≡ false → p 10 ≡ false → (b : ℕ) → p b ≡ true → inside b ≡ true
inside_from p space feed b h = both_true (other 32 space) (other 10 feed)
  where
    other : (n : ℕ) → p n ≡ false → not (nat_eq b n) ≡ true
    other n none = by (nat_eq b n) refl
      where
        by : (c : Bool) → nat_eq b n ≡ c → not c ≡ true
        by true is = let clash : true ≡ false = sym h ∙ ap p (eqb-true b n is) ∙ none in absurd (cc clash)
        by false is = refl

all_inside : (p : ℕ → Bool) → p 32 ≡ false → p 10 ≡ false → (text : List ℕ) → list_all p text ≡ true → list_all inside text ≡ true
all_inside p space feed [] h = refl
all_inside p space feed (b ∷ more) h =
    let parts = and_parts (p b) (list_all p more) h in
    both_true (inside_from p space feed b parts.0) (all_inside p space feed more parts.1)

symbol_inside : (symbol text : List ℕ) → list_all inside symbol ≡ true → pointwise nat_eq symbol text ≡ true → list_all inside text ≡ true
symbol_inside symbol text own same = subst (λ (t : List ℕ). list_all inside t ≡ true) (same_text symbol text (sym same)) own

text_inside : (k : TokenKind) (text : List ℕ) → has_kind k text ≡ true → list_all inside text ≡ true
text_inside Word text h = all_inside is_word_byte refl refl text (and_parts (is_letter (slice_index text 0)) (list_all is_word_byte text) h).1
text_inside Number text h = all_inside is_digit refl refl text (and_parts (is_digit (slice_index text 0)) (list_all is_digit text) h).1
text_inside Iff text h = symbol_inside (codes "<=>") text refl h
text_inside Implies text h = symbol_inside (codes "=>") text refl h
text_inside Arrow text h = symbol_inside (codes "->") text refl h
text_inside Equals text h = symbol_inside (codes "=") text refl h
text_inside Not text h = symbol_inside (codes "!") text refl h
text_inside And text h = symbol_inside (codes "&") text refl h
text_inside Or text h = symbol_inside (codes "|") text refl h
text_inside Open text h = symbol_inside (codes "(") text refl h
text_inside Close text h = symbol_inside (codes ")") text refl h
text_inside Dot text h = symbol_inside (codes ".") text refl h

-- a token has some text
text_some : (k : TokenKind) (text : List ℕ) → has_kind k text ≡ true → nat_lt 0 (length text) ≡ true
text_some k (b ∷ more) h = lt-ltb 0 (length (b ∷ more)) (omega arith)
text_some Word [] h = absurd (cc h)
text_some Number [] h = absurd (cc h)
text_some Iff [] h = absurd (cc h)
text_some Implies [] h = absurd (cc h)
text_some Arrow [] h = absurd (cc h)
text_some Equals [] h = absurd (cc h)
text_some Not [] h = absurd (cc h)
text_some And [] h = absurd (cc h)
text_some Or [] h = absurd (cc h)
text_some Open [] h = absurd (cc h)
text_some Close [] h = absurd (cc h)
text_some Dot [] h = absurd (cc h)

spaced_inside : (after : Bool) (ts : List Lexeme) → All IsLexeme ts → parted after ts ≡ true → list_all inside (spaced after ts) ≡ true
spaced_inside after [] all h = refl
spaced_inside after (t ∷ ts) all h =
    let parts = and_parts (not (after && is_wordlike t.kind)) (parted (is_wordlike t.kind) ts) h in
    let own = text_inside t.kind t.text (All-head IsLexeme t ts all).kind in
    let others = spaced_inside (is_wordlike t.kind) ts (All-tail IsLexeme t ts all) parts.1 in
    by (after && is_wordlike t.kind) parts.0 (list_all-append inside t.text (spaced (is_wordlike t.kind) ts) ∙ both_true own others)
  where
    by : (c : Bool) → not c ≡ true → list_all inside (t.text ++ spaced (is_wordlike t.kind) ts) ≡ true
        → list_all inside (cond c (codes " ") [] ++ (t.text ++ spaced (is_wordlike t.kind) ts)) ≡ true
    by true none e = absurd (cc none)
    by false none e = e

some_more : (xs ys : List ℕ) → nat_lt 0 (length xs) ≡ true → nat_lt 0 (length (xs ++ ys)) ≡ true
some_more [] ys h = absurd (cc h)
some_more (x ∷ xs) ys h = lt-ltb 0 (length (x ∷ xs ++ ys)) (omega arith)

-- a word of a line is one word
pub word_is_one : (text : List ℕ) → has_kind Word text ≡ true → (nat_lt 0 (length text) && list_all inside text) ≡ true
word_is_one text h = both_true (text_some Word text h) (text_inside Word text h)

-- and so is the text of a formula
pub formula_is_one : (ts : List Lexeme) (f : PhraseTree) → All IsLexeme ts → phrase_of ts ≡ Some f → (nat_lt 0 (length (spaced false ts)) && list_all inside (spaced false ts)) ≡ true
unfolding phrase_of
formula_is_one [] f all is = absurd (cc is)
formula_is_one (t ∷ ts) f all is =
    both_true (some_more t.text (spaced (is_wordlike t.kind) ts) (text_some t.kind t.text (All-head IsLexeme t ts all).kind))
    (spaced_inside false (t ∷ ts) all (joined_parts (phrase_sound (t ∷ ts) f is) refl))
