-- The canonical tokens of a formula are those that derive it, some pairs of parentheses left out.
use Rattle.std.proofs.Common.{◌≡◌, ℕ, ◌+◌, ◌≤◌, true, false, List, [], ◌∷◌, ◌++◌, refl, sym, ap, ap₂, subst, ◌∙◌, arith, append_assoc, append-nil, codes, All}
use Rattle.std.proofs.lemmas.List.Elements.{All-head, All-tail}
use Rattle.std.specs.List.{list_all}
use Rattle.std.specs.Cmp.Lexicographic.{same_text}
use Rattle.lv_base.specs.Names.{is_named}
use Rattle.lv_text.specs.declared.lexer.TokenKind.{TokenKind}
use Rattle.lv_text.specs.declared.lexer.TokenKind.TheVariants.{Word, Number, Iff, Implies, Arrow, Equals, Not, And, Or, Open, Close, Dot}
use Rattle.lv_text.specs.Kinds.{has_kind}
use Rattle.lv_text.specs.Lexemes.{Lexeme}
use Rattle.lv_text.specs.Laws.{IsLexeme}
use Rattle.lv_formula_text.specs.declared.path.Path.{Path}
use Rattle.lv_formula_text.specs.declared.connective.Connective.{Connective}
use Rattle.lv_formula_text.specs.declared.connective.Connective.TheVariants.{Equivalence, Implication, Disjunction, Conjunction}
use Rattle.lv_formula_text.specs.PhraseTree.{PhraseTree, trees_of}
use Rattle.lv_formula_text.specs.Connectives.{sign_of, level, joined}
use Rattle.lv_formula_text.specs.Spacing.{is_wordlike, symbol_text, symbol, word}
use Rattle.lv_formula_text.specs.Canonical.{path_tokens, enclosed, tokens_of, operand_tokens}
use Rattle.lv_formula_text.specs.Grammar.{IsPath, own_word, word_of_part, IsEquation, sides, IsAtom, truth, falsity, equation, IsUnary, negated, atomic, IsOperand, implication, disjunction, conjunction, unary, IsChain, alone, followed, IsJoined, joining, IsFormula}
use Rattle.lv_formula_text.specs.Grammar as grammar
use Rattle.lv_formula_text.specs.Nesting.{is_too_deep}
use Rattle.lv_formula_text.specs.Laws.{is_flat}
use Rattle.lv_formula_text.specs.Omission.{Omits, nothing}
use Rattle.lv_formula_text.proofs.Omissions.{omits_more, omits_behind, omits_before, omits_pair, omits_all, omits_shallow, flat_front, all_back}
use Rattle.lv_formula_text.proofs.PrinterLemmas.{bare}
use Rattle.lv_formula_text.proofs.Standing.{alone_is, level_positive, chain_some, enclosed_as}

-- a symbol's text is its kind's
symbol_text_is : (k : TokenKind) (text : List ℕ) → is_wordlike k ≡ false → has_kind k text ≡ true → text ≡ symbol_text k
symbol_text_is Word text plain h = absurd (cc)
symbol_text_is Number text plain h = absurd (cc)
symbol_text_is Iff text plain h = sym (same_text (codes "<=>") text (sym h))
symbol_text_is Implies text plain h = sym (same_text (codes "=>") text (sym h))
symbol_text_is Arrow text plain h = sym (same_text (codes "->") text (sym h))
symbol_text_is Equals text plain h = sym (same_text (codes "=") text (sym h))
symbol_text_is Not text plain h = sym (same_text (codes "!") text (sym h))
symbol_text_is And text plain h = sym (same_text (codes "&") text (sym h))
symbol_text_is Or text plain h = sym (same_text (codes "|") text (sym h))
symbol_text_is Open text plain h = sym (same_text (codes "(") text (sym h))
symbol_text_is Close text plain h = sym (same_text (codes ")") text (sym h))
symbol_text_is Dot text plain h = sym (same_text (codes ".") text (sym h))

-- so a symbol is its kind's token
pub symbol_is : (l : Lexeme) (k : TokenKind) → IsLexeme l → l.kind ≡ k → is_wordlike k ≡ false → l ≡ symbol k
symbol_is l k h is plain =
    let text : l.text ≡ symbol_text k = symbol_text_is k l.text plain (subst (λ j. has_kind j l.text ≡ true) is h.kind) in
    ap₂ (λ (j : TokenKind) (t : List ℕ). record { kind = j; text = t }) is text

pub word_is : (l : Lexeme) → l.kind ≡ Word → l ≡ word l.text
word_is l is = ap (λ (j : TokenKind). record { kind = j; text = l.text }) is

sign_plain : (c : Connective) → is_wordlike (sign_of c) ≡ false
sign_plain Equivalence = refl
sign_plain Implication = refl
sign_plain Disjunction = refl
sign_plain Conjunction = refl

-- left out where they aren't needed
enclosed_at : {ts : List Lexeme} (bound : ℕ) (f : PhraseTree) (own rest : List Lexeme) → Omits ts (symbol Open ∷ (own ++ symbol Close ∷ rest)) → Omits ts (enclosed bound f own ++ rest)
enclosed_at {ts = ts} bound f own rest h =
    enclosed_as (λ us. Omits ts (us ++ rest)) bound f own (λ _. subst (λ us. Omits ts (symbol Open ∷ us)) (sym (append_assoc own (symbol Close ∷ []) rest)) h) (λ _. omits_pair own rest h)

-- nor where a looser place doesn't need them
pub enclosed_looser : (low high : ℕ) (f : PhraseTree) (own : List Lexeme) → low ≤ high → Omits (enclosed high f own) (enclosed low f own)
enclosed_looser low high f own le =
    enclosed_as (λ us. Omits us (enclosed low f own)) high f own
    (λ _. subst (Omits (symbol Open ∷ (own ++ symbol Close ∷ []))) (append-nil (enclosed low f own)) (enclosed_at low f own [] nothing))
    (λ tight. subst (Omits own) (sym (bare low f own (omega arith))) nothing)

-- operands with the connective's sign between them
abbrev chain_tokens : Connective → List PhraseTree → List Lexeme
chain_tokens c [] = []
chain_tokens c (f ∷ []) = enclosed (level c + 1) f (tokens_of f)
chain_tokens c (f ∷ g ∷ gs) = enclosed (level c + 1) f (tokens_of f) ++ symbol (sign_of c) ∷ chain_tokens c (g ∷ gs)

chain_is_operands : (c : Connective) (f : PhraseTree) (fs : List PhraseTree) → chain_tokens c (f ∷ fs) ≡ operand_tokens c (trees_of (f ∷ fs))
chain_is_operands c f [] = sym (append-nil (enclosed (level c + 1) f (tokens_of f)))
chain_is_operands c f (g ∷ gs) = ap (λ ts. enclosed (level c + 1) f (tokens_of f) ++ symbol (sign_of c) ∷ ts) (chain_is_operands c g gs)

-- what they make, in its place
abbrev joined_tokens : Connective → List PhraseTree → List Lexeme
joined_tokens c fs = enclosed (level c) (joined c fs) (tokens_of (joined c fs))

joined_omits : (c : Connective) (f : PhraseTree) (fs : List PhraseTree) → Omits (chain_tokens c (f ∷ fs)) (joined_tokens c (f ∷ fs))
joined_omits c f [] =
    subst (λ g. Omits (enclosed (level c + 1) f (tokens_of f)) (enclosed (level c) g (tokens_of g))) (sym (alone_is c f)) (enclosed_looser (level c) (level c + 1) f (tokens_of f) (omega arith))
joined_omits Equivalence f (g ∷ gs) = omits_behind (enclosed 2 f (tokens_of f)) (omits_behind (symbol Iff ∷ []) (joined_omits Equivalence g gs))
joined_omits Implication f (g ∷ gs) = omits_behind (enclosed 3 f (tokens_of f)) (omits_behind (symbol Implies ∷ []) (joined_omits Implication g gs))
joined_omits Disjunction f (g ∷ gs) = subst (Omits (chain_tokens Disjunction (f ∷ g ∷ gs))) (chain_is_operands Disjunction f (g ∷ gs)) nothing
joined_omits Conjunction f (g ∷ gs) = subst (Omits (chain_tokens Conjunction (f ∷ g ∷ gs))) (chain_is_operands Conjunction f (g ∷ gs)) nothing

-- a token in front of others
one_before : (t s : Lexeme) {ts us : List Lexeme} → t ≡ s → Omits ts us → Omits (t ∷ ts) (s ∷ us)
one_before t s {ts = ts} {us = us} is h = subst (λ u. Omits (t ∷ ts) (u ∷ us)) is (omits_behind (t ∷ []) h)

path_is : {ts rest : List Lexeme} {p : Path} → IsPath ts p rest → All IsLexeme ts → ts ≡ path_tokens p ++ rest
path_is (own_word {rest = rest} w e last) h = ap (λ (t : Lexeme). t ∷ rest) (word_is w e)
path_is (word_of_part {rest = rest} p dot n a b c) h =
    let second = All-head IsLexeme dot (n ∷ rest) (All-tail IsLexeme p (dot ∷ n ∷ rest) h) in
    ap (λ (t : Lexeme). t ∷ dot ∷ n ∷ rest) (word_is p a)
    ∙ ap (λ (t : Lexeme). word p.text ∷ t ∷ n ∷ rest) (symbol_is dot Dot second b refl)
    ∙ ap (λ (t : Lexeme). word p.text ∷ symbol Dot ∷ t ∷ rest) (word_is n c)

equation_is : {ts rest : List Lexeme} {f : PhraseTree} → IsEquation ts f rest → All IsLexeme ts → ts ≡ tokens_of f ++ rest
equation_is {ts = ts} {rest = rest} (sides {us = us} l r sign p e q) h =
    let first = path_is p h in
    let others = all_back IsLexeme (path_tokens l) (sign ∷ us) (subst (All IsLexeme) first h) in
    let middle = symbol_is sign Equals (All-head IsLexeme sign us others) e refl in
    let last = path_is q (All-tail IsLexeme sign us others) in
    first ∙ ap₂ (λ (s : Lexeme) (xs : List Lexeme). path_tokens l ++ s ∷ xs) middle last ∙ sym (append_assoc (path_tokens l) (symbol Equals ∷ path_tokens r) rest)

named_word : (w : Lexeme) (text : List ℕ) → w.kind ≡ Word → is_named text w.text ≡ true → w ≡ word text
named_word w text is named = word_is w is ∙ ap word (same_text w.text text (sym named))

atom_is : {ts rest : List Lexeme} {f : PhraseTree} → IsAtom ts f rest → All IsLexeme ts → ts ≡ tokens_of f ++ rest
atom_is (truth {rest = rest} w e t) h = ap (λ (u : Lexeme). u ∷ rest) (named_word w (codes "true") e t)
atom_is (falsity {rest = rest} w e t) h = ap (λ (u : Lexeme). u ∷ rest) (named_word w (codes "false") e t)
atom_is (equation free p) h = equation_is p h

-- what is no connective has no parentheses
atom_bare : {ts rest : List Lexeme} {f : PhraseTree} → IsAtom ts f rest → enclosed 5 f (tokens_of f) ≡ tokens_of f
atom_bare (truth w e t) = refl
atom_bare (falsity w e t) = refl
atom_bare (equation free (sides l r sign p e q)) = refl

-- an operand in front of some others
in_front : (c : Connective) (f : PhraseTree) (gs : List PhraseTree) → (g : PhraseTree) × (hs : List PhraseTree) × (gs ≡ g ∷ hs) → (rest : List Lexeme)
    → enclosed (level c + 1) f (tokens_of f) ++ (symbol (sign_of c) ∷ (chain_tokens c gs ++ rest)) ≡ chain_tokens c (f ∷ gs) ++ rest
in_front c f gs some rest =
    let own = enclosed (level c + 1) f (tokens_of f) in
    sym (append_assoc own (symbol (sign_of c) ∷ chain_tokens c gs) rest)
    ∙ ap (λ ts. ts ++ rest) (subst (λ gs. own ++ symbol (sign_of c) ∷ chain_tokens c gs ≡ chain_tokens c (f ∷ gs)) (sym some.2) refl)

some_omits : (c : Connective) (fs : List PhraseTree) → (g : PhraseTree) × (hs : List PhraseTree) × (fs ≡ g ∷ hs) → Omits (chain_tokens c fs) (joined_tokens c fs)
some_omits c fs some = subst (λ fs. Omits (chain_tokens c fs) (joined_tokens c fs)) (sym some.2) (joined_omits c some.0 some.1)

mutual
  unary_omits : {ts rest : List Lexeme} {f : PhraseTree} → IsUnary ts f rest → All IsLexeme ts → Omits ts (enclosed 5 f (tokens_of f) ++ rest)
  unary_omits (negated {ts = ts} s e p) h =
      one_before s (symbol Not) (symbol_is s Not (All-head IsLexeme s ts h) e refl) (unary_omits p (All-tail IsLexeme s ts h))
  unary_omits (grammar.enclosed {ts = ts} {rest = rest} {f = f} o c eo ec p) h =
      let open_is = symbol_is o Open (All-head IsLexeme o ts h) eo refl in
      let tokens = tokens_of f in
      let inner : Omits ts (tokens ++ c ∷ rest) = subst (λ us. Omits ts (us ++ c ∷ rest)) (bare 1 f tokens (level_positive f)) (joined_omitted p (All-tail IsLexeme o ts h)) in
      let behind = all_back IsLexeme tokens (c ∷ rest) (omits_all IsLexeme inner (All-tail IsLexeme o ts h)) in
      let close_is = symbol_is c Close (All-head IsLexeme c rest behind) ec refl in
      enclosed_at 5 f tokens rest (subst (λ u. Omits (o ∷ ts) (symbol Open ∷ (tokens ++ u ∷ rest))) close_is (one_before o (symbol Open) open_is inner))
  unary_omits (atomic {ts = ts} {rest = rest} {f = f} p) h =
      subst (Omits ts) (atom_is p h ∙ ap (λ us. us ++ rest) (sym (atom_bare p))) nothing

  operand_omits : {c : Connective} {ts rest : List Lexeme} {f : PhraseTree} → IsOperand c ts f rest → All IsLexeme ts → Omits ts (enclosed (level c + 1) f (tokens_of f) ++ rest)
  operand_omits (implication p) h = joined_omitted p h
  operand_omits (disjunction p) h = joined_omitted p h
  operand_omits (conjunction p) h = joined_omitted p h
  operand_omits (unary p) h = unary_omits p h

  chain_omits : {c : Connective} {ts rest : List Lexeme} {fs : List PhraseTree} → IsChain c ts fs rest → All IsLexeme ts → Omits ts (chain_tokens c fs ++ rest)
  chain_omits (alone q) h = operand_omits q h
  chain_omits (followed {c = c} {ts = ts} {us = us} {rest = rest} {f = f} {gs = gs} s q e more) h =
      let own = enclosed (level c + 1) f (tokens_of f) in
      let first = operand_omits q h in
      let others = all_back IsLexeme own (s ∷ us) (omits_all IsLexeme first h) in
      let sign_is = symbol_is s (sign_of c) (All-head IsLexeme s us others) e (sign_plain c) in
      let last = chain_omits more (All-tail IsLexeme s us others) in
      subst (Omits ts) (in_front c f gs (chain_some more) rest)
      (omits_more first (omits_behind own (one_before s (symbol (sign_of c)) sign_is last)))

  joined_omitted : {c : Connective} {ts rest : List Lexeme} {f : PhraseTree} → IsJoined c ts f rest → All IsLexeme ts → Omits ts (enclosed (level c) f (tokens_of f) ++ rest)
  joined_omitted (joining {c = c} {ts = ts} {rest = rest} fs d) h = omits_more (chain_omits d h) (omits_before (some_omits c fs (chain_some d)) rest)

pub canonical_omits : (ts : List Lexeme) (f : PhraseTree) → All IsLexeme ts → IsFormula ts f → Omits ts (tokens_of f)
canonical_omits ts f h d =
    subst (Omits ts) (append-nil (enclosed 1 f (tokens_of f)) ∙ bare 1 f (tokens_of f) (level_positive f)) (joined_omitted d h)

pub canonical_shallow : (front back ts : List Lexeme) (f : PhraseTree) → list_all is_flat front ≡ true → list_all is_flat back ≡ true → All IsLexeme ts → IsFormula ts f
    → is_too_deep (front ++ ts) ≡ false → is_too_deep (back ++ tokens_of f) ≡ false
canonical_shallow front back ts f flat plain h d shallow =
    flat_front back (tokens_of f) plain ∙ omits_shallow (canonical_omits ts f h d) (sym (flat_front front ts flat) ∙ shallow)
