-- What the grammar derives, the function answers.
use Rattle.std.proofs.Common.{◌≡◌, ◌≢◌, ℕ, zero, suc, ◌+◌, ◌<◌, ◌≤◌, Bool, true, false, cond, List, [], ◌∷◌, drop, length, codes, Option, Some, None, option_and_then, refl, ap, ap₂, ◌∙◌, arith}
use Rattle.std.proofs.lemmas.Bool.{or_parts}
use Rattle.lv_base.specs.Names.{is_named}
use Rattle.lv_text.specs.declared.lexer.TokenKind.{TokenKind}
use Rattle.lv_text.specs.declared.lexer.TokenKind.TheVariants.{Word, Equals, Not, Open, Close, Dot}
use Rattle.lv_text.specs.Lexemes.{Lexeme}
use Rattle.lv_formula_text.specs.declared.path.Path.{Path}
use Rattle.lv_formula_text.specs.declared.path.Path.TheVariants.{Own, OfPart}
use Rattle.lv_formula_text.specs.declared.connective.Connective.{Connective}
use Rattle.lv_formula_text.specs.declared.connective.Connective.TheVariants.{Equivalence, Implication, Disjunction, Conjunction}
use Rattle.lv_formula_text.specs.PhraseTree.{PhraseTree, always, never, equals, negation}
use Rattle.lv_formula_text.specs.Connectives.{sign_of, level, joined, first_kind, binding}
use Rattle.lv_formula_text.specs.Grammar.{IsPath, own_word, word_of_part, IsEquation, sides, begins_with_truth, IsAtom, truth, falsity, equation, IsUnary, negated, enclosed, atomic, IsOperand, implication, disjunction, conjunction, unary, IsChain, alone, followed, IsJoined, joining, IsFormula}
use Rattle.lv_formula_text.specs.ReadPhrase.{IsReadAs, IsNone}
use Rattle.lv_formula_text.proofs.GrammarLemmas.{sign_binds, kind_binds, atom_one, atom_kind}
use Rattle.lv_formula_text.specs.Descent as descent
use Rattle.lv_formula_text.specs.Descent.{Parsed, parsed, Parser, read_as, begins_with, behind, path_from, equation_from, atom_from, chain_from, chain, closed, unary_from, whole, phrase_of}
use Rattle.lv_formula_text.proofs.Steps.{begins_so, begins_other, behind_gives, word_gives}
use Rattle.lv_formula_text.proofs.Sound.{phrase_sound}
use Rattle.lv_formula_text.proofs.Shorter.{equation_shorter, operand_shorter}

pub path_gives : {ts rest : List Lexeme} {p : Path} → IsPath ts p rest → descent.path ts ≡ parsed p rest
path_gives (own_word {rest = rest} w e last) =
    ap (option_and_then path_from) (word_gives w rest e)
    ∙ ap (λ b. cond b (read_as (OfPart w.text) (descent.word (drop 1 rest))) (parsed (Own w.text) rest)) (begins_other Dot rest last)
path_gives (word_of_part {rest = rest} p d w a b c) =
    ap (option_and_then path_from) (word_gives p (d ∷ w ∷ rest) a)
    ∙ ap (λ b. cond b (read_as (OfPart p.text) (descent.word (w ∷ rest))) (parsed (Own p.text) (d ∷ w ∷ rest))) (begins_so Dot d (w ∷ rest) b)
    ∙ ap (read_as (OfPart p.text)) (word_gives w rest c)

pub equation_gives : {ts rest : List Lexeme} {f : PhraseTree} → IsEquation ts f rest → descent.equation ts ≡ parsed f rest
equation_gives (sides {us = us} l r s p e q) =
    ap (option_and_then equation_from) (path_gives p) ∙ ap (read_as (equals l)) (behind_gives Equals descent.path s us e ∙ path_gives q)

-- an atom begins with a word, by which it is known
atom_by : (w : Lexeme) (ts : List Lexeme) (b c : Bool) → w.kind ≡ Word → is_named (codes "true") w.text ≡ b → is_named (codes "false") w.text ≡ c
    → descent.atom (w ∷ ts) ≡ cond b (parsed always ts) (cond c (parsed never ts) (descent.equation (w ∷ ts)))
atom_by w ts b c kind one two =
    ap (option_and_then (atom_from (w ∷ ts))) (word_gives w ts kind)
    ∙ ap₂ (λ x y. cond x (parsed always ts) (cond y (parsed never ts) (descent.equation (w ∷ ts)))) one two

not_true : (w : Lexeme) (b : Bool) → w.kind ≡ Word → is_named (codes "true") w.text ≡ b → is_named (codes "false") w.text ≡ true → b ≡ false
not_true w false kind is other = refl
not_true w true kind is other = let same = atom_one (truth {rest = []} w kind is) (falsity {rest = []} w kind other) in absurd (cc)

equation_atom : (ts : List Lexeme) {rest : List Lexeme} {f : PhraseTree} → begins_with_truth ts ≡ false → IsEquation ts f rest → descent.atom ts ≡ parsed f rest
equation_atom [] free p = let none = equation_shorter p in absurd (omega arith)
equation_atom (w ∷ ts) free p =
    let tests = or_parts (is_named (codes "true") w.text) (is_named (codes "false") w.text) free in
    atom_by w ts false false (atom_kind (equation free p)) tests.0 tests.1 ∙ equation_gives p

pub atom_gives : {ts rest : List Lexeme} {f : PhraseTree} → IsAtom ts f rest → descent.atom ts ≡ parsed f rest
atom_gives (truth {rest = rest} w e t) = atom_by w rest true (is_named (codes "false") w.text) e t refl
atom_gives (falsity {rest = rest} w e t) = atom_by w rest false true e (not_true w (is_named (codes "true") w.text) e refl t) t
atom_gives (equation {ts = ts} free p) = equation_atom ts free p

-- what doesn't go on with the operands of a connective doesn't begin with its sign
ends_operands : (c : Connective) (rest : List Lexeme) → binding rest < level c → begins_with (sign_of c) rest ≡ false
ends_operands c rest less = begins_other (sign_of c) rest (by rest less)
  where
    by : (rest : List Lexeme) → binding rest < level c → first_kind rest ≢ Some (sign_of c)
    by [] less is = absurd (cc)
    by (t ∷ ts) less is = let same : t.kind ≡ sign_of c = cc in let b = sign_binds c t ts same in absurd (omega arith)

chain_ends : (c : Connective) (operand : Parser PhraseTree) (most : ℕ) (ts rest : List Lexeme) (f : PhraseTree) → operand ts ≡ parsed f rest
    → begins_with (sign_of c) rest ≡ false → chain c operand (suc most) ts ≡ parsed (f ∷ []) rest
chain_ends c operand most ts rest f read ends =
    ap (option_and_then (chain_from c (chain c operand most))) read
    ∙ ap (λ b. cond b (read_as (λ further. f ∷ further) (chain c operand most (drop 1 rest))) (parsed (f ∷ []) rest)) ends

chain_goes_on : (c : Connective) (operand : Parser PhraseTree) (most : ℕ) (ts us rest : List Lexeme) (sign : Lexeme) (f : PhraseTree) (gs : List PhraseTree)
    → operand ts ≡ parsed f (sign ∷ us) → sign.kind ≡ sign_of c → chain c operand most us ≡ parsed gs rest → chain c operand (suc most) ts ≡ parsed (f ∷ gs) rest
chain_goes_on c operand most ts us rest sign f gs read is others =
    ap (option_and_then (chain_from c (chain c operand most))) read
    ∙ ap (λ b. cond b (read_as (λ further. f ∷ further) (chain c operand most us)) (parsed (f ∷ []) (sign ∷ us))) (begins_so (sign_of c) sign us is)
    ∙ ap (read_as (λ (further : List PhraseTree). f ∷ further)) others

-- what a unary reads, by its first token
unary_by : (read : Parser PhraseTree) (ts : List Lexeme) (b c : Bool) → begins_with Not ts ≡ b → begins_with Open ts ≡ c
    → unary_from read ts ≡ cond b (read_as negation (read (drop 1 ts))) (cond c (option_and_then closed (descent.formula read (drop 1 ts))) (descent.atom ts))
unary_by read ts b c one two =
    ap₂ (λ x y. cond x (read_as negation (read (drop 1 ts))) (cond y (option_and_then closed (descent.formula read (drop 1 ts))) (descent.atom ts))) one two

enclosed_gives : (read : Parser PhraseTree) (ts rest : List Lexeme) (opening closing : Lexeme) (f : PhraseTree) → opening.kind ≡ Open → closing.kind ≡ Close
    → descent.formula read ts ≡ parsed f (closing ∷ rest) → unary_from read (opening ∷ ts) ≡ parsed f rest
enclosed_gives read ts rest opening closing f opens closes inside =
    unary_by read (opening ∷ ts) false true (begins_other Not (opening ∷ ts) (λ is. absurd (cc))) (begins_so Open opening ts opens)
    ∙ ap (option_and_then closed) inside
    ∙ behind_gives Close (parsed f) closing rest closes

atom_first : (k : TokenKind) (ts : List Lexeme) {rest : List Lexeme} {f : PhraseTree} → IsAtom ts f rest → first_kind ts ≡ Some k → k ≡ Word
atom_first k [] p is = absurd (cc)
atom_first k (t ∷ ts) p is = let word = atom_kind p in cc

atomic_gives : (read : Parser PhraseTree) (ts rest : List Lexeme) (f : PhraseTree) → IsAtom ts f rest → unary_from read ts ≡ parsed f rest
atomic_gives read ts rest f p =
    unary_by read ts false false
    (begins_other Not ts (λ is. let word = atom_first Not ts p is in absurd (cc)))
    (begins_other Open ts (λ is. let word = atom_first Open ts p is in absurd (cc)))
    ∙ atom_gives p

-- the operands of a connective, over what reads what binds most tightly
abbrev operands : Parser PhraseTree → Connective → Parser PhraseTree
operands read Equivalence = descent.implication read
operands read Implication = descent.disjunction read
operands read Disjunction = descent.conjunction read
operands read Conjunction = read

mutual
  pub unary_gives : (depth : ℕ) {ts rest : List Lexeme} {f : PhraseTree} → IsUnary ts f rest → length ts < depth → descent.unary depth ts ≡ parsed f rest
  unary_gives zero p less = absurd (omega arith)
  unary_gives (suc depth) (negated {ts = ts} s e p) less =
      unary_by (descent.unary depth) (s ∷ ts) true (begins_with Open (s ∷ ts)) (begins_so Not s ts e) refl
      ∙ ap (read_as negation) (unary_gives depth p (omega arith))
  unary_gives (suc depth) (enclosed {ts = ts} {rest = rest} {f = f} o c eo ec p) less =
      let b = kind_binds Close c rest ec in
      enclosed_gives (descent.unary depth) ts rest o c f eo ec (joined_gives depth Equivalence p (omega arith) (omega arith))
  unary_gives (suc depth) (atomic {ts = ts} {rest = rest} {f = f} p) less = atomic_gives (descent.unary depth) ts rest f p

  pub operand_gives : (depth : ℕ) (c : Connective) {ts rest : List Lexeme} {f : PhraseTree} → IsOperand c ts f rest → length ts < depth → binding rest < level c + 1
      → operands (descent.unary depth) c ts ≡ parsed f rest
  operand_gives depth Equivalence (implication p) less ends = joined_gives depth Implication p less ends
  operand_gives depth Implication (disjunction p) less ends = joined_gives depth Disjunction p less ends
  operand_gives depth Disjunction (conjunction p) less ends = joined_gives depth Conjunction p less ends
  operand_gives depth Conjunction (unary p) less ends = unary_gives depth p less

  pub joined_gives : (depth : ℕ) (c : Connective) {ts rest : List Lexeme} {f : PhraseTree} → IsJoined c ts f rest → length ts < depth → binding rest < level c
      → descent.joining c (operands (descent.unary depth) c) ts ≡ parsed f rest
  joined_gives depth c (joining {ts = ts} fs p) less ends = ap (read_as (joined c)) (chain_gives depth c (length ts) p less (omega arith) ends)

  pub chain_gives : (depth : ℕ) (c : Connective) (most : ℕ) {ts rest : List Lexeme} {fs : List PhraseTree} → IsChain c ts fs rest → length ts < depth → length ts ≤ most
      → binding rest < level c → chain c (operands (descent.unary depth) c) most ts ≡ parsed fs rest
  chain_gives depth c zero (alone p) less few ends = let s = operand_shorter p in absurd (omega arith)
  chain_gives depth c zero (followed s p e more) less few ends = let s = operand_shorter p in absurd (omega arith)
  chain_gives depth c (suc most) (alone {ts = ts} {rest = rest} {f = f} p) less few ends =
      chain_ends c (operands (descent.unary depth) c) most ts rest f (operand_gives depth c p less (omega arith)) (ends_operands c rest ends)
  chain_gives depth c (suc most) {rest = rest} (followed {ts = ts} {us = us} {f = f} {gs = gs} s p e more) less few ends =
      let a = operand_shorter p in
      let b = sign_binds c s us e in
      chain_goes_on c (operands (descent.unary depth) c) most ts us rest s f gs (operand_gives depth c p less (omega arith)) e
      (chain_gives depth c most more (omega arith) (omega arith) ends)

pub phrase_complete : (ts : List Lexeme) (f : PhraseTree) → IsFormula ts f → phrase_of ts ≡ Some f
unfolding phrase_of
phrase_complete ts f p = ap (option_and_then whole) (joined_gives (length ts + 1) Equivalence p (omega arith) (omega arith))

-- no tree is answered exactly where none is derived
pub phrase_none : (ts : List Lexeme) → ((f : PhraseTree) → IsFormula ts f → ⊥) → phrase_of ts ≡ None
phrase_none ts refuted = by (phrase_of ts) refl
  where
    by : (o : Option PhraseTree) → phrase_of ts ≡ o → o ≡ None
    by None e = refl
    by (Some f) e = absurd (refuted f (phrase_sound ts f e))

pub none_refutes : (ts : List Lexeme) → phrase_of ts ≡ None → (f : PhraseTree) → IsFormula ts f → ⊥
none_refutes ts none f p = let read = phrase_complete ts f p in absurd (cc)

-- what the reader of a line answers is what the function answers
pub read_gives : (line : List Lexeme) (place : ℕ) (f : PhraseTree) → IsReadAs line place f → phrase_of (drop place line) ≡ Some f
read_gives line place f read = phrase_complete (drop place line) f read.formula

pub none_gives : (line : List Lexeme) (place : ℕ) → IsNone line place → phrase_of (drop place line) ≡ None
none_gives line place none = phrase_none (drop place line) none.refuted
