-- What the function answers, the grammar derives.
use Rattle.std.proofs.Common.{◌≡◌, ℕ, zero, suc, ◌+◌, Bool, true, false, cond, ◌||◌, nat_eq, List, [], ◌∷◌, drop, length, codes, Some, None, option_and_then, refl, sym, ap, ap₂, ◌∙◌, arith}
use Rattle.std.proofs.lemmas.Option.{option_and_then_some}
use Rattle.lv_base.specs.Names.{is_named}
use Rattle.lv_text.specs.declared.lexer.TokenKind.TheVariants.{Word, Equals, Not, Open, Close, Dot}
use Rattle.lv_text.specs.Lexemes.{Lexeme}
use Rattle.lv_formula_text.specs.declared.path.Path.{Path}
use Rattle.lv_formula_text.specs.declared.path.Path.TheVariants.{Own, OfPart}
use Rattle.lv_formula_text.specs.declared.connective.Connective.{Connective}
use Rattle.lv_formula_text.specs.declared.connective.Connective.TheVariants.{Equivalence, Implication, Disjunction, Conjunction}
use Rattle.lv_formula_text.specs.PhraseTree.{PhraseTree, always, never, equals, negation}
use Rattle.lv_formula_text.specs.Connectives.{sign_of, joined}
use Rattle.lv_formula_text.specs.Grammar.{IsPath, own_word, word_of_part, IsEquation, sides, begins_with_truth, IsAtom, truth, falsity, equation, IsUnary, negated, enclosed, atomic, IsOperand, implication, disjunction, conjunction, unary, IsChain, alone, followed, IsJoined, joining, IsFormula}
use Rattle.lv_formula_text.specs.Descent as descent
use Rattle.lv_formula_text.specs.Descent.{Parsed, parsed, Parser, read_as, begins_with, behind, path_from, equation_from, atom_from, chain_from, chain, closed, unary_from, whole, phrase_of}
use Rattle.lv_formula_text.proofs.Steps.{turned, some_is_one, as_some, parsed_same, begins_first, begins_not, behind_some, word_some}

pub path_sound : (ts : List Lexeme) (p : Parsed Path) → descent.path ts ≡ Some p → IsPath ts p.read p.rest
path_sound ts p e =
    option_and_then_some path_from (descent.word ts) p e
    (λ first read is. let w = word_some ts first read in by first w.0 w.1 w.2 w.3 (begins_with Dot first.rest) refl is)
  where
    by : (first : Parsed (List ℕ)) (part : Lexeme) → ts ≡ part ∷ first.rest → part.kind ≡ Word → part.text ≡ first.read → (b : Bool) → begins_with Dot first.rest ≡ b
        → cond b (read_as (OfPart first.read) (descent.word (drop 1 first.rest))) (parsed (Own first.read) first.rest) ≡ Some p → IsPath ts p.read p.rest
    by first part at kind text true is f =
        let m = as_some (OfPart first.read) (descent.word (drop 1 first.rest)) p f in
        let d = begins_first Dot first.rest is in
        let w = word_some (drop 1 first.rest) m.0 m.1 in
        let tokens : part ∷ d.0 ∷ w.0 ∷ m.0.rest ≡ ts = sym (at ∙ ap (λ xs. part ∷ xs) (d.1 ∙ ap (λ xs. d.0 ∷ xs) w.1)) in
        turned IsPath (word_of_part {rest = m.0.rest} part d.0 w.0 kind d.2 w.2) tokens (ap₂ OfPart text w.3 ∙ m.2) m.3
    by first part at kind text false is f =
        let g = parsed_same (Own first.read) first.rest p f in
        turned IsPath (own_word part kind (begins_not Dot first.rest is)) (sym at) (ap Own text ∙ g.0) g.1

pub equation_sound : (ts : List Lexeme) (p : Parsed PhraseTree) → descent.equation ts ≡ Some p → IsEquation ts p.read p.rest
equation_sound ts p e =
    option_and_then_some equation_from (descent.path ts) p e (λ left read is.
    let m = as_some (equals left.read) (behind Equals descent.path left.rest) p is in
    let d = behind_some Equals descent.path left.rest m.0 m.1 in
    let path : IsPath ts left.read (d.0 ∷ drop 1 left.rest) = turned IsPath (path_sound ts left read) refl refl d.1 in
    turned IsEquation (sides left.read m.0.read d.0 path d.2 (path_sound (drop 1 left.rest) m.0 d.3)) refl m.2 m.3)

pub atom_sound : (ts : List Lexeme) (p : Parsed PhraseTree) → descent.atom ts ≡ Some p → IsAtom ts p.read p.rest
atom_sound ts p e =
    option_and_then_some (atom_from ts) (descent.word ts) p e (λ first read is.
    let w = word_some ts first read in
    by first w.0 w.1 w.2 w.3 (is_named (codes "true") first.read) (is_named (codes "false") first.read) refl refl is)
  where
    by : (first : Parsed (List ℕ)) (t : Lexeme) → ts ≡ t ∷ first.rest → t.kind ≡ Word → t.text ≡ first.read → (b c : Bool) → is_named (codes "true") first.read ≡ b → is_named (codes "false") first.read ≡ c
        → cond b (parsed always first.rest) (cond c (parsed never first.rest) (descent.equation ts)) ≡ Some p → IsAtom ts p.read p.rest
    by first t at kind text true c is other f =
        let g = parsed_same always first.rest p f in turned IsAtom (truth t kind (ap (is_named (codes "true")) text ∙ is)) (sym at) g.0 g.1
    by first t at kind text false true other is f =
        let g = parsed_same never first.rest p f in turned IsAtom (falsity t kind (ap (is_named (codes "false")) text ∙ is)) (sym at) g.0 g.1
    by first t at kind text false false one two f =
        let begins : begins_with_truth ts ≡ false =
        ap begins_with_truth at ∙ ap₂ (λ b c. b || c) (ap (is_named (codes "true")) text ∙ one) (ap (is_named (codes "false")) text ∙ two) in
        equation begins (equation_sound ts p f)

module _ (c : Connective) (operand : Parser PhraseTree) (sound : (ts : List Lexeme) (p : Parsed PhraseTree) → operand ts ≡ Some p → IsOperand c ts p.read p.rest) where
  chain_sound : (most : ℕ) (ts : List Lexeme) (p : Parsed (List PhraseTree)) → chain c operand most ts ≡ Some p → IsChain c ts p.read p.rest
  chain_sound zero ts p e = absurd (cc)
  chain_sound (suc most) ts p e =
      option_and_then_some (chain_from c (chain c operand most)) (operand ts) p e
      (λ first read is. by ts p first (sound ts first read) (chain_sound most (drop 1 first.rest)) (begins_with (sign_of c) first.rest) refl is)
    where
      by : (ts : List Lexeme) (p : Parsed (List PhraseTree)) (first : Parsed PhraseTree) → IsOperand c ts first.read first.rest
          → ((q : Parsed (List PhraseTree)) → chain c operand most (drop 1 first.rest) ≡ Some q → IsChain c (drop 1 first.rest) q.read q.rest)
          → (b : Bool) → begins_with (sign_of c) first.rest ≡ b
          → cond b (read_as (λ further. first.read ∷ further) (chain c operand most (drop 1 first.rest))) (parsed (first.read ∷ []) first.rest) ≡ Some p → IsChain c ts p.read p.rest
      by ts p first read others true is f =
          let m = as_some (λ (further : List PhraseTree). first.read ∷ further) (chain c operand most (drop 1 first.rest)) p f in
          let d = begins_first (sign_of c) first.rest is in
          let one : IsOperand c ts first.read (d.0 ∷ drop 1 first.rest) = turned (IsOperand c) read refl refl d.1 in
          turned (IsChain c) (followed d.0 one d.2 (others m.0 m.1)) refl m.2 m.3
      by ts p first read others false is f =
          let g = parsed_same (first.read ∷ []) first.rest p f in
          turned (IsChain c) (alone read) refl g.0 g.1

  pub joining_sound : (ts : List Lexeme) (p : Parsed PhraseTree) → descent.joining c operand ts ≡ Some p → IsJoined c ts p.read p.rest
  joining_sound ts p e =
      let m = as_some (joined c) (chain c operand (length ts) ts) p e in
      turned (IsJoined c) (joining m.0.read (chain_sound (length ts) ts m.0 m.1)) refl m.2 m.3

module _ (read : Parser PhraseTree) (sound : (ts : List Lexeme) (p : Parsed PhraseTree) → read ts ≡ Some p → IsUnary ts p.read p.rest) where
  conjunction_sound : (ts : List Lexeme) (p : Parsed PhraseTree) → descent.conjunction read ts ≡ Some p → IsJoined Conjunction ts p.read p.rest
  conjunction_sound = joining_sound Conjunction read (λ ts p e. unary (sound ts p e))

  disjunction_sound : (ts : List Lexeme) (p : Parsed PhraseTree) → descent.disjunction read ts ≡ Some p → IsJoined Disjunction ts p.read p.rest
  disjunction_sound = joining_sound Disjunction (descent.conjunction read) (λ ts p e. conjunction (conjunction_sound ts p e))

  implication_sound : (ts : List Lexeme) (p : Parsed PhraseTree) → descent.implication read ts ≡ Some p → IsJoined Implication ts p.read p.rest
  implication_sound = joining_sound Implication (descent.disjunction read) (λ ts p e. disjunction (disjunction_sound ts p e))

  pub formula_sound : (ts : List Lexeme) (p : Parsed PhraseTree) → descent.formula read ts ≡ Some p → IsJoined Equivalence ts p.read p.rest
  formula_sound = joining_sound Equivalence (descent.implication read) (λ ts p e. implication (implication_sound ts p e))

  unary_from_sound : (ts : List Lexeme) (p : Parsed PhraseTree) → unary_from read ts ≡ Some p → IsUnary ts p.read p.rest
  unary_from_sound ts p e = by (begins_with Not ts) (begins_with Open ts) refl refl e
    where
      by : (b c : Bool) → begins_with Not ts ≡ b → begins_with Open ts ≡ c
          → cond b (read_as negation (read (drop 1 ts))) (cond c (option_and_then closed (descent.formula read (drop 1 ts))) (descent.atom ts)) ≡ Some p
          → IsUnary ts p.read p.rest
      by true c is other f =
          let m = as_some negation (read (drop 1 ts)) p f in
          let d = begins_first Not ts is in
          turned IsUnary (negated d.0 d.2 (sound (drop 1 ts) m.0 m.1)) (sym d.1) m.2 m.3
      by false true other is f =
          option_and_then_some closed (descent.formula read (drop 1 ts)) p f (λ inside found ends.
          let o = begins_first Open ts is in
          let d = behind_some Close (parsed inside.read) inside.rest p ends in
          let g = parsed_same inside.read (drop 1 inside.rest) p d.3 in
          let formula : IsJoined Equivalence (drop 1 ts) inside.read (d.0 ∷ drop 1 inside.rest) = turned (IsJoined Equivalence) (formula_sound (drop 1 ts) inside found) refl refl d.1 in
          turned IsUnary (enclosed o.0 d.0 o.2 d.2 formula) (sym o.1) g.0 g.1)
      by false false one two f = atomic (atom_sound ts p f)

pub unary_sound : (depth : ℕ) (ts : List Lexeme) (p : Parsed PhraseTree) → descent.unary depth ts ≡ Some p → IsUnary ts p.read p.rest
unary_sound zero ts p e = absurd (cc)
unary_sound (suc depth) ts p e = unary_from_sound (descent.unary depth) (unary_sound depth) ts p e

pub phrase_sound : (ts : List Lexeme) (f : PhraseTree) → phrase_of ts ≡ Some f → IsFormula ts f
unfolding phrase_of
phrase_sound ts f e =
    option_and_then_some whole (descent.formula (descent.unary (length ts + 1)) ts) f e
    (λ p read is. by p (formula_sound (descent.unary (length ts + 1)) (unary_sound (length ts + 1)) ts p read) p.rest refl is)
  where
    by : (p : Parsed PhraseTree) → IsJoined Equivalence ts p.read p.rest → (rest : List Lexeme) → p.rest ≡ rest → cond (nat_eq (length rest) 0) (Some p.read) None ≡ Some f → IsFormula ts f
    by p read [] none g = turned (IsJoined Equivalence) read refl (some_is_one g) none
    by p read (t ∷ ts) none g = absurd (grind arith)
