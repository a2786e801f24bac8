-- A text at the head of a list of tokens has one tree and one end, if what stands behind it doesn't go on with it.
use Rattle.std.proofs.Common.{◌≡◌, ◌≢◌, ℕ, ◌+◌, ◌<◌, true, List, [], ◌∷◌, Some, refl, sym, ap, ap₂, subst, ◌∙◌, ◌⊎◌, inl, inr, arith, codes}
use Rattle.lv_base.specs.Names.{is_named}
use Rattle.lv_text.specs.declared.lexer.TokenKind.{TokenKind}
use Rattle.lv_text.specs.declared.lexer.TokenKind.TheVariants.{Word, Iff, Implies, And, Or, Close}
use Rattle.lv_text.specs.Lexemes.{Lexeme}
use Rattle.lv_formula_text.specs.declared.path.Path.{Path}
use Rattle.lv_formula_text.specs.declared.connective.Connective.{Connective}
use Rattle.lv_formula_text.specs.declared.connective.Connective.TheVariants.{Equivalence, Implication, Disjunction, Conjunction}
use Rattle.lv_formula_text.specs.PhraseTree.{PhraseTree, equals, negation}
use Rattle.lv_formula_text.specs.Connectives.{sign_of, level, joined, first_kind, tightness, binding}
use Rattle.lv_formula_text.specs.Grammar.{IsPath, own_word, word_of_part, IsEquation, sides, IsAtom, truth, falsity, equation, IsUnary, negated, enclosed, atomic, IsOperand, implication, disjunction, conjunction, unary, IsChain, alone, followed, IsJoined, joining, IsFormula}

-- a connective's sign binds as tightly as its level says
pub sign_level : (c : Connective) → tightness (sign_of c) ≡ level c
sign_level Equivalence = refl
sign_level Implication = refl
sign_level Disjunction = refl
sign_level Conjunction = refl

-- and no other token does
pub level_sign : (c : Connective) (k : TokenKind) → tightness k ≡ level c → k ≡ sign_of c
level_sign Equivalence Iff e = refl
level_sign Implication Implies e = refl
level_sign Disjunction Or e = refl
level_sign Conjunction And e = refl
level_sign c k e = absurd (cc)

pub sign_binds : (c : Connective) (sign : Lexeme) (rest : List Lexeme) → sign.kind ≡ sign_of c → binding (sign ∷ rest) ≡ level c
sign_binds c sign rest is = ap tightness is ∙ sign_level c

-- nothing binds more tightly than a conjunction
pub below_five : (ts : List Lexeme) → binding ts < 5
below_five [] = omega arith
below_five (t ∷ ts) = by t.kind
  where
    by : (k : TokenKind) → tightness k < 5
    by Iff = omega arith
    by Implies = omega arith
    by Or = omega arith
    by And = omega arith
    by k = omega arith

-- what doesn't go on with an operand goes on with the operands, or is no sign of their connective
pub not_sign : (c : Connective) (rest : List Lexeme) → binding rest < level c + 1 → first_kind rest ≢ Some (sign_of c) → binding rest < level c
not_sign c [] less other = positive c
  where
    positive : (d : Connective) → 0 < level d
    positive Equivalence = omega arith
    positive Implication = omega arith
    positive Disjunction = omega arith
    positive Conjunction = omega arith
not_sign c (t ∷ ts) less other =
    let cases : (tightness t.kind ≡ level c) ⊎ (tightness t.kind < level c) = grind arith in
    elim cases [
      | inl same ↦ absurd (other (ap Some (level_sign c t.kind same)))
      | inr below ↦ below
    ]

pub kind_binds : (k : TokenKind) (sign : Lexeme) (rest : List Lexeme) → sign.kind ≡ k → binding (sign ∷ rest) ≡ tightness k
kind_binds k sign rest is = ap tightness is

-- where two texts end at the same place and one goes on, the other doesn't end there
clash : (n : ℕ) (xs ys : List Lexeme) → xs ≡ ys → binding ys ≡ n → binding xs < n → ⊥
clash n xs ys same is less = let b = ap binding same in omega arith

pub path_one : {ts xs ys : List Lexeme} {p q : Path} → IsPath ts p xs → IsPath ts q ys → (p ≡ q) × (xs ≡ ys)
path_one (own_word w e last) (own_word v d ends) = (refl, refl)
path_one (own_word w e last) (word_of_part p dot n a b c) = absurd (last (ap Some b))
path_one (word_of_part p dot n a b c) (own_word w e last) = absurd (last (ap Some b))
path_one (word_of_part p dot n a b c) (word_of_part q e m d f g) = (refl, refl)

pub cons_head : {x y : Lexeme} {xs ys : List Lexeme} → x ∷ xs ≡ y ∷ ys → x ≡ y
cons_head e = cc

pub cons_tail : {x y : Lexeme} {xs ys : List Lexeme} → x ∷ xs ≡ y ∷ ys → xs ≡ ys
cons_tail e = cc

-- a path begins with its first word
pub path_kind : {w : Lexeme} {ts xs : List Lexeme} {p : Path} → IsPath (w ∷ ts) p xs → w.kind ≡ Word
path_kind (own_word w e last) = e
path_kind (word_of_part p dot n a b c) = a

-- no word is both truths
differ : (text : List ℕ) → is_named (codes "true") text ≡ true → is_named (codes "false") text ≡ true → ⊥
differ [] t f = absurd (cc)
differ (x ∷ xs) t f = let a : x ≡ 116 = grind arith in let b : x ≡ 102 = grind arith in omega arith

pub equation_one : {ts xs ys : List Lexeme} {f g : PhraseTree} → IsEquation ts f xs → IsEquation ts g ys → (f ≡ g) × (xs ≡ ys)
equation_one {xs = xs} (sides l r s p e q) (sides m o v p2 d q2) =
    let left = path_one p p2 in
    let right = path_one (subst (λ ts. IsPath ts r xs) (cons_tail left.1) q) q2 in
    (ap₂ equals left.0 right.0, right.1)

pub atom_one : {ts xs ys : List Lexeme} {f g : PhraseTree} → IsAtom ts f xs → IsAtom ts g ys → (f ≡ g) × (xs ≡ ys)
atom_one (truth w e t) (truth v d u) = (refl, refl)
atom_one (truth w e t) (falsity v d u) = absurd (differ w.text t u)
atom_one (truth w e t) (equation free q) = absurd (cc)
atom_one (falsity w e t) (falsity v d u) = (refl, refl)
atom_one (falsity w e t) (truth v d u) = absurd (differ w.text u t)
atom_one (falsity w e t) (equation free q) = absurd (grind arith)
atom_one (equation free p) (equation freed q) = equation_one p q
atom_one (equation free p) (truth v d u) = absurd (cc)
atom_one (equation free p) (falsity v d u) = absurd (grind arith)

pub equation_kind : {w : Lexeme} {ts xs : List Lexeme} {f : PhraseTree} → IsEquation (w ∷ ts) f xs → w.kind ≡ Word
equation_kind (sides l r s p e q) = path_kind p

-- an atom begins with a word
pub atom_kind : {w : Lexeme} {ts xs : List Lexeme} {f : PhraseTree} → IsAtom (w ∷ ts) f xs → w.kind ≡ Word
atom_kind (truth w e t) = e
atom_kind (falsity w e t) = e
atom_kind (equation free p) = equation_kind p

mutual
  pub unary_one : {ts xs ys : List Lexeme} {f g : PhraseTree} → IsUnary ts f xs → IsUnary ts g ys → (f ≡ g) × (xs ≡ ys)
  unary_one (negated s e p) (negated r d q) = let same = unary_one p q in (ap negation same.0, same.1)
  unary_one (negated s e p) (enclosed u d eu ed q) = absurd (cc)
  unary_one (negated s e p) (atomic q) = let k = atom_kind q in absurd (cc)
  unary_one {xs = xs} {ys = ys} (enclosed o c eo ec p) (enclosed u d eu ed q) =
      let a = kind_binds Close c xs ec in
      let b = kind_binds Close d ys ed in
      let same = joined_one Equivalence p q (omega arith) (omega arith) in
      (same.0, cons_tail same.1)
  unary_one (enclosed o c eo ec p) (negated r d q) = absurd (cc)
  unary_one (enclosed o c eo ec p) (atomic q) = let k = atom_kind q in absurd (cc)
  unary_one (atomic p) (atomic q) = atom_one p q
  unary_one (atomic p) (negated v d u) = let k = atom_kind p in absurd (cc)
  unary_one (atomic p) (enclosed u d eu ed q) = let k = atom_kind p in absurd (cc)

  pub operand_one : (c : Connective) {ts xs ys : List Lexeme} {f g : PhraseTree} → IsOperand c ts f xs → IsOperand c ts g ys → binding xs < level c + 1 → binding ys < level c + 1 → (f ≡ g) × (xs ≡ ys)
  operand_one Equivalence (implication p) (implication q) bx by = joined_one Implication p q bx by
  operand_one Implication (disjunction p) (disjunction q) bx by = joined_one Disjunction p q bx by
  operand_one Disjunction (conjunction p) (conjunction q) bx by = joined_one Conjunction p q bx by
  operand_one Conjunction (unary p) (unary q) bx by = unary_one p q

  pub joined_one : (c : Connective) {ts xs ys : List Lexeme} {f g : PhraseTree} → IsJoined c ts f xs → IsJoined c ts g ys → binding xs < level c → binding ys < level c → (f ≡ g) × (xs ≡ ys)
  joined_one c (joining fs p) (joining gs q) bx by = let same = chain_one c p q bx by in (ap (joined c) same.0, same.1)

  pub chain_one : (c : Connective) {ts xs ys : List Lexeme} {fs gs : List PhraseTree} → IsChain c ts fs xs → IsChain c ts gs ys → binding xs < level c → binding ys < level c → (fs ≡ gs) × (xs ≡ ys)
  chain_one c (alone p) (alone q) bx by = let same = operand_one c p q (omega arith) (omega arith) in (ap (λ f. f ∷ []) same.0, same.1)
  chain_one c (alone p) (followed {us = us} v q d more) bx by =
      let b = sign_binds c v us d in
      let same = operand_one c p q (omega arith) (omega arith) in
      absurd (clash (level c) _ _ same.1 b bx)
  chain_one c (followed {us = us} s p e more) (alone q) bx by =
      let b = sign_binds c s us e in
      let same = operand_one c p q (omega arith) (omega arith) in
      absurd (clash (level c) _ _ (sym same.1) b by)
  chain_one c {ys = ys} (followed {us = us} s p e more) (followed {us = vs} {gs = gs} v q d others) bx by =
      let a = sign_binds c s us e in
      let b = sign_binds c v vs d in
      let same = operand_one c p q (omega arith) (omega arith) in
      let rest = chain_one c more (subst (λ ts. IsChain c ts gs ys) (sym (cons_tail same.1)) others) bx by in
      (ap₂ (λ (x : PhraseTree) (xs : List PhraseTree). x ∷ xs) same.0 rest.0, rest.1)

pub formula_one : (ts : List Lexeme) (f g : PhraseTree) → IsFormula ts f → IsFormula ts g → f ≡ g
formula_one ts f g p q = (joined_one Equivalence p q (omega arith) (omega arith)).0
