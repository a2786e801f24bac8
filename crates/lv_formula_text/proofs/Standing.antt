-- The canonical tokens of a formula that tokens derive stand for that formula.
use Rattle.std.proofs.Common.{◌≡◌, ◌≢◌, ℕ, ◌+◌, ◌<◌, ◌≤◌, Bool, true, false, cond, nat_lt, List, [], ◌∷◌, ◌++◌, Some, refl, sym, ap, subst, ◌∙◌, arith, append_assoc, append-nil, codes}
use Rattle.std.proofs.lemmas.Bool.Decides.{nat_tests}
use Rattle.lv_text.specs.declared.lexer.TokenKind.TheVariants.{Equals, Not, Open, Close, Dot, Iff, Implies}
use Rattle.lv_text.specs.Lexemes.{Lexeme}
use Rattle.lv_formula_text.specs.declared.path.Path.{Path}
use Rattle.lv_formula_text.specs.declared.path.Path.TheVariants.{Own, OfPart}
use Rattle.lv_formula_text.specs.declared.connective.Connective.{Connective}
use Rattle.lv_formula_text.specs.declared.connective.Connective.TheVariants.{Equivalence, Implication, Disjunction, Conjunction}
use Rattle.lv_formula_text.specs.PhraseTree.{PhraseTree, always, never, equals, negation, all, any, implies, iff, trees_of}
use Rattle.lv_formula_text.specs.Connectives.{sign_of, level, joined, nested, first_kind}
use Rattle.lv_formula_text.specs.Spacing.{symbol, word}
use Rattle.lv_formula_text.specs.Canonical.{path_tokens, level_of, enclosed, tokens_of, operand_tokens}
use Rattle.lv_formula_text.specs.Grammar.{IsPath, own_word, word_of_part, IsEquation, sides, begins_with_truth, IsAtom, truth, falsity, equation, IsUnary, negated, atomic, IsOperand, implication, disjunction, conjunction, unary, IsChain, alone, followed, IsJoined, joining, IsFormula}
use Rattle.lv_formula_text.specs.Grammar as grammar

-- one operand alone is itself
pub alone_is : (c : Connective) (f : PhraseTree) → joined c (f ∷ []) ≡ f
alone_is Equivalence f = refl
alone_is Implication f = refl
alone_is Disjunction f = refl
alone_is Conjunction f = refl

-- several make a formula of the connective's level
pub many_level : (c : Connective) (f g : PhraseTree) (hs : List PhraseTree) → level_of (joined c (f ∷ g ∷ hs)) ≡ level c
many_level Equivalence f g hs = refl
many_level Implication f g hs = refl
many_level Disjunction f g hs = refl
many_level Conjunction f g hs = refl

pub level_positive : (f : PhraseTree) → 1 ≤ level_of f
level_positive (iff f g) = omega arith
level_positive (implies f g) = omega arith
level_positive (any fs) = omega arith
level_positive (all fs) = omega arith
level_positive always = omega arith
level_positive never = omega arith
level_positive (equals l r) = omega arith
level_positive (negation f) = omega arith

-- operands are some
pub chain_some : {c : Connective} {ts rest : List Lexeme} {fs : List PhraseTree} → IsChain c ts fs rest → (g : PhraseTree) × (hs : List PhraseTree) × (fs ≡ g ∷ hs)
chain_some (alone {f = f} q) = (f, [], refl)
chain_some (followed {f = f} {gs = gs} s q e more) = (f, gs, refl)

-- parentheses, if they are needed
pub enclosed_as : (P : List Lexeme → Type 0) (bound : ℕ) (f : PhraseTree) (ts : List Lexeme) → (level_of f < bound → P (symbol Open ∷ (ts ++ symbol Close ∷ [])))
    → (bound ≤ level_of f → P ts) → P (enclosed bound f ts)
enclosed_as P bound f ts loose tight = by (nat_lt (level_of f) bound) refl
  where
    by : (b : Bool) → nat_lt (level_of f) bound ≡ b → P (cond b (symbol Open ∷ (ts ++ symbol Close ∷ [])) ts)
    by true e = loose (grind (arith, nat_tests))
    by false e = tight (grind (arith, nat_tests))

-- one operand is what it is on each level that is looser
pub joined_of : (c : Connective) {ts rest : List Lexeme} {f : PhraseTree} → IsOperand c ts f rest → IsJoined c ts f rest
joined_of c {ts = ts} {rest = rest} {f = f} q = subst (λ g. IsJoined c ts g rest) (alone_is c f) (joining (f ∷ []) (alone q))

disjunction_of : {ts rest : List Lexeme} {f : PhraseTree} → IsJoined Conjunction ts f rest → IsJoined Disjunction ts f rest
disjunction_of p = joined_of Disjunction (conjunction p)

implication_of : {ts rest : List Lexeme} {f : PhraseTree} → IsJoined Disjunction ts f rest → IsJoined Implication ts f rest
implication_of p = joined_of Implication (disjunction p)

equivalence_of : {ts rest : List Lexeme} {f : PhraseTree} → IsJoined Implication ts f rest → IsJoined Equivalence ts f rest
equivalence_of p = joined_of Equivalence (implication p)

conjunction_of : {ts rest : List Lexeme} {f : PhraseTree} → IsUnary ts f rest → IsJoined Conjunction ts f rest
conjunction_of p = joined_of Conjunction (unary p)

operand_of : (c : Connective) {ts rest : List Lexeme} {f : PhraseTree} → IsUnary ts f rest → IsOperand c ts f rest
operand_of Equivalence p = implication (implication_of (disjunction_of (conjunction_of p)))
operand_of Implication p = disjunction (disjunction_of (conjunction_of p))
operand_of Disjunction p = conjunction (conjunction_of p)
operand_of Conjunction p = unary p

formula_of : {ts rest : List Lexeme} {f : PhraseTree} → IsUnary ts f rest → IsJoined Equivalence ts f rest
formula_of p = equivalence_of (implication_of (disjunction_of (conjunction_of p)))

-- and what binds more tightly than a level is one operand there
chain_tight : (c : Connective) {ts rest : List Lexeme} {fs : List PhraseTree} → IsChain c ts fs rest → level c < level_of (joined c fs) → IsOperand c ts (joined c fs) rest
chain_tight c {ts = ts} {rest = rest} (alone {f = f} q) less = subst (λ g. IsOperand c ts g rest) (sym (alone_is c f)) q
chain_tight c (followed {f = f} s q e more) less =
    let some = chain_some more in
    let same : level_of (joined c (f ∷ _)) ≡ level c = ap (λ hs. level_of (joined c (f ∷ hs))) some.2 ∙ many_level c f some.0 some.1 in
    absurd (omega arith)

tight : (c : Connective) {ts rest : List Lexeme} {f : PhraseTree} → IsJoined c ts f rest → level c < level_of f → IsOperand c ts f rest
tight c (joining fs d) less = chain_tight c d less

in_equivalence : {ts rest : List Lexeme} {f : PhraseTree} → IsOperand Equivalence ts f rest → IsJoined Implication ts f rest
in_equivalence (implication p) = p

in_implication : {ts rest : List Lexeme} {f : PhraseTree} → IsOperand Implication ts f rest → IsJoined Disjunction ts f rest
in_implication (disjunction p) = p

in_disjunction : {ts rest : List Lexeme} {f : PhraseTree} → IsOperand Disjunction ts f rest → IsJoined Conjunction ts f rest
in_disjunction (conjunction p) = p

in_conjunction : {ts rest : List Lexeme} {f : PhraseTree} → IsOperand Conjunction ts f rest → IsUnary ts f rest
in_conjunction (unary p) = p

-- wherever its canonical tokens stand, if no dot goes on with them, they are that formula
pub record Stands (f : PhraseTree) : Type 0 where
  pub text : (rest : List Lexeme) → first_kind rest ≢ Some Dot → IsJoined Equivalence (tokens_of f ++ rest) f rest

abbrev pub AllStand : List PhraseTree → Type 0
AllStand [] = Unit {0}
AllStand (f ∷ fs) = Stands f × AllStand fs

module _ (f : PhraseTree) (s : Stands f) (rest : List Lexeme) (free : first_kind rest ≢ Some Dot) where
  stands_implication : 2 ≤ level_of f → IsJoined Implication (tokens_of f ++ rest) f rest
  stands_implication le = in_equivalence (tight Equivalence (s.text rest free) (omega arith))

  stands_disjunction : 3 ≤ level_of f → IsJoined Disjunction (tokens_of f ++ rest) f rest
  stands_disjunction le = in_implication (tight Implication (stands_implication (omega arith)) (omega arith))

  stands_conjunction : 4 ≤ level_of f → IsJoined Conjunction (tokens_of f ++ rest) f rest
  stands_conjunction le = in_disjunction (tight Disjunction (stands_disjunction (omega arith)) (omega arith))

  stands_unary : 5 ≤ level_of f → IsUnary (tokens_of f ++ rest) f rest
  stands_unary le = in_conjunction (tight Conjunction (stands_conjunction (omega arith)) (omega arith))

  stands_operand : (c : Connective) → level c + 1 ≤ level_of f → IsOperand c (tokens_of f ++ rest) f rest
  stands_operand Equivalence le = implication (stands_implication le)
  stands_operand Implication le = disjunction (stands_disjunction le)
  stands_operand Disjunction le = conjunction (stands_conjunction le)
  stands_operand Conjunction le = unary (stands_unary le)

  stands_joined : (c : Connective) → level c ≤ level_of f → IsJoined c (tokens_of f ++ rest) f rest
  stands_joined Equivalence le = s.text rest free
  stands_joined Implication le = stands_implication le
  stands_joined Disjunction le = stands_disjunction le
  stands_joined Conjunction le = stands_conjunction le

free_close : (rest : List Lexeme) → first_kind (symbol Close ∷ rest) ≢ Some Dot
free_close rest e = absurd (cc)

free_equals : (rest : List Lexeme) → first_kind (symbol Equals ∷ rest) ≢ Some Dot
free_equals rest e = absurd (cc)

free_sign : (c : Connective) (rest : List Lexeme) → first_kind (symbol (sign_of c) ∷ rest) ≢ Some Dot
free_sign Equivalence rest e = absurd (cc)
free_sign Implication rest e = absurd (cc)
free_sign Disjunction rest e = absurd (cc)
free_sign Conjunction rest e = absurd (cc)

-- in parentheses
in_parentheses : (f : PhraseTree) → Stands f → (rest : List Lexeme) → IsUnary ((symbol Open ∷ (tokens_of f ++ symbol Close ∷ [])) ++ rest) f rest
in_parentheses f s rest =
    subst (λ xs. IsUnary (symbol Open ∷ xs) f rest) (sym (append_assoc (tokens_of f) (symbol Close ∷ []) rest))
    (grammar.enclosed (symbol Open) (symbol Close) refl refl (s.text (symbol Close ∷ rest) (free_close rest)))

-- in its place
placed_operand : (c : Connective) (f : PhraseTree) → Stands f → (rest : List Lexeme) → first_kind rest ≢ Some Dot
    → IsOperand c (enclosed (level c + 1) f (tokens_of f) ++ rest) f rest
placed_operand c f s rest free =
    enclosed_as (λ ts. IsOperand c (ts ++ rest) f rest) (level c + 1) f (tokens_of f) (λ _. operand_of c (in_parentheses f s rest)) (λ le. stands_operand f s rest free c le)

joined_by_unary : (c : Connective) {ts rest : List Lexeme} {f : PhraseTree} → IsUnary ts f rest → IsJoined c ts f rest
joined_by_unary c p = joined_of c (operand_of c p)

placed_joined : (c : Connective) (f : PhraseTree) → Stands f → (rest : List Lexeme) → first_kind rest ≢ Some Dot
    → IsJoined c (enclosed (level c) f (tokens_of f) ++ rest) f rest
placed_joined c f s rest free =
    enclosed_as (λ ts. IsJoined c (ts ++ rest) f rest) (level c) f (tokens_of f) (λ _. joined_by_unary c (in_parentheses f s rest)) (λ le. stands_joined f s rest free c le)

placed_unary : (f : PhraseTree) → Stands f → (rest : List Lexeme) → first_kind rest ≢ Some Dot → IsUnary (enclosed 5 f (tokens_of f) ++ rest) f rest
placed_unary f s rest free =
    enclosed_as (λ ts. IsUnary (ts ++ rest) f rest) 5 f (tokens_of f) (λ _. in_parentheses f s rest) (λ le. stands_unary f s rest free le)

-- truths and equations
always_stands : Stands always
always_stands = record { text = λ rest free. formula_of (atomic (truth (word (codes "true")) refl refl)) }

never_stands : Stands never
never_stands = record { text = λ rest free. formula_of (atomic (falsity (word (codes "false")) refl refl)) }

path_text : (p : Path) (rest : List Lexeme) → first_kind rest ≢ Some Dot → IsPath (path_tokens p ++ rest) p rest
path_text (Own name) rest free = own_word (word name) refl free
path_text (OfPart part name) rest free = word_of_part (word part) (symbol Dot) (word name) refl refl refl

path_begins : {ts xs : List Lexeme} {p : Path} → IsPath ts p xs → (us : List Lexeme) → begins_with_truth (path_tokens p ++ us) ≡ begins_with_truth ts
path_begins (own_word w e last) us = refl
path_begins (word_of_part p dot n a b c) us = refl

equation_stands : {ts xs : List Lexeme} {f : PhraseTree} → begins_with_truth ts ≡ false → IsEquation ts f xs → Stands f
equation_stands free (sides l r sign p e q) = record {
  text = λ rest last.
      let whole = append_assoc (path_tokens l) (symbol Equals ∷ path_tokens r) rest in
      let begins = path_begins p (symbol Equals ∷ (path_tokens r ++ rest)) ∙ free in
      let text = sides l r (symbol Equals) (path_text l (symbol Equals ∷ (path_tokens r ++ rest)) (free_equals (path_tokens r ++ rest))) refl (path_text r rest last) in
      subst (λ ts. IsJoined Equivalence ts (equals l r) rest) (sym whole) (formula_of (atomic (equation begins text)));
}

atom_stands : {ts xs : List Lexeme} {f : PhraseTree} → IsAtom ts f xs → Stands f
atom_stands (truth w e t) = always_stands
atom_stands (falsity w e t) = never_stands
atom_stands (equation free p) = equation_stands free p

-- a negation
negation_stands : (f : PhraseTree) → Stands f → Stands (negation f)
negation_stands f s = record { text = λ rest free. formula_of (negated (symbol Not) refl (placed_unary f s rest free)) }

-- one operand in front of others that belong together
onto_equivalence : {ts us rest : List Lexeme} {f g : PhraseTree} (sign : Lexeme) → IsOperand Equivalence ts f (sign ∷ us) → sign.kind ≡ Iff → IsJoined Equivalence us g rest → IsJoined Equivalence ts (iff f g) rest
onto_equivalence {f = f} sign q e (joining gs (alone {f = g} p)) = joining (f ∷ g ∷ []) (followed sign q e (alone p))
onto_equivalence {f = f} sign q e (joining gs (followed {f = g} {gs = hs} s p d more)) = joining (f ∷ g ∷ hs) (followed sign q e (followed s p d more))

onto_implication : {ts us rest : List Lexeme} {f g : PhraseTree} (sign : Lexeme) → IsOperand Implication ts f (sign ∷ us) → sign.kind ≡ Implies → IsJoined Implication us g rest → IsJoined Implication ts (implies f g) rest
onto_implication {f = f} sign q e (joining gs (alone {f = g} p)) = joining (f ∷ g ∷ []) (followed sign q e (alone p))
onto_implication {f = f} sign q e (joining gs (followed {f = g} {gs = hs} s p d more)) = joining (f ∷ g ∷ hs) (followed sign q e (followed s p d more))

iff_stands : (f g : PhraseTree) → Stands f → Stands g → Stands (iff f g)
iff_stands f g s t = record {
  text = λ rest free.
      let right = enclosed 1 g (tokens_of g) in
      subst (λ ts. IsJoined Equivalence ts (iff f g) rest) (sym (append_assoc (enclosed 2 f (tokens_of f)) (symbol Iff ∷ right) rest))
      (onto_equivalence (symbol Iff) (placed_operand Equivalence f s (symbol Iff ∷ (right ++ rest)) (free_sign Equivalence (right ++ rest))) refl (placed_joined Equivalence g t rest free));
}

implies_stands : (f g : PhraseTree) → Stands f → Stands g → Stands (implies f g)
implies_stands f g s t = record {
  text = λ rest free.
      let right = enclosed 2 g (tokens_of g) in
      subst (λ ts. IsJoined Equivalence ts (implies f g) rest) (sym (append_assoc (enclosed 3 f (tokens_of f)) (symbol Implies ∷ right) rest))
      (equivalence_of (onto_implication (symbol Implies) (placed_operand Implication f s (symbol Implies ∷ (right ++ rest)) (free_sign Implication (right ++ rest))) refl (placed_joined Implication g t rest free)));
}

nested_iff : (f : PhraseTree) (fs : List PhraseTree) → Stands f → AllStand fs → Stands (nested iff f fs)
nested_iff f [] s t = s
nested_iff f (g ∷ gs) s t = iff_stands f (nested iff g gs) s (nested_iff g gs t.0 t.1)

nested_implies : (f : PhraseTree) (fs : List PhraseTree) → Stands f → AllStand fs → Stands (nested implies f fs)
nested_implies f [] s t = s
nested_implies f (g ∷ gs) s t = implies_stands f (nested implies g gs) s (nested_implies g gs t.0 t.1)

-- a list of operands
operands_stand : (c : Connective) (f : PhraseTree) (fs : List PhraseTree) → Stands f → AllStand fs → (rest : List Lexeme) → first_kind rest ≢ Some Dot
    → IsChain c (operand_tokens c (trees_of (f ∷ fs)) ++ rest) (f ∷ fs) rest
operands_stand c f [] s t rest free =
    let own = enclosed (level c + 1) f (tokens_of f) in
    subst (λ ts. IsChain c (ts ++ rest) (f ∷ []) rest) (sym (append-nil own)) (alone (placed_operand c f s rest free))
operands_stand c f (g ∷ gs) s t rest free =
    let own = enclosed (level c + 1) f (tokens_of f) in
    let others = operand_tokens c (trees_of (g ∷ gs)) in
    subst (λ ts. IsChain c ts (f ∷ g ∷ gs) rest) (sym (append_assoc own (symbol (sign_of c) ∷ others) rest))
    (followed (symbol (sign_of c)) (placed_operand c f s (symbol (sign_of c) ∷ (others ++ rest)) (free_sign c (others ++ rest))) refl (operands_stand c g gs t.0 t.1 rest free))

joined_stand : (c : Connective) (fs : List PhraseTree) → AllStand fs → Stands (joined c fs)
joined_stand c [] s = always_stands
joined_stand Equivalence (f ∷ fs) s = nested_iff f fs s.0 s.1
joined_stand Implication (f ∷ fs) s = nested_implies f fs s.0 s.1
joined_stand Disjunction (f ∷ []) s = s.0
joined_stand Disjunction (f ∷ g ∷ gs) s =
    record { text = λ rest free. equivalence_of (implication_of (joining (f ∷ g ∷ gs) (operands_stand Disjunction f (g ∷ gs) s.0 s.1 rest free))) }
joined_stand Conjunction (f ∷ []) s = s.0
joined_stand Conjunction (f ∷ g ∷ gs) s =
    record { text = λ rest free. equivalence_of (implication_of (disjunction_of (joining (f ∷ g ∷ gs) (operands_stand Conjunction f (g ∷ gs) s.0 s.1 rest free)))) }

mutual
  unary_stands : {ts rest : List Lexeme} {f : PhraseTree} → IsUnary ts f rest → Stands f
  unary_stands (negated {f = f} s e p) = negation_stands f (unary_stands p)
  unary_stands (grammar.enclosed o c eo ec p) = joined_stands p
  unary_stands (atomic p) = atom_stands p

  operand_stands : {c : Connective} {ts rest : List Lexeme} {f : PhraseTree} → IsOperand c ts f rest → Stands f
  operand_stands (implication p) = joined_stands p
  operand_stands (disjunction p) = joined_stands p
  operand_stands (conjunction p) = joined_stands p
  operand_stands (unary p) = unary_stands p

  chain_stands : {c : Connective} {ts rest : List Lexeme} {fs : List PhraseTree} → IsChain c ts fs rest → AllStand fs
  chain_stands (alone q) = (operand_stands q, tt)
  chain_stands (followed s q e more) = (operand_stands q, chain_stands more)

  joined_stands : {c : Connective} {ts rest : List Lexeme} {f : PhraseTree} → IsJoined c ts f rest → Stands f
  joined_stands (joining {c = c} fs d) = joined_stand c fs (chain_stands d)

pub canonical_back : (ts : List Lexeme) (f : PhraseTree) → IsFormula ts f → IsFormula (tokens_of f) f
canonical_back ts f d =
    let s = joined_stands d in
    subst (λ us. IsJoined Equivalence us f []) (append-nil (tokens_of f)) (s.text [] (λ e. absurd (cc)))
