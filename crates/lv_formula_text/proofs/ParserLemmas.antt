-- The steps of reading, over plain lists of tokens.
use Rattle.std.proofs.Common.{◌≡◌, ◌≢◌, ℕ, zero, suc, ◌+◌, ◌-◌, ◌<◌, ◌≤◌, length, true, false, List, [], ◌∷◌, ◌++◌, Option, Some, None, refl, sym, ap, subst, ◌∙◌, arith, append_assoc}
use Rattle.lv_text.specs.declared.lexer.TokenKind.{TokenKind}
use Rattle.lv_text.specs.declared.lexer.TokenKind.TheVariants.{Not, Open, Close}
use Rattle.lv_text.specs.Lexemes.{Lexeme}
use Rattle.lv_formula_text.specs.declared.connective.Connective.{Connective}
use Rattle.lv_formula_text.specs.declared.connective.Connective.TheVariants.{Equivalence, Implication, Disjunction, Conjunction}
use Rattle.lv_formula_text.specs.PhraseTree.{PhraseTree, negation}
use Rattle.lv_formula_text.specs.Connectives.{sign_of, level, joined, negations, first_kind, binding}
use Rattle.lv_formula_text.specs.Cursors.{Takes}
use Rattle.lv_formula_text.specs.Grammar.{IsAtom, IsUnary, negated, enclosed, atomic, IsOperand, implication, disjunction, conjunction, unary, IsChain, alone, followed, IsJoined, joining}
use Rattle.lv_formula_text.specs.Reading.{Reads, HasNone, Finds}
use Rattle.lv_formula_text.proofs.GrammarLemmas.{below_five, not_sign, sign_binds, kind_binds, cons_tail, atom_kind, operand_one, joined_one}

-- the operands read so far, with a sign behind the last
pub record Joining (c : Connective) (ts rest : List Lexeme) (fs : List PhraseTree) : Type 0 where
  pub completes : (gs : List PhraseTree) (end : List Lexeme) → IsChain c rest gs end → IsChain c ts (fs ++ gs) end
  pub left : (gs : List PhraseTree) (end : List Lexeme) → IsChain c ts gs end → binding end < level c → (hs : List PhraseTree) × IsChain c rest hs end

pub joining_none : (c : Connective) (ts : List Lexeme) → Joining c ts ts []
joining_none c ts = record { completes = λ gs end d. d; left = λ gs end d less. (gs, d) }

pub joining_more : (c : Connective) (ts now next : List Lexeme) (sign : Lexeme) (fs : List PhraseTree) (f : PhraseTree) → Joining c ts now fs
    → Reads (IsOperand c) (level c + 1) now f (sign ∷ next) → sign.kind ≡ sign_of c → Joining c ts next (fs ++ f ∷ [])
joining_more c ts now next sign fs f so_far operand is = record {
  completes = λ gs end d. subst (λ hs. IsChain c ts hs end) (sym (append_assoc fs (f ∷ []) gs)) (so_far.completes (f ∷ gs) end (followed sign operand.text is d));
  left = λ gs end d less. let found = so_far.left gs end d less in by end found.0 found.1 less;
}
  where
    by : (end : List Lexeme) (hs : List PhraseTree) → IsChain c now hs end → binding end < level c → (gs : List PhraseTree) × IsChain c next gs end
    by end hs (alone q) less =
        let same = operand_one c operand.text q operand.ends (omega arith) in
        let b : binding end ≡ level c = ap binding (sym same.1) ∙ sign_binds c sign next is in
        absurd (omega arith)
    by end hs (followed {us = us} {gs = gs} v q e more) less =
        let b = sign_binds c v us e in
        let same = operand_one c operand.text q operand.ends (omega arith) in
        (gs, subst (λ xs. IsChain c xs gs end) (sym (cons_tail same.1)) more)

pub joined_found : (c : Connective) (ts now rest : List Lexeme) (fs : List PhraseTree) (f : PhraseTree) → Joining c ts now fs
    → Reads (IsOperand c) (level c + 1) now f rest → first_kind rest ≢ Some (sign_of c) → Reads (IsJoined c) (level c) ts (joined c (fs ++ f ∷ [])) rest
joined_found c ts now rest fs f so_far operand other = record {
  text = joining (fs ++ f ∷ []) (so_far.completes (f ∷ []) rest (alone operand.text));
  ends = not_sign c rest operand.ends other;
}

pub joined_none : (c : Connective) (ts now : List Lexeme) (fs : List PhraseTree) → Joining c ts now fs
    → HasNone (IsOperand c) (level c + 1) now → HasNone (IsJoined c) (level c) ts
joined_none c ts now fs so_far none = record { refuted = λ tree rest r. whole tree rest r.text r.ends }
  where
    by : (end : List Lexeme) (hs : List PhraseTree) → IsChain c now hs end → binding end < level c → ⊥
    by end hs (alone {f = f} q) less = none.refuted f end (record { text = q; ends = omega arith })
    by end hs (followed {us = us} {f = f} v q e more) less =
        let b = sign_binds c v us e in none.refuted f (v ∷ us) (record { text = q; ends = omega arith })

    whole : (tree : PhraseTree) (rest : List Lexeme) → IsJoined c ts tree rest → binding rest < level c → ⊥
    whole tree rest (joining gs d) less = let found = so_far.left gs rest d less in by rest found.0 found.1 less

-- an operand of a connective is what its level says
pub operand_of_equivalence : (ts : List Lexeme) (found : Option PhraseTree) (rest : List Lexeme) → Finds (IsJoined Implication) 2 ts found rest → Finds (IsOperand Equivalence) 2 ts found rest
operand_of_equivalence ts (Some f) rest r = record { text = implication r.text; ends = r.ends }
operand_of_equivalence ts None rest none = record { refuted = by }
  where
    by : (f : PhraseTree) (end : List Lexeme) → Reads (IsOperand Equivalence) 2 ts f end → ⊥
    by f end r = elim r.text [ implication p ↦ none.refuted f end (record { text = p; ends = r.ends }) ]

pub operand_of_implication : (ts : List Lexeme) (found : Option PhraseTree) (rest : List Lexeme) → Finds (IsJoined Disjunction) 3 ts found rest → Finds (IsOperand Implication) 3 ts found rest
operand_of_implication ts (Some f) rest r = record { text = disjunction r.text; ends = r.ends }
operand_of_implication ts None rest none = record { refuted = λ f end r. by f end r.text r.ends }
  where
    by : (f : PhraseTree) (end : List Lexeme) → IsOperand Implication ts f end → binding end < 3 → ⊥
    by f end (disjunction p) less = none.refuted f end (record { text = p; ends = less })

pub operand_of_disjunction : (ts : List Lexeme) (found : Option PhraseTree) (rest : List Lexeme) → Finds (IsJoined Conjunction) 4 ts found rest → Finds (IsOperand Disjunction) 4 ts found rest
operand_of_disjunction ts (Some f) rest r = record { text = conjunction r.text; ends = r.ends }
operand_of_disjunction ts None rest none = record { refuted = λ f end r. by f end r.text r.ends }
  where
    by : (f : PhraseTree) (end : List Lexeme) → IsOperand Disjunction ts f end → binding end < 4 → ⊥
    by f end (conjunction p) less = none.refuted f end (record { text = p; ends = less })

pub operand_of_conjunction : (ts : List Lexeme) (found : Option PhraseTree) (rest : List Lexeme) → Finds IsUnary 5 ts found rest → Finds (IsOperand Conjunction) 5 ts found rest
operand_of_conjunction ts (Some f) rest r = record { text = unary r.text; ends = r.ends }
operand_of_conjunction ts None rest none = record { refuted = λ f end r. by f end r.text r.ends }
  where
    by : (f : PhraseTree) (end : List Lexeme) → IsOperand Conjunction ts f end → binding end < 5 → ⊥
    by f end (unary p) less = none.refuted f end (record { text = p; ends = less })

-- behind `!`
pub negation_found : (ts us rest : List Lexeme) (f : PhraseTree) → Takes Not ts true us → Reads IsUnary 5 us f rest → Reads IsUnary 5 ts (negation f) rest
negation_found ts us rest f t r =
    record { text = subst (λ xs. IsUnary xs (negation f) rest) (sym t.1) (negated t.0 t.2 r.text); ends = r.ends }

pub negation_none : (ts us : List Lexeme) → Takes Not ts true us → HasNone IsUnary 5 us → HasNone IsUnary 5 ts
negation_none ts us t none = record { refuted = λ f end r. by f end (subst (λ xs. IsUnary xs f end) t.1 r.text) }
  where
    by : (f : PhraseTree) (end : List Lexeme) → IsUnary (t.0 ∷ us) f end → ⊥
    by f end (negated {f = g} s e p) = none.refuted g end (record { text = p; ends = below_five end })
    by f end (enclosed o c eo ec p) = let k = t.2 in absurd (cc)
    by f end (atomic p) = let k = t.2 in let a = atom_kind p in absurd (cc)

-- behind `(`
pub enclosed_found : (ts us mid rest : List Lexeme) (f : PhraseTree) → Takes Open ts true us → Reads (IsJoined Equivalence) 1 us f mid → Takes Close mid true rest → Reads IsUnary 5 ts f rest
enclosed_found ts us mid rest f t r u =
    let inside : IsJoined Equivalence us f (u.0 ∷ rest) = subst (λ xs. IsJoined Equivalence us f xs) u.1 r.text in
    record { text = subst (λ xs. IsUnary xs f rest) (sym t.1) (enclosed t.0 u.0 t.2 u.2 inside); ends = below_five rest }

pub enclosed_none : (ts us : List Lexeme) → Takes Open ts true us → HasNone (IsJoined Equivalence) 1 us → HasNone IsUnary 5 ts
enclosed_none ts us t none = record { refuted = λ f end r. by f end (subst (λ xs. IsUnary xs f end) t.1 r.text) }
  where
    by : (f : PhraseTree) (end : List Lexeme) → IsUnary (t.0 ∷ us) f end → ⊥
    by f end (negated s e p) = let k = t.2 in absurd (cc)
    by f end (enclosed o c eo ec p) = let b = kind_binds Close c end ec in none.refuted f (c ∷ end) (record { text = p; ends = omega arith })
    by f end (atomic p) = let k = t.2 in let a = atom_kind p in absurd (cc)

pub enclosed_open : (ts us mid rest : List Lexeme) (f : PhraseTree) → Takes Open ts true us → Reads (IsJoined Equivalence) 1 us f mid → Takes Close mid false rest → HasNone IsUnary 5 ts
enclosed_open ts us mid rest f t r u = record { refuted = λ g end s. by g end (subst (λ xs. IsUnary xs g end) t.1 s.text) }
  where
    by : (g : PhraseTree) (end : List Lexeme) → IsUnary (t.0 ∷ us) g end → ⊥
    by g end (negated s e p) = let k = t.2 in absurd (cc)
    by g end (enclosed o c eo ec p) =
        let b = kind_binds Close c end ec in
        let same = joined_one Equivalence r.text p r.ends (omega arith) in
        u.1 (ap first_kind same.1 ∙ ap Some ec)
    by g end (atomic p) = let k = t.2 in let a = atom_kind p in absurd (cc)

-- neither of both
pub unary_atom : (ts mid now : List Lexeme) (found : Option PhraseTree) (rest : List Lexeme) → Takes Not ts false mid → Takes Open mid false now
    → Finds IsAtom 5 now found rest → Finds IsUnary 5 ts found rest
unary_atom ts mid now (Some f) rest t u r = record { text = subst (λ xs. IsUnary xs f rest) (u.0 ∙ t.0) (atomic r.text); ends = r.ends }
unary_atom ts mid now None rest t u none = record { refuted = λ f end r. by ts f end (sym (u.0 ∙ t.0)) r.text }
  where
    by : (xs : List Lexeme) (f : PhraseTree) (end : List Lexeme) → xs ≡ now → IsUnary xs f end → ⊥
    by xs f end is (negated s e p) = t.1 (ap first_kind (sym (u.0 ∙ t.0) ∙ sym is) ∙ ap Some e)
    by xs f end is (enclosed o c eo ec p) = u.1 (ap first_kind (sym u.0 ∙ sym is) ∙ ap Some eo)
    by xs f end is (atomic p) = none.refuted f end (record { text = subst (λ ys. IsAtom ys f end) is p; ends = below_five end })

-- a sign stands behind the operand
pub joining_step : (c : Connective) (ts now rest end : List Lexeme) (sign : TokenKind) (fs gs : List PhraseTree) (f : PhraseTree) → Joining c ts now fs
    → Reads (IsOperand c) (level c + 1) now f rest → Takes sign rest true end → sign ≡ sign_of c → gs ≡ fs ++ f ∷ [] → Joining c ts end gs
joining_step c ts now rest end sign fs gs f so_far operand t is all =
    let read : Reads (IsOperand c) (level c + 1) now f (t.0 ∷ end) = subst (λ xs. Reads (IsOperand c) (level c + 1) now f xs) t.1 operand in
    subst (λ hs. Joining c ts end hs) (sym all) (joining_more c ts now end t.0 fs f so_far read (t.2 ∙ is))

-- none does
pub joined_step : (c : Connective) (ts now rest end : List Lexeme) (sign : TokenKind) (fs gs : List PhraseTree) (f tree : PhraseTree) → Joining c ts now fs
    → Reads (IsOperand c) (level c + 1) now f rest → Takes sign rest false end → sign ≡ sign_of c → gs ≡ fs ++ f ∷ [] → tree ≡ joined c gs
    → Reads (IsJoined c) (level c) ts tree end
joined_step c ts now rest end sign fs gs f tree so_far operand t is all whole =
    let other : first_kind rest ≢ Some (sign_of c) = subst (λ k. first_kind rest ≢ Some k) is t.1 in
    let read = joined_found c ts now rest fs f so_far operand other in
    let same : joined c (fs ++ f ∷ []) ≡ tree = ap (joined c) (sym all) ∙ sym whole in
    subst (λ xs. Reads (IsJoined c) (level c) ts tree xs) (sym t.0) (subst (λ g. Reads (IsJoined c) (level c) ts g rest) same read)

-- so many tokens are negation signs, and others are behind them
pub record Negating (ts rest : List Lexeme) : Type 0 where
  pub completes : (f : PhraseTree) (end : List Lexeme) → Reads IsUnary 5 rest f end → Reads IsUnary 5 ts (negations (length ts - length rest) f) end
  pub none : HasNone IsUnary 5 rest → HasNone IsUnary 5 ts
  pub left : length rest ≤ length ts

pub negating_none : (ts : List Lexeme) → Negating ts ts
negating_none ts = record {
  completes = λ f end r. let none : 0 ≡ length ts - length ts = omega arith in subst (λ n. Reads IsUnary 5 ts (negations n f) end) none r;
  none = λ none. none;
  left = omega arith;
}

pub negating_more : (ts rest less : List Lexeme) → Negating ts rest → Takes Not rest true less → Negating ts less
negating_more ts rest less so_far t = record {
  completes = λ f end r. subst (λ n. Reads IsUnary 5 ts (negations n f) end) one_more (so_far.completes (negation f) end (negation_found rest less end f t r));
  none = λ none. so_far.none (negation_none rest less t none);
  left = omega (long, so_far.left, arith);
}
  where
    long : length rest ≡ suc (length less)
    long = ap length t.1

    one_more : suc (length ts - length rest) ≡ length ts - length less
    one_more = omega (long, so_far.left, arith)

-- one negation sign more
pub negations_more : (n : ℕ) (f : PhraseTree) → 0 < n → negations n f ≡ negations (n - 1) (negation f)
negations_more zero f some = absurd (omega arith)
negations_more (suc n) f some = let same : n ≡ suc n - 1 = omega arith in ap (λ m. negations m (negation f)) same

-- one operand alone makes itself
joined_single : (c : Connective) (f : PhraseTree) → joined c (f ∷ []) ≡ f
joined_single Equivalence f = refl
joined_single Implication f = refl
joined_single Disjunction f = refl
joined_single Conjunction f = refl

joined_operand : (c : Connective) (ts rest : List Lexeme) (f : PhraseTree) → IsOperand c ts f rest → IsJoined c ts f rest
joined_operand c ts rest f p = subst (λ g. IsJoined c ts g rest) (joined_single c f) (joining (f ∷ []) (alone p))

-- what binds tightest is what any connective joins
module _ (ts rest : List Lexeme) (f : PhraseTree) (p : IsUnary ts f rest) where
  in_conjunction : IsJoined Conjunction ts f rest
  in_conjunction = joined_operand Conjunction ts rest f (unary p)

  in_disjunction : IsJoined Disjunction ts f rest
  in_disjunction = joined_operand Disjunction ts rest f (conjunction in_conjunction)

  in_implication : IsJoined Implication ts f rest
  in_implication = joined_operand Implication ts rest f (disjunction in_disjunction)

  in_joined : (c : Connective) → IsJoined c ts f rest
  in_joined Equivalence = joined_operand Equivalence ts rest f (implication in_implication)
  in_joined Implication = in_implication
  in_joined Disjunction = in_disjunction
  in_joined Conjunction = in_conjunction

-- nothing goes on with what binds tightest
pub joined_alone : (c : Connective) (ts rest : List Lexeme) (f : PhraseTree) → Reads IsUnary 5 ts f rest → binding rest < level c → Reads (IsJoined c) (level c) ts f rest
joined_alone c ts rest f r less = record { text = in_joined ts rest f r.text c; ends = less }

-- where nothing binds tightest there is nothing to join
module _ (ts : List Lexeme) (none : HasNone IsUnary 5 ts) where
  no_conjunction : HasNone (IsJoined Conjunction) 4 ts
  no_conjunction = joined_none Conjunction ts ts [] (joining_none Conjunction ts) (operand_of_conjunction ts None ts none)

  no_disjunction : HasNone (IsJoined Disjunction) 3 ts
  no_disjunction = joined_none Disjunction ts ts [] (joining_none Disjunction ts) (operand_of_disjunction ts None ts no_conjunction)

  no_implication : HasNone (IsJoined Implication) 2 ts
  no_implication = joined_none Implication ts ts [] (joining_none Implication ts) (operand_of_implication ts None ts no_disjunction)

  pub unary_none : (c : Connective) → HasNone (IsJoined c) (level c) ts
  unary_none Equivalence = joined_none Equivalence ts ts [] (joining_none Equivalence ts) (operand_of_equivalence ts None ts no_implication)
  unary_none Implication = no_implication
  unary_none Disjunction = no_disjunction
  unary_none Conjunction = no_conjunction

-- behind the first operand there is no sign
pub joined_first : (c : Connective) (ts rest end : List Lexeme) (sign : TokenKind) (f : PhraseTree) → Reads (IsOperand c) (level c + 1) ts f rest → Takes sign rest false end
    → sign ≡ sign_of c → Reads (IsJoined c) (level c) ts f end
joined_first c ts rest end sign f operand t is = joined_step c ts ts rest end sign [] (f ∷ []) f f (joining_none c ts) operand t is refl (sym (joined_single c f))

-- behind the first operand there is one
pub joining_first : (c : Connective) (ts rest end : List Lexeme) (sign : TokenKind) (gs : List PhraseTree) (f : PhraseTree) → Reads (IsOperand c) (level c + 1) ts f rest
    → Takes sign rest true end → sign ≡ sign_of c → gs ≡ f ∷ [] → Joining c ts end gs
joining_first c ts rest end sign gs f operand t is all = joining_step c ts ts rest end sign [] gs f (joining_none c ts) operand t is all
