-- The steps of reading truths, equations and paths, over plain lists of tokens.
use Rattle.std.proofs.Common.{◌≡◌, ◌≢◌, ℕ, Bool, true, false, ◌||◌, List, [], ◌∷◌, Option, Some, None, refl, sym, ap, ap₂, subst, ◌∙◌, codes}
use Rattle.lv_base.specs.Names.{is_named}
use Rattle.lv_text.specs.declared.lexer.TokenKind.TheVariants.{Word, Equals, Dot}
use Rattle.lv_text.specs.Lexemes.{Lexeme}
use Rattle.lv_formula_text.specs.declared.path.Path.{Path}
use Rattle.lv_formula_text.specs.declared.path.Path.TheVariants.{Own, OfPart}
use Rattle.lv_formula_text.specs.PhraseTree.{PhraseTree, always, never, equals}
use Rattle.lv_formula_text.specs.Connectives.{first_kind}
use Rattle.lv_formula_text.specs.Cursors.{Takes, TakesWord, TakesName}
use Rattle.lv_formula_text.specs.Grammar.{IsPath, own_word, word_of_part, IsEquation, sides, begins_with_truth, IsAtom, truth, falsity, equation}
use Rattle.lv_formula_text.specs.Reading.{Reads, HasNone, Finds}
use Rattle.lv_formula_text.proofs.GrammarLemmas.{below_five, cons_tail, path_one, equation_kind}

-- paths
pub path_none : (ts rest : List Lexeme) → TakesWord ts None rest → HasNone IsPath 5 ts
path_none ts rest t = record { refuted = λ p end r. by ts p end refl r.text }
  where
    by : (xs : List Lexeme) (p : Path) (end : List Lexeme) → xs ≡ ts → IsPath xs p end → ⊥
    by xs p end is (own_word w e last) = t.1 (ap first_kind (sym is) ∙ ap Some e)
    by xs p end is (word_of_part q dot n a b c) = t.1 (ap first_kind (sym is) ∙ ap Some a)

pub own_found : (ts us rest : List Lexeme) (name : List ℕ) → TakesWord ts (Some name) us → Takes Dot us false rest → Reads IsPath 5 ts (Own name) rest
own_found ts us rest name t u =
    record { text = subst (λ xs. IsPath xs (Own name) rest) (ap (λ xs. t.0 ∷ xs) u.0 ∙ sym t.1) (subst (λ n. IsPath (t.0 ∷ rest) (Own n) rest) t.3 (own_word t.0 t.2 (subst (λ xs. first_kind xs ≢ Some Dot) (sym u.0) u.1))); ends = below_five rest }

pub part_none : (ts us vs rest : List Lexeme) (name : List ℕ) → TakesWord ts (Some name) us → Takes Dot us true vs → TakesWord vs None rest → HasNone IsPath 5 ts
part_none ts us vs rest name t u v = record { refuted = λ p end r. by ts p end (t.1 ∙ ap (λ xs. t.0 ∷ xs) u.1) r.text }
  where
    by : (xs : List Lexeme) (p : Path) (end : List Lexeme) → xs ≡ t.0 ∷ u.0 ∷ vs → IsPath xs p end → ⊥
    by xs p end is (own_word w e last) = last (ap first_kind (cons_tail is) ∙ ap Some u.2)
    by xs p end is (word_of_part q dot n a b c) = v.1 (ap first_kind (sym (cons_tail (cons_tail is))) ∙ ap Some c)

pub part_found : (ts us vs rest : List Lexeme) (part name : List ℕ) → TakesWord ts (Some part) us → Takes Dot us true vs → TakesWord vs (Some name) rest
    → Reads IsPath 5 ts (OfPart part name) rest
part_found ts us vs rest part name t u v =
    let whole : ts ≡ t.0 ∷ u.0 ∷ v.0 ∷ rest = t.1 ∙ ap (λ xs. t.0 ∷ xs) (u.1 ∙ ap (λ xs. u.0 ∷ xs) v.1) in
    let path : OfPart t.0.text v.0.text ≡ OfPart part name = ap₂ OfPart t.3 v.3 in
    record { text = subst (λ xs. IsPath xs (OfPart part name) rest) (sym whole) (subst (λ p. IsPath (t.0 ∷ u.0 ∷ v.0 ∷ rest) p rest) path (word_of_part t.0 u.0 v.0 t.2 u.2 v.2)); ends = below_five rest }

-- equations
pub left_none : (ts : List Lexeme) → HasNone IsPath 5 ts → HasNone IsEquation 5 ts
left_none ts none = record { refuted = λ f end r. by f end r.text }
  where
    by : (f : PhraseTree) (end : List Lexeme) → IsEquation ts f end → ⊥
    by f end (sides {us = us} l r s p e q) = none.refuted l (s ∷ us) (record { text = p; ends = below_five (s ∷ us) })

pub equals_none : (ts us rest : List Lexeme) (l : Path) → Reads IsPath 5 ts l us → Takes Equals us false rest → HasNone IsEquation 5 ts
equals_none ts us rest l read t = record { refuted = λ f end r. by f end r.text }
  where
    by : (f : PhraseTree) (end : List Lexeme) → IsEquation ts f end → ⊥
    by f end (sides m r s p e q) = let same = path_one read.text p in t.1 (ap first_kind same.1 ∙ ap Some e)

pub right_none : (ts us vs : List Lexeme) (l : Path) → Reads IsPath 5 ts l us → Takes Equals us true vs → HasNone IsPath 5 vs → HasNone IsEquation 5 ts
right_none ts us vs l read t none = record { refuted = λ f end r. by f end r.text }
  where
    by : (f : PhraseTree) (end : List Lexeme) → IsEquation ts f end → ⊥
    by f end (sides m r s p e q) =
        let same = path_one read.text p in
        none.refuted r end (record { text = subst (λ xs. IsPath xs r end) (sym (cons_tail (sym t.1 ∙ same.1))) q; ends = below_five end })

pub equation_found : (ts us vs rest : List Lexeme) (l r : Path) → Reads IsPath 5 ts l us → Takes Equals us true vs → Reads IsPath 5 vs r rest → Reads IsEquation 5 ts (equals l r) rest
equation_found ts us vs rest l r left t right =
    record { text = sides l r t.0 (subst (λ xs. IsPath ts l xs) t.1 left.text) t.2 right.text; ends = right.ends }

-- truths
pub truth_found : (ts rest : List Lexeme) → TakesName (codes "true") ts true rest → Reads IsAtom 5 ts always rest
truth_found ts rest t = record { text = subst (λ xs. IsAtom xs always rest) (sym t.1) (truth t.0 t.2 t.3); ends = below_five rest }

pub falsity_found : (ts us rest : List Lexeme) → TakesName (codes "true") ts false us → TakesName (codes "false") us true rest → Reads IsAtom 5 ts never rest
falsity_found ts us rest t u = record { text = subst (λ xs. IsAtom xs never rest) (sym u.1 ∙ t.0) (falsity u.0 u.2 u.3); ends = below_five rest }

no_truth : (ts : List Lexeme) (f : PhraseTree) (end : List Lexeme) → ((token : Lexeme) (others : List Lexeme) → ts ≡ token ∷ others → token.kind ≡ Word → is_named (codes "true") token.text ≡ false)
    → ((token : Lexeme) (others : List Lexeme) → ts ≡ token ∷ others → token.kind ≡ Word → is_named (codes "false") token.text ≡ false) → IsEquation ts f end → begins_with_truth ts ≡ false
no_truth [] f end a b p = refl
no_truth (t ∷ ts) f end a b p = let k = equation_kind p in ap₂ (λ (x y : Bool). x || y) (a t ts refl k) (b t ts refl k)

pub atom_equation : (ts us vs : List Lexeme) (found : Option PhraseTree) (rest : List Lexeme) → TakesName (codes "true") ts false us → TakesName (codes "false") us false vs
    → Finds IsEquation 5 vs found rest → Finds IsAtom 5 ts found rest
atom_equation ts us vs (Some f) rest t u r =
    let read : IsEquation ts f rest = subst (λ xs. IsEquation xs f rest) (u.0 ∙ t.0) r.text in
    record { text = equation (no_truth ts f rest t.1 (λ token others is. u.1 token others (t.0 ∙ is)) read) read; ends = r.ends }
atom_equation ts us vs None rest t u none = record { refuted = λ f end r. by ts f end refl r.text }
  where
    by : (xs : List Lexeme) (f : PhraseTree) (end : List Lexeme) → ts ≡ xs → IsAtom xs f end → ⊥
    by xs f end is (truth {rest = others} w e n) = let m = t.1 w others is e in absurd (cc)
    by xs f end is (falsity {rest = others} w e n) = let m = u.1 w others (t.0 ∙ is) e in absurd (cc)
    by xs f end is (equation free p) = none.refuted f end (record { text = subst (λ ys. IsEquation ys f end) (sym is ∙ sym (u.0 ∙ t.0)) p; ends = below_five end })
