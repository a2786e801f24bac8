-- Resolving operand by operand.
use Rattle.std.proofs.Common.{◌≡◌, List, [], ◌∷◌, ◌++◌, Result, Ok, Err, refl, sym, ap, ◌∙◌}
use Rattle.lv_base.specs.Tree as formula
use Rattle.lv_formula_text.specs.declared.resolver.NameFault.{NameFault}
use Rattle.lv_formula_text.specs.PhraseTree.{PhraseTree, PhraseTrees, more}
use Rattle.lv_formula_text.specs.Resolving.{Names, on_ok, resolved, resolved_all}

-- formulas found before, in front of further ones
abbrev pub in_front : List formula.Tree → formula.Trees → formula.Trees
in_front [] ts = ts
in_front (t ∷ us) ts = formula.more t (in_front us ts)

pub in_front_last : (us : List formula.Tree) (t : formula.Tree) (ts : formula.Trees) → in_front (us ++ t ∷ []) ts ≡ in_front us (formula.more t ts)
in_front_last [] t ts = refl
in_front_last (u ∷ us) t ts = ap (formula.more u) (in_front_last us t ts)

pub in_front_none : (us : List formula.Tree) → in_front us formula.none ≡ formula.trees_of us
in_front_none [] = refl
in_front_none (u ∷ us) = ap (formula.more u) (in_front_none us)

-- what is left, behind what was found
abbrev pub continued : Names → List formula.Tree → PhraseTrees → Result formula.Trees NameFault
continued names us fs = on_ok (resolved_all names fs) (λ ts. Ok (in_front us ts))

pub continued_step : (names : Names) (us vs : List formula.Tree) (f : PhraseTree) (fs gs : PhraseTrees) (t : formula.Tree) → fs ≡ more f gs → resolved names f ≡ Ok t → vs ≡ us ++ t ∷ []
    → continued names vs gs ≡ continued names us fs
continued_step names us vs f fs gs t whole found all =
    ap (λ ws. continued names ws gs) all ∙ by (resolved_all names gs) ∙ sym (ap (λ r. on_ok (on_ok r (λ u. on_ok (resolved_all names gs) (λ ts. Ok (formula.more u ts)))) (λ ts. Ok (in_front us ts))) found) ∙ sym (ap (continued names us) whole)
  where
    by : (r : Result formula.Trees NameFault) → on_ok r (λ ts. Ok (in_front (us ++ t ∷ []) ts)) ≡ on_ok (on_ok r (λ ts. Ok (formula.more t ts))) (λ ts. Ok (in_front us ts))
    by (Ok ts) = ap Ok (in_front_last us t ts)
    by (Err fault) = refl

pub continued_fault : (names : Names) (us : List formula.Tree) (f : PhraseTree) (fs gs : PhraseTrees) (fault : NameFault) → fs ≡ more f gs → resolved names f ≡ Err fault
    → continued names us fs ≡ Err fault
continued_fault names us f fs gs fault whole found =
    ap (continued names us) whole ∙ ap (λ r. on_ok (on_ok r (λ u. on_ok (resolved_all names gs) (λ ts. Ok (formula.more u ts)))) (λ ts. Ok (in_front us ts))) found
