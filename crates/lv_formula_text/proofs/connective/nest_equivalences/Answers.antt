-- the last two operands make one
use Rattle.std.proofs.Common.{◌≡◌, [], ◌∷◌, ◌++◌, map, sym, ◌∙◌, ap, ap₂}
use Rattle.std.proofs.lemmas.List.{map-append}
use Rattle.lv_formula_text.specs.declared.phrase.PhraseNode.{Iff}
use Rattle.lv_formula_text.specs.PhraseTree.{tree_of, iff}
use Rattle.lv_formula_text.specs.Connectives.{joined}
use Rattle.lv_formula_text.specs.declared.connective.Connective.TheVariants.{Equivalence}
use Rattle.lv_formula_text.proofs.TreeLemmas.{tree_of-Iff}
use Rattle.lv_formula_text.proofs.ConnectiveLemmas.{equivalences_last}
use Rattle.lv_formula_text.proofs.connective.nest_equivalences.Goals as goal

pub operands-preserved : goal.operands-preserved
operands-preserved c =
    let left = map tree_of c.pop-in-operands.new.self.items in
    let taken : map tree_of c.operands.operands.items ≡ left ++ tree_of c.in-Some.left ∷ [] =
    ap (map tree_of) c.in-Some.ensures.items ∙ map-append tree_of c.pop-in-operands.new.self.items (c.in-Some.left ∷ []) in
    let whole : tree_of (Iff c.in_ok-new.field-0 c.in_ok-new-2.field-0) ≡ iff (tree_of c.in-Some.left) (tree_of c.operands.whole) =
    tree_of-Iff c.in_ok-new.field-0 c.in_ok-new-2.field-0 ∙ ap₂ (λ f g. iff (tree_of f) (tree_of g)) c.in_ok-new.ensures.ok c.in_ok-new-2.ensures.ok in
    ap (λ f. joined Equivalence (left ++ f ∷ [])) whole ∙ sym (equivalences_last left (tree_of c.in-Some.left) (tree_of c.operands.whole))
    ∙ ap (λ fs. joined Equivalence (fs ++ tree_of c.operands.whole ∷ [])) (sym taken) ∙ c.operands.invariant
