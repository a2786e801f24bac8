-- one sign less is one negation more
use Rattle.std.proofs.Common.{◌≡◌, ◌-◌, ap, sym, ◌∙◌}
use Rattle.lv_formula_text.specs.PhraseTree.{tree_of, tree_in, negation}
use Rattle.lv_formula_text.specs.Connectives.{negations}
use Rattle.lv_formula_text.proofs.TreeLemmas.{tree_of-Not}
use Rattle.lv_formula_text.proofs.ParserLemmas.{negations_more}
use Rattle.lv_formula_text.proofs.parser.negated.Goals as goal

pub signs-preserved : goal.signs-preserved
signs-preserved c =
    let tree : tree_in c.in_ok-whole.whole ≡ negation (tree_in c.signs.whole) = ap tree_of c.in_ok-whole.ensures ∙ tree_of-Not c.signs.whole in
    ap (negations (c.signs.left - 1)) tree ∙ sym (negations_more c.signs.left (tree_in c.signs.whole) c.signs-test.true) ∙ c.signs.invariant
