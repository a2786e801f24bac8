-- tokens written one after the other
use Rattle.std.proofs.Common.{◌+◌, ◌<◌, ◌∷◌, map, drop, length, sym, ap, ◌∙◌, arith}
use Rattle.std.proofs.lemmas.Result.{on_ok_weaker}
use Rattle.std.proofs.lemmas.List.{drop_more}
use Rattle.lv_formula_text.specs.PhraseTree.{tree_of, trees_of}
use Rattle.lv_formula_text.specs.Canonical.{level_of, tokens_of}
use Rattle.lv_formula_text.proofs.TreeLemmas.{tree_of-Implies, tree_of-Iff}
use Rattle.lv_formula_text.proofs.PrinterLemmas.{in_parentheses, operand_step, implies_written, iff_written}
use Rattle.lv_formula_text.proofs.printer.+write.Goals as goal

pub write_operand-returns : goal.write_operand-returns
write_operand-returns t c =
    let less : level_of (tree_of c.args.node.now) < c.args.bound = omega arith in
    on_ok_weaker c.symbol-2.result
    (λ e. in_parentheses c.args.bound (tree_of c.args.node.now) (tokens_of (tree_of c.args.node.now)) c.args.writer.now c.symbol.new.self c.write-2.new.writer c.symbol-2.new.self less c.in_ok-symbol.ensures c.in_ok-write.ensures e)
    c.symbol-2.ensures

pub write_operands-operands-preserved : goal.write_operands-operands-preserved
write_operands-operands-preserved t c =
    let index = c.operands.operand-index in
    let inside : index < length c.args.operands.now = omega arith in
    let left = drop_more c.args.operands.now index c.operand-item.result inside ∙ ap (λ x. x ∷ drop (index + 1) c.args.operands.now) (sym c.operand-item.is) in
    operand_step c.args.connective c.operands.is_first (trees_of (map tree_of (drop index c.args.operands.now))) (trees_of (map tree_of (drop (index + 1) c.args.operands.now))) (tree_of c.operand-item.result)
    c.operands.writer c.write_sign.new.writer c.write_operand.new.writer (ap (λ xs. trees_of (map tree_of xs)) left) c.in_ok-write_sign.ensures (rw c.level.ensures at c.in_ok-write_operand.ensures)
    ∙ c.operands.invariant

pub write-returns-in_ok-symbol-in-Implies : goal.write-returns-in_ok-symbol-in-Implies
write-returns-in_ok-symbol-in-Implies t c =
    let tree = ap tree_of c.in-Implies.is ∙ tree_of-Implies c.in-Implies.f c.in-Implies.g in
    on_ok_weaker c.write_operand-in-Implies-2.result
    (λ e. implies_written _ _ _ _ _ _ _ _ _ _ _ tree (ap tree_of c.deref-in-Implies.ensures) (ap tree_of c.deref-in-Implies-2.ensures) (ap (λ n. n + 1) c.level.ensures) c.level-in-Implies.ensures c.in_ok-write_operand-in-Implies.ensures c.in_ok-symbol-in-Implies.ensures e)
    c.write_operand-in-Implies-2.ensures

pub write-returns-in_ok-symbol-in-Iff : goal.write-returns-in_ok-symbol-in-Iff
write-returns-in_ok-symbol-in-Iff t c =
    let tree = ap tree_of c.in-Iff.is ∙ tree_of-Iff c.in-Iff.f c.in-Iff.g in
    on_ok_weaker c.write_operand-in-Iff-2.result
    (λ e. iff_written _ _ _ _ _ _ _ _ _ _ _ tree (ap tree_of c.deref-in-Iff.ensures) (ap tree_of c.deref-in-Iff-2.ensures) (ap (λ n. n + 1) c.level-in-Iff.ensures) c.level-in-Iff-2.ensures c.in_ok-write_operand-in-Iff.ensures c.in_ok-symbol-in-Iff.ensures e)
    c.write_operand-in-Iff-2.ensures
