-- operand by operand
use Rattle.std.proofs.Common.{◌≡◌, ◌+◌, ◌<◌, ◌≤◌, ◌∷◌, [], Ok, map, drop, length, sym, ap, ap₂, ◌∙◌, arith}
use Rattle.std.proofs.lemmas.List.{drop_more, drop_all, map-append}
use Rattle.lv_base.specs.Tree as formula
use Rattle.lv_formula_text.specs.PhraseTree.{tree_of, trees_of, equals}
use Rattle.lv_formula_text.specs.Resolving.{names_of, equation_of, resolved}
use Rattle.lv_formula_text.proofs.TreeLemmas.{tree_of-Equals}
use Rattle.lv_formula_text.proofs.ResolverLemmas.{continued, continued_step, in_front_none}
use Rattle.lv_formula_text.proofs.resolver.+resolve.Goals as goal

pub resolve_all-operands-preserved : goal.resolve_all-operands-preserved
resolve_all-operands-preserved g t c =
    let names = names_of g.S.Scope.named_variable g.S.Scope.named_value g.S.Scope.share_domain c.args.scope.now in
    let index = c.operands.operand-index in
    let inside : index < length c.args.operands.now = omega arith in
    let left = drop_more c.args.operands.now index c.operand-item.result inside ∙ ap (λ x. x ∷ drop (index + 1) c.args.operands.now) (sym c.operand-item.is) in
    let found : resolved names (tree_of c.operand-item.result) ≡ Ok (formula.tree_of c.in-Ok-2.formula.value) = sym (rw c.in-Ok-2.is at c.in_ok-formula.ensures) in
    let all = ap (map formula.tree_of) c.in_ok-push_unboxed-in-Ok-2.ensures ∙ map-append formula.tree_of c.operands.found.items (c.in-Ok-2.formula.value ∷ []) in
    continued_step names (map formula.tree_of c.operands.found.items) (map formula.tree_of c.push_unboxed.new.items.items) (tree_of c.operand-item.result)
    (trees_of (map tree_of (drop index c.args.operands.now))) (trees_of (map tree_of (drop (index + 1) c.args.operands.now))) (formula.tree_of c.in-Ok-2.formula.value)
    (ap (λ xs. trees_of (map tree_of xs)) left) found all
    ∙ c.operands.invariant

pub resolve_all-operands-preserved-in-Equals : goal.resolve_all-operands-preserved-in-Equals
resolve_all-operands-preserved-in-Equals g t c =
    let names = names_of g.S.Scope.named_variable g.S.Scope.named_value g.S.Scope.share_domain c.args.scope.now in
    let index = c.operands.operand-index in
    let inside : index < length c.args.operands.now = omega arith in
    let left = drop_more c.args.operands.now index c.operand-item.result inside ∙ ap (λ x. x ∷ drop (index + 1) c.args.operands.now) (sym c.operand-item.is) in
    let tree : tree_of c.operand-item.result ≡ equals c.in-Equals.sides.left c.in-Equals.sides.right = ap tree_of c.in-Equals.is ∙ tree_of-Equals c.in-Equals.sides in
    let solved : equation_of names c.in-Equals.sides.left c.in-Equals.sides.right ≡ Ok (formula.tree_of c.in-Ok.formula) = sym (rw c.in-Ok.is at c.equation.ensures) in
    let found : resolved names (tree_of c.operand-item.result) ≡ Ok (formula.tree_of c.in-Ok.formula) = ap (resolved names) tree ∙ solved in
    let all = ap (map formula.tree_of) c.in_ok-push-in-Ok.ensures.items ∙ map-append formula.tree_of c.operands.found.items (c.in-Ok.formula ∷ []) in
    continued_step names (map formula.tree_of c.operands.found.items) (map formula.tree_of c.push.new.self.items) (tree_of c.operand-item.result)
    (trees_of (map tree_of (drop index c.args.operands.now))) (trees_of (map tree_of (drop (index + 1) c.args.operands.now))) (formula.tree_of c.in-Ok.formula)
    (ap (λ xs. trees_of (map tree_of xs)) left) found all
    ∙ c.operands.invariant

pub resolve_all-returns : goal.resolve_all-returns
resolve_all-returns g t c =
    let names = names_of g.S.Scope.named_variable g.S.Scope.named_value g.S.Scope.share_domain c.args.scope.now in
    let past : length c.args.operands.now ≤ c.operands.operand-index = omega arith in
    let rest = drop_all c.operands.operand-index c.args.operands.now past in
    ap Ok (sym (in_front_none (map formula.tree_of c.operands.found.items)))
    ∙ sym (ap (λ xs. continued names (map formula.tree_of c.operands.found.items) (trees_of (map tree_of xs))) rest)
    ∙ c.operands.invariant
