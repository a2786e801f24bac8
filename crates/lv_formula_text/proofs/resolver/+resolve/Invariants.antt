-- each call is for a smaller formula; what is left, behind what was found, makes the whole
use Rattle.std.proofs.Common.{◌≡◌, ◌+◌, ◌*◌, map, drop}
use Rattle.lv_base.specs.Tree as formula
use Rattle.lv_formula_text.specs.declared.phrase.PhraseNode.{size-PhraseNode}
use Rattle.lv_formula_text.specs.PhraseTree.{tree_of, trees_of}
use Rattle.lv_formula_text.specs.Resolving.{names_of, resolved_all}
use Rattle.lv_formula_text.proofs.ResolverLemmas.{continued}
use Rattle.lv_formula_text.proofs.resolver.+resolve.Given as goal

abbrev pub decreases-resolve_node : goal.decreases-resolve_node
decreases-resolve_node g l = 3 * goal.size-resolve_node g l

abbrev pub decreases-resolve_all : goal.decreases-resolve_all
decreases-resolve_all g l = 3 * goal.size-resolve_all g l + 1

abbrev pub decreases-resolve_conjunction : goal.decreases-resolve_conjunction
decreases-resolve_conjunction g l = 3 * goal.size-resolve_conjunction g l + 2

abbrev pub decreases-resolve_disjunction : goal.decreases-resolve_disjunction
decreases-resolve_disjunction g l = 3 * goal.size-resolve_disjunction g l + 2

abbrev pub decreases-resolve_implication : goal.decreases-resolve_implication
decreases-resolve_implication g l = 3 * size-PhraseNode l.right.now + 1

abbrev pub decreases-resolve_equivalence : goal.decreases-resolve_equivalence
decreases-resolve_equivalence g l = 3 * size-PhraseNode l.right.now + 1

abbrev pub invariant-resolve_all-operands : goal.invariant-resolve_all-operands
invariant-resolve_all-operands g l =
    continued (names_of g.S.Scope.named_variable g.S.Scope.named_value g.S.Scope.share_domain l.scope) (map formula.tree_of l.found.items) (trees_of (map tree_of (drop l.operand-index l.operands)))
    ≡ resolved_all (names_of g.S.Scope.named_variable g.S.Scope.named_value g.S.Scope.share_domain l.scope) (trees_of (map tree_of l.operands))
