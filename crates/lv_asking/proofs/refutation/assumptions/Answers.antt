-- the parts stand in another order
use Rattle.std.proofs.Common.{◌≡◌, ◌++◌, List, reverse, subst, sym, ap, ◌∙◌, IsPermutation}
use Rattle.lv_base.specs.declared.ids.Lit.{Lit}
use Rattle.lv_asking.proofs.OrderLemmas.{parts_permuted}
use Rattle.lv_asking.proofs.refutation.assumptions.Goals as goal

pub returns : goal.returns
returns c =
    let others : List Lit = c.split_at.result.1.now in
    let blocks : List Lit = c.split_at-2.result.0.now in
    let last : List Lit = c.split_at-2.result.1.now in
    let assumed : List Lit = c.args.assumed.now in
    let chosen : c.args.chosen.now ≡ (blocks ++ last) ++ others = c.split_at.ensures.by_index.0 ∙ ap (λ (ls : List Lit). ls ++ others) c.split_at-2.ensures.by_index.0 in
    let turned = c.in_ok-push_backwards.ensures ∙ ap (λ (ls : List Lit). ls ++ reverse others) (c.in_ok-extend_from_slice-2.ensures.items ∙ ap (λ (ls : List Lit). ls ++ blocks) (c.in_ok-extend_from_slice.ensures.items ∙ ap (λ (ls : List Lit). ls ++ assumed) c.in_ok-out.ensures.items)) in
    let out = c.in_ok-extend_from_slice-3.ensures.items ∙ ap (λ (ls : List Lit). ls ++ last) turned in
    subst (λ (ls : List Lit). IsPermutation (ls ++ assumed) c.extend_from_slice-3.new.self.items) (sym chosen)
    (subst (IsPermutation (((blocks ++ last) ++ others) ++ assumed)) (sym out) (parts_permuted blocks last others assumed))
