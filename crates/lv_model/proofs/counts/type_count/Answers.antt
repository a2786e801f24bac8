-- both copies, then the choices
use Rattle.std.proofs.Common.{◌≡◌, ◌+◌, length, ap, ap₂, ◌∙◌, arith}
use Rattle.lv_model.specs.Counts.{held, one_of_count, formula_sizes, copy_count, moves_count}
use Rattle.lv_model.proofs.counts.type_count.Goals as goal

pub returns : goal.returns
returns c =
    let ds = c.args.domains.now in
    let t = c.args.t.now in
    let sizes = c.as_slice-sizes.ensures.value ∙ c.in_ok-sizes.ensures ∙ ap (λ vs. formula_sizes ds vs) c.as_slice.ensures in
    let one : c.with_copy-out.result ≡ held (0 + copy_count ds t) = c.with_copy-out.ensures in
    let both : c.with_copy-out-2.result ≡ held (c.with_copy-out.result + copy_count ds t) = c.with_copy-out-2.ensures in
    let choice : c.with_one_of-out.result ≡ held (c.with_copy-out-2.result + one_of_count (length t.moves)) =
    c.with_one_of-out.ensures ∙ ap (λ n. held (c.with_copy-out-2.result + one_of_count n)) c.len.ensures in
    let moves : c.in_ok-out.out ≡ held (c.with_one_of-out.result + moves_count (formula_sizes ds t.variables) t.moves 0 t.moves) =
    c.in_ok-out.ensures ∙ ap₂ (λ s ms. held (c.with_one_of-out.result + moves_count s ms 0 ms)) sizes c.as_slice-2.ensures in
    omega (arith, one, both, choice, moves)
