-- move by move
use Rattle.std.proofs.Common.{◌+◌, ◌<◌, ◌∷◌, drop, length, sym, ap, ◌∙◌, arith}
use Rattle.std.proofs.lemmas.List.{drop_more}
use Rattle.lv_model.specs.Counts.{held, moves_count}
use Rattle.lv_model.proofs.CountLemmas.{moved_more}
use Rattle.lv_model.proofs.counts.with_moves.Goals as goal

pub loop-others-preserved : goal.loop-others-preserved
loop-others-preserved c =
    let ms = c.args.moves.now in
    let i = c.loop-others.others in
    let m = c.index-moves-others.result in
    let inside : i < length ms = omega arith in
    let left = drop_more ms i m inside ∙ ap (λ x. x ∷ drop (i + 1) ms) (sym c.index-moves-others.is) in
    let added = c.with_going-out.ensures in
    record {
      rest =
          moved_more c.args.sizes.now ms (drop i ms) (drop (i + 1) ms) c.as_slice.result.now i m c.loop-others.out c.with.result c.with_going-out.result
          (held (c.args.total + moves_count c.args.sizes.now ms 0 ms))
          (c.as_slice.ensures.value ∙ c.in_ok-denials.ensures) left c.with.ensures added c.loop-others.invariant.rest;
      held = omega (arith, added);
    }
