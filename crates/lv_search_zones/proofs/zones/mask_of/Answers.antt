-- move by move
use Rattle.std.proofs.Common.{◌+◌, ◌<◌, ◌∷◌, drop, length, sym, ap, ◌∙◌}
use Rattle.std.proofs.lemmas.List.{drop_more}
use Rattle.lv_search_zones.specs.Moves.{mask_of}
use Rattle.lv_search_zones.proofs.MaskLemmas.{mask_more, mask_whole}
use Rattle.lv_search_zones.proofs.zones.mask_of.Goals as goal

pub loop-n-preserved : goal.loop-n-preserved
loop-n-preserved c =
    let ms = c.args.moves.now in
    let i = c.loop-n.n in
    let m = c.index-moves-n.result in
    let inside : i < length ms = c.loop-n-test.true in
    mask_more c.loop-n.mask i c.args.mode.0 (mask_of c.args.mode.0 ms) c.move_bit-mask.result m (drop i ms) (drop (i + 1) ms) (drop_more ms i m inside ∙ ap (λ x. x ∷ drop (i + 1) ms) (sym c.index-moves-n.is)) c.move_bit-mask.ensures c.loop-n.invariant

pub returns : goal.returns
returns c = mask_whole c.loop-n.mask c.loop-n.n c.args.mode.0 (mask_of c.args.mode.0 c.args.moves.now) c.args.moves.now c.loop-n-test.false c.loop-n.invariant
