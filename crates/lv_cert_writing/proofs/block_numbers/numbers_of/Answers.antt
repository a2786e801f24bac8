-- the next clause has its number
use Rattle.std.proofs.Common.{◌≡◌, ◌+◌, ◌-◌, Some, slice_get, ap, sym, ◌∙◌, arith}
use Rattle.lv_cert_writing.proofs.BlockNumberLemmas.{number_next}
use Rattle.lv_cert_writing.proofs.block_numbers.numbers_of.Goals as goal

pub loop-n-preserved : goal.loop-n-preserved
loop-n-preserved c =
    let ids = c.args.system.now.ids in
    let same : c.loop-n.n + 1 - 1 ≡ c.loop-n.n = omega arith in
    let at : slice_get ids c.loop-n.n ≡ Some c.clause_id-id.result = sym (ap (slice_get ids) same) ∙ c.clause_id-id.ensures.is in
    number_next c.args.system.now c.loop-n.n c.loop-n.numbers.items c.keep.new.numbers.items c.clause_id-id.result (c.from.result + 1) at (let here = c.from.ensures in omega (arith, here))
    c.in_ok-keep.ensures.kept c.loop-n.invariant
