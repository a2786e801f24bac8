-- marking what is left to be looked at marks all
use Rattle.std.proofs.Common.{◌≡◌, length, drop}
use Rattle.lv_cert_writing.specs.Needed.{named_marked}
use Rattle.lv_cert_writing.proofs.needed.mark_named.Given as goal

abbrev pub invariant-loop-hint : goal.invariant-loop-hint
invariant-loop-hint l =
    record {
      rest : named_marked l.place l.needed.items (drop l.hint-index l.hints) ≡ named_marked l.place l.fn.needed.items l.hints;
      len : length l.needed.items ≡ length l.fn.needed.items;
    }
