-- the members without conflict are those of the box at the start, and each slot listed lost a choice
use Rattle.std.specs.Prelude.{◌≤◌, ◌+◌, ◌*◌, length, sum}
use Rattle.lv_search_bans.specs.Narrow.{IsNoMoreBy}
use Rattle.lv_search_bans.proofs.narrow.narrow_at.Given as goal

abbrev pub invariant-loop-place : goal.invariant-loop-place
invariant-loop-place l =
    record {
      free : IsNoMoreBy l.conflicts l.fn.masks l.masks;
      less : 2 * sum l.masks + length l.changed.items ≤ 2 * sum l.fn.masks + length l.fn.changed.items;
    }
