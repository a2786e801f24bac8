-- as many rows as were counted
use Rattle.std.proofs.Common.{◌≡◌, ◌≤◌, length}
use Rattle.lv_search_bans.proofs.prices.fit_rows.Given as goal

abbrev pub invariant-loop-row : goal.invariant-loop-row
invariant-loop-row l =
    record {
      long : length l.rows.items ≡ l._row;
      within : l._row ≤ l.count;
    }
