-- what was added and the copies that are left are all, and the numbers still fit
use Rattle.std.proofs.Common.{◌≡◌, ◌+◌, ◌*◌, ◌≤◌, ◌++◌}
use Rattle.lv_compile.specs.Windows.{past_copies, copies_clauses}
use Rattle.lv_compile.proofs.windows.push_copies.Given as goal

abbrev pub invariant-copies : goal.invariant-copies
invariant-copies l =
    record {
      rest : l.out.items ++ copies_clauses l.plant l.first l.left ≡ l.initial.out.items ++ copies_clauses l.plant 0 l.copies;
      past : past_copies l.plant l.first l.left ≡ past_copies l.plant 0 l.copies;
      fit : l.first + 262144 * l.left ≤ 262144 * l.copies;
    }

abbrev pub decreases-copies : goal.decreases-copies
decreases-copies l = l.left
