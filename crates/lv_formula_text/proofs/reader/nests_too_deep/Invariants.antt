-- the fronts that are left, with what was opened and closed before, tell whether too many are open at some place; and the
-- operators counted so far and those that are left
use Rattle.std.proofs.Common.{◌≡◌, ◌+◌, ◌-◌, ◌≤◌, false, nat_lt, drop}
use Rattle.lv_base.specs.declared.limits.TheConstants.{OPEN_PARENTHESES}
use Rattle.lv_formula_text.specs.Nesting.{how_many, some_front, is_too_open, nests}
use Rattle.lv_formula_text.proofs.NestingLemmas.{exceeds}
use Rattle.lv_formula_text.proofs.reader.nests_too_deep.Given as goal

abbrev pub invariant-tokens : goal.invariant-tokens
invariant-tokens l = record {
  whole : some_front (exceeds l.opened l.closed) (drop l.place l.line) ≡ is_too_open l.line;
  small : nat_lt OPEN_PARENTHESES (l.opened - l.closed) ≡ false;
  few_opened : l.opened ≤ l.place;
  few_closed : l.closed ≤ l.place;
  counted : l.nested + how_many nests (drop l.place l.line) ≡ how_many nests l.line;
  few_nested : l.nested ≤ l.place;
}
