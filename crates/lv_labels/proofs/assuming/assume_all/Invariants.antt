-- what is assumed and the literals that are left are all that is to be assumed
use Rattle.std.proofs.Common.{◌≡◌, ◌||◌, drop}
use Rattle.lv_base.specs.declared.ids.Lit.{Lit}
use Rattle.lv_clauses.specs.Marks.{Marks, is_marked}
use Rattle.lv_ltms.specs.System.{in_list}
use Rattle.lv_labels.specs.Assuming.{AreTrue, IsOver}
use Rattle.lv_labels.proofs.assuming.assume_all.Given as goal

abbrev pub invariant-loop-lit : goal.invariant-loop-lit
invariant-loop-lit l = record {
  bools : l.ltms.bools ≡ l.fn.ltms.bools;
  clauses : l.ltms.clauses ≡ l.fn.ltms.clauses;
  positive : AreTrue l.ltms;
  over : (base : Marks) → IsOver base l.fn.added.items l.fn.ltms.assumed → IsOver base l.added.items l.ltms.assumed;
  joined : (m : Lit) → (is_marked l.ltms.assumed m || in_list (drop l.lit-index l.lits) m) ≡ (is_marked l.fn.ltms.assumed m || in_list l.lits m);
}
