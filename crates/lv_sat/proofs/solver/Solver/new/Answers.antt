-- the front is empty, and nothing is kept of values or refuted
use Rattle.lv_sat.proofs.FrontLemmas.{kept_nothing}
use Rattle.lv_sat.proofs.solver.Solver.new.Goals as goal

pub invariant_of-result : goal.invariant_of-result
invariant_of-result c =
    record {
      front = kept_nothing c.in_ok-copy.field-0 c.new-3.result.items c.in_ok-new-2.field-0.marks.items c.in_ok-new-2.field-0.entries.items c.new-3.ensures.items c.in_ok-new-2.ensures.entries;
      last = c.new-4.ensures c.in_ok-copy.field-0;
      refuted = tt;
    }
