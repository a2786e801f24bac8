use Rattle.std.proofs.Common.{◌≡◌, []}
use Rattle.lv_cert_recovery.specs.Keeping.{answer_of}
use Rattle.lv_cert_recovery.specs.Leading.{good, standing, LeadsOn}
use Rattle.lv_cert_recovery.proofs.showing.push_states.Given as goal

abbrev pub invariant-loop-place : goal.invariant-loop-place
invariant-loop-place l =
    record {
      on :
          LeadsOn l.asking.plant l.asking.aim (standing (good 0) (answer_of l.asking.plant l.pairs) []) (standing (good l.place) (answer_of l.asking.plant l.pairs) []) l.initial.lines.items l.lines.items;
      kept : l.refuter ≡ l.fn.refuter;
    }
