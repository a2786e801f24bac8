use Rattle.std.proofs.Common.{◌≡◌, []}
use Rattle.lv_cert_recovery.specs.Keeping.{answer_of}
use Rattle.lv_cert_recovery.specs.Leading.{proved, standing, LeadsOn}
use Rattle.lv_cert_recovery.proofs.showing.Case.push_proofs.Given as goal

abbrev pub invariant-loop-at : goal.invariant-loop-at
invariant-loop-at l =
    record {
      on :
          LeadsOn l.self.asking.now.plant l.self.asking.now.aim (standing (proved l.self.place 0) (answer_of l.self.asking.now.plant l.self.pairs.now) []) (standing (proved l.self.place l.at) (answer_of l.self.asking.now.plant l.self.pairs.now) []) l.initial.lines.items l.lines.items;
      kept : l.refuter ≡ l.fn.refuter;
    }
