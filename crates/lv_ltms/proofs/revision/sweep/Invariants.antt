-- what was kept and what is still to come
use Rattle.std.proofs.Common.{◌≡◌, length, take, vec_capacity}
use Rattle.lv_base.specs.declared.ids.Lit.{Lit}
use Rattle.lv_clauses.specs.Marks.{is_marked}
use Rattle.lv_ltms.specs.Reaching.{IsWithout, StaysOn}
use Rattle.lv_ltms.proofs.SweepingLemmas.{IsSweeping}
use Rattle.lv_ltms.proofs.revision.sweep.Given as goal

abbrev pub invariant-loop-at : goal.invariant-loop-at
invariant-loop-at l =
    record {
      sweeping : IsSweeping (is_marked l.grounds.assumed.now) (length l.fn.labels.marks) l.grounds.arena.now l.fn.labels l.done l.at l.kept l.looked l.labels l.fallen.items;
      room : vec_capacity l.fallen ≡ vec_capacity l.fn.fallen;
      stays : (to : Lit) → IsWithout (is_marked l.grounds.assumed.now) l.grounds.arena.now l.fn.labels.trail to → StaysOn l.grounds.arena.now l.fn.labels.trail to (take l.at l.fn.labels.trail) (take l.kept l.labels.trail);
    }
