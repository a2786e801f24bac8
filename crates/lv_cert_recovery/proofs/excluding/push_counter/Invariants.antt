use Rattle.std.proofs.Common.{◌≡◌, drop, not}
use Rattle.std.specs.List.{list_all}
use Rattle.lv_model.specs.declared.state.TrackedState.{TrackedState}
use Rattle.lv_meaning.specs.Recovers.{can_miss}
use Rattle.lv_cert_recovery.proofs.excluding.push_counter.Given as goal

abbrev pub invariant-loop-place : goal.invariant-loop-place
invariant-loop-place l = record {
  kept : l.refuter ≡ l.fn.refuter;
  same : l.lines.items ≡ l.initial.lines.items;
  all : list_all (λ (s : TrackedState). not (can_miss l.asking.plant l.asking.aim s.state l.pairs)) (drop l.place l.s-items)
      ≡ list_all (λ (s : TrackedState). not (can_miss l.asking.plant l.asking.aim s.state l.pairs)) l.s-items;
}
