-- what was added, with what the observations that are left would leave, is all
use Rattle.std.proofs.Common.{◌≡◌, ◌+◌, ◌++◌, drop, map, take}
use Rattle.lv_reply.specs.declared.probes.Probed.{Probed}
use Rattle.lv_probe.specs.Probing.{probed}
use Rattle.lv_probe.proofs.probing.all_with_next_candidate.Given as goal

abbrev pub invariant-loop-one : goal.invariant-loop-one
invariant-loop-one l = record {
  probed : l.out.items ++ map (λ (p : Probed). probed l.fn.trial.plant l.fn.trial.facts (take (l.at + 1) l.candidates) p.var) (drop l.one-index l.so_far)
      ≡ map (λ (p : Probed). probed l.fn.trial.plant l.fn.trial.facts (take (l.at + 1) l.candidates) p.var) l.so_far;
  same : l.trial ≡ l.fn.trial;
}
