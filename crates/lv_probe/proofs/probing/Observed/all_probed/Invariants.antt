-- what the observations would leave of the candidates looked at
use Rattle.std.proofs.Common.{◌≡◌, map, take}
use Rattle.lv_probe.specs.Probing.{probed}
use Rattle.lv_probe.proofs.probing.Observed.all_probed.Given as goal

abbrev pub invariant-loop-at : goal.invariant-loop-at
invariant-loop-at l = record {
  probed : l.out.items ≡ map (probed l.fn.trial.plant l.fn.trial.facts (take l.at l.candidates)) l.self.variables.now;
  same : l.trial ≡ l.fn.trial;
}
