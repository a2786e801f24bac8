-- the numbers of the values looked at, with the candidate
use Rattle.std.proofs.Common.{◌≡◌, ◌+◌, take}
use Rattle.lv_probe.specs.Probing.{numbers_with}
use Rattle.lv_probe.proofs.probing.with_next_candidate.Given as goal

abbrev pub invariant-loop-v : goal.invariant-loop-v
invariant-loop-v l = record {
  numbers : l.numbers.items ≡ numbers_with l.fn.trial.plant l.fn.trial.facts (take (l.at + 1) l.candidates) l.var l.v;
  same : l.trial ≡ l.fn.trial;
}
