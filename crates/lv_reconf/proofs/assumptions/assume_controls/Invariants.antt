-- what is assumed so far and the pairs left say what all say; what is added is of the pairs
use Rattle.std.proofs.Common.{drop}
use Rattle.lv_model.specs.Lists.{controls}
use Rattle.lv_meaning.specs.Recovers.{has_controls}
use Rattle.lv_reconf.specs.Assuming.{AssumesSoFar, AddsControls}
use Rattle.lv_reconf.proofs.assumptions.assume_controls.Given as goal

abbrev pub invariant-loop-pair : goal.invariant-loop-pair
invariant-loop-pair l = record {
  so_far : AssumesSoFar l.compiled l.initial.lits.items l.lits.items (λ a. has_controls (controls l.compiled) a (drop l.pair-index l.pairs)) (λ a. has_controls (controls l.compiled) a l.pairs);
  adds : AddsControls l.compiled l.initial.lits.items l.lits.items l.pairs;
}
