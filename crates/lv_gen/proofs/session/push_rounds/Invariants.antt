use Rattle.std.proofs.Common.{◌≡◌, ◌++◌}
use Rattle.lv_gen.specs.Session.{round_start, round_texts}
use Rattle.lv_gen.proofs.session.push_rounds.Given as goal

-- the rounds so far were added
abbrev pub invariant-loop-before : goal.invariant-loop-before
invariant-loop-before l = record {
  text : l.out.items ≡ l.initial.out.items ++ round_texts l.valves l.initial.generator.state l.before;
  state : l.generator.state ≡ round_start l.valves l.initial.generator.state l.before;
}
