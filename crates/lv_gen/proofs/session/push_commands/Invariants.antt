use Rattle.std.proofs.Common.{◌≡◌, ◌++◌}
use Rattle.lv_gen.specs.Draws.{state_after}
use Rattle.lv_gen.specs.Session.{command_lines}
use Rattle.lv_gen.proofs.session.push_commands.Given as goal

-- the commands of the valves so far were added, with a draw for each
abbrev pub invariant-loop-before : goal.invariant-loop-before
invariant-loop-before l = record {
  text : l.out.items ≡ l.initial.out.items ++ command_lines l.initial.generator.state l.before;
  state : l.generator.state ≡ state_after l.initial.generator.state l.before;
}
