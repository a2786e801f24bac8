-- no step misses the goal, and the lines show it
use Rattle.std.proofs.Common.{map, subst, arith}
use Rattle.lv_cert_writing.specs.Lines.{clause_lines}
use Rattle.lv_cert_writing.specs.BlockLines.{derived_of}
use Rattle.lv_cert_recovery.specs.Telling.{TellsMissed}
use Rattle.lv_cert_recovery.proofs.BlockLemmas.{joined}
use Rattle.lv_cert_recovery.proofs.GivingLemmas.{values_have, goal_fits, unmissed_lines, proof_on}
use Rattle.lv_cert_recovery.proofs.showing.Case.push_proof.Goals as goal

pub miss-requires-clause-have : goal.miss-requires-clause-have
miss-requires-clause-have c = values_have c.args.self.now.asking.now.plant c.args.self.now.asking.now.aim c.args.self.now.pairs.now c.requires.given.values

pub miss-requires-clause-goal : goal.miss-requires-clause-goal
miss-requires-clause-goal c =
    goal_fits c.args.self.now.asking.now.plant c.args.self.now.asking.now.aim c.aim-aim.ensures.well_formed c.aim-aim.ensures.asked c.args.at c.args.goal.now c.requires.goal

pub lines_told-told-requires : goal.lines_told-told-requires
lines_told-told-requires c =
    unmissed_lines c.args.self.now.asking.now.plant c.args.self.now.asking.now.aim c.aim-aim.ensures.well_formed c.aim-aim.ensures.asked c.args.self.now.pairs.now c.requires.given c.args.self.now.place c.args.self.now.state.now c.requires.state
    c.args.at c.args.goal.now c.requires.goal c.in_ok-miss.field-0 c.in_ok-miss.ensures.told

pub returns-clause-told : goal.returns-clause-told
returns-clause-told c =
    proof_on c.args.self.now.asking.now.plant c.args.self.now.asking.now.aim c.aim-aim.ensures.well_formed c.aim-aim.ensures.asked c.args.self.now.pairs.now c.requires.given c.args.self.now.place c.args.at c.args.self.now.state.now c.requires.state
    c.args.goal.now c.requires.goal c.lines_told-told.result
    (subst (TellsMissed c.args.self.now.asking.now.plant c.args.self.now.asking.now.aim c.args.self.now.state.now.state c.args.self.now.pairs.now c.args.goal.now) c.lines_told-told.ensures c.in_ok-miss.ensures.told)
    c.args.lines.now.items c.push_clauses.new.lines.items
    (joined c.args.lines.now.items c.push.new.self.items c.push_clauses.new.lines.items (clause_lines (map derived_of c.lines_told-told.result)) c.in_ok-proof_line.field-0 _ c.in_ok-push.ensures.items
    c.in_ok-proof_line.ensures c.in_ok-push_clauses.ensures.lines)
    (let v = c.push_clauses.new.lines in let small = v.small in let ok = v.ok in omega (arith, small, ok))
