-- the assumptions so far are those that stand
use Rattle.std.proofs.Common.{false}
use Rattle.lv_base.specs.declared.ids.Lit.{Lit}
use Rattle.lv_sat.specs.Front.{assumed}
use Rattle.lv_sat.proofs.FrontLemmas.{next_clause, refuted_first}
use Rattle.lv_sat.proofs.front.Front.assume_all.Goals as goal

abbrev blank : Lit
blank = record { var = record { 0 = 0 }; sign = false }

pub assume-requires-clause-clause : goal.assume-requires-clause-clause
assume-requires-clause-clause c =
    next_clause c.args.set.now.bools c.args.assumptions.now (assumed c.loop-at.self.levels.items) c.loop-at.at blank c.loop-at-test.true c.loop-at.invariant.taken c.requires.clause

pub returns-then-not-branch-clause-told : goal.returns-then-not-branch-clause-told
returns-then-not-branch-clause-told c =
    refuted_first c.args.set.now c.args.assumptions.now c.loop-at.self.levels.items c.assume.new.self.levels.items c.assume.new.log c.loop-at.at blank c.in_ok-assume.field-0 c.loop-at-test.true c.loop-at.invariant.taken c.if-not-branch.true
    c.in_ok-assume.ensures.told
