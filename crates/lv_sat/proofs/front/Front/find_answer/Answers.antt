-- values make the front true, and what is refuted is of assumptions
use Rattle.std.proofs.Common.{subst}
use Rattle.lv_sat.specs.Front.{Finds}
use Rattle.lv_sat.proofs.FrontLemmas.{front_standing}
use Rattle.lv_sat.proofs.SearchLemmas.{refuted_of, satisfied_by}
use Rattle.lv_sat.proofs.front.Front.find_answer.Goals as goal

pub returns-in-Some-clause-answer : goal.returns-in-Some-clause-answer
returns-in-Some-clause-answer c =
    satisfied_by c.args.set.now c.args.assumptions.now c.stand.new.self.search.trail.entries.items c.complete.new.log c.in-Some.values
    (front_standing c.args.set.now c.args.assumptions.now c.stand.new.self.levels.items c.stand.new.self.search.trail.marks.items c.stand.new.self.search.trail.entries.items c.stand.new.log c.in_ok-stand.field-0 c.if-not-branch.false c.in_ok-stand.ensures.standing
    c.in_ok-stand.ensures.told)
    (subst (Finds c.args.set.now c.stand.new.self.search.trail.entries.items c.complete.new.log) c.in-Some.is c.in_ok-values.ensures.found)

pub returns-in-None-clause-answer : goal.returns-in-None-clause-answer
returns-in-None-clause-answer c =
    c.refutation-in-None.ensures c.args.set.now c.args.assumptions.now
    (refuted_of c.args.set.now c.args.assumptions.now c.stand.new.self.search.trail.entries.items c.complete.new.log
    (front_standing c.args.set.now c.args.assumptions.now c.stand.new.self.levels.items c.stand.new.self.search.trail.marks.items c.stand.new.self.search.trail.entries.items c.stand.new.log c.in_ok-stand.field-0 c.if-not-branch.false c.in_ok-stand.ensures.standing
    c.in_ok-stand.ensures.told)
    (subst (Finds c.args.set.now c.stand.new.self.search.trail.entries.items c.complete.new.log) c.in-None.is c.in_ok-values.ensures.found))
