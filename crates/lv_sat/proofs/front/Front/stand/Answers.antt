-- what clauses force without any assumption comes first
use Rattle.std.proofs.Common.{List, subst, sym}
use Rattle.lv_clauses.specs.declared.log.Step.{Step}
use Rattle.lv_sat.specs.Front.{IsKept}
use Rattle.lv_trail.specs.Trail.{IsTrail}
use Rattle.lv_sat.proofs.FrontLemmas.{begun_refuted, begun_stands}
use Rattle.lv_sat.proofs.front.Front.stand.Goals as goal

pub returns-in-Some-clause-kept : goal.returns-in-Some-clause-kept
returns-in-Some-clause-kept c = c.forget.ensures c.args.set.now

pub returns-in-Some-clause-told : goal.returns-in-Some-clause-told
returns-in-Some-clause-told c =
    begun_refuted c.args.set.now c.keep.new.self.levels.items c.keep.new.self.search.trail.marks.items c.begin.new.self.trail.marks.items c.keep.new.self.search.trail.entries.items c.begin.new.self.trail.entries.items c.args.log.now c.in_ok-hint.field-0
    (c.keep.ensures.kept c.args.set.now c.requires.kept) c.in_ok-hint.ensures c.requires.log c.args.assumptions.now c.refute.new.log c.keep.ensures.shared
    c.in_ok-refute.ensures.derived

pub assume_all-requires-clause-standing : goal.assume_all-requires-clause-standing
assume_all-requires-clause-standing c =
    begun_stands c.args.set.now c.keep.new.self.levels.items c.keep.new.self.search.trail.marks.items c.begin.new.self.trail.marks.items c.keep.new.self.search.trail.entries.items c.begin.new.self.trail.entries.items c.args.log.now c.in_ok-hint.field-0
    (c.keep.ensures.kept c.args.set.now c.requires.kept) c.in_ok-hint.ensures c.requires.log

pub begin-requires : goal.begin-requires
begin-requires c =
    λ some.
    let here : IsKept c.args.set.now c.keep.new.self.levels.items c.keep.new.self.search.trail.marks.items c.keep.new.self.search.trail.entries.items = c.keep.ensures.kept c.args.set.now c.requires.kept in
    subst (λ (steps : List Step). IsTrail c.args.set.now steps c.keep.new.self.search.trail.marks.items c.keep.new.self.search.trail.entries.items) (sym c.requires.log) (here.trail some)
