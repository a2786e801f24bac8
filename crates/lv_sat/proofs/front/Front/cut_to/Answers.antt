-- the front is cut back to the place of the first assumption that goes
use Rattle.std.proofs.Common.{◌∙◌, ap, take, arith}
use Rattle.lv_sat.specs.declared.front.Level.{Level}
use Rattle.lv_sat.proofs.FrontLemmas.{kept_cut}
use Rattle.lv_sat.proofs.front.Front.cut_to.Goals as goal

pub returns-then-count-len-clause-kept : goal.returns-then-count-len-clause-kept
returns-then-count-len-clause-kept c =
    λ set here.
    kept_cut set c.args.self.now.levels.items c.truncate.new.self.items c.args.self.now.search.trail.marks.items c.take_back.new.self.trail.marks.items c.args.self.now.search.trail.entries.items c.take_back.new.self.trail.entries.items c.args.count c.index.result.now
    (omega (arith, c.if-count-len.true, c.len.ensures)) (c.take_back.ensures.entries ∙ ap (λ (k : Level). take k.place c.args.self.now.search.trail.entries.items) c.index.ensures) c.truncate.ensures.items c.take_back.ensures.trail here
