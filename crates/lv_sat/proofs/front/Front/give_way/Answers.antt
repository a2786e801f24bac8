-- what is left is kept with what the clause forces, or all is taken back
use Rattle.lv_sat.proofs.front.Front.give_way.Goals as goal

pub force_new-requires : goal.force_new-requires
force_new-requires c = (c.cut_to.ensures.kept c.args.set.now c.levels.invariant).trail

pub returns-in-Ok-None : goal.returns-in-Ok-None
returns-in-Ok-None c = c.in-Ok-None.ensures c.cut_to.new.self.levels.items (c.cut_to.ensures.kept c.args.set.now c.levels.invariant)

pub levels-preserved : goal.levels-preserved
levels-preserved c = c.in-Ok-Some.ensures c.cut_to.new.self.levels.items (c.cut_to.ensures.kept c.args.set.now c.levels.invariant)

pub returns : goal.returns
returns c = c.forget.ensures c.args.set.now
