use Rattle.std.proofs.Common.{arith, sym}
use Rattle.std.proofs.lemmas.List.{take_all, length-take-le}
use Rattle.lv_plant.proofs.seeing.first_of.Goals as goal

pub slice_bounds-result-end : goal.slice_bounds-result-end
slice_bounds-result-end c = sym (length-take-le c.args.most c.args.vars.now (omega (arith, c.if-vars-most.true)))

pub returns-else-vars-most : goal.returns-else-vars-most
returns-else-vars-most c = sym (take_all c.args.most c.args.vars.now (omega (arith, c.if-vars-most.false)))
