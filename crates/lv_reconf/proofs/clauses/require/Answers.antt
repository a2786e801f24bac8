-- a clause at a number that had none
use Rattle.std.proofs.Common.{[], ◌∷◌}
use Rattle.lv_reconf.proofs.NarrowingLemmas.{adds_one}
use Rattle.lv_reconf.proofs.clauses.require.Goals as goal

pub returns : goal.returns
returns c = adds_one c.args.solver.now.set c.add.new.self.set c.in_ok-add.field-0.0 (c.args.lit ∷ []) c.in_ok-add.ensures.vacant c.in_ok-add.ensures.added
