-- one literal more
use Rattle.std.proofs.Common.{◌+◌, [], true, refl}
use Rattle.lv_compile.specs.Booleans.{literal}
use Rattle.lv_compile.proofs.OneOfLemmas.{numbered_more}
use Rattle.lv_compile.proofs.one_of.all_true.Goals as goal

pub loop-past-preserved : goal.loop-past-preserved
loop-past-preserved c =
    numbered_more (λ n. literal n true) [] c.loop-past.lits.items c.push.new.self.items c.args.first c.loop-past.past (c.args.first + c.loop-past.past) c.literal.result
    c.loop-past.invariant c.in_ok-push.ensures.items c.literal.ensures refl
