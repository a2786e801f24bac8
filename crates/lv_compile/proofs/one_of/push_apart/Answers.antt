-- one boolean more
use Rattle.std.proofs.Common.{◌<◌, ◌++◌, arith}
use Rattle.lv_compile.specs.ModelClauses.{apart}
use Rattle.lv_compile.proofs.OneOfLemmas.{apart_more}
use Rattle.lv_compile.proofs.one_of.push_apart.Goals as goal

pub loop-past-preserved : goal.loop-past-preserved
loop-past-preserved c =
    let inside : c.loop-past.past < c.args.booleans = omega arith in
    apart_more c.args.first c.loop-past.past c.args.booleans (c.args.out.now.items ++ apart c.args.first c.args.booleans) c.loop-past.out.items c.push_pairs.new.out.items inside c.loop-past.invariant c.in_ok-push_pairs.ensures
