-- nothing kept rules nothing out
use Rattle.std.proofs.Common.{[], arith}
use Rattle.lv_boxes.proofs.WalkLemmas.{plain_exact, distinct_exact, with_ample}
use Rattle.lv_boxes.proofs.walk_laws.settled_walk_is_exact.Goals as goal

pub returns : goal.returns
returns c =
    record {
      exact = plain_exact;
      distinct = distinct_exact;
      ample = λ alike fits reason k budget entries few. with_ample alike fits reason k budget entries [] [] (omega (arith, few));
    }
