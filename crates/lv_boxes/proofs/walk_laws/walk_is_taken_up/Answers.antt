-- both walks go on alike until the smaller budget is used up
use Rattle.std.proofs.Common.{◌+◌, [], arith}
use Rattle.lv_boxes.proofs.TurnLemmas.{settled_stays, listed_stays, kept_stays}
use Rattle.lv_boxes.proofs.walk_laws.walk_is_taken_up.Goals as goal

pub returns : goal.returns
returns c =
    record {
      settled = λ alike fits reason k budget more entries. settled_stays alike fits reason k budget (budget + more) (omega arith) entries [] [] (omega arith);
      listed = λ alike fits reason k budget more entries. listed_stays alike fits reason k budget (budget + more) (omega arith) entries [] [] (omega arith);
      kept = λ alike fits reason k budget more entries. kept_stays alike fits reason k budget (budget + more) (omega arith) entries [] [] (omega arith);
    }
