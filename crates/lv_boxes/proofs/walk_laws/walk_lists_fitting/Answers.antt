-- all hold from nothing listed on
use Rattle.std.proofs.Common.{[], refl, arith}
use Rattle.lv_boxes.proofs.WalkLemmas.{at_most, all_fit, within_budget, used_up_unsettled, each_first}
use Rattle.lv_boxes.proofs.walk_laws.walk_lists_fitting.Goals as goal

pub returns : goal.returns
returns c =
    record {
      most = λ alike fits reason k budget entries. at_most alike fits reason k budget entries [] [] (omega arith);
      fitting = λ alike fits reason k budget entries. all_fit alike fits reason k budget entries [] [] refl;
      trials = λ alike fits reason k budget entries. within_budget alike fits reason k budget entries [] [] (omega arith);
      used_up = λ alike fits reason k budget entries. used_up_unsettled alike fits reason k budget entries [] [];
      apart = λ alike fits reason k budget entries. each_first alike fits reason k budget entries [] [] refl;
    }
