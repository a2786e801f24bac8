-- all are laws of leaving pairs out
use Rattle.std.proofs.Common.{[], refl}
use Rattle.lv_boxes.proofs.ReasonLemmas.{still_impossible, part_of_all, still_rising}
use Rattle.lv_boxes.proofs.walk_laws.reduced_is_impossible_part.Goals as goal

pub returns : goal.returns
returns c =
    record {
      impossible = λ possible pairs. still_impossible possible [] pairs;
      part = λ possible passes pairs. part_of_all possible passes [] pairs refl;
      rising = λ possible pairs. still_rising possible [] pairs;
    }
