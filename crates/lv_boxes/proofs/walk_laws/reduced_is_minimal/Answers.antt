-- no pair is left that isn't needed
use Rattle.std.proofs.Common.{[], refl}
use Rattle.lv_boxes.proofs.ReasonLemmas.{all_needed}
use Rattle.lv_boxes.proofs.walk_laws.reduced_is_minimal.Goals as goal

pub returns : goal.returns
returns c = λ possible monotone pairs. all_needed possible monotone [] pairs refl
