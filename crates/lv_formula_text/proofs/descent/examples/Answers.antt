-- both sides compute to the same
use Rattle.std.proofs.Common.{refl}
use Rattle.lv_formula_text.specs.Descent.{phrase_of}
use Rattle.lv_formula_text.proofs.descent.examples.Goals as goal

pub returns : goal.returns
unfolding phrase_of
returns c = record { formula = refl; cut_short = refl; one_more = refl; truth_is_no_name = refl }
