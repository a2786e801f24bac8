-- both sides compute to the same
use Rattle.std.proofs.Common.{refl}
use Rattle.lv_labels.proofs.laws.closure_example.Goals as goal

pub returns : goal.returns
returns c =
    record {
      follows = refl;
      consistent = refl;
      last_left = refl;
      both_signs = refl;
      contradictory = refl;
      repeated = refl;
      all_false = refl;
      empty_clause = refl;
    }
