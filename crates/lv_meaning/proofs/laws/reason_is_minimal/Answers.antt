-- the laws of what is left, for the test of a diagnosis
use Rattle.std.proofs.Common.{[], refl}
use Rattle.lv_base.specs.Choices.{picks, pairs_of}
use Rattle.lv_boxes.proofs.ReasonLemmas.{still_impossible, part_of_all, all_needed}
use Rattle.lv_meaning.specs.Possible.{is_possible}
use Rattle.lv_meaning.proofs.Reasons.{is_monotone, own_pairs, reason_apart}
use Rattle.lv_meaning.proofs.laws.reason_is_minimal.Goals as goal

pub returns : goal.returns
returns c =
    record {
      impossible = λ plant facts c. still_impossible (is_possible plant facts) [] (pairs_of c.choices);
      part = λ plant facts c. part_of_all (is_possible plant facts) (picks c.choices) [] (pairs_of c.choices) refl (own_pairs [] c.choices);
      apart = reason_apart;
      needed = λ plant facts c. all_needed (is_possible plant facts) (is_monotone plant facts) [] (pairs_of c.choices) refl;
    }
