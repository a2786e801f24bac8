use Rattle.lv_cert_meaning.proofs.DerivingLemmas.{derived_hold, refuted_fail}
use Rattle.lv_cert_meaning.proofs.laws.good_lines_refute.Goals as goal

pub returns : goal.returns
returns c =
    record {
      hold = λ bools clauses lines e values long all. derived_hold bools values long clauses lines e all;
      refuted = λ bools clauses lines e values long. refuted_fail bools values long clauses lines e;
    }
