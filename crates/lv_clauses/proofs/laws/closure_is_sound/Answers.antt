-- the literals that values make true are a closed set
use Rattle.lv_clauses.proofs.ClosureLemmas.{sound, refuted}
use Rattle.lv_clauses.proofs.laws.closure_is_sound.Goals as goal

pub returns : goal.returns
returns c =
    record {
      true_literals = λ clauses assumed values s l h. sound values s l h;
      refuted = λ clauses assumed values h s. refuted values h s;
    }
