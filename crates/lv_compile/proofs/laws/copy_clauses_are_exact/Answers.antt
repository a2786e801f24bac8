use Rattle.lv_compile.proofs.CopyLemmas.{copy_exact}
use Rattle.lv_compile.proofs.laws.copy_clauses_are_exact.Goals as goal

pub returns : goal.returns
returns c = λ plant h b copy truth a code. copy_exact plant h b copy truth a code
