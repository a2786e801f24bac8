use Rattle.lv_cert_meaning.proofs.ClauseNumberLemmas.{clauses_are}
use Rattle.lv_cert_meaning.proofs.laws.clauses_are_the_models.Goals as goal

pub returns : goal.returns
returns c = clauses_are
