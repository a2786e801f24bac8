-- The law, by its lemma.
use Rattle.lv_run.proofs.PrintedLemmas.{printed_valid}
use Rattle.lv_run.proofs.laws.printed_certificate_is_valid.Goals as goal

pub returns : goal.returns
returns c = printed_valid
