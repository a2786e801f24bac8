-- The law, by its lemma.
use Rattle.lv_run.proofs.WholeLemmas.{replies_are_whole}
use Rattle.lv_run.proofs.laws.replies_are_whole.Goals as goal

pub returns : goal.returns
returns c = replies_are_whole
