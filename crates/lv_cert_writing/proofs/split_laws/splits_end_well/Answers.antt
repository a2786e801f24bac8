-- line by line
use Rattle.lv_cert_writing.proofs.SplitLineLemmas.{end_good, all_placed}
use Rattle.lv_cert_writing.proofs.split_laws.splits_end_well.Goals as goal

pub returns : goal.returns
returns c = record { good = end_good; placed = all_placed }
