use Rattle.lv_cert.proofs.AgreeLemmas.{one_fault}
use Rattle.lv_cert.proofs.laws.fault_is_one.Goals as goal

pub returns : goal.returns
returns c = one_fault
