-- the trial is one of the model and the facts
use Rattle.lv_probe.proofs.probing.Probing.probed_in.Goals as goal

pub returns : goal.returns
returns c = rw c.in_ok-trial.ensures at c.all_probed.ensures.probed
