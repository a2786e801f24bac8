-- the copies stand one behind the other
use Rattle.lv_window.proofs.KnownLemmas.{copy_is}
use Rattle.lv_window.proofs.known.bools_behind.Goals as goal

pub returns : goal.returns
returns c = copy_is c.args.model.now c.args.system.now.copies c.requires.copies c.args.steps c.requires.there c.bools_at.result.now c.bools_at.ensures
