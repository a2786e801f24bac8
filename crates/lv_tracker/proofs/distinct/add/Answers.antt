use Rattle.std.proofs.Common.{refl}
use Rattle.lv_tracker.proofs.SetLemmas.{added}
use Rattle.lv_tracker.proofs.distinct.add.Goals as goal

-- the states are with a new one behind them, unless its modes are there
pub returns : goal.returns
returns c = added (record { tracked = c.args.tracked }) c.args.found.now.keys c.insert.new.self.keys c.args.tracked refl c.in_ok-insert.ensures.keys
