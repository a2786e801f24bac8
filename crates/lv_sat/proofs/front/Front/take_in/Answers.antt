-- the front was taken back
use Rattle.lv_sat.proofs.front.Front.take_in.Goals as goal

pub returns-in-Err : goal.returns-in-Err
returns-in-Err c = c.forget.ensures c.args.set.now
