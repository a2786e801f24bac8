-- after want of memory nothing is kept
use Rattle.lv_sat.proofs.front.Front.answer.Goals as goal

pub returns-in-Err-clause-kept : goal.returns-in-Err-clause-kept
returns-in-Err-clause-kept c = c.forget.ensures c.args.set.now
