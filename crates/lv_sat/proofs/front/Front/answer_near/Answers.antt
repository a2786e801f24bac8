-- what the front doesn't share with the assumptions is taken back first
use Rattle.lv_sat.proofs.front.Front.answer_near.Goals as goal

pub returns-clause-kept : goal.returns-clause-kept
returns-clause-kept c = c.keep.ensures.kept c.args.set.now c.requires.kept

pub find_answer-requires : goal.find_answer-requires
find_answer-requires c = record { clause = c.requires.clause; kept = c.keep.ensures.kept c.args.set.now c.requires.kept; last_is = c.requires.last_is }
