-- a box that is left as it is keeps its members
use Rattle.lv_search_guide.proofs.DearLemmas.{keeps_all}
use Rattle.lv_search_guide.proofs.problem.Search.drop_dear.Goals as goal

pub returns-then-low-under-clause-keeps : goal.returns-then-low-under-clause-keeps
returns-then-low-under-clause-keeps c = keeps_all c.args.self.now.grid.now c.args.self.now.conflicts.now c.args.under c.args.masks.now
