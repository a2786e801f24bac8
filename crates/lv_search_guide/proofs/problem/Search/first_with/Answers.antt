-- no member costs as much as nothing costs
use Rattle.std.proofs.Common.{rules}
use Rattle.lv_search_guide.proofs.FreeLemmas.{none_above_all}
use Rattle.lv_search_guide.proofs.problem.Search.first_with.Goals as goal

pub returns-in-None-clause-first : goal.returns-in-None-clause-first
returns-in-None-clause-first c = none_above_all c.args.self.now.grid.now c.args.self.now.conflicts.now c.args.masks.now (search rules) (search rules) (rw c.in-None.is at c.in_ok-member.ensures)
