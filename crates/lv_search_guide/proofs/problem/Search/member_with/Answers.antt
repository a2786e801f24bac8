-- what the search among the members with the pair's choice tells
use Rattle.std.proofs.Common.{sym}
use Rattle.lv_search_guide.proofs.DearLemmas.{none_where_out}
use Rattle.lv_search_guide.proofs.LowestLemmas.{with_at_least, has_none, has_one}
use Rattle.lv_search_guide.proofs.problem.Search.member_with.Goals as goal

pub cheapest-requires : goal.cheapest-requires
cheapest-requires c = with_at_least c.args.self.now.grid.now c.args.self.now.conflicts.now c.args.masks.now c.in_ok-part.part c.args.pair c.args.cost c.requires.within c.in_ok-part.ensures c.requires.least

pub returns-in-Some : goal.returns-in-Some
returns-in-Some c =
    has_one c.args.self.now.grid.now c.args.self.now.conflicts.now c.args.masks.now c.in_ok-part.part c.args.pair c.args.cost c.in-Some.member c.requires.within c.in_ok-part.ensures c.requires.least
    (rw c.in-Some.is at c.in_ok-member.ensures)

pub returns : goal.returns
returns c =
    has_none c.args.self.now.grid.now c.args.self.now.conflicts.now c.args.masks.now c.in_ok-part.part c.args.pair c.args.cost c.requires.within c.in_ok-part.ensures
    (rw c.in-None.is at c.in_ok-member.ensures)

pub returns-then-not-has : goal.returns-then-not-has
returns-then-not-has c = none_where_out c.args.self.now.grid.now c.args.self.now.conflicts.now c.args.masks.now c.args.pair c.args.cost c.requires.within (sym (rw c.if-not-has.true at c.has.ensures))
