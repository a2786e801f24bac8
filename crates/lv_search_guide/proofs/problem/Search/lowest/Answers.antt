-- what is taken out leaves the members that cost as little
use Rattle.std.proofs.Common.{◌∙◌}
use Rattle.lv_search_guide.proofs.LeftLemmas.{both_told, cheapest_left, none_is_left, lowest_left}
use Rattle.lv_search_guide.proofs.problem.Search.lowest.Goals as goal

pub lowest_in-requires-clause-cheapest : goal.lowest_in-requires-clause-cheapest
lowest_in-requires-clause-cheapest c =
    cheapest_left c.args.self.now.grid.now c.args.self.now.conflicts.now c.args.masks.now c.in_ok-part.part c.drop_dear.new.masks c.args.member (c.in_ok-part.ensures ∙ c.as_slice.ensures) c.in_ok-drop_dear.ensures.keeps c.requires.cheapest
    c.narrow.new.masks (rw c.if-not-narrow.false at c.narrow.ensures)

pub returns-then-not-narrow-clause-lowest : goal.returns-then-not-narrow-clause-lowest
returns-then-not-narrow-clause-lowest c =
    absurd (none_is_left c.args.self.now.grid.now c.args.self.now.conflicts.now c.args.masks.now c.in_ok-part.part c.drop_dear.new.masks c.args.member (c.in_ok-part.ensures ∙ c.as_slice.ensures) c.in_ok-drop_dear.ensures.keeps c.requires.cheapest
    (rw c.if-not-narrow.true at c.narrow.ensures))

pub returns-clause-lowest : goal.returns-clause-lowest
returns-clause-lowest c =
    both_told c.lowest_in.result _ _ _
    (λ lowest told same. lowest_left c.args.self.now.grid.now c.args.self.now.conflicts.now c.args.masks.now c.in_ok-part.part c.drop_dear.new.masks c.args.member (c.in_ok-part.ensures ∙ c.as_slice.ensures) c.in_ok-drop_dear.ensures.keeps c.requires.cheapest
    c.narrow.new.masks (rw c.if-not-narrow.false at c.narrow.ensures) lowest same told)
    c.lowest_in.ensures.lowest c.lowest_in.ensures.cost
