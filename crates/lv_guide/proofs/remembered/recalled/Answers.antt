-- what was found and still holds is so by all conflicts
use Rattle.lv_guide.proofs.RememberedLemmas.{recalled_is}
use Rattle.lv_guide.proofs.remembered.recalled.Goals as goal

pub returns-in_ok-copied_if-in-Some : goal.returns-in_ok-copied_if-in-Some
returns-in_ok-copied_if-in-Some c =
    recalled_is c.args.conflicts.now c.args.part.now c.in-Some.found.now c.in_ok-copied_if-in-Some.field-0 (c.in-Some.ensures c.args.conflicts.now c.requires.known) (c.in_ok-holds-in-Some.ensures c.if-branch.true)
    c.in_ok-copied_if-in-Some.ensures
