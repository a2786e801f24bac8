-- commands and present observations speak of variables of the plant
use Rattle.std.proofs.Common.{◌≡◌, arith}
use Rattle.std.proofs.lemmas.Grind.{common_steps}
use Rattle.lv_meaning.specs.Facts.{now_facts}
use Rattle.lv_meaning.proofs.Commanded.{now_facts-in_range}
use Rattle.lv_meaning.proofs.facts.before_the_step.Goals as goal

pub returns-clause-in_range : goal.returns-clause-in_range
returns-clause-in_range c =
    let e : c.extend_from_slice.new.self.items ≡ now_facts c.args.model.now c.args.facts.now = grind (arith, common_steps) in
    rw e
    (now_facts-in_range c.args.model.now c.args.facts.now c.requires (rw c.in_ok-controls.ensures.controls at c.in_ok-controls.ensures.in_range))
