-- the text is that of the reply
use Rattle.std.proofs.Common.{◌∙◌}
use Rattle.lv_plant.proofs.PlantLemmas.{says_so}
use Rattle.lv_plant.proofs.plant.Plant.answer_into.Goals as goal

pub returns-clause-text : goal.returns-clause-text
returns-clause-text c = c.in_ok-text.ensures ∙ says_so c.args.self.now c.step.new.self c.args.line.now c.in_ok-reply.reply c.in_ok-reply.ensures.done
