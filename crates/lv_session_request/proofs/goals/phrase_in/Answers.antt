-- what the reader of a line answers is what the grammar's function answers, and its canonical text reads back
use Rattle.std.proofs.Common.{ap, subst}
use Rattle.std.specs.Option.{ok_or}
use Rattle.lv_formula_text.specs.ReadPhrase.{Explains}
use Rattle.lv_reply.specs.declared.reply.Refusal.TheVariants.{Form}
use Rattle.lv_formula_text.proofs.Complete.{read_gives, none_gives}
use Rattle.lv_session_request.proofs.GoalLaws.{reads_back}
use Rattle.lv_session_request.proofs.goals.phrase_in.Goals as goal

pub returns-in-Ok-clause-ok : goal.returns-in-Ok-clause-ok
returns-in-Ok-clause-ok c = ap (λ o. ok_or o Form) (read_gives c.args.line.now 2 c.in-Ok.phrase c.in-Ok.ensures.ok)

pub returns-in-Ok-clause-back : goal.returns-in-Ok-clause-back
returns-in-Ok-clause-back c =
    reads_back c.args.line.now c.in-Ok.phrase c.requires.shallow c.requires.read c.requires.front (read_gives c.args.line.now 2 c.in-Ok.phrase c.in-Ok.ensures.ok)

pub returns-in-Err-Form-clause-fault : goal.returns-in-Err-Form-clause-fault
returns-in-Err-Form-clause-fault c = ap (λ o. ok_or o Form) (none_gives c.args.line.now 2 (subst (Explains c.args.line.now 2) c.in-Err-Form.field-0-is c.in-Err-Form.ensures.fault))
