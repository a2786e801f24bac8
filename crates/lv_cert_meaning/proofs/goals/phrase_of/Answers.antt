-- what the reader of a line answers is what the grammar's function answers
use Rattle.std.proofs.Common.{subst}
use Rattle.lv_formula_text.specs.ReadPhrase.{Explains}
use Rattle.lv_cert_meaning.proofs.GoalLemmas.{is_phrase, is_no_phrase}
use Rattle.lv_cert_meaning.proofs.goals.phrase_of.Goals as goal

pub returns-in-Ok : goal.returns-in-Ok
returns-in-Ok c = is_phrase c.args.line.now c.in-Ok.phrase c.in-Ok.ensures.ok

pub returns-in-Err-Form : goal.returns-in-Err-Form
returns-in-Err-Form c = is_no_phrase c.args.line.now (subst (Explains c.args.line.now 0) c.in-Err-Form.field-0-is c.in-Err-Form.ensures.fault)
