use Rattle.std.proofs.Common.{rules}
use Rattle.lv_text.proofs.LexemeFacts.{fault_explains}
use Rattle.lv_text.proofs.token_line.TokenLine.read_into.Goals as goal

pub returns-in_err-put_line-clause-fault : goal.returns-in_err-put_line-clause-fault
returns-in_err-put_line-clause-fault c = search (rules, fault_explains)
