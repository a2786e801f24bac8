use Rattle.std.proofs.Common.{rules}
use Rattle.lv_text.proofs.LexemeFacts.{fault_explains}
use Rattle.lv_text.proofs.token_line.TokenLine.read.Goals as goal

pub returns-in_err-tokens-clause-fault : goal.returns-in_err-tokens-clause-fault
returns-in_err-tokens-clause-fault c = search (rules, fault_explains)
