-- what the tokens tell is what the line tells
use Rattle.std.proofs.lemmas.Result.{IfErr-weaker}
use Rattle.lv_reader.proofs.Lines.{tokens_tell}
use Rattle.lv_reader.proofs.reader.read_line.Goals as goal

pub returns-clause-fault : goal.returns-clause-fault
returns-clause-fault c = IfErr-weaker c.said_by-said.result _ _ (λ fault told. tokens_tell c.args.version c.args.line.now c.in-Ok.tokens fault c.in-Ok.ensures.ok told) c.said_by-said.ensures.fault
