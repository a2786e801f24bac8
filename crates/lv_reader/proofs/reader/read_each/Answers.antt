use Rattle.std.proofs.Common.{arith}
use Rattle.std.proofs.lemmas.Result.{IfErr-weaker}
use Rattle.lv_reader.proofs.TextLemmas.{lines_tell, beyond_limit}
use Rattle.lv_reader.proofs.reader.read_each.Goals as goal

pub returns-then-bytes-gt-MODEL_BYTES-clause-fault : goal.returns-then-bytes-gt-MODEL_BYTES-clause-fault
returns-then-bytes-gt-MODEL_BYTES-clause-fault g c = beyond_limit _ (omega (arith, c.if-bytes-gt-MODEL_BYTES.true))

pub returns-clause-fault : goal.returns-clause-fault
returns-clause-fault g c = IfErr-weaker c.take_lines.result _ _ (lines_tell _ (omega (arith, c.if-bytes-gt-MODEL_BYTES.false))) c.take_lines.ensures.fault
