-- Where a text ends.
use Rattle.std.proofs.Common.{◌<◌, ◌^◌}
use Rattle.lv_reader.specs.declared.statement.ModelText.{ModelText}
use Rattle.lv_checker.specs.Checking.{IsRead}
use Rattle.lv_checker.proofs.ModelLemmas.{few_lines}

pub read_few : (text : ModelText) → IsRead text → text.lines < 2 ^ 63
read_few text read = few_lines read.bytes text read.reads
