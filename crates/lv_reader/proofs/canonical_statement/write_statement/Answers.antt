use Rattle.std.proofs.Common.{rules}
use Rattle.lv_reader.proofs.Writing.{in_written}
use Rattle.lv_reader.proofs.canonical_statement.write_statement.Goals as goal

pub returns-in_ok-write_in-in-InLine : goal.returns-in_ok-write_in-in-InLine
returns-in_ok-write_in-in-InLine c = search (rules, in_written)
