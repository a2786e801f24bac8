use Rattle.std.proofs.Common.{rules}
use Rattle.lv_reader.proofs.FormLemmas.{no_repair_named, no_repair_guard}
use Rattle.lv_reader.proofs.forms.repair_line.Goals as goal

pub returns-in_err-repair-clause-refused : goal.returns-in_err-repair-clause-refused
returns-in_err-repair-clause-refused c = search (rules, no_repair_named)

pub returns-in_err-guard-clause-refused : goal.returns-in_err-guard-clause-refused
returns-in_err-guard-clause-refused c = search (rules, no_repair_guard)
