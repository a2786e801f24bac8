use Rattle.std.proofs.Common.{rules}
use Rattle.lv_reader.proofs.FormLemmas.{no_step_guard}
use Rattle.lv_reader.proofs.forms.step_line.Goals as goal

pub returns-in_err-guard-clause-refused : goal.returns-in_err-guard-clause-refused
returns-in_err-guard-clause-refused c = search (rules, no_step_guard)
