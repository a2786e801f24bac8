use Rattle.std.proofs.Common.{rules}
use Rattle.lv_reader.proofs.FormLemmas.{no_in_formula}
use Rattle.lv_reader.proofs.forms.in_line.Goals as goal

pub returns-in_err-formula-clause-refused : goal.returns-in_err-formula-clause-refused
returns-in_err-formula-clause-refused c = search (rules, no_in_formula)
