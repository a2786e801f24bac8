-- by the tokens of the line
use Rattle.lv_reader.proofs.Lines.{line_printed}
use Rattle.lv_reader.proofs.print_laws.line_stays.Goals as goal

pub returns-clause-statement : goal.returns-clause-statement
returns-clause-statement c = λ version line s says. (line_printed version line s says).0.says

pub returns-clause-length : goal.returns-clause-length
returns-clause-length c = λ version line s says. (line_printed version line s says).1
