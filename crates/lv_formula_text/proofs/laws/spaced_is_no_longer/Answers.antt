-- by what the lexer passes over
use Rattle.lv_formula_text.proofs.SpacedLines.{line_no_shorter}
use Rattle.lv_formula_text.proofs.laws.spaced_is_no_longer.Goals as goal

pub returns : goal.returns
returns c = line_no_shorter
