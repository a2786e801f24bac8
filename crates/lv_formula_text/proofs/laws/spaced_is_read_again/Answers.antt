-- by the law of printed tokens
use Rattle.lv_formula_text.proofs.SpacedLines.{spaced_again}
use Rattle.lv_formula_text.proofs.laws.spaced_is_read_again.Goals as goal

pub returns : goal.returns
returns c = spaced_again
