-- by the derivation of the printed tokens
use Rattle.lv_formula_text.proofs.Standing.{canonical_back}
use Rattle.lv_formula_text.proofs.laws.canonical_reads_back.Goals as goal

pub returns : goal.returns
returns c = canonical_back
