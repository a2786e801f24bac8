-- by what leaving out parentheses keeps
use Rattle.lv_text.specs.Laws.{IsLexeme}
use Rattle.lv_formula_text.proofs.Omissions.{omits_all, omits_no_longer}
use Rattle.lv_formula_text.proofs.Canonicals.{canonical_omits, canonical_shallow}
use Rattle.lv_formula_text.proofs.laws.canonical_omits_parentheses.Goals as goal

pub returns-clause-tokens : goal.returns-clause-tokens
returns-clause-tokens c = canonical_omits

pub returns-clause-texts : goal.returns-clause-texts
returns-clause-texts c = λ ts f h d. omits_all IsLexeme (canonical_omits ts f h d) h

pub returns-clause-depth : goal.returns-clause-depth
returns-clause-depth c = canonical_shallow

pub returns-clause-length : goal.returns-clause-length
returns-clause-length c = λ after ts f h d. omits_no_longer after (canonical_omits ts f h d)
