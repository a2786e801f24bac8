use Rattle.lv_text.proofs.ReadBack.{lexemes_have}
use Rattle.lv_text.proofs.laws.lexemes_have_kinds.Goals as goal

pub returns : goal.returns
returns c = lexemes_have
