-- by both directions
use Rattle.lv_formula_text.proofs.Sound.{phrase_sound}
use Rattle.lv_formula_text.proofs.Complete.{phrase_complete}
use Rattle.lv_formula_text.proofs.descent.phrase_of_is_formula.Goals as goal

pub returns : goal.returns
returns c = record { sound = phrase_sound; complete = phrase_complete }
