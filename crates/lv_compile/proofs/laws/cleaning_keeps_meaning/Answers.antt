use Rattle.lv_compile.proofs.CleaningLemmas.{cleaned_true}
use Rattle.lv_compile.proofs.laws.cleaning_keeps_meaning.Goals as goal

pub returns : goal.returns
returns c = λ truth cs. cleaned_true truth cs
