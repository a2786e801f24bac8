use Rattle.lv_plant.proofs.RefusedLemmas.{refused_stays}
use Rattle.lv_plant.proofs.laws.refusal_changes_nothing.Goals as goal

pub returns : goal.returns
returns c = refused_stays
