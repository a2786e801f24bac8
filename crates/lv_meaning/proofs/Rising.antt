-- The candidates are in rising order.
use Rattle.std.proofs.Common.{◌≡◌, true, List}
use Rattle.lv_model.specs.declared.plant.Plant.{Plant}
use Rattle.lv_model.specs.declared.state.TrackedState.{TrackedState}
use Rattle.lv_boxes.specs.Ranked.{rises}
use Rattle.lv_boxes.proofs.RankedLemmas.{rises_ranked}
use Rattle.lv_meaning.specs.Candidates.{ranks_of, candidates}

pub candidates_rise_law : (plant : Plant) (tracked : List TrackedState) → rises (candidates plant tracked) ≡ true
candidates_rise_law plant tracked = rises_ranked (ranks_of plant 0 tracked)
