use Rattle.lv_compile.proofs.PlantBoundLemmas.{few_clauses, count_within}
use Rattle.lv_compile.proofs.laws.plant_count_bounds.Goals as goal

pub returns : goal.returns
returns c = record { counted = λ plant h. few_clauses plant h; within = λ plant h. count_within plant h }
