use Rattle.lv_meaning.proofs.DiagnosisWalks.{diagnosis_exact, distinct_diagnosis, diagnosis_ample, answers}
use Rattle.lv_meaning.proofs.laws.diagnosis_walk_is_exact.Goals as goal

pub returns : goal.returns
returns c = record {
  exact = λ plant facts k budget ranks. diagnosis_exact plant facts k budget ranks;
  distinct = λ plant facts k budget ranks. distinct_diagnosis plant facts k budget ranks;
  lists = answers;
  ample = λ distinct plant facts k budget ranks. diagnosis_ample plant facts k budget ranks distinct;
}
