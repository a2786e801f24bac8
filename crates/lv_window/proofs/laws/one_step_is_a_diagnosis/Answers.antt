use Rattle.std.proofs.Common.{List, []}
use Rattle.lv_base.specs.declared.search.Candidate.{Candidate}
use Rattle.lv_base.specs.declared.search.Pair.{Pair}
use Rattle.lv_base.specs.Choices.{pairs_of}
use Rattle.lv_boxes.specs.Walk.{walk}
use Rattle.lv_boxes.specs.Reason.{reduced}
use Rattle.lv_window.proofs.PossibleLemmas.{one_step_possible}
use Rattle.lv_window.proofs.TrajectoryLemmas.{one_step_entries}
use Rattle.lv_window.proofs.laws.one_step_is_a_diagnosis.Goals as goal

pub returns : goal.returns
returns c =
    record {
      possible = λ plant facts partial. one_step_possible plant facts partial;
      entries = λ plant tracked. one_step_entries plant tracked;
      walk = λ plant facts k budget ranks. (λ i. walk (λ (c : Candidate). one_step_possible plant facts (pairs_of c.choices) i) (λ (c : Candidate). reduced (λ (ps : List Pair). one_step_possible plant facts ps i) [] (pairs_of c.choices)) k budget ranks);
    }
