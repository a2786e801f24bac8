-- The reason of an impossible candidate, and the walk of a diagnosis.
use Rattle.std.specs.Prelude.{ℕ, Bool, List, []}
use Rattle.lv_base.specs.declared.rank.Rank.{Rank}
use Rattle.lv_base.specs.declared.search.Pair.{Pair}
use Rattle.lv_base.specs.declared.search.Candidate.{Candidate}
use Rattle.lv_base.specs.Choices.{pairs_of}
use Rattle.lv_model.specs.declared.plant.Plant.{Plant}
use Rattle.lv_boxes.specs.Walk.{Walked, distinct_walk}
use Rattle.lv_boxes.specs.Reason.{reduced}
use Rattle.lv_meaning.specs.declared.facts.Facts.{Facts}
use Rattle.lv_meaning.specs.Possible.{is_possible}
use Rattle.lv_meaning.specs.Candidates.{is_possible_candidate}
use Rattle.lv_meaning.specs.Targets.{are_alike}

-- the reason of an impossible candidate: its choices, of which each, in written order, is left out where the rest is still not
-- possible
abbrev pub reason_of : Plant → Facts → Candidate → List Pair
reason_of plant facts c = reduced (is_possible plant facts) [] (pairs_of c.choices)

-- the walk of a diagnosis along these candidates: with the flag, it passes over one that leads to the state of a listed one
abbrev pub diagnosis_walk : Plant → Facts → ℕ → Bool → ℕ → List Rank → Walked
diagnosis_walk plant facts k distinct budget ranks = distinct_walk (are_alike distinct plant) (is_possible_candidate plant facts) (reason_of plant facts) k budget ranks
