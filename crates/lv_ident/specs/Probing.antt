-- What one observation more, made after the step, would leave of candidates.
use Rattle.std.specs.Prelude.{Bool, [], ◌∷◌, ◌++◌}
use Rattle.lv_base.specs.declared.search.Candidate.{Candidate}
use Rattle.lv_model.specs.declared.plant.Plant.{Plant}
use Rattle.lv_meaning.specs.declared.facts.Observation.{Observation}
use Rattle.lv_meaning.specs.declared.facts.Facts.{Facts}
use Rattle.lv_meaning.specs.Candidates.{is_possible_candidate}

-- the facts, and this is observed after the step too
abbrev pub with_next : Facts → Observation → Facts
with_next facts o = record facts { next = facts.next ++ o ∷ [] }

-- the candidate's moves are possible together where this is observed too
abbrev pub is_allowed : Plant → Facts → Observation → Candidate → Bool
is_allowed plant facts o c = is_possible_candidate plant (with_next facts o) c
