use Rattle.lv_plant.proofs.SeenLemmas.{starts_seeing, seeing, committed_seen, halted_seen}
use Rattle.lv_plant.proofs.laws.steps_are_seen.Goals as goal

pub returns : goal.returns
returns c = record { start = starts_seeing; line = seeing; committed = committed_seen; halted = halted_seen }
