-- What is found of a command set that is tried.
use Rattle.std.specs.Prelude.{◌≡◌, ℕ, Bool, true, false, List, []}
use Rattle.lv_base.specs.declared.search.Candidate.{Candidate}
use Rattle.lv_base.specs.Choices.{pairs_of}
use Rattle.lv_model.specs.declared.plant.Plant.{Plant}
use Rattle.lv_meaning.specs.lv_boxes.Reason.{reduced}
use Rattle.lv_meaning.specs.declared.aim.Aim.{Aim}
use Rattle.lv_meaning.specs.Recovers.{recovers}
use Rattle.lv_meaning.specs.Commands.{is_command_set}
use Rattle.lv_meaning.specs.Recovery.{command_reason}
use Rattle.lv_reconf.specs.declared.judged.Judged.{Judged}
use Rattle.lv_reconf.specs.declared.judged.Judged.TheVariants.{Recovers, Misses, Stops}
use Rattle.lv_reconf.specs.Trying.{looking_at, reaches_at}

-- the candidate is a command set of the plant
abbrev pub candidate_commands : Plant → Candidate → Bool
candidate_commands plant c = is_command_set plant c.choices

-- that the values recover, that the reason why they don't is all of them, or that it is what is left of them at this tracked state
abbrev pub Judges : Plant → Aim → List ℕ → Judged → Type 0
Judges plant aim u Recovers = recovers plant aim u ≡ true
Judges plant aim u Misses = (recovers plant aim u ≡ false) × (command_reason plant aim u ≡ pairs_of u)
Judges plant aim u (Stops at) = (recovers plant aim u ≡ false) × (command_reason plant aim u ≡ reduced (reaches_at (looking_at plant aim at)) [] (pairs_of u))
