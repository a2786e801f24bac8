-- Where a plant stands, and what a line does.
use Rattle.std.specs.Prelude.{ℕ, ◌+◌, Bool, true, false, ◌||◌, nat_eq, nat_le, if◌then◌else◌, List, [], ◌∷◌, length, replicate, slice_set, ◌%◌, Option, Some, None}
use Rattle.std.specs.Option.{option_map_or}
use Rattle.lv_base.specs.declared.ids.ValId.{ValId}
use Rattle.lv_base.specs.declared.ids.MoveId.{MoveId}
use Rattle.lv_model.specs.declared.plant.Plant.{Plant}
use Rattle.lv_plant_step.specs.declared.asked.Asked.{Asked}
use Rattle.lv_plant_step.specs.declared.asked.PlantStep.{PlantStep}
use Rattle.lv_plant_step.specs.PlantSteps.{plant_step}
use Rattle.lv_reply.specs.declared.reply.Reply.{Reply}
use Rattle.lv_reply.specs.declared.reply.Reply.TheVariants.{Settled}
use Rattle.lv_session.specs.lv_session_request.declared.request.Sighting.{Sighting}
use Rattle.lv_session.specs.lv_session_request.declared.request.Request.TheVariants.{Observe, Diagnose, Commit}
use Rattle.lv_session.specs.lv_session_state.State.{SessionState, Stepped, facts_of}
use Rattle.lv_session.specs.Session.{RunningSession, carried_out, stepped}
use Rattle.lv_session.specs.Answering.{begun}
use Rattle.lv_session.specs.Applying.{recovery_at}
use Rattle.lv_session.specs.lv_session_state.Applying.{applied}
use Rattle.lv_plant.specs.declared.fault.PlantFault.TheVariants.{NoFault, NoStep, NoMore, NoRecovery}
use Rattle.lv_plant.specs.declared.reply.PlantReply.{PlantReply}
use Rattle.lv_plant.specs.declared.reply.PlantReply.TheVariants.{Silence, Accepted, Refused, Told, Moved}
use Rattle.lv_plant.specs.declared.reply.StepTold.{StepTold}
use Rattle.lv_plant.specs.declared.plant.TheConstants.{STEPS}
use Rattle.lv_plant.specs.Forms as forms
use Rattle.lv_plant.specs.declared.naming.NamedFault.{NamedFault}
use Rattle.lv_plant.specs.Naming.{named_fault}
use Rattle.lv_plant.specs.Seeing.{seen, modes_in, start_modes}
use Rattle.lv_plant.specs.Findings.{is_held, goals_among}

-- the session; the mode that each part is in, and the move that is named of it for the next step; how many steps the plant made; whether
-- it is halted; and whether memory was wanting
pub record Standing : Type 0 where
  pub session : RunningSession
  pub modes : List ValId
  pub faults : List (Option MoveId)
  pub time : ℕ
  pub is_halted : Bool
  pub is_out_of_memory : Bool

abbrev pub no_faults : Plant → List (Option MoveId)
no_faults plant = replicate (length plant.parts) None

-- at the start the parts are in their starting modes
abbrev pub at_start : Plant → Standing
at_start plant = record {
  session = begun plant;
  modes = start_modes plant.parts;
  faults = no_faults plant;
  time = 0;
  is_halted = false;
  is_out_of_memory = false;
}

-- the session stands so
abbrev pub with_session : Standing → SessionState → Standing
with_session s state = record s { session = record s.session { state = state } }

pub record Done : Type 0 where
  pub next : Standing
  pub reply : PlantReply

abbrev pub unchanged : Standing → PlantReply → Done
unchanged s reply = record { next = s; reply = reply }

-- the move is named
abbrev pub with_fault : Standing → NamedFault → Standing
with_fault s n = record s { faults = slice_set s.faults n.part (Some n.mv) }

-- `fault P N`
abbrev pub named : Plant → Standing → List ℕ → Option ℕ → Done
named plant s name tag =
    option_map_or (λ (n : NamedFault). record { next = with_fault s n; reply = Accepted }) (named_fault plant s.modes name tag) (unchanged s (Refused NoFault))

-- what is asked of the plant's next step
abbrev pub asked_of : Standing → Asked
asked_of s = record { modes = s.modes; facts = facts_of s.session.state; faults = s.faults }

-- the plant after a step, before the session is told
abbrev pub moved : Plant → Standing → PlantStep → Standing
moved plant s step = record s { modes = modes_in plant.parts step.after; faults = no_faults plant; time = s.time + 1 }

-- the session is told of an observation
abbrev pub observed_by : Standing → Sighting → Stepped
observed_by s sighting = carried_out s.session.plant s.session.state (Observe sighting)

-- the session is told what was observed
abbrev pub told : Plant → SessionState → List Sighting → SessionState
told plant state [] = state
told plant state (s ∷ ss) = told plant (carried_out plant state (Observe s)).state ss

abbrev pub told_all : Standing → List Sighting → Standing
told_all s sightings = with_session s (told s.session.plant s.session.state sightings)

-- it is told what is observed of the step
unfoldable pub told_by : Standing → PlantStep → Standing
told_by s step = told_all s (seen s.session.plant (nat_eq (s.time % 2) 1) step.after)

-- it diagnoses
abbrev pub diagnosed_by : Standing → Stepped
diagnosed_by s = carried_out s.session.plant s.session.state Diagnose

-- a settled diagnosis that lists something
abbrev pub lists_some : Reply → Bool
lists_some (Settled listed) = nat_le 1 (length listed)
lists_some reply = false

pub record Committed : Type 0 where
  pub next : Standing
  pub commit : Option Reply

abbrev pub commit_at : Standing → Stepped
commit_at s = carried_out s.session.plant s.session.state Commit

-- a diagnosis that is settled and lists something is committed; behind any other the plant is halted
unfoldable pub committed_by : Standing → Reply → Committed
committed_by s diagnosis =
    if lists_some diagnosis
    then record { next = with_session s (commit_at s).state; commit = Some (commit_at s).reply }
    else record { next = record s { is_halted = true }; commit = None }

-- what is told of a step behind which the plant stands so
abbrev pub told_of : Standing → PlantStep → Reply → Option Reply → StepTold
told_of s step diagnosis commit = record {
  time = s.time;
  modes = s.modes;
  diagnosis = diagnosis;
  commit = commit;
  is_held = is_held s.modes s.session.state.tracked;
  goals = goals_among step.after s.session.state.goals;
}

abbrev pub after_commit : PlantStep → Reply → Committed → Done
after_commit step diagnosis c = record { next = c.next; reply = Moved (told_of c.next step diagnosis c.commit) }

abbrev pub after_diagnosis : Standing → PlantStep → Stepped → Done
after_diagnosis s step d = after_commit step d.reply (committed_by (with_session s d.state) d.reply)

abbrev pub after_telling : Standing → PlantStep → Done
after_telling s step = after_diagnosis s step (diagnosed_by s)

-- the plant takes a step: the session is told what is observed of it, diagnoses, and commits
unfoldable pub taken : Plant → Standing → PlantStep → Done
taken plant s step = after_telling (told_by (moved plant s step) step) step

-- it is halted, or has made as many steps as it may
abbrev pub is_over : Standing → Bool
is_over s = s.is_halted || nat_le STEPS s.time

-- `step`
abbrev pub step : Plant → Standing → Done
step plant s =
    if is_over s then unchanged s (Refused NoMore)
    else option_map_or (taken plant s) (plant_step plant (asked_of s)) (unchanged s (Refused NoStep))

-- `apply`
abbrev pub apply : Standing → Done
apply s =
    option_map_or (λ (values : List ℕ). record { next = with_session s (applied s.session.state values); reply = Accepted }) (recovery_at s.session)
    (unchanged s (Refused NoRecovery))

-- a line that is the session's
abbrev pub handed_on : Plant → Standing → List ℕ → Done
handed_on plant s line = record { next = with_session s (stepped plant s.session.state line).state; reply = Told (stepped plant s.session.state line).reply }

abbrev pub done_by : Plant → Standing → List ℕ → forms.Asked → Done
done_by plant s line forms.nothing = unchanged s Silence
done_by plant s line (forms.refused fault) = unchanged s (Refused fault)
done_by plant s line forms.for_session = handed_on plant s line
done_by plant s line (forms.name part tag) = named plant s part tag
done_by plant s line forms.step = step plant s
done_by plant s line forms.apply = apply s

-- what a line does, and the reply to it
unfoldable pub done : Standing → List ℕ → Done
done s line = done_by s.session.plant s line (forms.asked_by line)
