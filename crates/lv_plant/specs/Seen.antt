-- What is observed of a plant's steps, whatever lines came: all that is seen of them.
use Rattle.std.specs.Prelude.{◌≡◌, ◌≢◌, ◌≤◌, ℕ, Bool, true, false, not, nat_eq, List, length, take, ◌%◌, None}
use Rattle.std.specs.List.{list_all}
use Rattle.std.specs.Cmp.Lexicographic.{pointwise}
use Rattle.lv_model.specs.declared.plant.Plant.{Plant}
use Rattle.lv_session.specs.lv_session_request.declared.request.Sighting.{Sighting}
use Rattle.lv_plant_step.specs.declared.asked.PlantStep.{PlantStep}
use Rattle.lv_plant.specs.declared.reply.StepTold.{StepTold}
use Rattle.lv_plant.specs.declared.seeing.TheConstants.{SEEN}
use Rattle.lv_plant.specs.Seeing.{letter, seen}
use Rattle.lv_plant.specs.Standing.{Standing, at_start, done}
use Rattle.lv_plant.specs.Laws.{IsRunning, Takes}

-- the number of the plant's last step is odd
abbrev pub is_odd : Standing → Bool
is_odd s = nat_eq (s.time % 2) 1

-- the name begins with the letter of odd steps, or of even ones
abbrev pub is_lettered : Bool → Sighting → Bool
is_lettered odd sighting = pointwise nat_eq (take 1 sighting.name) (letter odd)

-- unless the plant is halted, what is observed now stands under names of its last step, and is no more than is observed of a step
pub record IsSeeing (s : Standing) : Type 0 where
  pub few : s.is_halted ≡ false → length s.session.state.present ≤ SEEN
  pub lettered : s.is_halted ≡ false → list_all (is_lettered (is_odd s)) s.session.state.present ≡ true

-- a plant is so at its start, and stays so whatever line comes; and all that is seen of a step is observed: behind a commit as what is
-- there now, and else, where the plant is halted, as what is to come
pub record StepsAreSeen : Type 0 where
  pub start : (plant : Plant) → IsSeeing (at_start plant)
  pub line : (s : Standing) (line : List ℕ) → IsRunning s → IsSeeing s → IsSeeing (done s line).next
  pub committed : (s : Standing) (line : List ℕ) (taken : PlantStep) (told : StepTold) → IsRunning s → IsSeeing s → Takes s line taken told → told.commit ≢ None
      → (done s line).next.session.state.present ≡ seen s.session.plant (not (is_odd s)) taken.after
  pub halted : (s : Standing) (line : List ℕ) (taken : PlantStep) (told : StepTold) → IsRunning s → IsSeeing s → Takes s line taken told → told.commit ≡ None
      → (done s line).next.session.state.next ≡ seen s.session.plant (not (is_odd s)) taken.after
