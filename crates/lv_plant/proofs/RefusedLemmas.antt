-- A line that is refused changes nothing; and at its start a plant has no recovery to apply.
use Rattle.std.proofs.Common.{◌≡◌, ℕ, Bool, true, false, cond, List, Option, Some, None, refl, sym, ◌∙◌, ap}
use Rattle.std.specs.Option.{option_map_or}
use Rattle.lv_model.specs.declared.plant.Plant.{Plant}
use Rattle.lv_plant_step.specs.declared.asked.PlantStep.{PlantStep}
use Rattle.lv_plant_step.specs.PlantSteps.{plant_step}
use Rattle.lv_session.specs.Applying.{recovery_at}
use Rattle.lv_session.specs.lv_session_state.Applying.{applied}
use Rattle.lv_plant.specs.declared.fault.PlantFault.{PlantFault}
use Rattle.lv_plant.specs.declared.fault.PlantFault.TheVariants.{NoFault, NoMore, NoStep, NoRecovery}
use Rattle.lv_plant.specs.declared.naming.NamedFault.{NamedFault}
use Rattle.lv_plant.specs.declared.reply.PlantReply.TheVariants.{Accepted, Refused, Moved}
use Rattle.lv_plant.specs.Forms as forms
use Rattle.lv_plant.specs.Naming.{named_fault}
use Rattle.lv_plant.specs.Standing.{Standing, Done, at_start, with_session, unchanged, with_fault, named, asked_of, taken, is_over, step, apply, done, done_by}
use Rattle.lv_plant.proofs.TakenLemmas.{taken_is}

-- what isn't refused
abbrev IsFair : Standing → Done → Type 0
IsFair s d = (fault : PlantFault) → d.reply ≡ Refused fault → d.next ≡ s

named_fair : (plant : Plant) (s : Standing) (name : List ℕ) (tag : Option ℕ) → IsFair s (named plant s name tag)
named_fair plant s name tag = by (named_fault plant s.modes name tag)
  where
    by : (o : Option NamedFault) → IsFair s (option_map_or (λ (n : NamedFault). record { next = with_fault s n; reply = Accepted }) o (unchanged s (Refused NoFault)))
    by None fault e = refl
    by (Some n) fault e = absurd (cc e)

apply_fair : (s : Standing) → IsFair s (apply s)
apply_fair s = by (recovery_at s.session)
  where
    by : (o : Option (List ℕ)) → IsFair s (option_map_or (λ (values : List ℕ). record { next = with_session s (applied s.session.state values); reply = Accepted }) o (unchanged s (Refused NoRecovery)))
    by None fault e = refl
    by (Some values) fault e = absurd (cc e)

taken_fair : (s : Standing) (taking : PlantStep) → IsFair s (taken s.session.plant s taking)
taken_fair s taking fault e = let clash : Moved _ ≡ Refused fault = sym (ap (λ (d : Done). d.reply) (taken_is s taking)) ∙ e in absurd (cc clash)

step_fair : (s : Standing) → IsFair s (step s.session.plant s)
step_fair s = by (is_over s) (plant_step s.session.plant (asked_of s))
  where
    by : (b : Bool) (o : Option PlantStep) → IsFair s (cond b (unchanged s (Refused NoMore)) (option_map_or (taken s.session.plant s) o (unchanged s (Refused NoStep))))
    by true o fault e = refl
    by false None fault e = refl
    by false (Some taking) fault e = taken_fair s taking fault e

line_fair : (s : Standing) (line : List ℕ) (asked : forms.Asked) → IsFair s (done_by s.session.plant s line asked)
line_fair s line forms.nothing fault e = refl
line_fair s line (forms.refused other) fault e = refl
line_fair s line forms.for_session fault e = absurd (cc e)
line_fair s line (forms.name part tag) fault e = named_fair s.session.plant s part tag fault e
line_fair s line forms.step fault e = step_fair s fault e
line_fair s line forms.apply fault e = apply_fair s fault e

pub refused_stays : (s : Standing) (line : List ℕ) (fault : PlantFault) → (done s line).reply ≡ Refused fault → (done s line).next ≡ s
unfolding done
refused_stays s line = line_fair s line (forms.asked_by line)

pub fresh_refuses : (plant : Plant) (line : List ℕ) → forms.asked_by line ≡ forms.apply → (done (at_start plant) line).reply ≡ Refused NoRecovery
unfolding done
fresh_refuses plant line asks = ap (λ (asked : forms.Asked). (done_by plant (at_start plant) line asked).reply) asks
