-- Lines and steps: what a line leaves as it was, and what a line that asks for a step is told.
use Rattle.std.proofs.Common.{◌≡◌, ◌≢◌, ℕ, zero, suc, ◌<◌, ◌≤◌, Bool, true, false, cond, nat_le, List, [], ◌∷◌, length, map, slice_get, Option, Some, None, is_some, Contains, inl, inr, refl, sym, subst, ◌∙◌, ap, arith}
use Rattle.std.specs.Option.{option_map_or}
use Rattle.std.proofs.lemmas.Bool.{and_parts, and_from, or_parts, le-leb, leb-false, ne_eqb}
use Rattle.lv_base.specs.declared.ids.ValId.{ValId}
use Rattle.lv_base.specs.declared.rank.Rank.{Rank}
use Rattle.lv_model.specs.declared.plant.Plant.{Plant}
use Rattle.lv_boxes.specs.declared.outcome.Outcome.{Outcome}
use Rattle.lv_boxes.specs.declared.outcome.Outcome.TheVariants.{Settled, Unsettled}
use Rattle.lv_boxes.specs.Walk.{Walked}
use Rattle.lv_meaning.specs.Commands.{is_command_set}
use Rattle.lv_meaning.specs.Recovers.{meets_goals, recovers}
use Rattle.lv_meaning.proofs.Among.{Among, contained}
use Rattle.lv_meaning.proofs.RecoveryWalks.{walk_found}
use Rattle.lv_reply.specs.declared.reply.Reply.TheVariants.{Settled as SettledReply}
use Rattle.lv_session.specs.lv_session_request.declared.goals.Goal.{Goal}
use Rattle.lv_session.specs.lv_session_request.Held.{observation_of}
use Rattle.lv_session.specs.lv_session_state.declared.query.Query.{Query}
use Rattle.lv_session.specs.lv_session_state.declared.query.Query.TheVariants.{Absent, Diagnosis, Recovery, Test, Window}
use Rattle.lv_session.specs.lv_session_state.State.{SessionState, aim_of, formula_of, recovery, reply_by, diagnosis_reply}
use Rattle.lv_session.specs.Session.{RunningSession, stepped}
use Rattle.lv_session.specs.lv_session_state.Applying.{first_values, values_by, recovery_values, applied}
use Rattle.lv_session.specs.Applying.{recovery_at}
use Rattle.lv_plant_step.specs.declared.asked.PlantStep.{PlantStep}
use Rattle.lv_plant_step.specs.PlantSteps.{plant_step}
use Rattle.lv_plant_step.specs.Laws.{IsPlantStep, IsApplied}
use Rattle.lv_plant_step.proofs.RecoveryLemmas.{recovery_reaches}
use Rattle.lv_plant_step.proofs.StepLemmas.{step_is}
use Rattle.lv_plant.specs.declared.plant.TheConstants.{STEPS}
use Rattle.lv_plant.specs.declared.fault.PlantFault.TheVariants.{NoFault, NoMore, NoStep, NoRecovery}
use Rattle.lv_plant.specs.declared.reply.PlantReply.TheVariants.{Accepted, Refused, Moved}
use Rattle.lv_plant.specs.declared.reply.StepTold.{StepTold}
use Rattle.lv_plant.specs.declared.reply.GoalsTold.TheVariants.{NoGoals, Met, Open}
use Rattle.lv_plant.specs.Forms as forms
use Rattle.lv_plant.specs.declared.naming.NamedFault.{NamedFault}
use Rattle.lv_plant.specs.Naming.{named_fault}
use Rattle.lv_plant.specs.Findings.{is_held, is_met, are_met, goals_among}
use Rattle.lv_plant.specs.Standing.{Standing, Done, Committed, at_start, with_session, unchanged, with_fault, named, asked_of, lists_some, told_of, taken, is_over, step, apply, done, done_by}
use Rattle.lv_plant.specs.Answering.{next_at}
use Rattle.lv_plant.specs.Laws.{IsRunning, Takes, IsOwn, after, AskNoStep, IsBehind, MeetsGoals}
use Rattle.lv_plant.proofs.OwnLemmas.{StandsIn, held_place}
use Rattle.lv_plant.proofs.KeptLemmas.{Stays, stays_same, stays_on, line_stays, apply_stays}
use Rattle.lv_plant.proofs.TakenLemmas.{came_to, came, comes, taken_is, comes_listing, goals_kept, runs_on, held_behind, lists_then}

-- a step that is told of is made

-- the plant isn't over
pub record Makes (s : Standing) (taking : PlantStep) (told : StepTold) : Type 0 where
  pub runs : s.is_halted ≡ false
  pub few : s.time < STEPS
  pub told_is : told ≡ told_of (comes s taking).next taking (diagnosis_reply (came s taking)) (comes s taking).commit

pub not_over : (s : Standing) → is_over s ≡ false → (s.is_halted ≡ false) × (s.time < STEPS)
not_over s e = let two = or_parts s.is_halted (nat_le STEPS s.time) e in (two.0, leb-false STEPS s.time two.1)

-- what a line that asks for a step does
pub asks_step : (s : Standing) (line : List ℕ) → forms.asked_by line ≡ forms.step → done s line ≡ step s.session.plant s
unfolding done
asks_step s line asks = ap (done_by s.session.plant s line) asks

pub step_taken : (s : Standing) (taking : PlantStep) → is_over s ≡ false → plant_step s.session.plant (asked_of s) ≡ Some taking → step s.session.plant s ≡ taken s.session.plant s taking
step_taken s taking goes is =
    ap (λ (b : Bool). cond b (unchanged s (Refused NoMore)) (option_map_or (taken s.session.plant s) (plant_step s.session.plant (asked_of s)) (unchanged s (Refused NoStep)))) goes
    ∙ ap (λ (o : Option PlantStep). option_map_or (taken s.session.plant s) o (unchanged s (Refused NoStep))) is

over_refuses : (s : Standing) (told : StepTold) → is_over s ≡ true → (step s.session.plant s).reply ≡ Moved told → ⊥
over_refuses s told e tells =
    let refused : (step s.session.plant s).reply ≡ Refused NoMore =
    ap (λ (b : Bool). (cond b (unchanged s (Refused NoMore)) (option_map_or (taken s.session.plant s) (plant_step s.session.plant (asked_of s)) (unchanged s (Refused NoStep)))).reply) e in
    let clash : Refused NoMore ≡ Moved told = sym refused ∙ tells in
    absurd (cc clash)

pub makes : (s : Standing) (line : List ℕ) (taking : PlantStep) (told : StepTold) → Takes s line taking told → Makes s taking told
makes s line taking told t = by (is_over s) refl
  where
    tells : (step s.session.plant s).reply ≡ Moved told
    tells = sym (ap (λ (d : Done). d.reply) (asks_step s line t.asks)) ∙ t.tells

    by : (b : Bool) → is_over s ≡ b → Makes s taking told
    by true e = absurd (over_refuses s told e tells)
    by false e =
        let two = not_over s e in
        let same : Moved (told_of (comes s taking).next taking (diagnosis_reply (came s taking)) (comes s taking).commit) ≡ Moved told =
        sym (ap (λ (d : Done). d.reply) (step_taken s taking e t.is ∙ taken_is s taking)) ∙ tells in
        record { runs = two.0; few = two.1; told_is = cc same }

-- the tracked states follow

pub follows : (s : Standing) (line : List ℕ) (taking : PlantStep) (told : StepTold) (listed : List Rank) → IsRunning s → Takes s line taking told → told.diagnosis ≡ SettledReply listed
    → (made : IsPlantStep s.session.plant (asked_of s) taking) → IsOwn s made.moves listed → told.is_held ≡ true
follows s line taking told listed is t settled made own =
    let m : Makes s taking told = makes s line taking told t in
    ap (λ (x : StepTold). x.is_held) m.told_is ∙ held_behind s taking is m.few made listed (sym (ap (λ (x : StepTold). x.diagnosis) m.told_is) ∙ settled) own

-- the plant is halted for a reason

pub commits_or : (s : Standing) (taking : PlantStep) → (comes s taking).commit ≡ None → lists_some (diagnosis_reply (came s taking)) ≡ false
commits_or s taking none = by (lists_some (diagnosis_reply (came s taking))) refl
  where
    by : (b : Bool) → lists_some (diagnosis_reply (came s taking)) ≡ b → b ≡ false
    by false e = refl
    by true e = let clash : Some _ ≡ None = sym (ap (λ (c : Committed). c.commit) (comes_listing s taking e)) ∙ none in absurd (cc clash)

lists_nothing : (o : Outcome) (w : Walked) → o ≡ Settled → lists_some (reply_by o w) ≡ false → 1 ≤ length w.listed → ⊥
lists_nothing Settled w e none some = let clash : true ≡ false = sym (le-leb 1 (length w.listed) some) ∙ none in absurd (cc clash)
lists_nothing Unsettled w e none some = absurd (cc e)

pub halts : (s : Standing) (line : List ℕ) (taking : PlantStep) (told : StepTold) → IsRunning s → Takes s line taking told → told.commit ≡ None
    → is_held s.modes s.session.state.tracked ≡ true → (listed : List Rank) → told.diagnosis ≡ SettledReply listed → ⊥
halts s line taking told is t none held listed settled =
    let m : Makes s taking told = makes s line taking told t in
    let w : Walked = came s taking in
    let nothing : lists_some (diagnosis_reply w) ≡ false = commits_or s taking (sym (ap (λ (x : StepTold). x.commit) m.told_is) ∙ none) in
    let outcome : w.outcome ≡ Settled = (came_to w.outcome w listed (sym (ap (λ (x : StepTold). x.diagnosis) m.told_is) ∙ settled)).0 in
    lists_nothing w.outcome w outcome nothing (lists_then s taking is m.few (step_is s.session.plant (asked_of s) taking t.is) m.runs held outcome)

-- what a line leaves as it was

-- the session is the plant's, and all but what a line may ask of it is as it was
pub record Keeps (old new : Standing) : Type 0 where
  pub plant : new.session.plant ≡ old.session.plant
  pub state : Stays old.session.state new.session.state
  pub time : new.time ≡ old.time
  pub halted : new.is_halted ≡ old.is_halted

keeps_same : (s : Standing) → Keeps s s
keeps_same s = record { plant = refl; state = stays_same s.session.state; time = refl; halted = refl }

keeps_on : (a b c : Standing) → Keeps a b → Keeps b c → Keeps a c
keeps_on a b c f g = record {
  plant = g.plant ∙ f.plant;
  state = stays_on a.session.state b.session.state c.session.state f.state g.state;
  time = g.time ∙ f.time;
  halted = g.halted ∙ f.halted;
}

with_state : (s : Standing) (state : SessionState) → Stays s.session.state state → Keeps s (with_session s state)
with_state s state stays = record { plant = refl; state = stays; time = refl; halted = refl }

named_keeps : (plant : Plant) (s : Standing) (name : List ℕ) (tag : Option ℕ) → Keeps s (named plant s name tag).next
named_keeps plant s name tag = by (named_fault plant s.modes name tag)
  where
    by : (o : Option NamedFault) → Keeps s (option_map_or (λ (n : NamedFault). record { next = with_fault s n; reply = Accepted }) o (unchanged s (Refused NoFault))).next
    by None = keeps_same s
    by (Some n) = record { plant = refl; state = stays_same s.session.state; time = refl; halted = refl }

pub apply_keeps : (s : Standing) → Keeps s (apply s).next
apply_keeps s = by (recovery_at s.session)
  where
    by : (o : Option (List ℕ))
        → Keeps s (option_map_or (λ (values : List ℕ). record { next = with_session s (applied s.session.state values); reply = Accepted }) o (unchanged s (Refused NoRecovery))).next
    by None = keeps_same s
    by (Some values) = with_state s (applied s.session.state values) (apply_stays s.session.plant s.session.state values)

pub line_keeps_by : (s : Standing) (line : List ℕ) (asked : forms.Asked) → forms.asked_by line ≡ asked → asked ≢ forms.step → Keeps s (done_by s.session.plant s line asked).next
line_keeps_by s line forms.nothing is no_step = keeps_same s
line_keeps_by s line (forms.refused fault) is no_step = keeps_same s
line_keeps_by s line forms.for_session is no_step =
    with_state s (stepped s.session.plant s.session.state line).state (line_stays s.session.plant s.session.state line is)
line_keeps_by s line (forms.name part tag) is no_step = named_keeps s.session.plant s part tag
line_keeps_by s line forms.step is no_step = absurd (no_step refl)
line_keeps_by s line forms.apply is no_step = apply_keeps s

pub line_keeps : (s : Standing) (line : List ℕ) → forms.asked_by line ≢ forms.step → Keeps s (next_at s line)
unfolding done
line_keeps s line no_step = line_keeps_by s line (forms.asked_by line) refl no_step

lines_keep : (s : Standing) (lines : List (List ℕ)) → AskNoStep lines → Keeps s (after s lines)
lines_keep s [] none = keeps_same s
lines_keep s (line ∷ lines) none = keeps_on s (next_at s line) (after (next_at s line) lines) (line_keeps s line none.0) (lines_keep (next_at s line) lines none.1)

-- the plant runs on

keeps_running : (old new : Standing) → IsRunning old → Keeps old new → IsRunning new
keeps_running old new is keeps =
    let time = keeps.time in
    let commits = keeps.state.time in
    let before = is.commits in
    record {
      goes_on = keeps.state.ended ∙ is.goes_on;
      lists = keeps.state.lists is.lists;
      commits = omega (arith, time, commits, before);
      clear = λ runs. keeps.state.next ∙ is.clear (sym keeps.halted ∙ runs);
      aims = keeps.state.aims is.aims;
    }

step_running : (s : Standing) → IsRunning s → IsRunning (step s.session.plant s).next
step_running s is = by (is_over s) refl
  where
    taking_runs : (o : Option PlantStep) → s.time < STEPS → IsRunning (option_map_or (taken s.session.plant s) o (unchanged s (Refused NoStep))).next
    taking_runs None few = is
    taking_runs (Some taking) few = subst (λ (d : Done). IsRunning d.next) (sym (taken_is s taking)) (runs_on s taking is few)

    by : (b : Bool) → is_over s ≡ b
        → IsRunning (cond b (unchanged s (Refused NoMore)) (option_map_or (taken s.session.plant s) (plant_step s.session.plant (asked_of s)) (unchanged s (Refused NoStep)))).next
    by true e = is
    by false e = taking_runs (plant_step s.session.plant (asked_of s)) (not_over s e).1

line_running : (s : Standing) (line : List ℕ) (asked : forms.Asked) → forms.asked_by line ≡ asked → IsRunning s → IsRunning (done_by s.session.plant s line asked).next
line_running s line forms.nothing e is = is
line_running s line (forms.refused fault) e is = is
line_running s line forms.for_session e is = keeps_running s (done_by s.session.plant s line forms.for_session).next is (line_keeps_by s line forms.for_session e (λ h. absurd (cc h)))
line_running s line (forms.name part tag) e is = keeps_running s (named s.session.plant s part tag).next is (named_keeps s.session.plant s part tag)
line_running s line forms.step e is = step_running s is
line_running s line forms.apply e is = keeps_running s (apply s).next is (apply_keeps s)

pub runs : (s : Standing) (line : List ℕ) → IsRunning s → IsRunning (done s line).next
unfolding done
runs s line is = line_running s line (forms.asked_by line) refl is

pub starts : (plant : Plant) → IsRunning (at_start plant)
starts plant = record { goes_on = refl; lists = omega arith; commits = omega arith; clear = λ _. refl; aims = λ sum q. absurd (cc q) }

-- a recovery that was found and applied

-- the current query is a recovery that found these values
record IsFound (s : RunningSession) (u : List ℕ) : Type 0 where
  pub sum : ℕ
  pub query : s.state.query ≡ Recovery sum
  pub commands : is_command_set s.plant u ≡ true
  pub sure : recovers s.plant (aim_of s.state) u ≡ true

first_found : (listed : List Rank) (u : List ℕ) → first_values listed ≡ Some u → (r : Rank) × (Contains listed r) × (r.choices ≡ u)
first_found [] u h = absurd (cc h)
first_found (r ∷ rs) u h = (r, (0, omega arith, refl), cc h)

values_settled : (o : Outcome) (listed : List Rank) (u : List ℕ) → values_by o listed ≡ Some u → (o ≡ Settled) × (first_values listed ≡ Some u)
values_settled Settled listed u h = (refl, h)
values_settled Unsettled listed u h = absurd (cc h)

found_by : (s : RunningSession) (u : List ℕ) (q : Query) → s.state.query ≡ q → recovery_values q s.plant s.state ≡ Some u → IsFound s u
unfolding recovery
found_by s u Absent e h = absurd (cc h)
found_by s u (Diagnosis sum) e h = absurd (cc h)
found_by s u (Test x sum) e h = absurd (cc h)
found_by s u (Window steps sum) e h = absurd (cc h)
found_by s u (Recovery sum) e h =
    let two = values_settled (recovery s.plant s.state sum).outcome (recovery s.plant s.state sum).listed u h in
    let one = first_found (recovery s.plant s.state sum).listed u two.1 in
    let is = walk_found s.plant (aim_of s.state) sum one.0 two.0 one.1 in
    record {
      sum = sum;
      query = e;
      commands = subst (λ (v : List ℕ). is_command_set s.plant v ≡ true) one.2 is.set.values;
      sure = subst (λ (v : List ℕ). recovers s.plant (aim_of s.state) v ≡ true) one.2 is.sure;
    }

is_found : (s : RunningSession) (u : List ℕ) → recovery_at s ≡ Some u → IsFound s u
is_found s u h = by s.is_out_of_memory h
  where
    by : (b : Bool) → cond b None (recovery_values s.state.query s.plant s.state) ≡ Some u → IsFound s u
    by true e = absurd (cc e)
    by false e = found_by s u s.state.query refl e

at_among : {X : Type 0} (xs : List X) (n : ℕ) (x : X) → slice_get xs n ≡ Some x → Among x xs
at_among [] n x h = absurd (cc h)
at_among (y ∷ ys) zero x h = let same : y ≡ x = cc h in inl (sym same)
at_among (y ∷ ys) (suc n) x h = inr (at_among ys n x h)

goals_true : (b : List ValId) (goals : List Goal) → meets_goals (map formula_of goals) b ≡ true → are_met b goals ≡ true
goals_true b [] h = refl
goals_true b (g ∷ gs) h =
    let two = and_parts (is_met b g) (meets_goals (map formula_of gs) b) h in
    and_from (is_met b g) (are_met b gs) two.0 (goals_true b gs two.1)

all_met : (b : List ValId) (goals : List Goal) → 1 ≤ length goals → are_met b goals ≡ true → goals_among b goals ≡ Met
all_met b goals some met =
    ap (λ (c : Bool). cond c NoGoals (cond (are_met b goals) Met Open)) (ne_eqb (length goals) 0 (λ e. absurd (omega (arith, some, e)))) ∙ ap (λ (c : Bool). cond c Met Open) met

found_step : (o : Option PlantStep) → is_some o ≡ true → (taking : PlantStep) × (o ≡ Some taking)
found_step None h = absurd (cc h)
found_step (Some taking) h = (taking, refl)

pub meets : (before : Standing) (u : List ℕ) (lines : List (List ℕ)) (s : Standing) (line : List ℕ) → IsRunning before → IsBehind before u lines s
    → forms.asked_by line ≡ forms.step → MeetsGoals s line
meets before u lines s line is behind asks =
    let found : IsFound before.session u = is_found before.session u behind.found in
    let keeps : Keeps before s =
    subst (Keeps before) behind.leads
    (keeps_on before (apply before).next (after (apply before).next lines) (apply_keeps before) (lines_keep (apply before).next lines behind.no_step)) in
    let plant : before.session.plant ≡ s.session.plant = sym keeps.plant in
    let aim : aim_of before.session.state ≡ aim_of s.session.state =
    λ i. record { tracked = sym keeps.state.tracked i; present = map observation_of (sym keeps.state.present i); goals = map formula_of (sym behind.goals i) } in
    let at : StandsIn s.modes s.session.state.tracked = held_place s.modes s.session.state.tracked behind.held in
    let applied_is : IsApplied s.session.plant (aim_of s.session.state) u at.state (asked_of s) =
    record {
      commands = subst (λ (p : Plant). is_command_set p u ≡ true) plant found.commands;
      sure = sym (λ i. recovers (plant i) (aim i) u) ∙ found.sure;
      tracked = contained s.session.state.tracked at.state (at_among s.session.state.tracked at.place at.state at.at);
      modes = sym at.modes_are;
      controls = behind.controls;
      present = refl;
      no_fault = behind.no_fault;
    } in
    let some : 1 ≤ length s.session.state.goals = subst (λ (gs : List Goal). 1 ≤ length gs) (sym behind.goals) (is.aims found.sum found.query) in
    let one = found_step (plant_step s.session.plant (asked_of s)) (recovery_reaches.steps s.session.plant (aim_of s.session.state) u at.state (asked_of s) applied_is) in
    let reached = recovery_reaches.reaches s.session.plant (aim_of s.session.state) u at.state (asked_of s) one.0 applied_is one.1 in
    let comes_to : done s line ≡ taken s.session.plant s one.0 = asks_step s line asks ∙ step_taken s one.0 behind.goes_on one.1 in
    record {
      told = told_of (comes s one.0).next one.0 (diagnosis_reply (came s one.0)) (comes s one.0).commit;
      tells = ap (λ (d : Done). d.reply) comes_to ∙ ap (λ (d : Done). d.reply) (taken_is s one.0);
      goals =
          ap (goals_among one.0.after) (goals_kept s one.0) ∙ all_met one.0.after s.session.state.goals some (goals_true one.0.after s.session.state.goals reached);
    }
