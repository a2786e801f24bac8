-- What of a session stays as it is while it is handed lines, told what is observed, and commanded as a recovery asks.
use Rattle.std.proofs.Common.{◌≡◌, ℕ, ◌+◌, ◌≤◌, Bool, true, false, cond, nat_eq, List, [], ◌∷◌, ◌++◌, length, map, filter, decimal, slice_set, Result, Ok, Err, refl, ◌∙◌, arith}
use Rattle.std.proofs.lemmas.Bool.{and_parts, and_from, eq-eqb}
use Rattle.lv_base.specs.declared.ids.ValId.{ValId}
use Rattle.lv_base.specs.declared.ids.VarId.{VarId}
use Rattle.lv_base.specs.Tree.{number_of, value_of}
use Rattle.lv_model.specs.declared.plant.Plant.{Plant}
use Rattle.lv_meaning.specs.Facts.{agrees, meets}
use Rattle.lv_meaning.specs.Possible.{value}
use Rattle.lv_reply.specs.declared.reply.Refusal.{Refusal}
use Rattle.lv_reply.specs.declared.reply.Refusal.TheVariants.{NameHeld, NameNotHeld, NoGoal, TooManyHeld}
use Rattle.lv_reply.specs.declared.reply.Reply.TheVariants.{Nothing as Silence, Refused}
use Rattle.lv_session.specs.lv_session_request.declared.goals.Goal.{Goal}
use Rattle.lv_session.specs.lv_session_request.declared.request.Sighting.{Sighting}
use Rattle.lv_session.specs.lv_session_request.declared.request.Request.{Request}
use Rattle.lv_session.specs.lv_session_request.declared.request.Request.TheVariants as request
use Rattle.lv_session.specs.lv_session_request.Held.{observation_of}
use Rattle.lv_session.specs.lv_session_request.Requests.{request_of, IsRequestOf}
use Rattle.lv_session.specs.lv_session_state.declared.query.Query.{Query}
use Rattle.lv_session.specs.lv_session_state.declared.query.Query.TheVariants.{Absent, Diagnosis, Recovery, Test, Window}
use Rattle.lv_session.specs.lv_session_state.State.{SessionState, rest, unchanged, cleared, is_held, has_no_room, observe, is_goal, has_no_goal_room, lacks_goal_name, set_goal, drop_goal, recovered, recover, conflicts}
use Rattle.lv_session.specs.Session.{carried_out, answered, stepped}
use Rattle.lv_session.specs.lv_session_state.Applying.{applied}
use Rattle.lv_session.proofs.Steps.{request_in}
use Rattle.lv_plant.specs.Forms as forms
use Rattle.lv_plant.specs.Seeing.{seen_from}
use Rattle.lv_plant.specs.Standing.{told}
use Rattle.lv_plant.specs.Laws.{Aims}
use Rattle.lv_plant.proofs.HandedLemmas.{is_handed, asks_handed, handed_request}

-- all that a line handed on leaves as it was, or as good
pub record Stays (old new : SessionState) : Type 0 where
  pub tracked : new.tracked ≡ old.tracked
  pub time : new.time ≡ old.time
  pub present : new.present ≡ old.present
  pub next : new.next ≡ old.next
  pub ended : new.is_ended ≡ old.is_ended
  pub lists : 1 ≤ old.k → 1 ≤ new.k
  pub aims : Aims old → Aims new

pub stays_same : (state : SessionState) → Stays state state
stays_same state = record { tracked = refl; time = refl; present = refl; next = refl; ended = refl; lists = λ h. h; aims = λ h. h }

pub stays_on : (a b c : SessionState) → Stays a b → Stays b c → Stays a c
stays_on a b c f g = record {
  tracked = g.tracked ∙ f.tracked;
  time = g.time ∙ f.time;
  present = g.present ∙ f.present;
  next = g.next ∙ f.next;
  ended = g.ended ∙ f.ended;
  lists = λ h. g.lists (f.lists h);
  aims = λ h. g.aims (f.aims h);
}

some_goal : (gs : List Goal) → nat_eq (length gs) 0 ≡ false → 1 ≤ length gs
some_goal [] e = absurd (cc e)
some_goal (g ∷ gs) e = omega arith

module _ (plant : Plant) (state : SessionState) where
  changed : (k : ℕ) (distinct : Bool) (controls : List ValId) (goals : List Goal) → (1 ≤ state.k → 1 ≤ k)
      → Stays state (record state { k = k; distinct = distinct; controls = controls; goals = goals; query = Absent })
  changed k distinct controls goals lists =
      record { tracked = refl; time = refl; present = refl; next = refl; ended = refl; lists = lists; aims = λ h sum e. absurd (cc e) }

  goal_stays : (g : Goal) → Stays state (set_goal state g).state
  goal_stays g = by (is_goal state g.name) (has_no_goal_room state g.name)
    where
      by : (a b : Bool) → Stays state (cond a (unchanged state (Refused NameHeld)) (cond b (unchanged state (Refused TooManyHeld)) (cleared (record state { goals = state.goals ++ (g ∷ []) })))).state
      by true b = stays_same state
      by false true = stays_same state
      by false false = changed state.k state.distinct state.controls (state.goals ++ (g ∷ [])) (λ h. h)

  drop_stays : (name : List ℕ) → Stays state (drop_goal state name).state
  drop_stays name = by (is_goal state name)
    where
      by : (b : Bool) → Stays state (cond b (cleared (record state { goals = filter (lacks_goal_name name) state.goals })) (unchanged state (Refused NameNotHeld))).state
      by true = changed state.k state.distinct state.controls (filter (lacks_goal_name name) state.goals) (λ h. h)
      by false = stays_same state

  recover_stays : Stays state (recover plant state).state
  recover_stays = by (nat_eq (length state.goals) 0) refl
    where
      by : (b : Bool) → nat_eq (length state.goals) 0 ≡ b → Stays state (cond b (unchanged state (Refused NoGoal)) (recovered plant state state.budget)).state
      by true e = stays_same state
      by false e = record { tracked = refl; time = refl; present = refl; next = refl; ended = refl; lists = λ h. h; aims = λ h sum is. some_goal state.goals e }

  conflicts_stay : (q : Query) → Stays state (conflicts q plant state).state
  conflicts_stay Absent = stays_same state
  conflicts_stay (Diagnosis sum) = stays_same state
  conflicts_stay (Recovery sum) = stays_same state
  conflicts_stay (Test x sum) = stays_same state
  conflicts_stay (Window steps sum) = stays_same state

  request_stays : (r : Request) → is_handed r ≡ true → IsRequestOf plant r → Stays state (carried_out plant state r).state
  request_stays request.Nothing handed is = stays_same state
  request_stays (request.Track n) handed is = changed n false state.controls state.goals (λ h. is.some)
  request_stays (request.TrackDistinct n) handed is = changed n true state.controls state.goals (λ h. is.some)
  request_stays (request.SetBudget n) handed is = record { tracked = refl; time = refl; present = refl; next = refl; ended = refl; lists = λ h. h; aims = λ h. h }
  request_stays (request.SetControl c) handed is = changed state.k state.distinct (slice_set state.controls c.place c.value) state.goals (λ h. h)
  request_stays (request.Release place) handed is = changed state.k state.distinct (slice_set state.controls place rest) state.goals (λ h. h)
  request_stays (request.Observe s) handed is = absurd (cc handed)
  request_stays (request.Retract name) handed is = absurd (cc handed)
  request_stays (request.RetractAt r) handed is = absurd (cc handed)
  request_stays (request.SetGoal g) handed is = goal_stays g
  request_stays (request.DropGoal name) handed is = drop_stays name
  request_stays request.Diagnose handed is = absurd (cc handed)
  request_stays request.Recover handed is = recover_stays
  request_stays (request.More n) handed is = absurd (cc handed)
  request_stays request.Commit handed is = absurd (cc handed)
  request_stays request.Conflicts handed is = conflicts_stay state.query
  request_stays request.Certificate handed is = absurd (cc handed)
  request_stays request.Labels handed is = absurd (cc handed)
  request_stays (request.LabelsFrom n) handed is = absurd (cc handed)
  request_stays request.States handed is = stays_same state
  request_stays request.Reset handed is = absurd (cc handed)
  request_stays request.Quit handed is = absurd (cc handed)
  request_stays request.Probe handed is = absurd (cc handed)
  request_stays (request.Test x) handed is = absurd (cc handed)
  request_stays (request.Window steps) handed is = absurd (cc handed)

  -- a line that is handed on
  pub line_stays : (line : List ℕ) → forms.asked_by line ≡ forms.for_session → Stays state (stepped plant state line).state
  line_stays line h = by state.is_ended
    where
      answer : (r : Result Request Refusal) → request_of plant line ≡ r → asks_handed r ≡ true → Stays state (answered plant state r).state
      answer (Ok r) e handed = request_stays r handed (request_in plant line r e)
      answer (Err refusal) e handed = stays_same state

      by : (b : Bool) → Stays state (cond b (unchanged state Silence) (answered plant state (request_of plant line))).state
      by true = stays_same state
      by false = answer (request_of plant line) refl (handed_request plant line h)

  -- a recovery that is applied
  pub apply_stays : (values : List ℕ) → Stays state (applied state values)
  apply_stays values = changed state.k state.distinct (map value values) state.goals (λ h. h)

-- what is told of a step is true behind it, and nothing else is changed
pub record IsTold (b : List ValId) (old new : SessionState) : Type 0 where
  pub tracked : new.tracked ≡ old.tracked
  pub time : new.time ≡ old.time
  pub k : new.k ≡ old.k
  pub controls : new.controls ≡ old.controls
  pub present : new.present ≡ old.present
  pub goals : new.goals ≡ old.goals
  pub ended : new.is_ended ≡ old.is_ended
  pub met : meets b (map observation_of old.next) ≡ true → meets b (map observation_of new.next) ≡ true

nothing_told : (b : List ValId) (state : SessionState) → IsTold b state state
nothing_told b state = record { tracked = refl; time = refl; k = refl; controls = refl; present = refl; goals = refl; ended = refl; met = λ h. h }

told_on : (b : List ValId) (s t u : SessionState) → IsTold b s t → IsTold b t u → IsTold b s u
told_on b s t u f g = record {
  tracked = g.tracked ∙ f.tracked;
  time = g.time ∙ f.time;
  k = g.k ∙ f.k;
  controls = g.controls ∙ f.controls;
  present = g.present ∙ f.present;
  goals = g.goals ∙ f.goals;
  ended = g.ended ∙ f.ended;
  met = λ h. g.met (f.met h);
}

one_more : (b : List ValId) (xs : List Sighting) (s : Sighting) → agrees b (observation_of s) ≡ true → meets b (map observation_of xs) ≡ true → meets b (map observation_of (xs ++ (s ∷ []))) ≡ true
one_more b [] s own h = and_from (agrees b (observation_of s)) true own refl
one_more b (x ∷ xs) s own h =
    let two = and_parts (agrees b (observation_of x)) (meets b (map observation_of xs)) h in
    and_from (agrees b (observation_of x)) (meets b (map observation_of (xs ++ (s ∷ [])))) two.0 (one_more b xs s own two.1)

pub observation_told : (b : List ValId) (state : SessionState) (s : Sighting) → agrees b (observation_of s) ≡ true → IsTold b state (observe state s).state
observation_told b state s own = by (is_held state s.name) (has_no_room state s.name)
  where
    by : (c d : Bool) → IsTold b state (cond c (unchanged state (Refused NameHeld)) (cond d (unchanged state (Refused TooManyHeld)) (cleared (record state { next = state.next ++ (s ∷ []) })))).state
    by true d = nothing_told b state
    by false true = nothing_told b state
    by false false = record { tracked = refl; time = refl; k = refl; controls = refl; present = refl; goals = refl; ended = refl; met = one_more b state.next s own }

pub seen_told : (plant : Plant) (b : List ValId) (front : List ℕ) (n : ℕ) (xs : List VarId) (state : SessionState) → IsTold b state (told plant state (seen_from front n b xs))
seen_told plant b front n [] state = nothing_told b state
seen_told plant b front n (x ∷ xs) state =
    let s : Sighting = record { name = front ++ decimal n; var = x; val = value_of b x.0 } in
    told_on b state (observe state s).state (told plant (observe state s).state (seen_from front (n + 1) b xs))
    (observation_told b state s (eq-eqb (number_of b x.0) (number_of b x.0) refl)) (seen_told plant b front (n + 1) xs (observe state s).state)
