-- What a plant keeps between lines.
use Rattle.std.proofs.Common.{◌≡◌, ℕ, zero, suc, ◌<◌, Bool, true, false, cond, nat_lt, List, [], ◌∷◌, ◌++◌, length, map, replicate, position, slice_get, slice_set, option_map, Option, Some, None, Result, Ok, Err, OnOk, OnErr, refl, sym, subst, ◌∙◌, ap, ap₂, arith, All, IfSome}
use Rattle.std.specs.Option.{option_map_or, option_and_then}
use Rattle.std.specs.declared.alloc.AllocError.{AllocError}
use Rattle.std.specs.Cmp.Lexicographic.{pointwise}
use Rattle.std.proofs.lemmas.Bool.{and_parts, and_from, lt-ltb}
use Rattle.std.proofs.lemmas.List.{length-map}
use Rattle.std.proofs.lemmas.List.Quantifiers.{position-Some}
use Rattle.std.proofs.lemmas.List.Elements.{All-cons, All-nil, All-head, All-tail}
use Rattle.lv_base.specs.declared.ids.ValId.{ValId}
use Rattle.lv_base.specs.declared.ids.MoveId.{MoveId}
use Rattle.lv_base.specs.declared.range.Range.{Range}
use Rattle.lv_base.proofs.FitLemmas.{fits_reads}
use Rattle.lv_model.specs.declared.plant.Plant.{Plant}
use Rattle.lv_model.specs.declared.plant.ComponentType.{ComponentType}
use Rattle.lv_model.specs.declared.plant.Part.{Part}
use Rattle.lv_model.specs.declared.plant.Move.{Move}
use Rattle.lv_model.specs.declared.plant.MoveKind.TheVariants.{Stay}
use Rattle.lv_model.specs.WellFormed.{is_well_formed}
use Rattle.lv_model.specs.Lists.{sizes, part_moves, move_counts}
use Rattle.lv_model.specs.Ranges.{plant_ranges}
use Rattle.lv_meaning.specs.Possible.{move_number}
use Rattle.lv_meaning.specs.Candidates.{type_moves}
use Rattle.lv_meaning.specs.Ranges.{modes_fit}
use Rattle.lv_reply.specs.declared.reply.Refusal.TheVariants.{NameHeld, TooManyHeld}
use Rattle.lv_reply.specs.declared.reply.Reply.{Reply}
use Rattle.lv_reply.specs.declared.reply.Reply.TheVariants.{Nothing as Silence, Refused as RefusedReply}
use Rattle.lv_session.specs.lv_session_request.declared.request.Sighting.{Sighting}
use Rattle.lv_session.specs.lv_session_request.declared.request.Request.TheVariants.{Observe, Commit}
use Rattle.lv_session.specs.lv_session_request.declared.goals.Goal.{Goal}
use Rattle.lv_session.specs.lv_session_request.Goals.{IsGoalIn}
use Rattle.lv_session.specs.lv_session_request.Requests.{IsSightingIn}
use Rattle.lv_plant_step.specs.lv_system.Laws.{IsAssignment}
use Rattle.lv_plant_step.specs.declared.asked.Asked.{Asked}
use Rattle.lv_plant_step.specs.declared.asked.PlantStep.{PlantStep}
use Rattle.lv_plant_step.specs.PlantSteps.{fault_fits, plant_step}
use Rattle.lv_plant_step.proofs.StepLemmas.{step_is}
use Rattle.lv_plant_step.proofs.NamedLemmas.{counted}
use Rattle.lv_session.specs.lv_session_state.State.{SessionState, unchanged as session_unchanged, cleared, is_held, has_no_room, observe, diagnosis_reply}
use Rattle.lv_session.specs.Session.{RunningSession, carried_out, stepped}
use Rattle.lv_session.specs.Applying.{recovery_at, performed}
use Rattle.lv_session.specs.lv_session_state.Applying.{applied}
use Rattle.lv_plant.specs.declared.naming.NamedFault.{NamedFault}
use Rattle.lv_plant.specs.declared.fault.PlantFault.TheVariants.{NoFault, NoStep, NoMore, NoRecovery}
use Rattle.lv_plant.specs.declared.reply.PlantReply.{PlantReply}
use Rattle.lv_plant.specs.declared.reply.PlantReply.TheVariants.{Accepted, Refused, Moved}
use Rattle.lv_plant.specs.declared.reply.StepTold.{StepTold}
use Rattle.lv_plant.specs.Forms as forms
use Rattle.lv_plant.specs.Naming.{is_part, is_fault_at, fault_at, mode_at, naming_of, named_fault_at, named_fault, NamesMove}
use Rattle.lv_plant.specs.Seeing.{modes_in}
use Rattle.lv_plant.specs.Replies.{plant_text}
use Rattle.lv_plant.specs.Plants.{IsPlant, EndsIn}
use Rattle.lv_plant.specs.Findings.{GoalReads}
use Rattle.lv_plant.specs.Standing.{Standing, Done, Committed, no_faults, with_session, unchanged, with_fault, named, asked_of, moved, observed_by, told_all, told_by, diagnosed_by, lists_some, commit_at, committed_by, told_of, after_commit, after_telling, taken, is_over, step, apply, done, done_by}
use Rattle.lv_plant.proofs.SeeingLemmas.{modes_in_fit}
use Rattle.lv_plant.proofs.KeptLemmas.{line_stays}
use Rattle.lv_plant.proofs.TakenLemmas.{commit_ended, at_diagnosis, came, taken_is}

-- where no fault is named, what is named are moves of the parts

none_fit : (types : List ComponentType) (ps : List Part) → pointwise fault_fits (replicate (length ps) None) (map (part_moves types) ps) ≡ true
none_fit types [] = refl
none_fit types (p ∷ ps) = none_fit types ps

pub no_faults_fit : (plant : Plant) → pointwise fault_fits (no_faults plant) (move_counts plant) ≡ true
no_faults_fit plant = none_fit plant.types plant.parts

-- and so they are with one more

one_more_fits : (types : List ComponentType) (fs : List (Option MoveId)) (ps : List Part) (k : ℕ) (p : Part) (m : MoveId) → pointwise fault_fits fs (map (part_moves types) ps) ≡ true
    → slice_get ps k ≡ Some p → m.0 < part_moves types p → pointwise fault_fits (slice_set fs k (Some m)) (map (part_moves types) ps) ≡ true
one_more_fits types [] [] k p m h at below = absurd (cc at)
one_more_fits types [] (q ∷ ps) k p m h at below = absurd (cc h)
one_more_fits types (f ∷ fs) [] k p m h at below = absurd (cc h)
one_more_fits types (f ∷ fs) (q ∷ ps) zero p m h at below =
    let same : q ≡ p = cc at in
    let rest = (and_parts (fault_fits f (part_moves types q)) (pointwise fault_fits fs (map (part_moves types) ps)) h).1 in
    and_from (nat_lt m.0 (part_moves types q)) (pointwise fault_fits fs (map (part_moves types) ps))
    (ap (λ (x : Part). nat_lt m.0 (part_moves types x)) same ∙ lt-ltb m.0 (part_moves types p) below) rest
one_more_fits types (f ∷ fs) (q ∷ ps) (suc k) p m h at below =
    let two = and_parts (fault_fits f (part_moves types q)) (pointwise fault_fits fs (map (part_moves types) ps)) h in
    and_from (fault_fits f (part_moves types q)) (pointwise fault_fits (slice_set fs k (Some m)) (map (part_moves types) ps)) two.0
    (one_more_fits types fs ps k p m two.1 at below)

pub one_fault_fits : (plant : Plant) (fs : List (Option MoveId)) (k : ℕ) (p : Part) (m : MoveId) → pointwise fault_fits fs (move_counts plant) ≡ true → slice_get plant.parts k ≡ Some p
    → m.0 < part_moves plant.types p → pointwise fault_fits (slice_set fs k (Some m)) (move_counts plant) ≡ true
one_fault_fits plant fs k p m h at below = one_more_fits plant.types fs plant.parts k p m h at below

-- a step that is found ends in values of the plant's variables
pub step_ends : (plant : Plant) (asked : Asked) (o : Option PlantStep) → o ≡ plant_step plant asked → IfSome o (EndsIn plant)
step_ends plant asked None e = tt
step_ends plant asked (Some s) e = record { after = (step_is plant asked s (sym e)).step.after }

-- goals over the plant speak of its variables
pub goals_read : (plant : Plant) (b : List ValId) (gs : List Goal) → IsAssignment (sizes plant) b → All (IsGoalIn plant) gs → All (GoalReads (length b)) gs
goals_read plant b [] is all = All-nil (GoalReads (length b))
goals_read plant b (g ∷ gs) is all =
    let long = is.whole in
    let sized : length (sizes plant) ≡ length (plant_ranges plant) = length-map (plant_ranges plant) (λ (r : Range). r.size) in
    All-cons (GoalReads (length b)) g gs (record { below = fits_reads (plant_ranges plant) (length b) 0 (omega (arith, long, sized)) g.formula (All-head (IsGoalIn plant) g gs all).fits })
    (goals_read plant b gs is (All-tail (IsGoalIn plant) g gs all))

-- what a line names is a move of a part

named_of : (plant : Plant) (k : ℕ) (p : Part) (test : Move → Bool) (o : Option ℕ) (n : NamedFault) → slice_get plant.parts k ≡ Some p → position test (type_moves plant.types p) ≡ o
    → option_map (naming_of k) (option_map move_number o) ≡ Some n → NamesMove plant n
named_of plant k p test None n at place e = absurd (cc e)
named_of plant k p test (Some m) n at place e =
    let same : naming_of k (move_number m) ≡ n = cc e in
    let below = (position-Some test (type_moves plant.types p) m (no_move) place).0 in
    let count = counted plant.types p in
    subst (NamesMove plant) same (record { of = p; at = at; below = omega (arith, below, count) })
  where
    no_move : Move
    no_move = record { source = record { 0 = 0 }; target = record { 0 = 0 }; kind = Stay; guard = None; cost = record { 0 = 0 }; line = 0 }

named_at_part : (plant : Plant) (modes : List ValId) (line k : ℕ) (o : Option Part) (n : NamedFault) → slice_get plant.parts k ≡ o
    → option_and_then (λ (p : Part). option_map (naming_of k) (fault_at plant.types p (mode_at modes k).0 line)) o ≡ Some n → NamesMove plant n
named_at_part plant modes line k None n at e = absurd (cc e)
named_at_part plant modes line k (Some p) n at e =
    named_of plant k p (is_fault_at (mode_at modes k).0 line) (position (is_fault_at (mode_at modes k).0 line) (type_moves plant.types p)) n at refl e

named_by : (plant : Plant) (modes : List ValId) (line : ℕ) (o : Option ℕ) (n : NamedFault) → option_and_then (named_fault_at plant modes line) o ≡ Some n → NamesMove plant n
named_by plant modes line None n e = absurd (cc e)
named_by plant modes line (Some k) n e = named_at_part plant modes line k (slice_get plant.parts k) n refl e

pub names_move : (plant : Plant) (modes : List ValId) (name : List ℕ) (tag : Option ℕ) (n : NamedFault) → named_fault plant modes name tag ≡ Some n → NamesMove plant n
names_move plant modes name None n e = absurd (cc e)
names_move plant modes name (Some line) n e = named_by plant modes line (position (is_part name) plant.parts) n e

fits_long : (fs : List (Option MoveId)) (ns : List ℕ) → pointwise fault_fits fs ns ≡ true → length fs ≡ length ns
fits_long [] [] h = refl
fits_long [] (n ∷ ns) h = absurd (cc h)
fits_long (f ∷ fs) [] h = absurd (cc h)
fits_long (f ∷ fs) (n ∷ ns) h = ap suc (fits_long fs ns ((and_parts (fault_fits f n) (pointwise fault_fits fs ns) h).1))

get_below : {X : Type 0} (xs : List X) (k : ℕ) (x : X) → slice_get xs k ≡ Some x → k < length xs
get_below [] k x h = absurd (cc h)
get_below (y ∷ ys) zero x h = omega arith
get_below (y ∷ ys) (suc k) x h = let later = get_below ys k x h in omega (arith, later)

pub named_below : (plant : Plant) (fs : List (Option MoveId)) (n : NamedFault) → pointwise fault_fits fs (move_counts plant) ≡ true → NamesMove plant n → n.part < length fs
named_below plant fs n h is =
    let long = fits_long fs (move_counts plant) h in
    let counts : length (move_counts plant) ≡ length plant.parts = length-map plant.parts (part_moves plant.types) in
    let below = get_below plant.parts n.part is.of is.at in
    omega (arith, long, counts, below)

-- a session of which nothing changes that the plant asks for

pub session_kept : (plant : Plant) (old new : RunningSession) (stepper : Plant) (modes : List ValId) (faults : List (Option MoveId)) → IsPlant plant old stepper modes faults → new.plant ≡ old.plant
    → new.state.is_ended ≡ old.state.is_ended → IsPlant plant new stepper modes faults
session_kept plant old new stepper modes faults is same ended =
    record { session_is = same ∙ is.session_is; stepper_is = is.stepper_is; goes_on = ended ∙ is.goes_on; modes = is.modes; faults = is.faults }

pub handed_kept : (plant : Plant) (old new : RunningSession) (stepper : Plant) (modes : List ValId) (faults : List (Option MoveId)) (line : List ℕ) (r : Result Reply AllocError)
    → IsPlant plant old stepper modes faults → forms.asked_by line ≡ forms.for_session
    → OnOk r (new ≡ record old { state = (stepped old.plant old.state line).state }) → OnErr r (new ≡ record old { is_out_of_memory = true }) → IsPlant plant new stepper modes faults
handed_kept plant old new stepper modes faults line (Ok reply) is asks ok err =
    session_kept plant old new stepper modes faults is (ap (λ (s : RunningSession). s.plant) ok)
    (ap (λ (s : RunningSession). s.state.is_ended) ok ∙ (line_stays old.plant old.state line asks).ended)
handed_kept plant old new stepper modes faults line (Err fault) is asks ok err =
    session_kept plant old new stepper modes faults is (ap (λ (s : RunningSession). s.plant) err) (ap (λ (s : RunningSession). s.state.is_ended) err)

-- an observation doesn't end it
observed_ended : (state : SessionState) (s : Sighting) → (observe state s).state.is_ended ≡ state.is_ended
observed_ended state s = by (is_held state s.name) (has_no_room state s.name)
  where
    by : (a b : Bool) → (cond a (session_unchanged state (RefusedReply NameHeld)) (cond b (session_unchanged state (RefusedReply TooManyHeld)) (cleared (record state { next = state.next ++ (s ∷ []) })))).state.is_ended ≡ state.is_ended
    by true b = refl
    by false true = refl
    by false false = refl

performed_ended : (plant : Plant) (state : SessionState) (s : Sighting) → (performed plant state (Observe s)).state.is_ended ≡ state.is_ended
performed_ended plant state s = by state.is_ended
  where
    by : (b : Bool) → (cond b (session_unchanged state Silence) (carried_out plant state (Observe s))).state.is_ended ≡ state.is_ended
    by true = refl
    by false = observed_ended state s

pub observed_kept : (plant : Plant) (old new : RunningSession) (stepper : Plant) (modes : List ValId) (faults : List (Option MoveId)) (s : Sighting) (r : Result Reply AllocError)
    → IsPlant plant old stepper modes faults → OnOk r (new ≡ record old { state = (performed old.plant old.state (Observe s)).state }) → OnErr r (new ≡ record old { is_out_of_memory = true })
    → IsPlant plant new stepper modes faults
observed_kept plant old new stepper modes faults s (Ok reply) is ok err =
    session_kept plant old new stepper modes faults is (ap (λ (x : RunningSession). x.plant) ok)
    (ap (λ (x : RunningSession). x.state.is_ended) ok ∙ performed_ended old.plant old.state s)
observed_kept plant old new stepper modes faults s (Err fault) is ok err =
    session_kept plant old new stepper modes faults is (ap (λ (x : RunningSession). x.plant) err) (ap (λ (x : RunningSession). x.state.is_ended) err)

-- nor does a commit
commit_performed_ended : (plant : Plant) (state : SessionState) → (performed plant state Commit).state.is_ended ≡ state.is_ended
commit_performed_ended plant state = by state.is_ended
  where
    by : (b : Bool) → (cond b (session_unchanged state Silence) (carried_out plant state Commit)).state.is_ended ≡ state.is_ended
    by true = refl
    by false = commit_ended state.query plant state

pub committed_kept : (plant : Plant) (old new : RunningSession) (stepper : Plant) (modes : List ValId) (faults : List (Option MoveId)) (r : Result Reply AllocError)
    → IsPlant plant old stepper modes faults → OnOk r (new ≡ record old { state = (performed old.plant old.state Commit).state }) → OnErr r (new ≡ record old { is_out_of_memory = true })
    → IsPlant plant new stepper modes faults
committed_kept plant old new stepper modes faults (Ok reply) is ok err =
    session_kept plant old new stepper modes faults is (ap (λ (x : RunningSession). x.plant) ok)
    (ap (λ (x : RunningSession). x.state.is_ended) ok ∙ commit_performed_ended old.plant old.state)
committed_kept plant old new stepper modes faults (Err fault) is ok err =
    session_kept plant old new stepper modes faults is (ap (λ (x : RunningSession). x.plant) err) (ap (λ (x : RunningSession). x.state.is_ended) err)

-- one more observation is told

pub told_next : (s next whole : Standing) (x : Sighting) (all rest : List Sighting) → all ≡ x ∷ rest → next ≡ with_session s (observed_by s x).state → told_all s all ≡ whole
    → told_all next rest ≡ whole
told_next s next whole x all rest is came same = ap (λ (t : Standing). told_all t rest) came ∙ sym (ap (told_all s) is) ∙ same

pub fit_next : (s next : Standing) (x : Sighting) (all rest : List Sighting) → all ≡ x ∷ rest → next ≡ with_session s (observed_by s x).state → All (IsSightingIn s.session.plant) all
    → All (IsSightingIn next.session.plant) rest
fit_next s next x all rest is came fit =
    subst (λ (t : Standing). All (IsSightingIn t.session.plant) rest) (sym came)
    (All-tail (IsSightingIn s.session.plant) x rest (subst (All (IsSightingIn s.session.plant)) is fit))

-- a step that is taken, part by part

pub committed_plant : (s : Standing) (d : Reply) → (committed_by s d).next.session.plant ≡ s.session.plant
unfolding committed_by
committed_plant s d = by (lists_some d)
  where
    by : (b : Bool) → (cond {A = Committed} b (record { next = with_session s (commit_at s).state; commit = Some (commit_at s).reply }) (record { next = record s { is_halted = true }; commit = None })).next.session.plant ≡ s.session.plant
    by true = refl
    by false = refl

told_plant : (s : Standing) (step : PlantStep) → (told_by s step).session.plant ≡ s.session.plant
unfolding told_by
told_plant s step = refl

pub taken_plant : (s0 s1 s2 s3 s4 : Standing) (step : PlantStep) (d : Reply) (k : Option Reply) → s1 ≡ moved s0.session.plant s0 step → s2 ≡ told_by s1 step
    → s3 ≡ with_session s2 (diagnosed_by s2).state → record { next = s4; commit = k } ≡ committed_by s3 d → s0.session.plant ≡ s4.session.plant
taken_plant s0 s1 s2 s3 s4 step d k went was has_diagnosed came =
    sym (ap (λ (c : Committed). c.next.session.plant) came ∙ committed_plant s3 d ∙ ap (λ (s : Standing). s.session.plant) has_diagnosed ∙ ap (λ (s : Standing). s.session.plant) was
    ∙ told_plant s1 step ∙ ap (λ (s : Standing). s.session.plant) went)

pub taken_so : (s0 s1 s2 s3 s4 : Standing) (step : PlantStep) (d : Reply) (k : Option Reply) (t : StepTold) → s1 ≡ moved s0.session.plant s0 step → s2 ≡ told_by s1 step
    → s3 ≡ with_session s2 (diagnosed_by s2).state → d ≡ (diagnosed_by s2).reply → record { next = s4; commit = k } ≡ committed_by s3 d → t ≡ told_of s4 step d k
    → record { next = s4; reply = Moved t } ≡ taken s0.session.plant s0 step
unfolding taken
taken_so s0 s1 s2 s3 s4 step d k t went was has_diagnosed is came tells =
    ap (λ (x : StepTold). record { next = s4; reply = Moved x }) tells ∙ ap (after_commit step d) came
    ∙ ap₂ (λ (s : Standing) (r : Reply). after_commit step r (committed_by s r)) has_diagnosed is ∙ ap (λ (s : Standing). after_telling s step) was
    ∙ ap (λ (s : Standing). after_telling (told_by s step) step) went

-- the modes that the plant is in behind a step
pub gone : (plant other : Plant) (step : PlantStep) (b modes : List ValId) → is_well_formed plant ≡ true → other ≡ plant → EndsIn other step → b ≡ step.after → modes ≡ modes_in plant.parts b
    → modes_fit (plant_ranges plant) plant.parts modes ≡ true
gone plant other step b modes h same ends is are =
    let after : IsAssignment (sizes plant) b = subst (IsAssignment (sizes plant)) (sym is) (subst (λ (p : Plant). IsAssignment (sizes p) step.after) same ends.after) in
    subst (λ (vs : List ValId). modes_fit (plant_ranges plant) plant.parts vs ≡ true) (sym are) (modes_in_fit plant h b after)

-- what a line does, by what it asks for

pub done_as : (s : Standing) (line : List ℕ) (asked : forms.Asked) → forms.asked_by line ≡ asked → done_by s.session.plant s line asked ≡ done s line
unfolding done
done_as s line asked is = sym (ap (done_by s.session.plant s line) is)

-- the session stays one over the plant

named_plant : (plant : Plant) (s : Standing) (name : List ℕ) (tag : Option ℕ) → (named plant s name tag).next.session.plant ≡ s.session.plant
named_plant plant s name tag = by (named_fault plant s.modes name tag)
  where
    by : (o : Option NamedFault) → (option_map_or (λ (n : NamedFault). record { next = with_fault s n; reply = Accepted }) o (unchanged s (Refused NoFault))).next.session.plant ≡ s.session.plant
    by None = refl
    by (Some n) = refl

apply_plant : (s : Standing) → (apply s).next.session.plant ≡ s.session.plant
apply_plant s = by (recovery_at s.session)
  where
    by : (o : Option (List ℕ))
        → (option_map_or (λ (values : List ℕ). record { next = with_session s (applied s.session.state values); reply = Accepted }) o (unchanged s (Refused NoRecovery))).next.session.plant ≡ s.session.plant
    by None = refl
    by (Some values) = refl

step_plant : (s : Standing) → (step s.session.plant s).next.session.plant ≡ s.session.plant
step_plant s = by (is_over s) (plant_step s.session.plant (asked_of s))
  where
    by : (b : Bool) (o : Option PlantStep) → (cond b (unchanged s (Refused NoMore)) (option_map_or (taken s.session.plant s) o (unchanged s (Refused NoStep)))).next.session.plant ≡ s.session.plant
    by true o = refl
    by false None = refl
    by false (Some taking) = ap (λ (d : Done). d.next.session.plant) (taken_is s taking) ∙ committed_plant (at_diagnosis s taking) (diagnosis_reply (came s taking))

line_plant : (s : Standing) (line : List ℕ) (asked : forms.Asked) → (done_by s.session.plant s line asked).next.session.plant ≡ s.session.plant
line_plant s line forms.nothing = refl
line_plant s line (forms.refused fault) = refl
line_plant s line forms.for_session = refl
line_plant s line (forms.name part tag) = named_plant s.session.plant s part tag
line_plant s line forms.step = step_plant s
line_plant s line forms.apply = apply_plant s

done_plant : (s : Standing) (line : List ℕ) → (done s line).next.session.plant ≡ s.session.plant
unfolding done
done_plant s line = line_plant s line (forms.asked_by line)

pub says_so : (s next : Standing) (line : List ℕ) (reply : PlantReply) → record { next = next; reply = reply } ≡ done s line
    → plant_text next.session.plant reply ≡ plant_text s.session.plant (done s line).reply
says_so s next line reply e = ap (λ (d : Done). plant_text d.next.session.plant d.reply) e ∙ ap (λ (p : Plant). plant_text p (done s line).reply) (done_plant s line)
