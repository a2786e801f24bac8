-- What a line asks for is of the plant, so that each step from a state of the plant leads to one.
use Rattle.std.proofs.Common.{◌≡◌, ℕ, Bool, true, false, ◌&&◌, cond, nat_eq, nat_le, List, [], ◌∷◌, length, drop, take, Option, None, Some, Result, Ok, Err, refl, ap, subst}
use Rattle.std.specs.List.{list_all}
use Rattle.std.specs.Option.{ok_or, option_map_or}
use Rattle.std.proofs.lemmas.Bool.{and_parts, and_from, leb-true}
use Rattle.lv_base.specs.declared.ids.VarId.{VarId}
use Rattle.lv_base.specs.declared.limits.TheConstants.{TRACKED, BUDGET}
use Rattle.lv_text.specs.declared.lexer.TokenKind.{TokenKind}
use Rattle.lv_text.specs.declared.lexer.TokenKind.TheVariants as kind
use Rattle.lv_text.specs.Lexemes.{Lexeme, Reading, reads, has_bad_byte, is_too_long, line_reading, number_at}
use Rattle.lv_session_state.specs.lv_model_names.lv_formula_text.Canonical.{canonical_text}
use Rattle.lv_session_state.specs.lv_model_names.lv_formula_text.Descent.{phrase_of}
use Rattle.lv_session_state.specs.lv_model_names.lv_formula_text.Laws.{is_flat}
use Rattle.lv_session_state.specs.lv_model_names.lv_formula_text.Nesting.{is_too_deep}
use Rattle.lv_model.specs.declared.plant.Plant.{Plant}
use Rattle.lv_model.specs.WellFormed.{is_well_formed}
use Rattle.lv_session_state.specs.lv_model_names.Lists.{lists_of}
use Rattle.lv_reply.specs.declared.reply.Refusal.{Refusal}
use Rattle.lv_reply.specs.declared.reply.Refusal.TheVariants.{Form, OutOfLimits, TooComplex}
use Rattle.lv_reply.specs.declared.reply.Reply.TheVariants.{Nothing as Silence}
use Rattle.lv_session_state.specs.lv_session_request.declared.goals.Goal.{Goal}
use Rattle.lv_session_state.specs.lv_session_request.declared.request.Command.{Command}
use Rattle.lv_session_state.specs.lv_session_request.declared.request.Sighting.{Sighting}
use Rattle.lv_session_state.specs.lv_session_request.declared.request.Request.{Request}
use Rattle.lv_session_state.specs.lv_session_request.declared.request.Request.TheVariants as request
use Rattle.lv_session_state.specs.lv_session_request.declared.request.TheConstants.{WINDOW}
use Rattle.lv_session_state.specs.lv_session_request.declared.words.Word.{Word}
use Rattle.lv_session_state.specs.lv_session_request.declared.words.Word.TheVariants as said
use Rattle.lv_session_state.specs.lv_session_request.Chain.{and_then}
use Rattle.lv_session_state.specs.lv_session_request.Forms.{first_word, has_number_form, has_command_signs, has_release_signs, has_observe_signs, name_at, has_distinct_form, has_at_form, from_1_to, limited, number_to, IsUpTo}
use Rattle.lv_session_state.specs.lv_session_request.Goals.{phrase_in, formula_of, simple, goal_of, AreRead, IsGoalIn}
use Rattle.lv_session_state.specs.lv_session_request.Names.{control_of, observable_of, value_in}
use Rattle.lv_session_state.specs.lv_session_request.Requests.{word, alone, track_of, command_of, release_of, tested_of, sighting_of, retracted_of, retraction_of, retract_of, labels_of, request_by, asked_by_first, asked, asked_by, request_of, IsCommandIn, IsSightingIn, IsObservableOf, IsRequestOf}
use Rattle.lv_session_state.proofs.lv_session_request.GoalLaws.{reads_back, goal_is_in}
use Rattle.lv_session_state.proofs.lv_session_request.RequestLaws.{command_fits, tested_fits, sighting_fits}
use Rattle.lv_session_state.specs.State.{SessionState, unchanged}
use Rattle.lv_session.specs.Session.{answered, stepped}
use Rattle.lv_session_state.specs.States.{IsStateOf}
use Rattle.lv_session.proofs.Keeping.{request_kept}

-- what came first in a chain that is not refused, and what followed
pub record HasCome {X Y : Type 0} (first : Result X Refusal) (more : X → Result Y Refusal) (y : Y) : Type 0 where
  pub value : X
  pub was : first ≡ Ok value
  pub goes : more value ≡ Ok y

has_come : {X Y : Type 0} (first : Result X Refusal) (more : X → Result Y Refusal) (y : Y) → and_then first more ≡ Ok y → HasCome first more y
has_come (Ok x) more y h = record { value = x; was = refl; goes = h }
has_come (Err refusal) more y h = absurd (cc h)

-- a test that refuses otherwise
has_passed : {Y : Type 0} (b : Bool) (r : Result Y Refusal) (refusal : Refusal) (y : Y) → cond b r (Err refusal) ≡ Ok y → (b ≡ true) × (r ≡ Ok y)
has_passed true r refusal y h = (refl, h)
has_passed false r refusal y h = absurd (cc h)

is_there : {Y : Type 0} (o : Option Y) (refusal : Refusal) (y : Y) → ok_or o refusal ≡ Ok y → o ≡ Some y
is_there None refusal y h = absurd (cc h)
is_there (Some x) refusal y h = let e : x ≡ y = cc h in ap Some e

-- numbers

up_to : (most n m : ℕ) → from_1_to most n ≡ Ok m → IsUpTo most m
up_to most n m h =
    let passed = has_passed (nat_le 1 n && nat_le n most) (Ok n) OutOfLimits m h in
    let two = and_parts (nat_le 1 n) (nat_le n most) passed.0 in
    let same : n ≡ m = cc passed.1 in
    subst (IsUpTo most) same (record { some = leb-true 1 n two.0; few = leb-true n most two.1 })

limited_up_to : (most : ℕ) (ts : List Lexeme) (m : ℕ) → limited most ts ≡ Ok m → IsUpTo most m
limited_up_to most ts m h = by (number_at ts 1) h
  where
    by : (o : Option ℕ) → option_map_or (from_1_to most) o (Err OutOfLimits) ≡ Ok m → IsUpTo most m
    by None e = absurd (cc e)
    by (Some n) e = up_to most n m e

number_up_to : (most : ℕ) (ts : List Lexeme) (m : ℕ) → number_to most ts ≡ Ok m → IsUpTo most m
number_up_to most ts m h = limited_up_to most ts m (has_passed (has_number_form ts) (limited most ts) Form m h).1

-- commands and observations

module _ (plant : Plant) where
  command_in : (ts : List Lexeme) (c : Command) → command_of plant (lists_of plant) ts ≡ Ok c → IsCommandIn plant c
  unfolding command_of
  command_in ts c h =
      let passed = has_passed (has_command_signs ts) _ Form c h in
      let part = has_come (word ts 1) _ c passed.1 in
      let name = has_come (word ts 3) _ c part.goes in
      let value = has_come (word ts 5) _ c name.goes in
      let control = has_come (control_of plant (lists_of plant) part.value name.value) _ c value.goes in
      let to = has_come (value_in plant (lists_of plant) control.value.var value.value) _ c control.goes in
      let same : record { place = control.value.place; value = to.value } ≡ c = cc to.goes in
      subst (IsCommandIn plant) same (command_fits plant (lists_of plant) part.value name.value value.value control.value to.value refl control.was to.was)

  tested_in : (ts : List Lexeme) (x : VarId) → tested_of plant (lists_of plant) ts ≡ Ok x → IsObservableOf plant x
  unfolding tested_of
  tested_in ts x h =
      let passed = has_passed (has_release_signs ts) _ Form x h in
      let part = has_come (word ts 1) _ x passed.1 in
      let name = has_come (word ts 3) _ x part.goes in
      tested_fits plant (lists_of plant) part.value name.value x refl name.goes

  sighting_in : (ts : List Lexeme) (s : Sighting) → sighting_of plant (lists_of plant) ts ≡ Ok s → IsSightingIn plant s
  unfolding sighting_of
  sighting_in ts s h =
      let passed = has_passed (has_observe_signs ts) _ Form s h in
      let name = has_come (ok_or (name_at ts 1) Form) _ s passed.1 in
      let part = has_come (word ts 2) _ s name.goes in
      let variable = has_come (word ts 4) _ s part.goes in
      let value = has_come (word ts 6) _ s variable.goes in
      let seen = has_come (observable_of plant (lists_of plant) part.value variable.value) _ s value.goes in
      let to = has_come (value_in plant (lists_of plant) seen.value value.value) _ s seen.goes in
      let same : record { name = name.value; var = seen.value; val = to.value } ≡ s = cc to.goes in
      subst (IsSightingIn plant) same (sighting_fits plant (lists_of plant) name.value part.value variable.value value.value seen.value to.value refl seen.was to.was)

-- goals

-- a line that begins with a word of the session begins with a word
flat_first : (t : Lexeme) (rest : List Lexeme) (w : Word) → first_word (t ∷ rest) ≡ Some w → is_flat t ≡ true
flat_first t rest w h = by t.kind h
  where
    by : (k : TokenKind) → first_word (record { kind = k; text = t.text } ∷ rest) ≡ Some w → is_flat (record { kind = k; text = t.text }) ≡ true
    by kind.Word e = refl
    by kind.Number e = absurd (cc e)
    by kind.Iff e = absurd (cc e)
    by kind.Implies e = absurd (cc e)
    by kind.Arrow e = absurd (cc e)
    by kind.Equals e = absurd (cc e)
    by kind.Not e = absurd (cc e)
    by kind.And e = absurd (cc e)
    by kind.Or e = absurd (cc e)
    by kind.Open e = absurd (cc e)
    by kind.Close e = absurd (cc e)
    by kind.Dot e = absurd (cc e)

-- and a name is one
flat_name : (t u : Lexeme) (rest : List Lexeme) (name : List ℕ) → name_at (t ∷ u ∷ rest) 1 ≡ Some name → is_flat u ≡ true
flat_name t u rest name h = by u.kind h
  where
    by : (k : TokenKind) → name_at (t ∷ record { kind = k; text = u.text } ∷ rest) 1 ≡ Some name → is_flat (record { kind = k; text = u.text }) ≡ true
    by kind.Word e = refl
    by kind.Number e = absurd (cc e)
    by kind.Iff e = absurd (cc e)
    by kind.Implies e = absurd (cc e)
    by kind.Arrow e = absurd (cc e)
    by kind.Equals e = absurd (cc e)
    by kind.Not e = absurd (cc e)
    by kind.And e = absurd (cc e)
    by kind.Or e = absurd (cc e)
    by kind.Open e = absurd (cc e)
    by kind.Close e = absurd (cc e)
    by kind.Dot e = absurd (cc e)

flat_front : (ts : List Lexeme) (w : Word) (name : List ℕ) → first_word ts ≡ Some w → name_at ts 1 ≡ Some name → list_all is_flat (take 2 ts) ≡ true
flat_front [] w name h n = refl
flat_front (t ∷ []) w name h n = absurd (cc n)
flat_front (t ∷ u ∷ rest) w name h n = and_from (is_flat t) (is_flat u && true) (flat_first t (u ∷ rest) w h) (and_from (is_flat u) true (flat_name t u rest name n) refl)

module _ (plant : Plant) (ts : List Lexeme) (read : AreRead ts) (shallow : is_too_deep ts ≡ false) where
  goal_in : (w : Word) (g : Goal) → first_word ts ≡ Some w → goal_of plant (lists_of plant) ts ≡ Ok g → IsGoalIn plant g
  unfolding goal_of
  goal_in w g first h =
      let name = has_come (ok_or (name_at ts 1) Form) _ g h in
      let phrase = has_come (phrase_in ts) _ g name.goes in
      let formula = has_come (formula_of plant (lists_of plant) phrase.value) _ g phrase.goes in
      let few = has_come (simple (lists_of plant) formula.value) _ g formula.goes in
      let same : record { name = name.value; text = canonical_text phrase.value; formula = few.value } ≡ g = cc few.goes in
      let front = flat_front ts w name.value first (is_there (name_at ts 1) Form name.value name.was) in
      let back = reads_back ts phrase.value shallow read front (is_there (phrase_of (drop 2 ts)) Form phrase.value phrase.was) in
      subst (IsGoalIn plant) same (goal_is_in plant (lists_of plant) name.value (canonical_text phrase.value) phrase.value formula.value few.value refl back formula.was few.was refl)

  -- requests

  alone_in : (one r : Request) → IsRequestOf plant one → alone one ts ≡ Ok r → IsRequestOf plant r
  alone_in one r is h = let passed = has_passed (nat_eq (length ts) 1) (Ok one) Form r h in let same : one ≡ r = cc passed.1 in subst (IsRequestOf plant) same is

  -- a request made of something found
  made_in : {X : Type 0} (found : Result X Refusal) (make : X → Request) (r : Request) → ((x : X) → found ≡ Ok x → IsRequestOf plant (make x)) → and_then found (λ x. Ok (make x)) ≡ Ok r
      → IsRequestOf plant r
  made_in found make r is h = let it = has_come found (λ x. Ok (make x)) r h in let same : make it.value ≡ r = cc it.goes in subst (IsRequestOf plant) same (is it.value it.was)

  labels_in : (r : Request) → labels_of ts ≡ Ok r → IsRequestOf plant r
  labels_in r h = by (nat_eq (length ts) 1) h
    where
      by : (b : Bool) → cond b (Ok request.Labels) (and_then (number_to TRACKED ts) (λ n. Ok (request.LabelsFrom n))) ≡ Ok r → IsRequestOf plant r
      by true e = let same : request.Labels ≡ r = cc e in subst (IsRequestOf plant) same tt
      by false e = made_in (number_to TRACKED ts) request.LabelsFrom r (λ n _. tt) e

  track_in : (r : Request) → track_of ts ≡ Ok r → IsRequestOf plant r
  track_in r h = by (has_distinct_form ts) h
    where
      by : (b : Bool) → cond b (and_then (limited TRACKED ts) (λ n. Ok (request.TrackDistinct n))) (and_then (number_to TRACKED ts) (λ n. Ok (request.Track n))) ≡ Ok r → IsRequestOf plant r
      by true e = made_in (limited TRACKED ts) request.TrackDistinct r (λ n same. limited_up_to TRACKED ts n same) e
      by false e = made_in (number_to TRACKED ts) request.Track r (λ n same. number_up_to TRACKED ts n same) e

  retract_in : (r : Request) → retract_of ts ≡ Ok r → IsRequestOf plant r
  retract_in r h = by (has_at_form ts) h
    where
      by : (b : Bool) → cond b (and_then (retraction_of ts) (λ x. Ok (request.RetractAt x))) (and_then (retracted_of ts) (λ name. Ok (request.Retract name))) ≡ Ok r → IsRequestOf plant r
      by true e = made_in (retraction_of ts) request.RetractAt r (λ x same. tt) e
      by false e = made_in (retracted_of ts) request.Retract r (λ name same. tt) e

  by_word : (w : Word) (r : Request) → first_word ts ≡ Some w → request_by plant (lists_of plant) w ts ≡ Ok r → IsRequestOf plant r
  by_word said.Track r first h = track_in r h
  by_word said.Budget r first h = made_in (number_to BUDGET ts) request.SetBudget r (λ n e. tt) h
  by_word said.Command r first h = made_in (command_of plant (lists_of plant) ts) request.SetControl r (λ c e. command_in plant ts c e) h
  by_word said.Release r first h = made_in (release_of plant (lists_of plant) ts) request.Release r (λ place e. tt) h
  by_word said.Observe r first h = made_in (sighting_of plant (lists_of plant) ts) request.Observe r (λ s e. sighting_in plant ts s e) h
  by_word said.Retract r first h = retract_in r h
  by_word said.Goal r first h = made_in (goal_of plant (lists_of plant) ts) request.SetGoal r (λ g e. goal_in said.Goal g first e) h
  by_word said.Drop r first h = made_in (retracted_of ts) request.DropGoal r (λ name e. tt) h
  by_word said.Diagnose r first h = alone_in request.Diagnose r tt h
  by_word said.Recover r first h = alone_in request.Recover r tt h
  by_word said.More r first h = made_in (number_to BUDGET ts) request.More r (λ n e. (number_up_to BUDGET ts n e).few) h
  by_word said.Commit r first h = alone_in request.Commit r tt h
  by_word said.Conflicts r first h = alone_in request.Conflicts r tt h
  by_word said.Certificate r first h = alone_in request.Certificate r tt h
  by_word said.Labels r first h = labels_in r h
  by_word said.States r first h = alone_in request.States r tt h
  by_word said.Reset r first h = alone_in request.Reset r tt h
  by_word said.Quit r first h = alone_in request.Quit r tt h
  by_word said.Probe r first h = alone_in request.Probe r tt h
  by_word said.Test r first h = made_in (tested_of plant (lists_of plant) ts) request.Test r (λ x e. tested_in plant ts x e) h
  by_word said.Window r first h = made_in (number_to WINDOW ts) request.Window r (λ n e. number_up_to WINDOW ts n e) h

module _ (plant : Plant) where
  tokens_in : (ts : List Lexeme) (r : Request) → AreRead ts → asked plant (lists_of plant) ts ≡ Ok r → IsRequestOf plant r
  tokens_in ts r read h = by (nat_eq (length ts) 0) h
    where
      deep : (w : Word) (b : Bool) → is_too_deep ts ≡ b → first_word ts ≡ Some w → cond b (Err TooComplex) (request_by plant (lists_of plant) w ts) ≡ Ok r → IsRequestOf plant r
      deep w true is first e = absurd (cc e)
      deep w false is first e = by_word plant ts read is w r first e

      first : (o : Option Word) → first_word ts ≡ o → asked_by_first plant (lists_of plant) ts o ≡ Ok r → IsRequestOf plant r
      first None is e = absurd (cc e)
      first (Some w) is e = deep w (is_too_deep ts) refl is e

      by : (b : Bool) → cond b (Ok request.Nothing) (asked_by_first plant (lists_of plant) ts (first_word ts)) ≡ Ok r → IsRequestOf plant r
      by true e = let same : request.Nothing ≡ r = cc e in subst (IsRequestOf plant) same tt
      by false e = first (first_word ts) refl e

  pub request_in : (line : List ℕ) (r : Request) → request_of plant line ≡ Ok r → IsRequestOf plant r
  unfolding request_of
  request_in line r h = by (line_reading line) refl h
    where
      by : (found : Reading) → line_reading line ≡ found → asked_by plant (lists_of plant) found ≡ Ok r → IsRequestOf plant r
      by (reads ts) is e = tokens_in ts r (record { line = line; reading = is }) e
      by (has_bad_byte place) is e = absurd (cc e)
      by is_too_long is e = absurd (cc e)

-- each line leads from a state of the plant to one
pub step_kept : (plant : Plant) (state : SessionState) (line : List ℕ) → is_well_formed plant ≡ true → IsStateOf plant state → IsStateOf plant (stepped plant state line).state
step_kept plant state line h is = by state.is_ended
  where
    answer : (r : Result Request Refusal) → request_of plant line ≡ r → IsStateOf plant (answered plant state r).state
    answer (Ok request) e = request_kept plant state h is request (request_in plant line request e)
    answer (Err refusal) e = is

    by : (b : Bool) → IsStateOf plant (cond b (unchanged state Silence) (answered plant state (request_of plant line))).state
    by true = is
    by false = answer (request_of plant line) refl
