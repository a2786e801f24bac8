-- A certificate is told in reply to a line that begins with the word `certificate`, and to no other.
use Rattle.std.proofs.Common.{◌≡◌, ℕ, Bool, true, false, cond, nat_eq, List, length, Option, Some, None, Result, Ok, Err, refl, codes}
use Rattle.lv_text.specs.Lexemes.{Lexeme, Reading, reads, has_bad_byte, is_too_long, line_reading, says}
use Rattle.lv_text.specs.lv_base.declared.limits.TheConstants.{TRACKED, BUDGET}
use Rattle.lv_model.specs.declared.plant.Plant.{Plant}
use Rattle.lv_plant.specs.lv_session.lv_formula_text.Nesting.{is_too_deep}
use Rattle.lv_plant.specs.lv_session.lv_model_names.declared.lists.Lists.{Lists}
use Rattle.lv_plant.specs.lv_session.lv_model_names.Lists.{lists_of}
use Rattle.lv_reply.specs.declared.reply.Refusal.{Refusal}
use Rattle.lv_reply.specs.declared.reply.Refusal.TheVariants.{Form, TooComplex}
use Rattle.lv_reply.specs.declared.reply.Reply.TheVariants.{Nothing as Silence}
use Rattle.lv_plant.specs.lv_session.lv_session_request.declared.words.Word.{Word}
use Rattle.lv_plant.specs.lv_session.lv_session_request.declared.words.Word.TheVariants as word
use Rattle.lv_plant.specs.lv_session.lv_session_request.declared.request.Request.{Request}
use Rattle.lv_plant.specs.lv_session.lv_session_request.declared.request.Request.TheVariants.{Nothing, Track, TrackDistinct, SetBudget, SetControl, Release, Observe, Retract, RetractAt, SetGoal, DropGoal, Diagnose, Recover, More, Commit, Conflicts, Labels, LabelsFrom, States, Reset, Quit, Probe, Test, Window}
use Rattle.lv_plant.specs.lv_session.lv_session_request.declared.request.TheConstants.{WINDOW}
use Rattle.lv_plant.specs.lv_session.lv_session_request.Chain.{and_then}
use Rattle.lv_plant.specs.lv_session.lv_session_request.Forms.{first_word, has_distinct_form, has_at_form, limited, number_to}
use Rattle.lv_plant.specs.lv_session.lv_session_request.Goals.{goal_of}
use Rattle.lv_plant.specs.lv_session.lv_session_request.Requests.{alone, command_of, release_of, tested_of, sighting_of, retracted_of, retraction_of, request_by, asked_by_first, asked, asked_by, request_of}
use Rattle.lv_plant.specs.lv_session.lv_session_state.State.{SessionState, unchanged}
use Rattle.lv_plant.specs.lv_session.Session.{answered, stepped}
use Rattle.lv_plant.specs.lv_session.Laws.{is_certificate}
use Rattle.lv_plant.proofs.lv_session.StepLaws.{asks_certificate, request_told}

-- a certificate is asked for
abbrev asks : Result Request Refusal → Bool
asks (Ok request) = asks_certificate request
asks (Err refusal) = false

never : {X : Type 0} (r : Result X Refusal) (make : X → Request) → ((x : X) → asks_certificate (make x) ≡ false) → asks (and_then r (λ x. Ok (make x))) ≡ false
never (Ok x) make none = none x
never (Err refusal) make none = refl

alone_never : (request : Request) (line : List Lexeme) → asks_certificate request ≡ false → asks (alone request line) ≡ false
alone_never request line none = by (nat_eq (length line) 1)
  where
    by : (b : Bool) → asks (cond b (Ok request) (Err Form)) ≡ false
    by true = none
    by false = refl

abbrev is_certificate_word : Word → Bool
is_certificate_word word.Certificate = true
is_certificate_word w = false

by_word : (plant : Plant) (lists : Lists) (w : Word) (line : List Lexeme) → is_certificate_word w ≡ false → asks (request_by plant lists w line) ≡ false
by_word plant lists word.Certificate line h = absurd (cc h)
by_word plant lists word.Track line h = by (has_distinct_form line)
  where
    by : (b : Bool) → asks (cond b (and_then (limited TRACKED line) (λ n. Ok (TrackDistinct n))) (and_then (number_to TRACKED line) (λ n. Ok (Track n)))) ≡ false
    by true = never (limited TRACKED line) (λ n. TrackDistinct n) (λ _. refl)
    by false = never (number_to TRACKED line) (λ n. Track n) (λ _. refl)
by_word plant lists word.Budget line h = never (number_to BUDGET line) (λ n. SetBudget n) (λ _. refl)
by_word plant lists word.Command line h = never (command_of plant lists line) (λ c. SetControl c) (λ _. refl)
by_word plant lists word.Release line h = never (release_of plant lists line) (λ n. Release n) (λ _. refl)
by_word plant lists word.Observe line h = never (sighting_of plant lists line) (λ s. Observe s) (λ _. refl)
by_word plant lists word.Retract line h = by (has_at_form line)
  where
    by : (b : Bool) → asks (cond b (and_then (retraction_of line) (λ r. Ok (RetractAt r))) (and_then (retracted_of line) (λ name. Ok (Retract name)))) ≡ false
    by true = never (retraction_of line) (λ r. RetractAt r) (λ _. refl)
    by false = never (retracted_of line) (λ name. Retract name) (λ _. refl)
by_word plant lists word.Goal line h = never (goal_of plant lists line) (λ g. SetGoal g) (λ _. refl)
by_word plant lists word.Drop line h = never (retracted_of line) (λ name. DropGoal name) (λ _. refl)
by_word plant lists word.Diagnose line h = alone_never Diagnose line refl
by_word plant lists word.Recover line h = alone_never Recover line refl
by_word plant lists word.More line h = never (number_to BUDGET line) (λ n. More n) (λ _. refl)
by_word plant lists word.Commit line h = alone_never Commit line refl
by_word plant lists word.Conflicts line h = alone_never Conflicts line refl
by_word plant lists word.Labels line h = by (nat_eq (length line) 1)
  where
    by : (b : Bool) → asks (cond b (Ok Labels) (and_then (number_to TRACKED line) (λ n. Ok (LabelsFrom n)))) ≡ false
    by true = refl
    by false = never (number_to TRACKED line) (λ n. LabelsFrom n) (λ _. refl)
by_word plant lists word.States line h = alone_never States line refl
by_word plant lists word.Reset line h = alone_never Reset line refl
by_word plant lists word.Quit line h = alone_never Quit line refl
by_word plant lists word.Probe line h = alone_never Probe line refl
by_word plant lists word.Test line h = never (tested_of plant lists line) (λ x. Test x) (λ _. refl)
by_word plant lists word.Window line h = never (number_to WINDOW line) (λ n. Window n) (λ _. refl)

-- the first word, in front of those that come later
abbrev is_certificate_found : Option Word → Bool
is_certificate_found None = false
is_certificate_found (Some w) = is_certificate_word w

other_word : (b : Bool) (w : Word) (later : Option Word) → is_certificate_word w ≡ false → is_certificate_found later ≡ false → is_certificate_found (cond b (Some w) later) ≡ false
other_word true w later h k = h
other_word false w later h k = k

its_word : (b : Bool) (later : Option Word) → b ≡ false → is_certificate_found later ≡ false → is_certificate_found (cond b (Some word.Certificate) later) ≡ false
its_word true later h k = absurd (cc h)
its_word false later h k = k

first_other : (line : List Lexeme) → says (codes "certificate") line 0 ≡ false → is_certificate_found (first_word line) ≡ false
first_other line h =
    other_word (says (codes "track") line 0) word.Track _ refl (other_word (says (codes "budget") line 0) word.Budget _ refl
    (other_word (says (codes "command") line 0) word.Command _ refl (other_word (says (codes "release") line 0) word.Release _ refl
    (other_word (says (codes "observe") line 0) word.Observe _ refl (other_word (says (codes "retract") line 0) word.Retract _ refl
    (other_word (says (codes "goal") line 0) word.Goal _ refl (other_word (says (codes "drop") line 0) word.Drop _ refl
    (other_word (says (codes "diagnose") line 0) word.Diagnose _ refl (other_word (says (codes "recover") line 0) word.Recover _ refl
    (other_word (says (codes "more") line 0) word.More _ refl (other_word (says (codes "commit") line 0) word.Commit _ refl
    (other_word (says (codes "conflicts") line 0) word.Conflicts _ refl (its_word (says (codes "certificate") line 0) _ h
    (other_word (says (codes "labels") line 0) word.Labels _ refl (other_word (says (codes "states") line 0) word.States _ refl
    (other_word (says (codes "reset") line 0) word.Reset _ refl (other_word (says (codes "quit") line 0) word.Quit _ refl
    (other_word (says (codes "probe") line 0) word.Probe _ refl (other_word (says (codes "test") line 0) word.Test _ refl
    (other_word (says (codes "window") line 0) word.Window _ refl refl))))))))))))))))))))

asked_other : (plant : Plant) (lists : Lists) (line : List Lexeme) → says (codes "certificate") line 0 ≡ false → asks (asked plant lists line) ≡ false
asked_other plant lists line h = by (nat_eq (length line) 0) (first_word line) (first_other line h)
  where
    deep : (b : Bool) (w : Word) → is_certificate_word w ≡ false → asks (cond b (Err TooComplex) (request_by plant lists w line)) ≡ false
    deep true w k = refl
    deep false w k = by_word plant lists w line k

    by : (b : Bool) (o : Option Word) → is_certificate_found o ≡ false → asks (cond b (Ok Nothing) (asked_by_first plant lists line o)) ≡ false
    by true o k = refl
    by false None k = refl
    by false (Some w) k = deep (is_too_deep line) w k

-- a line whose first word, if there is one, isn't `certificate`
abbrev pub IsOther : List ℕ → Type 0
IsOther line = (ts : List Lexeme) → line_reading line ≡ reads ts → says (codes "certificate") ts 0 ≡ false

requested_other : (plant : Plant) (line : List ℕ) → IsOther line → asks (request_of plant line) ≡ false
unfolding request_of
requested_other plant line other = by (line_reading line) refl
  where
    by : (r : Reading) → line_reading line ≡ r → asks (asked_by plant (lists_of plant) r) ≡ false
    by (reads ts) is = asked_other plant (lists_of plant) ts (other ts is)
    by (has_bad_byte place) is = refl
    by is_too_long is = refl

-- gets no certificate
pub none_in_reply : (plant : Plant) (state : SessionState) (line : List ℕ) → IsOther line → is_certificate (stepped plant state line).reply ≡ false
none_in_reply plant state line other = by state.is_ended (request_of plant line) (requested_other plant line other)
  where
    by : (b : Bool) (r : Result Request Refusal) → asks r ≡ false → is_certificate (cond b (unchanged state Silence) (answered plant state r)).reply ≡ false
    by true r none = refl
    by false (Ok request) none = request_told plant state request none
    by false (Err refusal) none = refl
