-- What a line of a session asks for, or the refusal that is due.
use Rattle.std.specs.Prelude.{ℕ, ◌≤◌, ◌≡◌, true, nat_eq, List, length, slice_get, Option, Some, None, if◌then◌else◌, Result, Ok, Err}
use Rattle.std.specs.Option.{ok_or}
use Rattle.lv_base.specs.declared.ids.ValId.{ValId}
use Rattle.lv_base.specs.declared.ids.VarId.{VarId}
use Rattle.lv_base.specs.declared.limits.TheConstants.{TRACKED, BUDGET}
use Rattle.lv_text.specs.Lexemes.{Lexeme, Reading, reads, has_bad_byte, is_too_long, line_reading, word_at, number_at}
use Rattle.lv_base.specs.Fits.{has_value}
use Rattle.lv_model.specs.declared.plant.Plant.{Plant}
use Rattle.lv_model.specs.Lists.{controls}
use Rattle.lv_model.specs.Ranges.{plant_ranges}
use Rattle.lv_formula_text.specs.Nesting.{is_too_deep}
use Rattle.lv_reply.specs.declared.reply.Refusal.{Refusal}
use Rattle.lv_reply.specs.declared.reply.Refusal.TheVariants.{UnknownWord, Form, OutOfLimits, LineTooLong, ByteNotAllowed, TooComplex}
use Rattle.lv_model_names.specs.declared.lists.Lists.{Lists}
use Rattle.lv_model_names.specs.Lists.{lists_of}
use Rattle.lv_model_names.specs.Names.{classes, is_observable}
use Rattle.lv_session_request.specs.declared.words.Word.{Word}
use Rattle.lv_session_request.specs.declared.words.Word.TheVariants.{Track, Budget, Command as CommandWord, Release, Observe, Retract, Goal as GoalWord, Drop as DropWord, Diagnose, Recover, More, Commit, Conflicts, Certificate, Labels, States, Reset, Quit, Probe, Test, Window as WindowWord}
use Rattle.lv_session_request.specs.declared.names.Controlled.{Controlled}
use Rattle.lv_session_request.specs.declared.request.Command.{Command}
use Rattle.lv_session_request.specs.declared.request.Sighting.{Sighting}
use Rattle.lv_session_request.specs.declared.request.Retraction.{Retraction}
use Rattle.lv_session_request.specs.declared.request.TheConstants.{WINDOW}
use Rattle.lv_session_request.specs.declared.request.Request.{Request}
use Rattle.lv_session_request.specs.declared.request.Request.TheVariants.{Nothing, Track as ToTrack, TrackDistinct as ToTrackDistinct, SetBudget, SetControl, Release as ToRelease, Observe as ToObserve, Retract as ToRetract, RetractAt, SetGoal, DropGoal, Diagnose as ToDiagnose, Recover as ToRecover, More as ToGoOn, Commit as ToCommit, Conflicts as ToShowConflicts, Certificate as ToCertify, Labels as ToLabel, LabelsFrom, States as ToShowStates, Reset as ToReset, Quit as ToQuit, Probe as ToProbe, Test as ToTest, Window as ToWindow}
use Rattle.lv_session_request.specs.declared.unread.Unread.{Unread}
use Rattle.lv_session_request.specs.declared.unread.Unread.TheVariants.{Refused, Memory}
use Rattle.lv_session_request.specs.Chain.{and_then}
use Rattle.lv_session_request.specs.Names.{control_of, observable_of, value_in}
use Rattle.lv_session_request.specs.Goals.{goal_of, IsGoalIn}
use Rattle.lv_session_request.specs.Forms.{first_word, has_command_signs, has_release_signs, has_observe_signs, has_distinct_form, has_at_form, name_at, IsUpTo, limited, number_to}

-- the word at a place, which has to be one
abbrev pub word : List Lexeme → ℕ → Result (List ℕ) Refusal
word line place = ok_or (word_at line place) Form

-- the request of a word that stands alone
abbrev pub alone : Request → List Lexeme → Result Request Refusal
alone request line = if nat_eq (length line) 1 then Ok request else Err Form

-- what a word asks for that stands alone; each other word wants more behind it, or may have it
abbrev pub of_lone_word : Word → Result Request Refusal
of_lone_word Diagnose = Ok ToDiagnose
of_lone_word Recover = Ok ToRecover
of_lone_word Commit = Ok ToCommit
of_lone_word Conflicts = Ok ToShowConflicts
of_lone_word Certificate = Ok ToCertify
of_lone_word States = Ok ToShowStates
of_lone_word Reset = Ok ToReset
of_lone_word Quit = Ok ToQuit
of_lone_word Probe = Ok ToProbe
of_lone_word word = Err Form

-- what a line of that word asks for, which has to be the word alone
abbrev pub alone_by : Word → List Lexeme → Result Request Refusal
alone_by word line = if nat_eq (length line) 1 then of_lone_word word else Err Form

-- `track K`, or `track K distinct`
abbrev pub track_of : List Lexeme → Result Request Refusal
track_of line = if has_distinct_form line then and_then (limited TRACKED line) (λ n. Ok (ToTrackDistinct n)) else and_then (number_to TRACKED line) (λ n. Ok (ToTrack n))

-- `budget B`
abbrev pub budget_of : List Lexeme → Result Request Refusal
budget_of line = and_then (number_to BUDGET line) (λ n. Ok (SetBudget n))

-- `more B`
abbrev pub more_of : List Lexeme → Result Request Refusal
more_of line = and_then (number_to BUDGET line) (λ n. Ok (ToGoOn n))

-- the command of a control, by its names, to a value of its domain
abbrev pub command_to : Plant → Lists → List ℕ → List ℕ → List ℕ → Result Command Refusal
command_to plant lists part name value =
    and_then (control_of plant lists part name) (λ (c : Controlled).
    and_then (value_in plant lists c.var value) (λ (v : ValId). Ok (record { place = c.place; value = v })))

-- `command P.C = V`
unfoldable pub command_of : Plant → Lists → List Lexeme → Result Command Refusal
command_of plant lists line =
    if has_command_signs line
    then and_then (word line 1) (λ part. and_then (word line 3) (λ name. and_then (word line 5) (λ value. command_to plant lists part name value)))
    else Err Form

-- `release P.C`: the control's place
unfoldable pub release_of : Plant → Lists → List Lexeme → Result ℕ Refusal
release_of plant lists line =
    if has_release_signs line
    then and_then (word line 1) (λ part. and_then (word line 3) (λ name. and_then (control_of plant lists part name) (λ (c : Controlled). Ok c.place)))
    else Err Form

-- `test P.O`: the observable
unfoldable pub tested_of : Plant → Lists → List Lexeme → Result VarId Refusal
tested_of plant lists line =
    if has_release_signs line
    then and_then (word line 1) (λ part. and_then (word line 3) (λ name. observable_of plant lists part name))
    else Err Form

-- an observable, by its names, seen to have a value of its domain, under a name
abbrev pub seen_as : Plant → Lists → List ℕ → List ℕ → List ℕ → List ℕ → Result Sighting Refusal
seen_as plant lists name part variable value =
    and_then (observable_of plant lists part variable) (λ (x : VarId).
    and_then (value_in plant lists x value) (λ (v : ValId). Ok (record { name = name; var = x; val = v })))

-- `observe NAME P.O = V`
unfoldable pub sighting_of : Plant → Lists → List Lexeme → Result Sighting Refusal
sighting_of plant lists line =
    if has_observe_signs line
    then and_then (ok_or (name_at line 1) Form) (λ name. and_then (word line 2) (λ part. and_then (word line 4) (λ variable.
    and_then (word line 6) (λ value. seen_as plant lists name part variable value))))
    else Err Form

-- `retract NAME`, and `drop NAME`
unfoldable pub retracted_of : List Lexeme → Result (List ℕ) Refusal
retracted_of line = if nat_eq (length line) 2 then ok_or (name_at line 1) Form else Err Form

-- `retract NAME at S`: a number that is too great for its value to be known is no time that is kept
unfoldable pub retraction_of : List Lexeme → Result Retraction Refusal
retraction_of line = and_then (ok_or (name_at line 1) Form) (λ name. and_then (ok_or (number_at line 3) OutOfLimits) (λ time. Ok (record { name = name; time = time })))

-- `retract NAME`, or `retract NAME at S`
abbrev pub retract_of : List Lexeme → Result Request Refusal
retract_of line = if has_at_form line then and_then (retraction_of line) (λ r. Ok (RetractAt r)) else and_then (retracted_of line) (λ name. Ok (ToRetract name))

-- `labels`, or `labels I`
abbrev pub labels_of : List Lexeme → Result Request Refusal
labels_of line = if nat_eq (length line) 1 then Ok ToLabel else and_then (number_to TRACKED line) (λ n. Ok (LabelsFrom n))

-- `drop NAME`
abbrev pub drop_of : List Lexeme → Result Request Refusal
drop_of line = and_then (retracted_of line) (λ name. Ok (DropGoal name))

-- `window W`
abbrev pub window_of : List Lexeme → Result Request Refusal
window_of line = and_then (number_to WINDOW line) (λ n. Ok (ToWindow n))

-- what a line that begins with this word asks for
abbrev pub request_by : Plant → Lists → Word → List Lexeme → Result Request Refusal
request_by plant lists Track line = track_of line
request_by plant lists Budget line = budget_of line
request_by plant lists CommandWord line = and_then (command_of plant lists line) (λ c. Ok (SetControl c))
request_by plant lists Release line = and_then (release_of plant lists line) (λ place. Ok (ToRelease place))
request_by plant lists Observe line = and_then (sighting_of plant lists line) (λ s. Ok (ToObserve s))
request_by plant lists Retract line = retract_of line
request_by plant lists GoalWord line = and_then (goal_of plant lists line) (λ g. Ok (SetGoal g))
request_by plant lists DropWord line = drop_of line
request_by plant lists Diagnose line = alone ToDiagnose line
request_by plant lists Recover line = alone ToRecover line
request_by plant lists More line = more_of line
request_by plant lists Commit line = alone ToCommit line
request_by plant lists Conflicts line = alone ToShowConflicts line
request_by plant lists Certificate line = alone ToCertify line
request_by plant lists Labels line = labels_of line
request_by plant lists States line = alone ToShowStates line
request_by plant lists Reset line = alone ToReset line
request_by plant lists Quit line = alone ToQuit line
request_by plant lists Probe line = alone ToProbe line
request_by plant lists Test line = and_then (tested_of plant lists line) (λ x. Ok (ToTest x))
request_by plant lists WindowWord line = window_of line

abbrev pub asked_by_first : Plant → Lists → List Lexeme → Option Word → Result Request Refusal
asked_by_first plant lists line None = Err UnknownWord
asked_by_first plant lists line (Some w) = if is_too_deep line then Err TooComplex else request_by plant lists w line

-- what the tokens of a line ask for
abbrev pub asked : Plant → Lists → List Lexeme → Result Request Refusal
asked plant lists line = if nat_eq (length line) 0 then Ok Nothing else asked_by_first plant lists line (first_word line)

abbrev pub asked_by : Plant → Lists → Reading → Result Request Refusal
asked_by plant lists (reads line) = asked plant lists line
asked_by plant lists (has_bad_byte place) = Err ByteNotAllowed
asked_by plant lists is_too_long = Err LineTooLong

-- what a line asks for
unfoldable pub request_of : Plant → List ℕ → Result Request Refusal
request_of plant line = asked_by plant (lists_of plant) (line_reading line)

-- a fault tells the refusal that is due; want of memory tells nothing
abbrev pub Explains : {X : Type 0} → Unread → Result X Refusal → Type 0
Explains (Refused refusal) due = due ≡ Err refusal
Explains Memory due = Unit {0}

-- an observation of an observable, and of a value that it has
pub record IsSightingIn (plant : Plant) (s : Sighting) : Type 0 where
  pub observable : is_observable (classes plant) s.var.0 ≡ true
  pub value : has_value (plant_ranges plant) s.var.0 s.val.0 ≡ true

-- a command of a value that the control has
pub record IsCommandIn (plant : Plant) (c : Command) : Type 0 where
  pub value : (x : VarId) → slice_get (controls plant) c.place ≡ Some x → has_value (plant_ranges plant) x.0 c.value.0 ≡ true

-- a variable that is an observable
pub record IsObservableOf (plant : Plant) (x : VarId) : Type 0 where
  pub observable : is_observable (classes plant) x.0 ≡ true

-- the numbers in a request are in range
abbrev pub IsRequestOf : Plant → Request → Type 0
IsRequestOf plant (ToTrack n) = IsUpTo TRACKED n
IsRequestOf plant (ToTrackDistinct n) = IsUpTo TRACKED n
IsRequestOf plant (ToGoOn n) = n ≤ BUDGET
IsRequestOf plant (SetControl c) = IsCommandIn plant c
IsRequestOf plant (ToObserve s) = IsSightingIn plant s
IsRequestOf plant (SetGoal g) = IsGoalIn plant g
IsRequestOf plant (ToTest x) = IsObservableOf plant x
IsRequestOf plant (ToWindow n) = IsUpTo WINDOW n
IsRequestOf plant request = Unit {0}
