-- A session as what answers lines, one after another.
use Rattle.std.specs.Prelude.{ℕ, Bool, false, not, ◌&&◌, List}
use Rattle.lv_model.specs.declared.plant.Plant.{Plant}
use Rattle.lv_serve.specs.Served.{quits as quits_at, fits as fits_at}
use Rattle.lv_session_state.specs.State.{start, is_unsettled}
use Rattle.lv_session.specs.Session.{RunningSession, stepped}
use Rattle.lv_session.specs.Certificates.{IsTextOf}

-- a session at its start
abbrev pub begun : Plant → RunningSession
begun plant = record { plant = plant; state = start plant; is_out_of_memory = false }

-- where a line leads to
abbrev pub next_at : RunningSession → List ℕ → RunningSession
next_at s line = record s { state = (stepped s.plant s.state line).state }

-- the text may be the reply to a line
abbrev pub SaysAt : RunningSession → List ℕ → List ℕ → Type 0
SaysAt s line text = IsTextOf s.plant (stepped s.plant s.state line).state (stepped s.plant s.state line).reply text

-- a `quit` was accepted
abbrev pub has_quit : RunningSession → Bool
has_quit s = s.state.is_ended

-- another session over the same plant, at its start
abbrev pub begun_again : RunningSession → RunningSession
begun_again s = begun s.plant

-- its query is unsettled, and memory sufficed so far
abbrev pub is_open : RunningSession → Bool
is_open s = not s.is_out_of_memory && is_unsettled s.plant s.state

-- a `quit` is accepted among the lines of a text that have ended
abbrev pub quits : Plant → List ℕ → Bool
quits plant text = quits_at next_at has_quit (begun plant) text

-- the text of a session is no longer than its limit, or a `quit` that is accepted ends within it
abbrev pub fits : Plant → List ℕ → Bool
fits plant session = fits_at next_at has_quit (begun plant) session
