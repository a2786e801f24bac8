-- What is known of the last steps of a session: of those of commits that are kept, and of the one that isn't committed.
use Rattle.std.specs.Prelude.{List, [], ◌∷◌, map}
use Rattle.lv_model.specs.declared.state.TrackedState.{TrackedState}
use Rattle.lv_meaning.specs.declared.facts.Facts.{Facts}
use Rattle.lv_session_request.specs.Held.{observation_of}
use Rattle.lv_session_request.specs.declared.request.Sighting.{Sighting}
use Rattle.lv_session_history.specs.declared.history.Past.{Past}

-- what was tracked before these commits, where this is tracked behind them
abbrev pub tracked_before : List Past → List TrackedState → List TrackedState
tracked_before [] tracked = tracked
tracked_before (p ∷ ps) tracked = p.tracked

-- what is observed of that time, where this is observed of the time behind them
abbrev pub observed_before : List Past → List Sighting → List Sighting
observed_before [] present = present
observed_before (p ∷ ps) present = p.observed

-- what is known of the step of a commit, where this is observed of the time behind it: the controls' values, and what is observed of the
-- times before the step and after it
abbrev pub facts_of_step : Past → List Sighting → Facts
facts_of_step p next = record { controls = p.controls; present = map observation_of p.observed; next = map observation_of next }

-- what is known of the steps of these commits, and of the one behind them
abbrev pub facts_on : List Past → List Sighting → Facts → List Facts
facts_on [] present last = last ∷ []
facts_on (p ∷ ps) present last = facts_of_step p (observed_before ps present) ∷ facts_on ps present last
