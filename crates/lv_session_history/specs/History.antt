-- What is kept of a session's last commits, the oldest first.
use Rattle.std.specs.Prelude.{ℕ, ◌+◌, ◌-◌, Bool, false, nat_le, nat_lt, List, length, drop, filter, slice_get, slice_set, if◌then◌else◌}
use Rattle.std.specs.List.{list_any}
use Rattle.std.specs.Option.{option_map_or}
use Rattle.lv_session_request.specs.Held.{has_name, lacks_name}
use Rattle.lv_session_history.specs.declared.history.Past.{Past}
use Rattle.lv_session_history.specs.declared.history.TheConstants.{HISTORY}

-- the oldest goes where there are as many as are kept
abbrev pub with_room : List Past → List Past
with_room history = if nat_lt (length history) HISTORY then history else drop 1 history

-- an observation of this name is held in what is kept at this place
abbrev pub is_held_in : List Past → ℕ → List ℕ → Bool
is_held_in history place name = option_map_or (λ (p : Past). list_any (has_name name) p.observed) (slice_get history place) false

-- what is kept of a commit, without the observation of this name
abbrev pub without : List ℕ → Past → Past
without name p = record p { observed = filter (lacks_name name) p.observed }

-- without it at this place
abbrev pub without_in : List Past → ℕ → List ℕ → List Past
without_in history place name = option_map_or (λ (p : Past). slice_set history place (without name p)) (slice_get history place) history

-- so many steps are kept, with the one that isn't committed
abbrev pub has_steps : List Past → ℕ → Bool
has_steps history steps = nat_le steps (length history + 1)

-- the commits among the last so many steps, the oldest first
abbrev pub commits_in : List Past → ℕ → List Past
commits_in history steps = drop (length history + 1 - steps) history
