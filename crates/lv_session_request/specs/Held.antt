-- Observations and the names under which they are held.
use Rattle.std.specs.Prelude.{ℕ, Bool, not, List}
use Rattle.lv_base.specs.Names.{is_named}
use Rattle.lv_meaning.specs.declared.facts.Observation.{Observation}
use Rattle.lv_session_request.specs.declared.request.Sighting.{Sighting}

-- what was observed, without the name
abbrev pub observation_of : Sighting → Observation
observation_of s = record { var = s.var; val = s.val }

abbrev pub has_name : List ℕ → Sighting → Bool
has_name name s = is_named name s.name

abbrev pub lacks_name : List ℕ → Sighting → Bool
lacks_name name s = not (has_name name s)

-- an observation under a name
abbrev pub sighting_of : List ℕ → Observation → Sighting
sighting_of name o = record { name = name; var = o.var; val = o.val }
