-- What is written of a file of lines over a model, by what serves it.
use Rattle.std.specs.Prelude.{ℕ, Bool, false, List, Option, Result}
use Rattle.lv_model.specs.declared.plant.Plant.{Plant}
use Rattle.lv_serve.specs.Served.{AddsReplies as AddsRepliesOf, AddsFrontOfReplies as AddsFrontOf, quits as quits_at, fits as fits_at}
use Rattle.lv_serve.specs.Told.{ServesText}
use Rattle.lv_serve.specs.declared.fault.ServeFault.{ServeFault}
use Rattle.lv_lanes.specs.Standing.{Standing, stepped}
use Rattle.lv_plant.specs.Standing.{Standing as PlantStanding, at_start as plant_begun}
use Rattle.lv_plant.specs.Answering.{next_at as plant_next, SaysAt as PlantSays}
use Rattle.lv_lanes.specs.Replies.{MayWrite}
use Rattle.lv_lanes.specs.Laws.{at_start}
use Rattle.lv_plant.specs.lv_session.Session.{RunningSession}
use Rattle.lv_plant.specs.lv_session.Transcript.{AddsTranscript, AddsFrontOfTranscript}
use Rattle.lv_plant.specs.lv_session.Answering.{begun, next_at, SaysAt, has_quit, begun_again, is_open, quits as session_quits, fits as session_fits}
use Rattle.lv_run_words.specs.declared.commands.Service.{Service}
use Rattle.lv_run_words.specs.declared.commands.Service.TheVariants.{Single, Lanes, Simulation}

-- no lanes yet, each of which will be a session over the plant
abbrev pub lanes_begun : Plant → Standing RunningSession
lanes_begun plant = at_start (begun plant)

-- where a line leads to
abbrev pub lanes_next : Standing RunningSession → List ℕ → Standing RunningSession
lanes_next = stepped next_at begun_again is_open

-- what may be written of it
abbrev pub LanesSay : Standing RunningSession → List ℕ → List ℕ → Type 0
LanesSay = MayWrite SaysAt begun_again is_open

-- no line ends lanes
abbrev pub never_ends : Standing RunningSession → Bool
never_ends s = false

-- nor a plant in the loop
abbrev pub plant_ends : PlantStanding → Bool
plant_ends s = false

-- the lines of a text that have ended end the service
abbrev pub quits : Service → Plant → List ℕ → Bool
quits Single plant text = session_quits plant text
quits Lanes plant text = quits_at lanes_next never_ends (lanes_begun plant) text
quits Simulation plant text = quits_at plant_next plant_ends (plant_begun plant) text

-- a text is no longer than its limit, or a line that ends the service ends within it
abbrev pub fits : Service → Plant → List ℕ → Bool
fits Single plant text = session_fits plant text
fits Lanes plant text = fits_at lanes_next never_ends (lanes_begun plant) text
fits Simulation plant text = fits_at plant_next plant_ends (plant_begun plant) text

-- what is written of all lines was added: the transcript of a session, or what lanes or a plant in the loop reply
abbrev pub AddsReplies : Service → Plant → List ℕ → Option (List ℕ) → Option (List ℕ) → Type 0
AddsReplies Single plant text before after = AddsTranscript plant text before after
AddsReplies Lanes plant text before after = AddsRepliesOf lanes_next LanesSay (lanes_begun plant) text before after
AddsReplies Simulation plant text before after = AddsRepliesOf plant_next PlantSays (plant_begun plant) text before after

-- a front of it was
abbrev pub AddsFrontOfReplies : Service → Plant → List ℕ → Option (List ℕ) → Option (List ℕ) → Type 0
AddsFrontOfReplies Single plant text before after = AddsFrontOfTranscript plant text before after
AddsFrontOfReplies Lanes plant text before after = AddsFrontOf lanes_next LanesSay (lanes_begun plant) text before after
AddsFrontOfReplies Simulation plant text before after = AddsFrontOf plant_next PlantSays (plant_begun plant) text before after

-- what serving a text that is told came to, in the words of serving
abbrev pub Serves : Service → Plant → List ℕ → Option (List ℕ) → Option (List ℕ) → {T : Type 0} → Result T ServeFault → Type 0
Serves Single plant text before after result = ServesText next_at SaysAt has_quit (begun plant) text before after result
Serves Lanes plant text before after result = ServesText lanes_next LanesSay never_ends (lanes_begun plant) text before after result
Serves Simulation plant text before after result = ServesText plant_next PlantSays plant_ends (plant_begun plant) text before after result
