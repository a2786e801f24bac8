-- What is written of a file of lines, and fronts of it, whatever serves it.
use Rattle.std.proofs.Common.{◌≡◌, false, ℕ, List, [], ◌++◌, Option, Result, refl, sym, ◌∙◌, ap}
use Rattle.std.specs.Prelude.{IsErrAnd}
use Rattle.std.specs.Io.KnownBytes.{append_known}
use Rattle.lv_model.specs.declared.plant.Plant.{Plant}
use Rattle.lv_run_words.specs.lv_text.Lines.{lines_of}
use Rattle.lv_serve.specs.Ends.{ended}
use Rattle.lv_serve.specs.Conversation.{ends as ends_lines}
use Rattle.lv_serve.proofs.Writing.{append-none, whole_front}
use Rattle.lv_serve.specs.declared.fault.ServeFault.{ServeFault}
use Rattle.lv_serve.specs.declared.fault.ServeFault.TheVariants.{Memory}
use Rattle.lv_serve.proofs.ToldLemmas.{not_begun}
use Rattle.lv_serve.proofs.ConversationLemmas.{none_of_front, front_of_lines}
use Rattle.lv_serve.proofs.PieceLemmas.{front_of_all as front_of_all_replies, front_of_longer as front_of_longer_text}
use Rattle.lv_plant.specs.lv_session.Transcript.{ends as ends_transcript}
use Rattle.lv_plant.specs.lv_session.Answering.{begun, next_at, SaysAt, has_quit, begun_again, is_open}
use Rattle.lv_plant.proofs.lv_session.Answering.{transcript_of, no_transcript, transcript_front, transcript_of_longer, transcript_of_more}
use Rattle.lv_run_words.specs.declared.commands.Service.{Service}
use Rattle.lv_run_words.specs.declared.commands.Service.TheVariants.{Single, Lanes, Simulation}
use Rattle.lv_lanes.specs.Bytes.{own_part}
use Rattle.lv_lanes.specs.Laws.{own_text}
use Rattle.lv_lanes.proofs.AloneLemmas.{written_is_of_lanes}
use Rattle.lv_lanes.proofs.ByteLaws.{own_part_is_alone}
use Rattle.lv_run.specs.OfLanes.{lines_of_lane, AddsLanes, AddsOwnParts}
use Rattle.lv_plant.specs.Standing.{at_start as plant_begun}
use Rattle.lv_plant.specs.Answering.{next_at as plant_next, SaysAt as PlantSays}
use Rattle.lv_plant.proofs.ScriptLemmas.{conversation_is_script}
use Rattle.lv_run.specs.OfPlants.{AddsScript}
use Rattle.lv_run.specs.Services.{lanes_begun, lanes_next, LanesSay, never_ends, plant_ends, Serves, quits, AddsReplies, AddsFrontOfReplies}
use Rattle.lv_run.proofs.WholeLemmas.{replies_are_whole}

-- where memory was wanting before anything was read
pub not_served : (service : Service) (plant : Plant) (text : List ℕ) (out : Option (List ℕ)) (result : Result (Unit {0}) ServeFault)
    → IsErrAnd result (λ e. e ≡ Memory)
    → Serves service plant text out out result
not_served Single plant text out result handed = not_begun next_at SaysAt has_quit (begun plant) text out result handed
not_served Lanes plant text out result handed = not_begun lanes_next LanesSay never_ends (lanes_begun plant) text out result handed
not_served Simulation plant text out result handed = not_begun plant_next PlantSays plant_ends (plant_begun plant) text out result handed

-- nothing is a front of whatever is due, and what is due one of itself
pub no_replies : (service : Service) (plant : Plant) (text : List ℕ) (out : Option (List ℕ)) → AddsFrontOfReplies service plant text out out
no_replies Single plant text out = no_transcript plant text out
no_replies Lanes plant text out = none_of_front lanes_next LanesSay (lanes_begun plant) (lines_of text) out
no_replies Simulation plant text out = none_of_front plant_next PlantSays (plant_begun plant) (lines_of text) out

pub whole_replies : (service : Service) (plant : Plant) (text : List ℕ) (before after : Option (List ℕ))
    → AddsReplies service plant text before after → AddsFrontOfReplies service plant text before after
whole_replies Single plant text before after all = transcript_front plant text before after all
whole_replies Lanes plant text before after all =
    front_of_lines lanes_next LanesSay (lanes_begun plant) (lines_of text) all.written before after all.is_conversation (whole_front all.written before after all.added)
whole_replies Simulation plant text before after all =
    front_of_lines plant_next PlantSays (plant_begun plant) (lines_of text) all.written before after all.is_conversation (whole_front all.written before after all.added)

-- a front of what is due of the lines that have ended is one of what is due of a longer text
pub front_of_longer : (service : Service) (plant : Plant) (read more : List ℕ) (before after : Option (List ℕ))
    → AddsFrontOfReplies service plant (ended read) before after → AddsFrontOfReplies service plant (ended (read ++ more)) before after
front_of_longer Single plant read more before after front = transcript_of_longer plant read more before after front
front_of_longer Lanes plant read more before after front = front_of_longer_text lanes_next LanesSay (lanes_begun plant) read more before after front
front_of_longer Simulation plant read more before after front = front_of_longer_text plant_next PlantSays (plant_begun plant) read more before after front

pub front_of_more : (service : Service) (plant : Plant) (read more : List ℕ) (before after : Option (List ℕ))
    → AddsFrontOfReplies service plant (ended read) before after → AddsFrontOfReplies service plant (read ++ more) before after
front_of_more Single plant read more before after front = transcript_of_more plant read more before after front
front_of_more Lanes plant read more before after front = front_of_all_replies lanes_next LanesSay (lanes_begun plant) read more before after front
front_of_more Simulation plant read more before after front = front_of_all_replies plant_next PlantSays (plant_begun plant) read more before after front

-- what lanes write, by lanes
pub adds_lanes : (plant : Plant) (text : List ℕ) (before after : Option (List ℕ)) → AddsReplies Lanes plant text before after → AddsLanes plant text before after
adds_lanes plant text before after adds =
    let is = written_is_of_lanes next_at SaysAt begun_again is_open (begun plant) (lines_of text) adds.written adds.is_conversation in
    record {
      replies = is.replies;
      in_order = is.in_order;
      alone = λ name. transcript_of (begun plant) (lines_of_lane plant name text) (own_text name is.replies) (is.alone name);
      added = adds.added ∙ ap (append_known before) is.all;
    }

-- and byte by byte
pub adds_own_parts : (plant : Plant) (text : List ℕ) (before after : Option (List ℕ)) → AddsReplies Lanes plant text before after → AddsOwnParts plant text before after
adds_own_parts plant text before after adds = record {
  written = adds.written;
  alone = λ name word. transcript_of (begun plant) (lines_of_lane plant name text) (own_part name adds.written)
      (own_part_is_alone next_at SaysAt begun_again is_open replies_are_whole name word (begun plant) (lines_of text) adds.written adds.is_conversation);
  added = adds.added;
}

-- what a plant in the loop writes, by its script
pub adds_script : (plant : Plant) (text : List ℕ) (before after : Option (List ℕ)) → AddsReplies Simulation plant text before after → AddsScript plant text before after
adds_script plant text before after adds = adds.added ∙ ap (append_known before) (conversation_is_script (plant_begun plant) (lines_of text) adds.written adds.is_conversation)

-- of no bytes nothing is due
pub none_quit : (service : Service) (plant : Plant) → quits service plant [] ≡ false
none_quit Single plant = refl
none_quit Lanes plant = refl
none_quit Simulation plant = refl

pub none_written : (service : Service) (plant : Plant) (out : Option (List ℕ)) → AddsReplies service plant [] out out
none_written Single plant out = record { written = []; is_transcript = ends_transcript; added = sym (append-none out) }
none_written Lanes plant out = record { written = []; is_conversation = ends_lines; added = sym (append-none out) }
none_written Simulation plant out = record { written = []; is_conversation = ends_lines; added = sym (append-none out) }
