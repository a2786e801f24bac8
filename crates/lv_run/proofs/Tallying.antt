-- Replies counted one by one.
use Rattle.std.proofs.Common.{◌≡◌, false, ℕ, ◌+◌, ◌-◌, ◌≤◌, List, [], ◌∷◌, ◌++◌, length, take, drop, map, fold, refl, sym, ◌∙◌, ap, ap₂, subst, arith, length-drop}
use Rattle.std.specs.List.{concat}
use Rattle.lv_plant.proofs.lv_session.lv_io.Pieces.{rest_of_bytes}
use Rattle.lv_text.specs.Lines.{lines_of, BeginsWithLine}
use Rattle.lv_gen.specs.Session.{session_text}
use Rattle.lv_model.specs.declared.plant.Plant.{Plant}
use Rattle.lv_reply.specs.declared.reply.Reply.{Reply}
use Rattle.lv_reply.specs.Texts.{reply_text}
use Rattle.lv_plant.specs.lv_session.lv_session_state.State.{SessionState, start}
use Rattle.lv_plant.specs.lv_session.Session.{RunningSession, stepped}
use Rattle.lv_plant.specs.lv_session.Transcript.{IsTranscriptFrom}
use Rattle.lv_plant.specs.lv_session.Laws.{replies_to, replies}
use Rattle.lv_plant.proofs.lv_session.Transcripts.{some_transcript}
use Rattle.lv_run.specs.declared.tally.Tally.{Tally}
use Rattle.lv_run.specs.Tallies.{none_counted, counted, IsSmall}
use Rattle.lv_run.specs.Drives.{tally_of, summary_text, drive_text, RepliesAreTranscript}
use Rattle.lv_run.proofs.CalmTexts.{none_told}

texts_are : (plant : Plant) (state : SessionState) (lines : List (List ℕ))
    → concat (map (reply_text plant) (replies_to plant state lines)) ≡ replies plant state lines
texts_are plant state [] = refl
texts_are plant state (line ∷ lines) =
    ap (λ (l : List ℕ). reply_text plant (stepped plant state line).reply ++ l) (texts_are plant (stepped plant state line).state lines)

pub are_transcript : RepliesAreTranscript
are_transcript = record {
  of_session = λ plant session none.
      subst (IsTranscriptFrom plant (start plant) (lines_of session)) (sym (texts_are plant (start plant) (lines_of session)))
      (some_transcript plant (start plant) (lines_of session) none);
  of_number = none_told;
}

-- what was counted, with the replies to the lines that are left, comes to what all replies do; and no more was counted than
-- bytes were passed
pub record Tallied (plant : Plant) (text : List ℕ) (session : RunningSession) (rest : List ℕ) (now : Tally) : Type 0 where
  pub plant_is : session.plant ≡ plant
  pub comes_to : fold counted now (replies_to plant session.state (lines_of rest)) ≡ fold counted none_counted (replies_to plant (start plant) (lines_of text))
  pub small : IsSmall now
  pub room : now.replies + length rest ≤ length text

pub tallied_at_start : (plant : Plant) (text : List ℕ) (session : RunningSession) (now : Tally)
    → session ≡ record { plant = plant; state = start plant; is_out_of_memory = false }
    → now ≡ none_counted
    → Tallied plant text session text now
tallied_at_start plant text session now is none = subst (Tallied plant text session text) (sym none) (record {
  plant_is = ap (λ (s : RunningSession). s.plant) is;
  comes_to = ap (λ (s : RunningSession). fold counted none_counted (replies_to plant s.state (lines_of text))) is;
  small = record { errors = omega arith; settled = omega arith; unsettled = omega arith; trials = omega arith };
  room = omega arith;
})

pub tallied_more : (plant : Plant) (text : List ℕ) (session next : RunningSession) (rest : List ℕ) (shown whole : ℕ) (now after : Tally) (reply : Reply)
    → BeginsWithLine rest shown whole
    → reply ≡ (stepped session.plant session.state (take shown rest)).reply
    → next ≡ record session { state = (stepped session.plant session.state (take shown rest)).state }
    → after ≡ counted now reply
    → IsSmall after
    → after.replies ≤ now.replies + 1
    → Tallied plant text session rest now
    → Tallied plant text next (take (length rest - whole) (drop whole rest)) after
tallied_more plant text session next rest shown whole now after reply begins reply_is goes counts small one earlier =
    let p : session.plant ≡ plant = earlier.plant_is in
    let left : take (length rest - whole) (drop whole rest) ≡ drop whole rest = rest_of_bytes whole rest in
    let state_is : next.state ≡ (stepped plant session.state (take shown rest)).state =
    ap (λ (s : RunningSession). s.state) goes ∙ ap (λ (q : Plant). (stepped q session.state (take shown rest)).state) p in
    let after_is : after ≡ counted now (stepped plant session.state (take shown rest)).reply =
    counts ∙ ap (counted now) (reply_is ∙ ap (λ (q : Plant). (stepped q session.state (take shown rest)).reply) p) in
    record {
      plant_is = ap (λ (s : RunningSession). s.plant) goes ∙ p;
      comes_to =
          ap₂ (λ (t : Tally) (s : SessionState). fold counted t (replies_to plant s (lines_of (take (length rest - whole) (drop whole rest))))) after_is state_is
          ∙ ap (λ (l : List ℕ). fold counted (counted now (stepped plant session.state (take shown rest)).reply) (replies_to plant (stepped plant session.state (take shown rest)).state (lines_of l))) left
          ∙ ap (λ (ls : List (List ℕ)). fold counted now (replies_to plant session.state ls)) (sym begins.lines)
          ∙ earlier.comes_to;
      small = small;
      room = rw left (omega (arith, one, earlier.room, begins.moves, begins.inside, length-drop whole rest));
    }

pub tallied_all : (plant : Plant) (text : List ℕ) (session : RunningSession) (rest : List ℕ) (now : Tally)
    → rest ≡ []
    → Tallied plant text session rest now
    → now ≡ fold counted none_counted (replies_to plant (start plant) (lines_of text))
tallied_all plant text session rest now none tallied =
    sym (ap (λ (l : List ℕ). fold counted now (replies_to plant session.state (lines_of l))) none) ∙ tallied.comes_to

-- the summary of the session that was made
pub summed_up : (plant : Plant) (n : ℕ) (session text : List ℕ) (tally : Tally)
    → session ≡ session_text n
    → tally ≡ tally_of plant session
    → text ≡ summary_text n tally
    → text ≡ drive_text plant n
unfolding drive_text
summed_up plant n session text tally made counts is = is ∙ ap (summary_text n) (counts ∙ ap (tally_of plant) made)
