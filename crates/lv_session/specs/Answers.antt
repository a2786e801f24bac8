-- What the settled answers of a session are, in the subject's words.
use Rattle.std.specs.Prelude.{◌≡◌, ℕ, true, false, List, [], ◌∷◌, ◌++◌, Option}
use Rattle.std.specs.Io.KnownBytes.{append_known}
use Rattle.lv_base.specs.declared.rank.Rank.{Rank}
use Rattle.lv_text.specs.Lines.{lines_of}
use Rattle.lv_model.specs.declared.plant.Plant.{Plant}
use Rattle.lv_session_state.specs.lv_meaning.Targets.{answer}
use Rattle.lv_session_state.specs.lv_meaning.Commands.{is_command_set}
use Rattle.lv_session_state.specs.lv_meaning.Recovers.{recovers}
use Rattle.lv_session_state.specs.lv_meaning.RecoveryLaws.{IsRecovery}
use Rattle.lv_reply.specs.declared.reply.Reply.{Reply}
use Rattle.lv_reply.specs.declared.reply.Reply.TheVariants.{Settled, Recovered, NoRecovery, Tested, NoTest, SettledWindow}
use Rattle.lv_session_state.specs.declared.query.Query.{Query}
use Rattle.lv_session_state.specs.declared.query.Query.TheVariants.{Test}
use Rattle.lv_session_state.specs.State.{SessionState, Stepped, start, facts_of, aim_of, test_aim_of, window_base, window_facts}
use Rattle.lv_session_state.specs.lv_window.Walk.{first_trajectories}
use Rattle.lv_session_state.specs.TestLaws.{IsTest, NoneTests}
use Rattle.lv_session.specs.Session.{stepped}
use Rattle.lv_session.specs.Transcript.{SessionStep, IsTranscript}

-- a command set found is the first that tests the variable of this query
abbrev pub IsTrueTest : Plant → SessionState → Query → Rank → Type 0
IsTrueTest plant state (Test x sum) rank = IsTest plant (test_aim_of state) x rank
IsTrueTest plant state query rank = ⊥

-- no command set tests it
abbrev pub IsTrueNone : Plant → SessionState → Query → Type 0
IsTrueNone plant state (Test x sum) = NoneTests plant (test_aim_of state) x
IsTrueNone plant state query = ⊥

-- a settled diagnosis lists the first k candidates of the tracked states that are possible under the facts, in the order of their ranks,
-- or all if fewer are; with the flag, only such of them as lead to a state to which no possible candidate of lower rank leads; a recovery
-- is the first command set that takes every tracked state nominally to the goals, and that there is none is told where none does; a test
-- is the first command set that tests the variable of the query that is current behind the line, and that there is none is told where none
-- does; a settled window lists the first k trajectories of its steps that are possible, from what was tracked before them, with all that is
-- held of their times when the line comes; of other replies nothing is asked
abbrev pub IsTrueAnswer : Plant → SessionState → Query → Reply → Type 0
IsTrueAnswer plant state query (Settled listed) = listed ≡ answer state.distinct state.k plant (facts_of state) state.tracked
IsTrueAnswer plant state query (Recovered rank) = IsRecovery plant (aim_of state) rank
IsTrueAnswer plant state query NoRecovery = (u : List ℕ) → is_command_set plant u ≡ true → recovers plant (aim_of state) u ≡ false
IsTrueAnswer plant state query (Tested rank) = IsTrueTest plant state query rank
IsTrueAnswer plant state query NoTest = IsTrueNone plant state query
IsTrueAnswer plant state query (SettledWindow steps listed) = listed ≡ first_trajectories state.k plant (window_facts state steps) (window_base state steps)
IsTrueAnswer plant state query reply = Unit {0}

-- what a line does and what it replies is a true answer of the state that it found
abbrev pub AnswersTruly : Plant → SessionState → Stepped → Type 0
AnswersTruly plant state s = IsTrueAnswer plant state s.state.query s.reply

-- the text is a transcript of these lines, from a state on, each of whose replies is a true answer of the state that its line found
pub data IsTrueTranscriptFrom (plant : Plant) : SessionState → List (List ℕ) → List ℕ → Type 0 where
  all_told : {state : SessionState} → IsTrueTranscriptFrom plant state [] []
  told : {state next : SessionState} {line : List ℕ} {lines : List (List ℕ)} {reply rest text : List ℕ}
      → SessionStep plant state line next reply
      → AnswersTruly plant state (stepped plant state line)
      → IsTrueTranscriptFrom plant next lines rest
      → text ≡ reply ++ rest
      → IsTrueTranscriptFrom plant state (line ∷ lines) text

-- such a transcript of the whole session was added to the text
pub record AddsTrueTranscript (plant : Plant) (session : List ℕ) (before after : Option (List ℕ)) : Type 0 where
  pub written : List ℕ
  pub is_true : IsTrueTranscriptFrom plant (start plant) (lines_of session) written
  pub added : after ≡ append_known before written

-- whatever the state and the line, the reply is a true answer; so each settled answer of every transcript is the first
pub record SettledAnswersAreFirst : Type 0 where
  pub of_line : (plant : Plant) (state : SessionState) (line : List ℕ) → AnswersTruly plant state (stepped plant state line)
  pub of_session : (plant : Plant) (session text : List ℕ) → IsTranscript plant session text → IsTrueTranscriptFrom plant (start plant) (lines_of session) text
