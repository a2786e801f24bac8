-- A session's replies, what they come to, and the summary of a generated session.
use Rattle.std.specs.Prelude.{◌≡◌, ℕ, false, List, ◌++◌, fold, map, codes, decimal}
use Rattle.std.specs.List.{concat}
use Rattle.lv_gen.specs.Session.{session_text}
use Rattle.lv_model.specs.declared.plant.Plant.{Plant}
use Rattle.lv_reply.specs.Texts.{reply_text}
use Rattle.lv_plant.specs.lv_session.Transcript.{IsTranscript}
use Rattle.lv_plant.specs.lv_session.Laws.{session_replies, tells_certificate}
use Rattle.lv_run.specs.declared.tally.Tally.{Tally}
use Rattle.lv_run.specs.Tallies.{none_counted, counted}

-- what the replies to a session come to
abbrev pub tally_of : Plant → List ℕ → Tally
tally_of plant session = fold counted none_counted (session_replies plant session)

-- the texts of a session's replies, one behind the other
abbrev pub reply_texts : Plant → List ℕ → List ℕ
reply_texts plant session = concat (map (reply_text plant) (session_replies plant session))

-- where no certificate is told, they are its transcript; and none is in a session that a number stands for
pub record RepliesAreTranscript : Type 0 where
  pub of_session : (plant : Plant) (session : List ℕ) → tells_certificate plant session ≡ false → IsTranscript plant session (reply_texts plant session)
  pub of_number : (plant : Plant) (n : ℕ) → tells_certificate plant (session_text n) ≡ false

-- a line of a word and a number
abbrev pub summary_line : List ℕ → ℕ → List ℕ
summary_line word n = word ++ decimal n ++ codes "\n"

-- the summary of the session of a number
abbrev pub summary_text : ℕ → Tally → List ℕ
summary_text n t =
    summary_line (codes "drive ") n ++ summary_line (codes "replies ") t.replies ++ summary_line (codes "errors ") t.errors
    ++ summary_line (codes "settled ") t.settled ++ summary_line (codes "unsettled ") t.unsettled
    ++ summary_line (codes "trials ") t.trials ++ summary_line (codes "tracked ") t.tracked

-- the summary of the session that a number stands for, over a plant
unfoldable pub drive_text : Plant → ℕ → List ℕ
drive_text plant n = summary_text n (tally_of plant (session_text n))
