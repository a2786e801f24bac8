-- What the texts of replies begin with, and what is counted of them.
use Rattle.std.specs.Prelude.{◌≡◌, ◌≢◌, ℕ, ◌+◌, Bool, true, false, nat_eq, ◌&&◌, List, [], ◌∷◌, if◌then◌else◌, codes}
use Rattle.lv_model.specs.declared.plant.Plant.{Plant}
use Rattle.lv_reply.specs.declared.reply.Reply.{Reply}
use Rattle.lv_reply.specs.Texts.{reply_text}
use Rattle.lv_run.specs.declared.tally.Tally.{Tally}
use Rattle.lv_run.specs.Tallies.{counted}

-- the text begins with the word
abbrev pub begins_with : List ℕ → List ℕ → Bool
begins_with [] text = true
begins_with (w ∷ ws) [] = false
begins_with (w ∷ ws) (b ∷ bs) = nat_eq b w && begins_with ws bs

-- the number is one more where the text begins with the word
abbrev pub one_more_where : List ℕ → List ℕ → ℕ → ℕ
one_more_where word text n = if begins_with word text then n + 1 else n

-- what a reply adds to the counts
pub record CountsFront (plant : Plant) (t : Tally) (reply : Reply) : Type 0 where
  pub errors : (counted t reply).errors ≡ one_more_where (codes "error ") (reply_text plant reply) t.errors
  pub settled : (counted t reply).settled ≡ one_more_where (codes "settled ") (reply_text plant reply) t.settled
  pub unsettled : (counted t reply).unsettled ≡ one_more_where (codes "unsettled ") (reply_text plant reply) t.unsettled
  pub trials : begins_with (codes "conflicts ") (reply_text plant reply) ≡ false → (counted t reply).trials ≡ t.trials
  pub replies : reply_text plant reply ≢ [] → (counted t reply).replies ≡ t.replies + 1

-- of every reply
abbrev pub CountsAreOfFronts : Type 0
CountsAreOfFronts = (plant : Plant) (t : Tally) (reply : Reply) → CountsFront plant t reply
