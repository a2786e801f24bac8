-- What a settled search of a recovery leaves for a certificate to show.
use Rattle.std.specs.Prelude.{◌≡◌, ℕ, true, false, List, [], ◌∷◌, map}
use Rattle.lv_base.specs.declared.rank.Rank.{Rank}
use Rattle.lv_base.specs.declared.search.Pair.{Pair}
use Rattle.lv_base.specs.Choices.{pairs_of}
use Rattle.lv_model.specs.declared.plant.Plant.{Plant}
use Rattle.lv_meaning.specs.declared.aim.Aim.{Aim}
use Rattle.lv_meaning.specs.Recovers.{recovers}
use Rattle.lv_meaning.specs.Commands.{is_command_set, command_rank}
use Rattle.lv_meaning.specs.Recovery.{command_reason}

-- the reason of a command set that doesn't recover
pub record IsReason (plant : Plant) (aim : Aim) (pairs : List Pair) : Type 0 where
  pub values : List ℕ
  pub set : is_command_set plant values ≡ true
  pub fails : recovers plant aim values ≡ false
  pub reason : pairs ≡ command_reason plant aim values

-- a command set that recovers, with its rank
pub record IsRecovering (plant : Plant) (aim : Aim) (r : Rank) : Type 0 where
  pub set : is_command_set plant r.choices ≡ true
  pub recovers : recovers plant aim r.choices ≡ true
  pub rank : command_rank plant r.choices ≡ r

-- the choices of pairs
abbrev pub choices_of : List Pair → List ℕ
choices_of pairs = map (λ (p : Pair). p.choice) pairs

-- the pairs are a value for each control
pub record AreValues (plant : Plant) (pairs : List Pair) : Type 0 where
  pub set : is_command_set plant (choices_of pairs) ≡ true
  pub all : pairs_of (choices_of pairs) ≡ pairs

-- they are of a command set that recovers
pub record IsGiven (plant : Plant) (aim : Aim) (pairs : List Pair) : Type 0 where
  pub values : AreValues plant pairs
  pub recovers : recovers plant aim (choices_of pairs) ≡ true

-- the answer that they are
abbrev pub answer_of : Plant → List Pair → List Rank
answer_of plant pairs = command_rank plant (choices_of pairs) ∷ []
