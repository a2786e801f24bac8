-- What holds of the verdicts on models.
use Rattle.std.specs.Prelude.{ℕ, List}
use Rattle.lv_model.specs.declared.plant.Plant.{Plant}
use Rattle.lv_checker.specs.Verdicts.{IsVerdict, accepted}
use Rattle.lv_gen.specs.Series.{model_text}
use Rattle.lv_checker.specs.Reading.{verdict_on}

-- every bytes have the verdict that the function tells
abbrev pub VerdictExists : Type 0
VerdictExists = (bytes : List ℕ) → IsVerdict bytes (verdict_on bytes)

-- the bytes give a plant
pub record IsAccepted (bytes : List ℕ) : Type 0 where
  pub plant : Plant
  pub verdict : IsVerdict bytes (accepted plant)

-- each text that is made for a number does
abbrev pub SeriesAreAccepted : Type 0
SeriesAreAccepted = (n : ℕ) → IsAccepted (model_text n)
