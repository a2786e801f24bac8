-- Splits that leave no command set open.
use Rattle.std.specs.Prelude.{◌≡◌, true, List, [], ◌∷◌, Some}
use Rattle.lv_base.specs.declared.rank.Rank.{Rank}
use Rattle.lv_base.specs.declared.search.Pair.{Pair}
use Rattle.lv_model.specs.declared.plant.Plant.{Plant}
use Rattle.lv_search_zones.specs.Commands.{control_slots, command_zone}
use Rattle.lv_cert.specs.declared.line.Question.TheVariants.{Recovery}
use Rattle.lv_cert.specs.declared.line.Line.{Line}
use Rattle.lv_cert_laws.specs.lv_cert_meaning.Space.{Space, all_passed}
use Rattle.lv_cert_laws.specs.lv_cert_meaning.Judging.{Judged, full_to}
use Rattle.lv_cert_writing.specs.Splitting.{AreSplits}

-- where this is listed and excluded, the lines split the zone of all command sets until each part is passed
pub record AreClosing (plant : Plant) (listed : List Rank) (excluded : List (List Pair)) (splits : List Line) : Type 0 where
  pub space : Space
  pub split : (j : Judged) → j.space ≡ record { slots = control_slots plant; zones = Some (command_zone plant) ∷ [] } → j.listed ≡ listed → j.excluded ≡ excluded
      → AreSplits Recovery plant j splits (record j { space = space })
  pub passed : (j : Judged) → j.stated.k ≡ 1 → j.listed ≡ listed → all_passed space (full_to j) ≡ true
