-- Zones are passed one behind the other.
use Rattle.std.proofs.Common.{◌≡◌, ℕ, zero, suc, ◌+◌, ◌<◌, true, false, ◌&&◌, List, [], ◌∷◌, length, drop, Option, sym, ◌∙◌, ap, arith}
use Rattle.std.specs.List.{list_all}
use Rattle.lv_base.specs.declared.ids.Cost.{Cost}
use Rattle.lv_base.specs.declared.rank.Rank.{Rank}
use Rattle.lv_boxes.specs.Members.{ZoneValue}
use Rattle.lv_split_zones.specs.Zones.{open_at}
use Rattle.lv_cert_meaning.specs.Space.{is_passed}

module _ (slots : List (List Cost)) (last : Option Rank) where
  -- where the zone at the place is passed, the ones behind it say whether all from it on are
  pub one_passed : (zones : List (Option ZoneValue)) (place : ℕ) → place < length zones → is_passed slots last (open_at zones place) ≡ true
      → list_all (is_passed slots last) (drop (place + 1) zones) ≡ list_all (is_passed slots last) (drop place zones)
  one_passed [] place h e = absurd (omega arith)
  one_passed (z ∷ zs) zero h e = sym (ap (λ b. b && list_all (is_passed slots last) zs) e)
  one_passed (z ∷ zs) (suc place) h e =
      let same : suc place + 1 ≡ suc (place + 1) = omega arith in
      ap (λ n. list_all (is_passed slots last) (drop n (z ∷ zs))) same ∙ one_passed zs place (omega arith) e

  -- where it isn't, not all are
  pub one_left : (zones : List (Option ZoneValue)) (place : ℕ) → place < length zones → is_passed slots last (open_at zones place) ≡ false
      → false ≡ list_all (is_passed slots last) (drop place zones)
  one_left [] place h e = absurd (omega arith)
  one_left (z ∷ zs) zero h e = sym (ap (λ b. b && list_all (is_passed slots last) zs) e)
  one_left (z ∷ zs) (suc place) h e = one_left zs place (omega arith) e
