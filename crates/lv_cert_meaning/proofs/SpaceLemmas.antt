-- A split in the words of zones by their numbers.
use Rattle.std.proofs.Common.{◌≡◌, ℕ, ◌-◌, List, ◌++◌, map, Option, Some, None, Ok, Err, ◌∙◌, ap}
use Rattle.std.specs.Prelude.{OnOk, slice_set}
use Rattle.std.specs.Option.{option_and_then}
use Rattle.std.specs.declared.result.Result.{Result}
use Rattle.lv_base.specs.declared.ids.Cost.{Cost}
use Rattle.lv_boxes.specs.Members.{ZoneValue}
use Rattle.lv_cert_meaning.specs.Counting.{at_number}
use Rattle.lv_cert_meaning.specs.Space.{Space, same_zone, with_parts}

-- what is open at a number stands there
pub stands : (zones : List (Option ZoneValue)) (n : ℕ) (zone : ZoneValue) → option_and_then same_zone (at_number zones n) ≡ Some zone → at_number zones n ≡ Some (Some zone)
stands zones n zone e = by (at_number zones n) e
  where
    by : (o : Option (Option ZoneValue)) → option_and_then same_zone o ≡ Some zone → o ≡ Some (Some zone)
    by None h = absurd (cc h)
    by (Some o) h = ap Some h

-- the zones with one split, where there is no want of memory
pub split_gives : {X E : Type 0} (r : Result X E) (slots : List (List Cost)) (old new : List (Option ZoneValue)) (place n : ℕ) (parts : List ZoneValue) (s : Space) → record { slots = slots; zones = old } ≡ s → place ≡ n - 1
    → OnOk r (new ≡ slice_set old place None ++ map Some parts) → OnOk r (record { slots = slots; zones = new } ≡ with_parts s n parts)
split_gives (Ok x) slots old new place n parts s view same made_so =
    ap (λ (zones : List (Option ZoneValue)). record { slots = slots; zones = zones }) (made_so ∙ ap (λ k. slice_set old k None ++ map Some parts) same) ∙ ap (λ (t : Space). with_parts t n parts) view
split_gives (Err e) slots old new place n parts s view same made_so = tt
