-- the marks gone through are counted
use Rattle.std.proofs.Common.{◌≡◌, ◌≤◌}
use Rattle.lv_search_parts.specs.Slots.{place_of}
use Rattle.lv_search_parts.specs.Parts.{ArePlaces}
use Rattle.lv_search_parts.proofs.part.places_of.Given as goal

abbrev pub invariant-loop-mark : goal.invariant-loop-mark
invariant-loop-mark l = record { places : ArePlaces l.marks l.mark-index l.places.items; now : l.place ≡ place_of l.marks l.mark-index; few : l.place ≤ l.mark-index }
