use Rattle.std.proofs.Common.{◌≡◌, drop}
use Rattle.lv_model_entries.specs.Entries.{mode_places}
use Rattle.lv_model_entries.proofs.PlaceLists.{joined_places}
use Rattle.lv_model_entries.proofs.entries.mode_places.Given as goal

-- the modes so far and those that are left are all
abbrev pub invariant-names : goal.invariant-names
invariant-names l = joined_places l.modes.items (mode_places l.of (drop l.name-index l.names)) ≡ mode_places l.of l.names
