use Rattle.std.proofs.Common.{◌≡◌, map, take}
use Rattle.lv_model_entries.specs.Entries.{law_in}
use Rattle.lv_model_entries.proofs.entries.laws_in.Given as goal

-- the law holds in the modes so far
abbrev pub invariant-modes : goal.invariant-modes
invariant-modes l = l.laws.items ≡ map (law_in l.law) (take l.mode-index l.modes)
