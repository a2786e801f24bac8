use Rattle.std.proofs.Common.{◌≡◌, length, take}
use Rattle.std.specs.List.{fold, flat_map}
use Rattle.std.specs.Hash as fed
use Rattle.lv_base.specs.declared.ids.ValId.{ValId}
use Rattle.lv_tracker.proofs.distinct.ByModesHash.hash.Given as goal

-- the number of modes and the first of them are written
abbrev pub invariant-loop-mode : goal.invariant-loop-mode
invariant-loop-mode g l =
    l.state ≡ fold g.H.Hasher.write (fold g.H.Hasher.write l.fn.state (fed.usize (length l.modes))) (flat_map (λ (m : ValId). fed.u32 m.0) (take l.mode-index l.modes))
