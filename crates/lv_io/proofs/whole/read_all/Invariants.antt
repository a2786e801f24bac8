-- The bytes kept are what was taken of the slot, and fit the limit; nothing else of the shelf moved.
use Rattle.std.proofs.Common.{◌≡◌, ◌≢◌, ◌-◌, ◌≤◌, length}
use Rattle.std.specs.Io.KnownBytes.{prepend_known}
use Rattle.lv_io.specs.declared.Role.{Role}
use Rattle.lv_io.specs.declared.Slot.{Slot}
use Rattle.lv_io.proofs.whole.read_all.Given as goal

abbrev pub invariant-read : goal.invariant-read
invariant-read g l = record {
  within : length l.bytes.items ≤ l.limit;
  taken : g.F.Shelf.rest l.fn.shelf l.slot ≡ prepend_known l.bytes.items (g.F.Shelf.rest l.shelf l.slot);
  left : (s : Slot) → s ≢ l.slot → g.F.Shelf.rest l.shelf s ≡ g.F.Shelf.rest l.fn.shelf s;
  known : g.F.Shelf.knows l.shelf ≡ g.F.Shelf.knows l.fn.shelf;
  opens : g.F.Shelf.opens l.shelf ≡ g.F.Shelf.opens l.fn.shelf;
  files : g.F.Shelf.file l.shelf ≡ g.F.Shelf.file l.fn.shelf;
  cause : g.F.Shelf.faults l.shelf l.slot.role ≡ g.F.Shelf.faults l.fn.shelf l.slot.role;
  others : (r : Role) → r ≢ l.slot.role → g.F.Shelf.faults l.shelf r ≡ g.F.Shelf.faults l.fn.shelf r;
}

abbrev pub decreases-read : goal.decreases-read
decreases-read g l = l.limit - length l.bytes.items
