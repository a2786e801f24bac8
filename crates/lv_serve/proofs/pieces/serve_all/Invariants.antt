-- What was read is served, and nothing else moved.
use Rattle.std.proofs.Common.{◌≡◌, ◌≢◌, true}
use Rattle.lv_io.specs.declared.Role.{Role}
use Rattle.lv_io.specs.declared.Slot.{Slot}
use Rattle.lv_serve.proofs.ReadLemmas.{Reading}
use Rattle.lv_serve.proofs.pieces.serve_all.Given as goal

abbrev pub invariant-read : goal.invariant-read
invariant-read g l = record {
  reading : Reading g.L.Responder.next g.L.Responder.says g.L.Responder.has_ended l.fn.serving.at (g.F.Shelf.rest l.fn.shelf l.slot) (g.F.Shelf.rest l.shelf l.slot) l.left (g.O.Sink.text l.fn.out) l.serving (g.O.Sink.text l.out);
  flushed : g.O.Sink.is_flushed l.fn.out ≡ true → g.O.Sink.is_flushed l.out ≡ true;
  rests : (s : Slot) → s ≢ l.slot → g.F.Shelf.rest l.shelf s ≡ g.F.Shelf.rest l.fn.shelf s;
  known : g.F.Shelf.knows l.shelf ≡ g.F.Shelf.knows l.fn.shelf;
  opens : g.F.Shelf.opens l.shelf ≡ g.F.Shelf.opens l.fn.shelf;
  files : g.F.Shelf.file l.shelf ≡ g.F.Shelf.file l.fn.shelf;
  cause : g.F.Shelf.faults l.shelf l.slot.role ≡ g.F.Shelf.faults l.fn.shelf l.slot.role;
  others : (r : Role) → r ≢ l.slot.role → g.F.Shelf.faults l.shelf r ≡ g.F.Shelf.faults l.fn.shelf r;
  sink : g.O.Sink.faults l.out ≡ g.O.Sink.faults l.fn.out;
}

abbrev pub decreases-read : goal.decreases-read
decreases-read g l = l.left
