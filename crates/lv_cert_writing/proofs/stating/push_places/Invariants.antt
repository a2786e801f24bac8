use Rattle.std.proofs.Common.{◌≡◌, ◌++◌, drop}
use Rattle.lv_cert_writing.specs.Lines.{numbers_of}
use Rattle.lv_cert_writing.proofs.stating.push_places.Given as goal

abbrev pub invariant-loop-place : goal.invariant-loop-place
invariant-loop-place l = l.out ++ numbers_of (drop l.place-index l.places) ≡ l.initial.out ++ numbers_of l.places
