-- The bytes before `written` are what was added to the text, and no fault came.
use Rattle.std.proofs.Common.{◌≡◌, ◌-◌, ◌≤◌, length, take}
use Rattle.std.specs.Io.KnownBytes.{append_known}
use Rattle.lv_io.specs.Outside.{flushed_after}
use Rattle.lv_io.proofs.whole.write_all.Given as goal

abbrev pub invariant-loop-written : goal.invariant-loop-written
invariant-loop-written g l = record {
  within : l.written ≤ length l.bytes;
  text : g.O.Sink.text l.sink ≡ append_known (g.O.Sink.text l.fn.sink) (take l.written l.bytes);
  flushed : g.O.Sink.is_flushed l.sink ≡ flushed_after (take l.written l.bytes) (g.O.Sink.is_flushed l.fn.sink);
  faults : g.O.Sink.faults l.sink ≡ g.O.Sink.faults l.fn.sink;
}

abbrev pub decreases-loop-written : goal.decreases-loop-written
decreases-loop-written g l = length l.bytes - l.written
