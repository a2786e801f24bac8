-- What is left of the piece leads where the whole piece does.
use Rattle.std.proofs.Common.{◌≡◌, length, true}
use Rattle.lv_serve.proofs.PieceLemmas.{Leads}
use Rattle.lv_serve.proofs.serving.Serving.answer_lines.Given as goal

abbrev pub invariant-loop-whole : goal.invariant-loop-whole
invariant-loop-whole g l = record {
  leads : Leads g.L.Responder.next g.L.Responder.says l.fn.piece l.fn.self (g.O.Sink.text l.fn.out) l.rest l.self (g.O.Sink.text l.out);
  flushed : g.O.Sink.is_flushed l.fn.out ≡ true → g.O.Sink.is_flushed l.out ≡ true;
  faults : g.O.Sink.faults l.out ≡ g.O.Sink.faults l.fn.out;
}

abbrev pub decreases-loop-whole : goal.decreases-loop-whole
decreases-loop-whole g l = length l.rest
