-- What was read and served, where the serving ends and where it goes on.
use Rattle.std.proofs.Common.{◌≡◌, ◌≢◌, ◌≤◌, rules, refl, ap, Err}
use Rattle.lv_serve.proofs.ReadLemmas.{nothing_read, not_read, all_served, last_unserved, past_limit, piece_unserved, quit_served, reads_on}
use Rattle.lv_serve.proofs.pieces.serve_all.Goals as goal

pub returns-in_err-n-clause-serves : goal.returns-in_err-n-clause-serves
returns-in_err-n-clause-serves g c =
    not_read g.L.Responder.next g.L.Responder.says g.L.Responder.has_ended _ _ _ _ _ _ _ _ c.read.invariant.reading c.from_residual.result c.in_err-n.field-0.0 c.from_residual.ensures.1
    (λ e. c.in_err-n.ensures.fault (ap Err e)) (λ e. c.in_err-n.ensures.short (ap Err e)) c.in_err-n.ensures.err

pub returns-in_err-finish-clause-serves : goal.returns-in_err-finish-clause-serves
returns-in_err-finish-clause-serves g c =
    let none : c.in_ok-n.n ≡ 0 = search rules in
    last_unserved g.L.Responder.next g.L.Responder.says g.L.Responder.has_ended _ _ _ _ _ _ _ _ c.read.invariant.reading _ _ c.in_ok-n.n c.in_ok-n.ensures.bytes _
    c.from_residual-in_err-finish.result c.in_err-finish.field-0.0 none c.from_residual-in_err-finish.ensures.1
    (c.in_err-finish.ensures.err _ c.read.invariant.reading.read _ c.read.invariant.reading.stands)

pub returns-then-n-eq0-clause-serves : goal.returns-then-n-eq0-clause-serves
returns-then-n-eq0-clause-serves g c =
    let none : c.in_ok-n.n ≡ 0 = search rules in
    all_served g.L.Responder.next g.L.Responder.says g.L.Responder.has_ended _ _ _ _ _ _ _ _ c.read.invariant.reading _ _ c.in_ok-n.n c.in_ok-n.ensures.bytes _ none
    (c.in_ok-finish.ensures.ok _ c.read.invariant.reading.read _ c.read.invariant.reading.stands)

pub returns-then-left-eq0-clause-serves : goal.returns-then-left-eq0-clause-serves
returns-then-left-eq0-clause-serves g c =
    let none : c.read.left ≡ 0 = search rules in
    let some : c.in_ok-n.n ≢ 0 = search rules in
    past_limit g.L.Responder.next g.L.Responder.says g.L.Responder.has_ended _ _ _ _ _ _ _ _ c.read.invariant.reading _ _ c.in_ok-n.n c.in_ok-n.ensures.bytes none some (search rules)

pub returns-in_err-serve_piece-clause-serves : goal.returns-in_err-serve_piece-clause-serves
returns-in_err-serve_piece-clause-serves g c =
    let fits : c.in_ok-n.n ≤ c.read.left = search rules in
    piece_unserved g.L.Responder.next g.L.Responder.says g.L.Responder.has_ended _ _ _ _ _ _ _ _ c.read.invariant.reading _ _ c.in_ok-n.n c.in_ok-n.ensures.bytes _
    c.from_residual-in_err-serve_piece.result c.in_err-serve_piece.field-0.0 fits c.from_residual-in_err-serve_piece.ensures.1
    (c.in_err-serve_piece.ensures.err _ c.read.invariant.reading.read _ c.read.invariant.reading.stands)

pub returns-then-is_ended-clause-serves : goal.returns-then-is_ended-clause-serves
returns-then-is_ended-clause-serves g c =
    let fits : c.in_ok-n.n ≤ c.read.left = search rules in
    quit_served g.L.Responder.next g.L.Responder.says g.L.Responder.has_ended _ _ _ _ _ _ _ _ c.read.invariant.reading _ _ c.in_ok-n.n c.in_ok-n.ensures.bytes _ _ fits
    (c.in_ok-serve_piece.ensures.ok _ c.read.invariant.reading.read _ c.read.invariant.reading.stands)
    c.in_ok-serve_piece.ensures.none (search rules)

pub read-preserved : goal.read-preserved
read-preserved g c =
    let fits : c.in_ok-n.n ≤ c.read.left = search rules in
    record {
      reading = reads_on g.L.Responder.next g.L.Responder.says g.L.Responder.has_ended _ _ _ _ _ _ _ _ c.read.invariant.reading _ _ c.in_ok-n.n c.in_ok-n.ensures.bytes _ _ fits
          (c.in_ok-serve_piece.ensures.ok _ c.read.invariant.reading.read _ c.read.invariant.reading.stands)
          c.in_ok-serve_piece.ensures.none (search rules);
      flushed = search rules;
      rests = search rules;
      known = search rules;
      opens = search rules;
      files = search rules;
      cause = search rules;
      others = search rules;
      sink = search rules;
    }

pub read-init : goal.read-init
read-init g c = record {
  reading = nothing_read g.L.Responder.next g.L.Responder.says g.L.Responder.has_ended _ _ _ c.requires.goes_on c.requires.line c.requires.none;
  flushed = λ e. e;
  rests = λ s other. refl;
  known = refl;
  opens = refl;
  files = refl;
  cause = refl;
  others = λ r other. refl;
  sink = refl;
}
