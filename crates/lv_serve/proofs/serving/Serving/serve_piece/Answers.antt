-- Where the serving stands once what waited is written, or what was written of it.
use Rattle.std.proofs.Common.{◌++◌}
use Rattle.lv_text.specs.Lines.{lines_of}
use Rattle.lv_serve.specs.Ends.{ended}
use Rattle.lv_serve.proofs.StandingLemmas.{stands_handed, waits_front, ok_both, at_err}
use Rattle.lv_serve.proofs.serving.Serving.serve_piece.Goals as goal

pub returns-clause-ok : goal.returns-clause-ok
returns-clause-ok g c =
    λ start read before at. ok_both c.hand_on.result
    (λ is now. stands_handed g.L.Responder.next g.L.Responder.says start (read ++ c.args.piece.now) before _ _ _ c.hand_on.new.self is now (c.in_ok-answer_lines.ensures.ok start read before at))
    c.hand_on.ensures.none c.hand_on.ensures.ok

pub returns-clause-err : goal.returns-clause-err
returns-clause-err g c =
    λ start read before at. at_err c.hand_on.result
    (waits_front g.L.Responder.next g.L.Responder.says start (lines_of (ended (read ++ c.args.piece.now))) _ before _ _ (c.in_ok-answer_lines.ensures.ok start read before at).waits c.hand_on.ensures.front)
