-- The whole transcript was written, or a front of it.
use Rattle.lv_text.specs.Lines.{lines_of}
use Rattle.lv_serve.proofs.StandingLemmas.{waits_written, waits_front, ok_weaker, at_err}
use Rattle.lv_serve.proofs.serving.Serving.finish.Goals as goal

pub returns-clause-ok : goal.returns-clause-ok
returns-clause-ok g c =
    λ start read before at. ok_weaker c.hand_on.result
    (λ now. waits_written g.L.Responder.next g.L.Responder.says start (lines_of read) _ before _ _ (c.in_ok-answer_last.ensures.ok start read before at) now) c.hand_on.ensures.ok

pub returns-clause-err : goal.returns-clause-err
returns-clause-err g c =
    λ start read before at. at_err c.hand_on.result
    (waits_front g.L.Responder.next g.L.Responder.says start (lines_of read) _ before _ _ (c.in_ok-answer_last.ensures.ok start read before at) c.hand_on.ensures.front)
