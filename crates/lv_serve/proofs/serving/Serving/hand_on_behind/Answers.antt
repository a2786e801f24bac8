-- What was written where the line was not answered, or its reply not handed on.
use Rattle.lv_serve.proofs.StandingLemmas.{at_err, answered_so, either_front, unanswered_front}
use Rattle.lv_serve.proofs.serving.Serving.hand_on_behind.Goals as goal

pub returns-in_err-hand_on_if-clause-err : goal.returns-in_err-hand_on_if-clause-err
returns-in_err-hand_on_if-clause-err g c =
    λ before replied kept. at_err c.from_residual.result
    (either_front g.L.Responder.next g.L.Responder.says c.args.answered before _ _ _ replied kept c.hand_on_if.ensures.front)

pub returns-in_err-answered-clause-err : goal.returns-in_err-answered-clause-err
returns-in_err-answered-clause-err g c =
    λ before replied kept. at_err c.from_residual-in_err-answered.result
    (unanswered_front g.L.Responder.next g.L.Responder.says c.args.answered c.in_err-answered.field-0.0 before c.args.self.now c.hand_on_if.new.self
    _ _ c.in_err-answered.was kept c.in_ok-hand_on_if.ensures.ok)

pub returns-clause-ok : goal.returns-clause-ok
returns-clause-ok g c =
    λ before replied. answered_so g.L.Responder.next g.L.Responder.says c.args.answered _ before c.args.self.now c.hand_on_if.new.self _ _ c.in_ok-answered.was replied c.in_ok-hand_on_if.ensures.ok
