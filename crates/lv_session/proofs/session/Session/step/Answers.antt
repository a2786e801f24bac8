-- a certificate is told of a settled query alone
use Rattle.std.proofs.lemmas.Result.{IfOk-weaker}
use Rattle.lv_session.proofs.StepLaws.{due_behind}
use Rattle.lv_session.proofs.session.Session.step.Goals as goal

pub returns-clause-due : goal.returns-clause-due
returns-clause-due c =
    IfOk-weaker c.answer-reply.result _ _ (λ reply made. due_behind c.self.inside.compiled.now c.deref_mut-2.result.now c.args.line.now c.answer-reply.new.state reply made) c.answer-reply.ensures.ok
