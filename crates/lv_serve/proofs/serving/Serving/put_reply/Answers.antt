-- The line was carried out, and its reply put behind those that wait.
use Rattle.std.proofs.Common.{◌≡◌, rules, ap, subst, List, ℕ, ◌∙◌}
use Rattle.lv_serve.specs.Unfinished.{shown}
use Rattle.lv_serve.specs.declared.serving.Serving.{Serving}
use Rattle.lv_serve.proofs.StandingLemmas.{replied_shown, ok_weaker}
use Rattle.lv_serve.proofs.serving.Serving.put_reply.Goals as goal

pub returns-clause-ok : goal.returns-clause-ok
returns-clause-ok g c =
    ok_weaker c.put_text.result
    (λ put. replied_shown g.L.Responder.next g.L.Responder.says c.answer.new.text.items c.args.self.now c.put_text.new.self
    (ap (λ (s : Serving g.row.L.Denot). s.at) put ∙ c.in_ok-answer.ensures.goes ∙ ap (λ (l : List ℕ). g.L.Responder.next c.args.self.now.at l) c.line.ensures)
    (ap (λ (s : Serving g.row.L.Denot). s.line) put)
    (subst (λ (l : List ℕ). g.L.Responder.says c.args.self.now.at l c.answer.new.text.items) c.line.ensures c.in_ok-answer.ensures.says)
    (ap (λ (s : Serving g.row.L.Denot). s.replies) put))
    c.put_text.ensures.ok
