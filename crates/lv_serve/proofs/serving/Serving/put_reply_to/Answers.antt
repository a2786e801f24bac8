-- The line without the carriage return at its end is what is shown of it where it is kept.
use Rattle.std.proofs.Common.{◌≡◌, take, ap, subst, List, ℕ, ◌∙◌}
use Rattle.std.specs.Str.Lines.{strip_carriage_return}
use Rattle.lv_serve.specs.declared.serving.Serving.{Serving}
use Rattle.lv_serve.proofs.ConversationLemmas.{strip_front}
use Rattle.lv_serve.proofs.StandingLemmas.{replied_whole, ok_weaker}
use Rattle.lv_serve.proofs.serving.Serving.put_reply_to.Goals as goal

pub returns-clause-ok : goal.returns-clause-ok
returns-clause-ok g c =
    let cut : take c.last_line.result c.args.line.now ≡ strip_carriage_return c.args.line.now =
    ap (λ (k : ℕ). take k c.args.line.now) c.last_line.ensures ∙ strip_front c.args.line.now in
    ok_weaker c.put_text.result
    (λ put. replied_whole g.L.Responder.next g.L.Responder.says g.met.L.Responder.long_goes g.met.L.Responder.long_says c.args.line.now c.answer.new.text.items c.args.self.now c.put_text.new.self
    (ap (λ (s : Serving g.row.L.Denot). s.at) put ∙ c.in_ok-answer.ensures.goes ∙ ap (λ (l : List ℕ). g.L.Responder.next c.args.self.now.at l) cut)
    (ap (λ (s : Serving g.row.L.Denot). s.line) put)
    (subst (λ (l : List ℕ). g.L.Responder.says c.args.self.now.at l c.answer.new.text.items) cut c.in_ok-answer.ensures.says)
    (ap (λ (s : Serving g.row.L.Denot). s.replies) put))
    c.put_text.ensures.ok
