-- How far each line of a piece leads.
use Rattle.std.proofs.Common.{◌≡◌, ◌-◌, rules, refl, take, false}
use Rattle.std.specs.List.{list_any}
use Rattle.lv_text.specs.Lines.{is_line_feed}
use Rattle.lv_serve.proofs.EndLemmas.{first_cut}
use Rattle.lv_serve.proofs.StandingLemmas.{at_err}
use Rattle.lv_serve.proofs.PieceLemmas.{leads_on, leads_nowhere, leads_pushed, leads_front}
use Rattle.lv_serve.proofs.serving.Serving.answer_lines.Goals as goal

pub end_line-requires : goal.end_line-requires
end_line-requires g c = (first_cut c.loop-whole.rest.now c.in-Some.field-0-0 c.in-Some.whole (search rules)).1

pub returns-in_err-end_line-clause-err : goal.returns-in_err-end_line-clause-err
returns-in_err-end_line-clause-err g c =
    λ start read before at. at_err c.from_residual.result
    (leads_nowhere g.L.Responder.next g.L.Responder.says _ _ _ _ (take (c.in-Some.whole - 1) c.loop-whole.rest.now) c.in-Some.whole _ _ _
    (first_cut c.loop-whole.rest.now c.in-Some.field-0-0 c.in-Some.whole (search rules)).0
    c.loop-whole.invariant.leads c.in_err-end_line.ensures.err start read before at)

pub loop-whole-preserved : goal.loop-whole-preserved
loop-whole-preserved g c = record {
  leads = leads_on g.L.Responder.next g.L.Responder.says _ _ _ _ (take (c.in-Some.whole - 1) c.loop-whole.rest.now) c.in-Some.whole _ _ _ _
      (first_cut c.loop-whole.rest.now c.in-Some.field-0-0 c.in-Some.whole (search rules)).0
      c.loop-whole.invariant.leads c.in_ok-end_line.ensures.ok;
  flushed = search rules;
  faults = search rules;
}

pub returns-in_err-push-clause-err : goal.returns-in_err-push-clause-err
returns-in_err-push-clause-err g c =
    λ start read before at. at_err c.from_residual-in_err-push.result
    (leads_front g.L.Responder.next g.L.Responder.says _ _ _ _ _ _ c.loop-whole.invariant.leads start read before at)

pub returns-clause-ok : goal.returns-clause-ok
returns-clause-ok g c =
    let none : list_any is_line_feed c.loop-whole.rest.now ≡ false = search rules in
    λ start read before at. leads_pushed g.L.Responder.next g.L.Responder.says _ _ _ _ _ _ _ none refl refl c.in_ok-push.ensures.ok c.loop-whole.invariant.leads start read before at
