-- what is kept has run to the end of the query's walk; and which query is current plays no part in what one comes to
use Rattle.std.proofs.Common.{sym, subst, ap, ap₂, ◌∙◌}
use Rattle.lv_boxes.specs.Walk.{Walked}
use Rattle.lv_reply.specs.declared.reply.Reply.{Reply}
use Rattle.lv_session_state.specs.State.{SessionState, reply_to}
use Rattle.lv_session_state.specs.Current.{IsKeptOf}
use Rattle.lv_session_state.proofs.Kept.{of_other_query, ran_to}
use Rattle.lv_session_state.proofs.state.State.ask.Goals as goal

pub returns-clause-ok : goal.returns-clause-ok
returns-clause-ok c =
    let came = ran_to c.args.query c.args.model.now c.args.self.now c.args.running.now c.run_on.new.running c.requires.on c.in_ok-run_on.ensures.kept in
    ap₂ (λ (s : SessionState) (r : Reply). record { state = record s { query = c.args.query }; reply = r }) c.self.view_is (c.in_ok-reply.ensures ∙ ap (λ (w : Walked). reply_to c.args.query w) (sym came))

pub returns-clause-running : goal.returns-clause-running
returns-clause-running c =
    record {
      current =
          subst (λ (s : SessionState). IsKeptOf c.args.query c.args.model.now (record s { query = c.args.query }) c.run_on.new.running) (sym c.self.view_is)
          (of_other_query c.args.query c.args.query c.args.model.now c.args.self.now c.run_on.new.running c.in_ok-run_on.ensures.kept);
      solver = c.in_ok-run_on.ensures.solver;
    }
