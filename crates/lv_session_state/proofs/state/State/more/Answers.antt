-- what is kept goes on; all trials made before and those to come fit
use Rattle.std.proofs.Common.{◌≡◌, ◌+◌, ◌<◌, ◌^◌, true, false, sym, ap, subst, ◌∙◌, rules}
use Rattle.lv_model.specs.declared.plant.Plant.{Plant}
use Rattle.lv_model.specs.WellFormed.{is_well_formed}
use Rattle.lv_boxes.specs.declared.outcome.Outcome.TheVariants.{Unsettled}
use Rattle.std.proofs.lemmas.Result.{IfOk-weaker}
use Rattle.lv_session_state.specs.declared.query.Query.{Query}
use Rattle.lv_session_state.specs.State.{SessionState, trials, sum_of, with_more, is_asked, is_settled, asked}
use Rattle.lv_session_state.specs.Current.{kept_walk, IsOn}
use Rattle.lv_session_state.proofs.Kept.{HasRoom, has_room, goes_on, more_asks, walks_on}
use Rattle.lv_session_state.proofs.state.State.more.Goals as goal

pub with_more-query-requires : goal.with_more-query-requires
with_more-query-requires c =
    let well : is_well_formed c.args.model.now ≡ true = subst (λ (p : Plant). is_well_formed p ≡ true) c.plant-plant.ensures.plant c.plant-plant.ensures.well_formed in
    let current : is_asked c.args.self.now.query ≡ true = search rules in
    let unsettled : (kept_walk c.args.running.now).outcome ≡ Unsettled = search rules in
    subst (λ (s : SessionState). sum_of s.query + c.args.n < 2 ^ 64) (sym c.self.view_is)
    (has_room c.args.self.now.query c.args.model.now c.args.self.now c.args.running.now c.args.n c.trials-made.result well c.requires.state current c.requires.running unsettled
    c.trials-made.ensures.trials c.trials-made.ensures.room c.requires.few).query

pub ask-requires : goal.ask-requires
ask-requires c =
    let well : is_well_formed c.args.model.now ≡ true = subst (λ (p : Plant). is_well_formed p ≡ true) c.plant-plant.ensures.plant c.plant-plant.ensures.well_formed in
    let current : is_asked c.args.self.now.query ≡ true = search rules in
    let unsettled : (kept_walk c.args.running.now).outcome ≡ Unsettled = search rules in
    let room : HasRoom c.args.self.now.query c.args.running.now c.args.n =
    has_room c.args.self.now.query c.args.model.now c.args.self.now c.args.running.now c.args.n c.trials-made.result well c.requires.state current c.requires.running unsettled
    c.trials-made.ensures.trials c.trials-made.ensures.room c.requires.few in
    let query = sym (c.with_more-query.ensures ∙ ap (λ (s : SessionState). with_more s.query c.args.n) c.self.view_is) in
    record {
      on = subst (λ (q : Query). IsOn q c.args.model.now c.args.self.now c.args.running.now) query (goes_on c.args.self.now.query c.args.n c.args.model.now c.args.self.now c.args.running.now current c.requires.running);
      sum = subst (λ (q : Query). trials (kept_walk c.args.running.now) + c.args.n ≡ sum_of q) query room.sum;
      room = room.room;
      solver = c.requires.solver;
    }

pub returns-clause-ok : goal.returns-clause-ok
returns-clause-ok c =
    let current : is_asked c.args.self.now.query ≡ true = search rules in
    let free : is_settled c.args.self.now.query c.args.model.now c.args.self.now ≡ false = search rules in
    let query = c.with_more-query.ensures ∙ ap (λ (s : SessionState). with_more s.query c.args.n) c.self.view_is in
    let goes = ap (λ (q : Query). asked q c.args.model.now c.args.self.now) query
    ∙ more_asks c.args.self.now.query c.args.n c.args.model.now c.args.self.now current (walks_on c.args.self.now.query c.args.model.now c.args.self.now free) in
    IfOk-weaker c.ask.result _ _ (λ reply h. h ∙ goes) c.ask.ensures.ok
