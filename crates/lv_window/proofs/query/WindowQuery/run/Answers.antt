-- what the search says of its trial it says of the plant and what is known
use Rattle.std.proofs.Common.{◌≡◌, ℕ, ◌+◌, true, Bool, List, Option, length, subst, sym, ap, ◌∙◌}
use Rattle.std.specs.Result.{IfOk}
use Rattle.lv_base.specs.declared.rank.Rank.{Rank}
use Rattle.lv_boxes.specs.declared.outcome.Outcome.TheVariants.{Settled}
use Rattle.lv_boxes.specs.Walk.{distinct_walk}
use Rattle.lv_boxes.specs.Groups.{alike_by}
use Rattle.lv_search.specs.Standing.{trials_of, all_suit, first_fitting, IsUnderWay}
use Rattle.lv_window.specs.Trajectories.{trajectories}
use Rattle.lv_window.specs.Possible.{is_possible_trajectory}
use Rattle.lv_window.specs.Walk.{window_reason, window_walk, first_trajectories}
use Rattle.lv_window.specs.Joints.{is_full_window}
use Rattle.lv_window.proofs.ZoneLemmas.{trajectories_are_full}
use Rattle.lv_window.specs.Trial.{WindowTrialValue}
use Rattle.lv_window.specs.Query.{WindowQueryValue, IsWindowQueryOf}
use Rattle.lv_window.proofs.QueryLemmas.{of_three}
use Rattle.lv_window.proofs.query.WindowQuery.run.Goals as goal

pub returns-clause-walk : goal.returns-clause-walk
returns-clause-walk c tracked is =
    let here : IsWindowQueryOf tracked (record { plant = c.self.inside.trial.plant; steps = c.self.inside.trial.steps; standing = c.self.inside.search.standing }) = subst (λ (q : WindowQueryValue). IsWindowQueryOf tracked q) (sym c.self.view_is) is in
    let entries : List Rank = trajectories c.self.inside.trial.plant (length c.self.inside.trial.steps) tracked in
    subst (λ (q : WindowQueryValue).
    IfOk c.run.result (λ outcome. window_walk q.plant q.steps q.standing.k (trials_of q.standing + c.args.more) (trajectories q.plant (length q.steps) tracked)
    ≡ record { outcome = outcome; listed = c.run.new.self.standing.listed; kept = c.run.new.self.standing.kept })) c.self.view_is
    (subst (λ (alike : Rank → Rank → Bool). IfOk c.run.result (λ outcome. distinct_walk alike (is_possible_trajectory c.self.inside.trial.plant c.self.inside.trial.steps) (window_reason c.self.inside.trial.plant c.self.inside.trial.steps)
    c.self.inside.search.standing.k (trials_of c.self.inside.search.standing + c.args.more) entries
    ≡ record { outcome = outcome; listed = c.run.new.self.standing.listed; kept = c.run.new.self.standing.kept }))
    (ap alike_by here.groups)
    (c.run.ensures.walk entries here.under_way))

pub returns-clause-first : goal.returns-clause-first
returns-clause-first c tracked is =
    let here : IsWindowQueryOf tracked (record { plant = c.self.inside.trial.plant; steps = c.self.inside.trial.steps; standing = c.self.inside.search.standing }) = subst (λ (q : WindowQueryValue). IsWindowQueryOf tracked q) (sym c.self.view_is) is in
    let entries : List Rank = trajectories c.self.inside.trial.plant (length c.self.inside.trial.steps) tracked in
    subst (λ (q : WindowQueryValue). IfOk c.run.result (λ outcome. outcome ≡ Settled → c.run.new.self.standing.listed ≡ first_trajectories q.standing.k q.plant q.steps tracked)) c.self.view_is
    (subst (λ (groups : Option (List (List ℕ))). IfOk c.run.result (λ outcome. outcome ≡ Settled
    → c.run.new.self.standing.listed ≡ first_fitting groups c.self.inside.search.standing.k (is_possible_trajectory c.self.inside.trial.plant c.self.inside.trial.steps) entries)) here.groups
    (c.run.ensures.first entries here.under_way (trajectories_are_full c.self.inside.trial.plant (length c.self.inside.trial.steps) tracked)))

pub returns-clause-query : goal.returns-clause-query
returns-clause-query c tracked is =
    let here : IsWindowQueryOf tracked (record { plant = c.self.inside.trial.plant; steps = c.self.inside.trial.steps; standing = c.self.inside.search.standing }) = subst (λ (q : WindowQueryValue). IsWindowQueryOf tracked q) (sym c.self.view_is) is in
    let entries : List Rank = trajectories c.self.inside.trial.plant (length c.self.inside.trial.steps) tracked in
    subst (λ (t : WindowTrialValue). IfOk c.run.result (λ _. IsWindowQueryOf tracked (record { plant = t.plant; steps = t.steps; standing = c.run.new.self.standing }))) (sym c.run.ensures.same)
    (of_three c.run.result
    (λ _. IsUnderWay (is_full_window c.self.inside.trial.plant (length c.self.inside.trial.steps)) (is_possible_trajectory c.self.inside.trial.plant c.self.inside.trial.steps) (window_reason c.self.inside.trial.plant c.self.inside.trial.steps) entries c.run.new.self.standing)
    (λ _. all_suit (is_full_window c.self.inside.trial.plant (length c.self.inside.trial.steps)) c.run.new.self.standing ≡ true)
    (λ _. c.run.new.self.standing.groups ≡ c.self.inside.search.standing.groups) _
    (λ _ way suit same. record { under_way = way; suit = suit; groups = same ∙ here.groups })
    (c.run.ensures.under_way entries here.under_way)
    c.run.ensures.suit
    c.run.ensures.groups)
