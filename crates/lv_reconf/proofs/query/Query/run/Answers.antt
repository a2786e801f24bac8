-- what the search says of its trial it says of the plant and the aim
use Rattle.std.proofs.Common.{◌≡◌, ◌+◌, ◌≤◌, ℕ, List, true, subst, sym, ◌∙◌}
use Rattle.std.specs.Prelude.{Option}
use Rattle.std.specs.Result.{IfOk}
use Rattle.lv_meaning.specs.lv_boxes.Walk.{distinct_walk}
use Rattle.lv_meaning.specs.lv_boxes.Groups.{alike_by}
use Rattle.lv_meaning.specs.Commands.{command_sets}
use Rattle.lv_meaning.specs.Recovery.{candidate_recovers, candidate_reason, recovery_walk}
use Rattle.lv_search.specs.Standing.{trials_of, all_suit, IsUnderWay}
use Rattle.lv_reconf.specs.Judging.{candidate_commands}
use Rattle.lv_reconf.specs.Query.{QueryValue, IsQuery}
use Rattle.lv_reconf.specs.Trying.{Question}
use Rattle.lv_reconf.proofs.QueryLemmas.{of_setting, of_four}
use Rattle.lv_reconf.proofs.query.Query.run.Goals as goal

pub run-requires-clause-suit : goal.run-requires-clause-suit
run-requires-clause-suit c =
    subst (λ (t : Question). all_suit (candidate_commands t.plant) c.self.inside.search.standing ≡ true) (sym c.in_ok-trial.ensures)
    (subst (λ (q : QueryValue). all_suit (candidate_commands q.plant) q.standing ≡ true) (sym c.self.view_is) c.requires.suit)

pub returns-clause-walk : goal.returns-clause-walk
returns-clause-walk c is =
    let s : Question = c.self.inside.setting in
    let here : IsQuery (record { plant = s.plant; aim = s.aim; standing = c.self.inside.search.standing }) = subst (λ (q : QueryValue). IsQuery q) (sym c.self.view_is) is in
    let budget : ℕ = trials_of c.self.inside.search.standing + c.args.more in
    subst (λ (q : QueryValue).
    IfOk c.run.result (λ outcome. recovery_walk q.plant q.aim (trials_of q.standing + c.args.more)
    ≡ record { outcome = outcome; listed = c.run.new.self.standing.listed; kept = c.run.new.self.standing.kept })) c.self.view_is
    (subst (λ (groups : Option (List (List ℕ))). IfOk c.run.result (λ outcome. distinct_walk (alike_by groups) (candidate_recovers s.plant s.aim) (candidate_reason s.plant s.aim) 1 budget (command_sets s.plant)
    ≡ record { outcome = outcome; listed = c.run.new.self.standing.listed; kept = c.run.new.self.standing.kept })) here.plain
    (subst (λ (k : ℕ). IfOk c.run.result (λ outcome. distinct_walk (alike_by c.self.inside.search.standing.groups) (candidate_recovers s.plant s.aim) (candidate_reason s.plant s.aim) k budget (command_sets s.plant)
    ≡ record { outcome = outcome; listed = c.run.new.self.standing.listed; kept = c.run.new.self.standing.kept })) here.one
    (of_setting s c.in_ok-trial.trial c.in_ok-trial.ensures
    (λ suits fits reason. IsUnderWay suits fits reason (command_sets s.plant) c.self.inside.search.standing
    → IfOk c.run.result (λ outcome. distinct_walk (alike_by c.self.inside.search.standing.groups) fits reason c.self.inside.search.standing.k budget (command_sets s.plant)
    ≡ record { outcome = outcome; listed = c.run.new.self.standing.listed; kept = c.run.new.self.standing.kept }))
    (c.run.ensures.walk (command_sets s.plant)) here.under_way)))

pub returns-clause-query : goal.returns-clause-query
returns-clause-query c is =
    let s : Question = c.self.inside.setting in
    let here : IsQuery (record { plant = s.plant; aim = s.aim; standing = c.self.inside.search.standing }) = subst (λ (q : QueryValue). IsQuery q) (sym c.self.view_is) is in
    of_four c.run.result
    (λ _. IsUnderWay (candidate_commands s.plant) (candidate_recovers s.plant s.aim) (candidate_reason s.plant s.aim) (command_sets s.plant) c.run.new.self.standing)
    (λ _. all_suit (candidate_commands s.plant) c.run.new.self.standing ≡ true)
    (λ _. c.run.new.self.standing.k ≡ c.self.inside.search.standing.k)
    (λ _. c.run.new.self.standing.groups ≡ c.self.inside.search.standing.groups) _
    (λ _ way suit same plain. record { under_way = way; suit = suit; one = same ∙ here.one; plain = plain ∙ here.plain })
    (of_setting s c.in_ok-trial.trial c.in_ok-trial.ensures
    (λ suits fits reason. IsUnderWay suits fits reason (command_sets s.plant) c.self.inside.search.standing → IfOk c.run.result (λ _. IsUnderWay suits fits reason (command_sets s.plant) c.run.new.self.standing))
    (c.run.ensures.under_way (command_sets s.plant)) here.under_way)
    (of_setting s c.in_ok-trial.trial c.in_ok-trial.ensures (λ suits fits reason. IfOk c.run.result (λ _. all_suit suits c.run.new.self.standing ≡ true)) c.run.ensures.suit)
    c.run.ensures.k c.run.ensures.groups

pub returns-clause-suit : goal.returns-clause-suit
returns-clause-suit c =
    of_setting c.self.inside.setting c.in_ok-trial.trial c.in_ok-trial.ensures (λ suits fits reason. IfOk c.run.result (λ _. all_suit suits c.run.new.self.standing ≡ true)) c.run.ensures.suit

pub returns-clause-few : goal.returns-clause-few
returns-clause-few c =
    subst (λ (q : QueryValue). IfOk c.run.result (λ _. trials_of c.run.new.self.standing ≤ trials_of q.standing + c.args.more)) c.self.view_is c.run.ensures.few

pub returns-clause-k : goal.returns-clause-k
returns-clause-k c = subst (λ (q : QueryValue). IfOk c.run.result (λ _. c.run.new.self.standing.k ≡ q.standing.k)) c.self.view_is c.run.ensures.k
