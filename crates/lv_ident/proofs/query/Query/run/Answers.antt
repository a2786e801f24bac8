-- what the search says of its trial it says of the plant and the facts
use Rattle.std.proofs.Common.{◌≡◌, ◌+◌, Bool, true, List, subst, sym, ap, ◌∙◌}
use Rattle.std.specs.Result.{IfOk}
use Rattle.lv_base.specs.declared.rank.Rank.{Rank}
use Rattle.lv_boxes.specs.Walk.{distinct_walk}
use Rattle.lv_boxes.specs.Groups.{alike_by}
use Rattle.lv_meaning.specs.Candidates.{candidates, is_possible_candidate}
use Rattle.lv_meaning.specs.Diagnosis.{reason_of, diagnosis_walk}
use Rattle.lv_search.specs.Standing.{trials_of, all_suit, IsUnderWay}
use Rattle.lv_search_zones.specs.Moves.{is_full_choice}
use Rattle.lv_ident.specs.Trial.{TrialValue}
use Rattle.lv_ident.specs.Query.{QueryValue, IsQueryOf}
use Rattle.lv_ident.proofs.QueryLemmas.{of_three, alike_is}
use Rattle.lv_ident.proofs.query.Query.run.Goals as goal

pub returns-clause-walk : goal.returns-clause-walk
returns-clause-walk c tracked is =
    let here : IsQueryOf tracked (record { plant = c.self.inside.trial.plant; facts = c.self.inside.trial.facts; distinct = c.self.inside.distinct; standing = c.self.inside.search.standing }) = subst (λ (q : QueryValue). IsQueryOf tracked q) (sym c.self.view_is) is in
    let entries : List Rank = candidates c.self.inside.trial.plant tracked in
    subst (λ (q : QueryValue).
    IfOk c.run.result (λ outcome. diagnosis_walk q.plant q.facts q.standing.k q.distinct (trials_of q.standing + c.args.more) (candidates q.plant tracked)
    ≡ record { outcome = outcome; listed = c.run.new.self.standing.listed; kept = c.run.new.self.standing.kept })) c.self.view_is
    (subst (λ (alike : Rank → Rank → Bool). IfOk c.run.result (λ outcome. distinct_walk alike (is_possible_candidate c.self.inside.trial.plant c.self.inside.trial.facts) (reason_of c.self.inside.trial.plant c.self.inside.trial.facts)
    c.self.inside.search.standing.k (trials_of c.self.inside.search.standing + c.args.more) entries
    ≡ record { outcome = outcome; listed = c.run.new.self.standing.listed; kept = c.run.new.self.standing.kept }))
    (ap alike_by here.groups ∙ alike_is c.self.inside.distinct c.self.inside.trial.plant)
    (c.run.ensures.walk entries here.under_way))

pub returns-clause-query : goal.returns-clause-query
returns-clause-query c tracked is =
    let here : IsQueryOf tracked (record { plant = c.self.inside.trial.plant; facts = c.self.inside.trial.facts; distinct = c.self.inside.distinct; standing = c.self.inside.search.standing }) = subst (λ (q : QueryValue). IsQueryOf tracked q) (sym c.self.view_is) is in
    let entries : List Rank = candidates c.self.inside.trial.plant tracked in
    subst (λ (t : TrialValue). IfOk c.run.result (λ _. IsQueryOf tracked (record { plant = t.plant; facts = t.facts; distinct = c.self.inside.distinct; standing = c.run.new.self.standing }))) (sym c.run.ensures.same)
    (of_three c.run.result
    (λ _. IsUnderWay (is_full_choice c.self.inside.trial.plant) (is_possible_candidate c.self.inside.trial.plant c.self.inside.trial.facts) (reason_of c.self.inside.trial.plant c.self.inside.trial.facts) entries c.run.new.self.standing)
    (λ _. all_suit (is_full_choice c.self.inside.trial.plant) c.run.new.self.standing ≡ true)
    (λ _. c.run.new.self.standing.groups ≡ c.self.inside.search.standing.groups) _
    (λ _ way suit same. record { under_way = way; suit = suit; groups = same ∙ here.groups })
    (c.run.ensures.under_way entries here.under_way)
    c.run.ensures.suit
    c.run.ensures.groups)
