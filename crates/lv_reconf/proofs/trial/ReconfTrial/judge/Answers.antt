-- what is counted and asked tells what the definitions say
use Rattle.std.proofs.Common.{◌≡◌, ◌≤◌, length, sym, subst, ap, ◌∙◌, arith}
use Rattle.lv_meaning.specs.declared.aim.Aim.{Aim}
use Rattle.lv_reconf.specs.declared.judged.Judged.TheVariants.{Recovers, Misses, Stops}
use Rattle.lv_reconf.specs.Judging.{Judges}
use Rattle.lv_reconf.specs.Trying.{ReachingValue, Question, some_can_miss}
use Rattle.lv_reconf.proofs.JudgeLemmas.{count_within, judged_misses, judged_recovers, judged_stops}
use Rattle.lv_reconf.proofs.trial.ReconfTrial.judge.Goals as goal

pub can_miss-requires-clause-within : goal.can_miss-requires-clause-within
can_miss-requires-clause-within c =
    subst (λ (r : ReachingValue). c.in_ok-count.count ≤ length r.aim.tracked) (sym c.count.ensures.kept)
    (count_within c.self.inside.reaching.plant c.self.inside.reaching.aim c.args.pairs.now c.in_ok-count.count c.in_ok-count.ensures.count)

pub returns-then-branch-clause-judges : goal.returns-then-branch-clause-judges
returns-then-branch-clause-judges c =
    λ u are.
    let r : ReachingValue = c.self.inside.reaching in
    let asked : c.in_ok-can_miss.field-0 ≡ some_can_miss r.plant r.aim c.in_ok-count.count c.args.pairs.now =
    c.in_ok-can_miss.ensures ∙ ap (λ (v : ReachingValue). some_can_miss v.plant v.aim c.in_ok-count.count c.args.pairs.now) c.count.ensures.kept
    in
    subst (λ (q : Question). Judges q.plant q.aim u Misses) c.self.view_is (judged_misses r.plant r.aim u c.args.pairs.now are c.in_ok-count.count c.in_ok-count.ensures.count (sym asked ∙ c.if-branch.true))

pub returns-then-count-len-clause-judges : goal.returns-then-count-len-clause-judges
returns-then-count-len-clause-judges c =
    λ u are.
    let r : ReachingValue = c.self.inside.reaching in
    let asked : c.in_ok-can_miss.field-0 ≡ some_can_miss r.plant r.aim c.in_ok-count.count c.args.pairs.now =
    c.in_ok-can_miss.ensures ∙ ap (λ (v : ReachingValue). some_can_miss v.plant v.aim c.in_ok-count.count c.args.pairs.now) c.count.ensures.kept
    in
    let states : c.len.result ≡ length r.aim.tracked =
    c.len.ensures
    ∙ ap (λ (a : Aim). length a.tracked) (c.aim.ensures.aim ∙ ap (λ (q : Question). q.aim) c.setting.ensures ∙ ap (λ (v : ReachingValue). v.aim) c.count.ensures.kept)
    in
    subst (λ (q : Question). Judges q.plant q.aim u Recovers) c.self.view_is
    (judged_recovers r.plant r.aim u c.args.pairs.now are c.in_ok-count.count c.in_ok-count.ensures.count (sym asked ∙ c.if-branch.false) (c.if-count-len.true ∙ states))

pub returns-clause-judges : goal.returns-clause-judges
returns-clause-judges c =
    λ u are.
    let r : ReachingValue = c.self.inside.reaching in
    let asked : c.in_ok-can_miss.field-0 ≡ some_can_miss r.plant r.aim c.in_ok-count.count c.args.pairs.now =
    c.in_ok-can_miss.ensures ∙ ap (λ (v : ReachingValue). some_can_miss v.plant v.aim c.in_ok-count.count c.args.pairs.now) c.count.ensures.kept
    in
    let states : c.len.result ≡ length r.aim.tracked =
    c.len.ensures
    ∙ ap (λ (a : Aim). length a.tracked) (c.aim.ensures.aim ∙ ap (λ (q : Question). q.aim) c.setting.ensures ∙ ap (λ (v : ReachingValue). v.aim) c.count.ensures.kept)
    in
    let within = count_within r.plant r.aim c.args.pairs.now c.in_ok-count.count c.in_ok-count.ensures.count in
    subst (λ (q : Question). Judges q.plant q.aim u (Stops c.in_ok-count.count)) c.self.view_is
    (judged_stops r.plant r.aim u c.args.pairs.now are c.in_ok-count.count c.in_ok-count.ensures.count (sym asked ∙ c.if-branch.false) (omega (arith, within, states, c.if-count-len.false)))
