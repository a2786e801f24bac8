-- A settled run lists the first entries that fit.
use Rattle.std.proofs.Common.{◌≡◌, ℕ, ◌≤◌, Bool, true, List, sym, ◌∙◌, ap, subst}
use Rattle.std.specs.Prelude.{Option, Some, None}
use Rattle.lv_base.specs.declared.rank.Rank.{Rank}
use Rattle.lv_base.specs.declared.search.Pair.{Pair}
use Rattle.lv_base.specs.declared.search.Candidate.{Candidate}
use Rattle.lv_boxes.specs.declared.outcome.Outcome.{Outcome}
use Rattle.lv_boxes.specs.declared.outcome.Outcome.TheVariants.{Settled}
use Rattle.lv_boxes.specs.Walk.{Walked, distinct_walk, suit_all}
use Rattle.lv_boxes.specs.Groups.{alike_by}
use Rattle.lv_boxes.specs.WalkLaws.{IsSound}
use Rattle.lv_boxes.proofs.WalkLemmas.{plain_exact, distinct_exact}
use Rattle.lv_search.specs.Standing.{Standing, trials_of, first_fitting, IsUnderWay}
use Rattle.lv_search.specs.Turn.{EndsAt}
use Rattle.lv_search.proofs.GroupLemmas.{groups_join}

-- a settled walk, with groups or without
walk_lists : (groups : Option (List (List ℕ))) (suits fits : Candidate → Bool) (reason : Candidate → List Pair) → IsSound suits fits reason → (k budget : ℕ) (entries : List Rank)
    → suit_all suits entries ≡ true → (distinct_walk (alike_by groups) fits reason k budget entries).outcome ≡ Settled
    → (distinct_walk (alike_by groups) fits reason k budget entries).listed ≡ first_fitting groups k fits entries
walk_lists None suits fits reason sound k budget entries suit settled = plain_exact suits fits reason sound k budget entries suit settled
walk_lists (Some groups) suits fits reason sound k budget entries suit settled =
    distinct_exact (alike_by (Some groups)) (groups_join (Some groups)) suits fits reason sound k budget entries suit settled

pub lists_first : (suits fits : Candidate → Bool) (reason : Candidate → List Pair) → IsSound suits fits reason → (here old new : Standing) (entries : List Rank) (budget : ℕ) (outcome : Outcome)
    → here ≡ old → trials_of here ≤ budget → IsUnderWay suits fits reason entries old → suit_all suits entries ≡ true → EndsAt outcome fits reason budget here new → outcome ≡ Settled
    → new.listed ≡ first_fitting old.groups old.k fits entries
lists_first suits fits reason sound here old new entries budget outcome is few way suit ends settled =
    let enough : trials_of old ≤ budget = subst (λ (s : Standing). trials_of s ≤ budget) is few in
    let ends_so : EndsAt outcome fits reason budget old new = subst (λ (s : Standing). EndsAt outcome fits reason budget s new) is ends in
    let walked : distinct_walk (alike_by old.groups) fits reason old.k budget entries ≡ record { outcome = outcome; listed = new.listed; kept = new.kept } = sym (way.walk budget enough) ∙ ends_so in
    sym (ap (λ (w : Walked). w.listed) walked) ∙ walk_lists old.groups suits fits reason sound old.k budget entries suit (ap (λ (w : Walked). w.outcome) walked ∙ settled)
