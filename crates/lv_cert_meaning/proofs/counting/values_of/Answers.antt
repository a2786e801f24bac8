-- the places are below the counts
use Rattle.std.proofs.Common.{◌≡◌, ◌∙◌, true, IfSome, sym, ap, subst}
use Rattle.lv_cert_meaning.specs.Counting.{values_at}
use Rattle.lv_cert_meaning.specs.Fitting.{are_places, are_values}
use Rattle.lv_cert_meaning.proofs.NumberLemmas.{values_below}
use Rattle.lv_cert_meaning.proofs.counting.values_of.Goals as goal

pub returns-in_ok-values-in-Some-clause-within : goal.returns-in_ok-values-in-Some-clause-within
returns-in_ok-values-in-Some-clause-within c =
    let places = subst (λ o. IfSome o (λ out. are_places c.args.counts.now out.items ≡ true)) c.in-Some.is c.in_ok-places.ensures.within in
    subst (λ vs. are_values c.args.counts.now vs ≡ true) (sym (c.in_ok-values-in-Some.ensures ∙ ap values_at c.as_slice.ensures.value))
    (values_below c.args.counts.now c.in-Some.places.items places)
