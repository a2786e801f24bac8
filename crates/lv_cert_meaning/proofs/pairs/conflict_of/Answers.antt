-- the choices are such, and their slots decide
use Rattle.std.proofs.Common.{◌∙◌}
use Rattle.lv_cert_meaning.proofs.PairLemmas.{not_rising, rising}
use Rattle.lv_cert_meaning.proofs.pairs.conflict_of.Goals as goal

pub returns-then-not-slots_rise-clause-pairs : goal.returns-then-not-slots_rise-clause-pairs
returns-then-not-slots_rise-clause-pairs c =
    not_rising c.args.counts.now c.args.ns.now c.in-Some.pairs.items c.as_slice.result.now (rw (c.in-Some.is) at c.in_ok-pairs.ensures.pairs) c.as_slice.ensures.value c.if-not-slots_rise.ensures

pub returns-clause-pairs : goal.returns-clause-pairs
returns-clause-pairs c =
    rising c.args.counts.now c.args.ns.now c.in-Some.pairs.items c.as_slice.result.now c.in_ok-from_pairs.field-0 (rw (c.in-Some.is) at c.in_ok-pairs.ensures.pairs) c.as_slice.ensures.value
    c.if-not-slots_rise.ensures (c.in_ok-from_pairs.ensures ∙ c.as_slice-2.ensures.value)
