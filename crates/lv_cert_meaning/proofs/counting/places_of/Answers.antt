-- there is a number for each count, and each has its thing
use Rattle.std.proofs.Common.{if◌then◌else◌, Some, None, sym, ap}
use Rattle.lv_cert_meaning.specs.Counting as Counting
use Rattle.lv_cert_meaning.proofs.NumberLemmas.{not_as_many, places_are}
use Rattle.lv_cert_meaning.proofs.counting.places_of.Goals as goal

pub returns-then-counts-ns-clause-places : goal.returns-then-counts-ns-clause-places
returns-then-counts-ns-clause-places c =
    sym (ap (λ b. if b then Some (Counting.places_of c.args.ns.now) else None) (not_as_many c.args.counts.now c.args.ns.now c.if-counts-ns.true))

pub returns-clause-within : goal.returns-clause-within
returns-clause-within c =
    places_are c.args.counts.now c.args.ns.now c.loop-at.out.items c.loop-at.at c.if-counts-ns.false c.loop-at-test.false c.loop-at.invariant.places c.loop-at.invariant.are
