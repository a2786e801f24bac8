-- what is kept can be asked for, and what refutes it refutes it with what is left
use Rattle.std.proofs.Common.{◌-◌, length, sym, subst}
use Rattle.lv_asking.proofs.ReducingLemmas.{kept_fits, each_left_fits, refuted_alone}
use Rattle.lv_asking.proofs.reducing.leap.Goals as goal

pub needs_one-requires : goal.needs_one-requires
needs_one-requires g c =
    each_left_fits (g.R.Refuter.fits c.args.refuter.now) (g.met.R.Refuter.fits_without c.args.refuter.now) c.args.pairs.now c.args.at c.args.deletion.now.kept.items c.requires.fits
    (length c.args.pairs.now - c.args.at)

pub refuted-requires : goal.refuted-requires
refuted-requires g c =
    subst (g.R.Refuter.fits c.args.refuter.now) (sym c.as_slice.ensures.value)
    (kept_fits (g.R.Refuter.fits c.args.refuter.now) (g.met.R.Refuter.fits_without c.args.refuter.now) c.args.pairs.now c.args.at c.args.deletion.now.kept.items c.requires.fits)

pub returns-in-Some-clause-so_far : goal.returns-in-Some-clause-so_far
returns-in-Some-clause-so_far g c =
    λ possible tells h.
    refuted_alone possible (g.R.Refuter.needs c.args.refuter.now) c.args.pairs.now c.args.at c.args.deletion.now.kept.items c.args.deletion.now.core h
    (g.met.R.Refuter.is_monotone c.args.refuter.now possible tells) c.in-Some.core c.as_slice.result.now c.as_slice.ensures.value (rw c.in-Some.is at (c.in_ok-core.ensures.told possible tells))
