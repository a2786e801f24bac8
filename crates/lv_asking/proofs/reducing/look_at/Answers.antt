-- the pair is left out, or kept
use Rattle.std.proofs.Common.{◌+◌, ◌++◌, List, drop, sym, ap, ◌∙◌}
use Rattle.lv_base.specs.declared.search.Pair.{Pair}
use Rattle.lv_asking.proofs.ReducingLemmas.{here_fits, unneeded, refuted_again}
use Rattle.lv_asking.proofs.reducing.look_at.Goals as goal

pub is_needed-requires : goal.is_needed-requires
is_needed-requires g c =
    here_fits (g.R.Refuter.fits c.args.refuter.now) (g.met.R.Refuter.fits_without c.args.refuter.now) c.args.pairs.now c.args.at c.args.deletion.now.kept.items c.requires.fits (record { slot = 0; choice = 0 })
    c.requires.at

pub returns-then-not-is_needed-clause-so_far : goal.returns-then-not-is_needed-clause-so_far
returns-then-not-is_needed-clause-so_far g c =
    λ possible tells h.
    unneeded possible (g.R.Refuter.needs c.args.refuter.now) c.args.pairs.now c.args.at c.args.deletion.now.kept.items c.args.deletion.now.core h
    (g.met.R.Refuter.is_monotone c.args.refuter.now possible tells) (record { slot = 0; choice = 0 }) c.requires.at (sym c.is_needed.ensures ∙ c.if-not-is_needed.true)

pub returns-in-Some-clause-so_far : goal.returns-in-Some-clause-so_far
returns-in-Some-clause-so_far g c =
    λ possible tells h.
    refuted_again possible (g.R.Refuter.needs c.args.refuter.now) c.args.pairs.now c.args.at c.args.deletion.now.kept.items c.args.deletion.now.core h
    (g.met.R.Refuter.is_monotone c.args.refuter.now possible tells) (record { slot = 0; choice = 0 }) c.requires.at c.as_slice-2.result.now
    (c.as_slice-2.ensures.value ∙ c.in_ok-others.ensures ∙ ap (λ (ks : List Pair). ks ++ drop (c.args.at + 1) c.args.pairs.now) c.as_slice.ensures.value) c.in-Some.core
    (rw c.in-Some.is at (c.in_ok-core.ensures.told possible tells))
