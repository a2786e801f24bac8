-- there is a move for each part
use Rattle.lv_cert_meaning.proofs.PartLemmas.{no_moves}
use Rattle.lv_cert_meaning.proofs.candidates.moves_from.Goals as goal

pub returns-then-ns-parts-clause-places : goal.returns-then-ns-parts-clause-places
returns-then-ns-parts-clause-places c = no_moves c.args.plant.now.types c.args.plant.now.parts c.args.modes.now c.args.ns.now (rw (c.as_slice-parts.ensures) at c.if-ns-parts.true)
