-- what isn't possible is refuted
use Rattle.lv_cert_diagnosis.proofs.Telling.{impossible_told, lines_refute}
use Rattle.lv_cert_diagnosis.proofs.asking.Asking.refutation_of.Goals as goal

pub lines_told-requires : goal.lines_told-requires
lines_told-requires c = impossible_told c.args.self.now c.args.pairs.now c.in_ok-ask.field-0 c.in_ok-ask.ensures.told c.requires.impossible

pub returns-clause-refute : goal.returns-clause-refute
returns-clause-refute c = lines_refute c.args.self.now c.args.pairs.now c.in_ok-ask.field-0 c.in_ok-ask.ensures.told c.lines_told.result c.lines_told.ensures
