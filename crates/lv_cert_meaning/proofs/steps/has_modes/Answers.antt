-- there is a mode for each part
use Rattle.std.proofs.Common.{sym}
use Rattle.lv_cert_meaning.proofs.PartLemmas.{not_as_many_modes}
use Rattle.lv_cert_meaning.proofs.steps.has_modes.Goals as goal

pub returns-then-parts-modes : goal.returns-then-parts-modes
returns-then-parts-modes c = sym (not_as_many_modes c.args.parts.now c.args.modes.now c.args.a.now c.if-parts-modes.true)
