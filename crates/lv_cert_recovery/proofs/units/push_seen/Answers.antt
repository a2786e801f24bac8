-- what is seen is a value that the variable has
use Rattle.lv_cert_recovery.proofs.UnitLemmas.{seen_there}
use Rattle.lv_cert_recovery.proofs.units.push_seen.Goals as goal

pub lit_of-requires : goal.lit_of-requires
lit_of-requires c = seen_there c.args.model.now c.args.system.now.before c.requires.system.before c.args.present.now c.requires.fit c.loop-o.o-index _ c.loop-o-test.true
