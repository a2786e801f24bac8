-- the pair's value is one that its control has
use Rattle.lv_cert_recovery.proofs.UnitLemmas.{control_there, slot_there}
use Rattle.lv_cert_recovery.proofs.units.push_controls.Goals as goal

pub lit_of-requires : goal.lit_of-requires
lit_of-requires c =
    control_there c.args.model.now c.args.system.now.before c.requires.system.before c.args.pairs.now c.requires.have c.loop-pair.pair-index (record { slot = 0; choice = 0 }) (record { 0 = 0 }) c.loop-pair-test.true
    c.args.vars.now c.requires.controls

pub bounds-vars-pair : goal.bounds-vars-pair
bounds-vars-pair c =
    slot_there c.args.model.now c.args.system.now.before c.requires.system.before c.args.pairs.now c.requires.have c.loop-pair.pair-index (record { slot = 0; choice = 0 }) c.loop-pair-test.true
    c.args.vars.now c.requires.controls
