-- each control has up to 64 values
use Rattle.lv_search_zones.proofs.commands.slots_of.Goals as goal

pub value_costs-requires : goal.value_costs-requires
value_costs-requires c = rw c.requires.sizes ((c.requires.slots c.loop-control.control-index (record { 0 = 0 }) c.loop-control-test.true).few)
