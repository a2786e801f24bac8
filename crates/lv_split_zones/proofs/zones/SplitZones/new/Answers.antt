-- none was split
use Rattle.lv_split_zones.proofs.ZonesLemmas.{none_yet}
use Rattle.lv_split_zones.proofs.zones.SplitZones.new.Goals as goal

pub returns : goal.returns
returns c = none_yet c.new-3.result c.new-3.ensures.empty c.new.result c.args.zones.items c.new-2.result.items c.new-2.ensures.items
