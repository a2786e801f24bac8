-- there are as many as were made
use Rattle.std.proofs.Common.{length, sym, ◌∙◌, ap}
use Rattle.lv_split_zones.specs.Made.{zones_made}
use Rattle.lv_split_zones.specs.Zones.{is_in}
use Rattle.lv_split_zones.proofs.SplitLemmas.{as_many}
use Rattle.lv_split_zones.proofs.zones.SplitZones.len.Goals as goal

pub returns : goal.returns
returns c = c.self.invariant.made.count ∙ sym (as_many (is_in c.self.inside.split) (zones_made c.self.inside.made)) ∙ ap length c.self.view_is
