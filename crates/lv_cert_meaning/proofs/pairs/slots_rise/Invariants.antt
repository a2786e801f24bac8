-- what is left decides, from the last slot on
use Rattle.std.proofs.Common.{◌≡◌, drop}
use Rattle.lv_base.specs.Choices.{slots_rise, slots_rise_from}
use Rattle.lv_cert_meaning.proofs.pairs.slots_rise.Given as goal

abbrev pub invariant-loop-pair : goal.invariant-loop-pair
invariant-loop-pair l = slots_rise_from l.least (drop l.pair-index l.pairs) ≡ slots_rise l.pairs
