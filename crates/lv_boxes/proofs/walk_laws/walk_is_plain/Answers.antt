-- no entry is passed over for being alike a listed one
use Rattle.std.proofs.Common.{[]}
use Rattle.lv_boxes.proofs.PlainLemmas.{plain_from}
use Rattle.lv_boxes.proofs.walk_laws.walk_is_plain.Goals as goal

pub returns : goal.returns
returns c = λ fits reason k budget entries. plain_from fits reason k budget entries [] []
