-- a word has 64 bits
use Rattle.std.proofs.Common.{arith}
use Rattle.lv_boxes.proofs.MaskLemmas.{has_choice-past}
use Rattle.lv_boxes.proofs.mask.has.Goals as goal

pub returns-else-choice-lt64 : goal.returns-else-choice-lt64
returns-else-choice-lt64 c = rw (has_choice-past c.args.mask c.args.choice c.ranges.mask.fits c.if-choice-lt64.false) (grind arith)
