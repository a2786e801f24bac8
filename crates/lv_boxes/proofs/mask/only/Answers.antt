-- a word has 64 bits
use Rattle.std.proofs.Common.{sym}
use Rattle.lv_boxes.proofs.MaskLemmas.{only_choice-past}
use Rattle.lv_boxes.proofs.mask.only.Goals as goal

pub returns-else-choice-lt64 : goal.returns-else-choice-lt64
returns-else-choice-lt64 c = sym (only_choice-past c.args.mask c.args.choice c.ranges.mask.fits c.if-choice-lt64.false)
