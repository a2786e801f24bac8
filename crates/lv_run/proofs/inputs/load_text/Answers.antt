-- A text over its limit is refused for that.
use Rattle.std.proofs.Common.{rules}
use Rattle.lv_run.proofs.ExpectedLemmas.{some_weaker}
use Rattle.lv_run.proofs.VerdictLemmas.{refused_for_length}
use Rattle.lv_run.proofs.inputs.load_text.Goals as goal

pub returns-in-Err-TooLong-clause-refused : goal.returns-in-Err-TooLong-clause-refused
returns-in-Err-TooLong-clause-refused g c =
    some_weaker (g.F.Shelf.file c.args.shelf.now c.args.name.now) refused_for_length (c.in-Err-TooLong.ensures.too_long (search rules))
