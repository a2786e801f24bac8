use Rattle.std.proofs.Common.{sym, arith, false-eqb}
use Rattle.lv_text.proofs.LineFacts.{last_line_begins}
use Rattle.lv_text.proofs.lines.next_line.Goals as goal

pub returns-in-None-clause-line : goal.returns-in-None-clause-line
returns-in-None-clause-line c =
    last_line_begins c.args.bytes.now c.last_line.result (sym c.in-None.ensures.found) (omega (arith, false-eqb _ 0 c.if-is_empty.ensures)) c.last_line.ensures
