use Rattle.std.proofs.Common.{sym, ap, ◌∙◌}
use Rattle.std.specs.Option.{is_some}
use Rattle.lv_text.specs.Lines.{is_line_feed}
use Rattle.lv_text.proofs.LineFacts.{first_line_begins, is_some-position}
use Rattle.lv_text.proofs.lines.first_line.Goals as goal

pub returns-in_err-at-clause-found : goal.returns-in_err-at-clause-found
returns-in_err-at-clause-found c =
    rw c.from_residual.ensures (ap is_some (sym c.in_err-at.was ∙ c.line_feed.ensures) ∙ is_some-position is_line_feed c.args.bytes.now)

pub returns-clause-found : goal.returns-clause-found
returns-clause-found c = ap is_some (sym c.in_ok-at.was ∙ c.line_feed.ensures) ∙ is_some-position is_line_feed c.args.bytes.now

pub returns-clause-line : goal.returns-clause-line
returns-clause-line c = first_line_begins c.args.bytes.now c.in_ok-at.at c.last_line.result (sym c.line_feed.ensures ∙ c.in_ok-at.was) c.last_line.ensures
