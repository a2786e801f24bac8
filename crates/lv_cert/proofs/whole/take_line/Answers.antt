use Rattle.std.proofs.Common.{sym, ◌∙◌}
use Rattle.lv_cert.proofs.TakingLemmas.{stuck_torn, stuck_unread, stuck_there, taken}
use Rattle.lv_cert.proofs.whole.take_line.Goals as goal

pub returns-in_default : goal.returns-in_default
returns-in_default c = stuck_torn c.args.place c.args.text.now (sym c.line_feed.ensures ∙ c.in_default.is)

pub returns-in_default-2 : goal.returns-in_default-2
returns-in_default-2 c = stuck_unread c.args.place c.args.text.now c.in-Some.at (sym c.line_feed.ensures ∙ c.in-Some.is) (sym c.in_ok-line.ensures ∙ c.in_default-2.is)

pub returns-in-Some-place_after : goal.returns-in-Some-place_after
returns-in-Some-place_after c =
    taken c.args.place c.args.text.now c.in-Some.at c.in-Some-2.line c.in-Some-place_after.next (sym c.line_feed.ensures ∙ c.in-Some.is)
    (sym c.in_ok-line.ensures ∙ c.in-Some-2.is) (sym c.place_after.ensures ∙ c.in-Some-place_after.is)

pub returns-in-None : goal.returns-in-None
returns-in-None c =
    stuck_there c.args.place c.args.text.now c.in-Some.at c.in-Some-2.line (sym c.line_feed.ensures ∙ c.in-Some.is)
    (sym c.in_ok-line.ensures ∙ c.in-Some-2.is) (sym c.place_after.ensures ∙ c.in-None.is)
