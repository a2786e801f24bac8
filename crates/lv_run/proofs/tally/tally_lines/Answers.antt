-- One more reply is counted, and at the end all are.
use Rattle.std.proofs.Common.{rules}
use Rattle.lv_run.proofs.Tallying.{tallied_at_start, tallied_more, tallied_all}
use Rattle.lv_run.proofs.tally.tally_lines.Goals as goal

pub loop-line-init : goal.loop-line-init
loop-line-init c = record { tallied = tallied_at_start _ _ _ _ c.requires c.none-tally.ensures }

pub loop-line-preserved : goal.loop-line-preserved
loop-line-preserved c = record {
  tallied = tallied_more _ _ _ _ _ _ _ _ _ _ c.in-Some.ensures.line c.in_ok-reply.ensures.reply c.in_ok-reply.ensures.state
      c.with-tally.ensures.counted c.with-tally.ensures.small c.with-tally.ensures.one c.loop-line.invariant.tallied;
}

pub returns : goal.returns
returns c = tallied_all _ _ _ c.loop-line.rest.now _ (search rules) c.loop-line.invariant.tallied
