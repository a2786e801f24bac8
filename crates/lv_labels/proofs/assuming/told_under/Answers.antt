-- nothing is noted at first, and all that is noted is taken back
use Rattle.lv_labels.proofs.AssumeLemmas.{over_nothing}
use Rattle.lv_labels.proofs.assuming.told_under.Goals as goal

pub take_back-requires : goal.take_back-requires
take_back-requires c =
    record {
      base = c.args.ltms.now.assumed;
      over = c.told_with-told.ensures.over c.args.ltms.now.assumed (over_nothing c.args.ltms.now.assumed c.new-added.result.items c.new-added.ensures.items);
    }

pub returns-clause-assumed : goal.returns-clause-assumed
returns-clause-assumed c =
    c.take_back.ensures.back c.args.ltms.now.assumed (c.told_with-told.ensures.over c.args.ltms.now.assumed (over_nothing c.args.ltms.now.assumed c.new-added.result.items c.new-added.ensures.items))
