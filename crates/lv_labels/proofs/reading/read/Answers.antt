-- a system that isn't contradictory has its trail whole, and what was added for both moments is all
use Rattle.std.proofs.Common.{◌∙◌}
use Rattle.lv_reply.specs.declared.labels.Moment.TheVariants.{Now, Next}
use Rattle.lv_labels.specs.Labels.{labels_from}
use Rattle.lv_labels.specs.Assuming.{is_on_trail}
use Rattle.lv_labels.proofs.ReadingLemmas.{both_moments}
use Rattle.lv_labels.proofs.reading.read.Goals as goal

pub push_labels-requires-clause-whole : goal.push_labels-requires-clause-whole
push_labels-requires-clause-whole c = c.status.ensures.trail c.in-Consistent.ensures.status

pub push_labels-requires-in-Consistent-clause-whole : goal.push_labels-requires-in-Consistent-clause-whole
push_labels-requires-in-Consistent-clause-whole c = c.status.ensures.trail c.in-Consistent.ensures.status

pub returns-in_ok-push_labels-in-Consistent-2 : goal.returns-in_ok-push_labels-in-Consistent-2
returns-in_ok-push_labels-in-Consistent-2 c =
    record {
      consistent = c.in-Consistent.ensures.status;
      whole = c.status.ensures.trail c.in-Consistent.ensures.status;
      listed =
          c.from_vec.ensures
          ∙ both_moments (is_on_trail c.args.ltms.now.trail c.args.values.now) (labels_from Now 0 c.args.values.now.before.sizes) (labels_from Next 0 c.args.values.now.after.sizes) c.new-out.result.items c.push_labels.new.out.items
          c.push_labels-in-Consistent.new.out.items c.new-out.ensures.items c.in_ok-push_labels-in-Consistent.ensures c.in_ok-push_labels-in-Consistent-2.ensures;
    }
