-- the values of a command set are in the order of their slots, and so is what is left of them
use Rattle.std.proofs.Common.{[], ap, ◌∙◌}
use Rattle.lv_base.specs.Choices.{slots_rise}
use Rattle.lv_search.proofs.lv_boxes.MemberLemmas.{pairs_rise}
use Rattle.lv_meaning.proofs.lv_boxes.ReasonLemmas.{still_rising}
use Rattle.lv_reconf.specs.Trying.{looking_at, reaches_at}
use Rattle.lv_reconf.proofs.trial.ReconfTrialTrial.attempt.Goals as goal

pub from_pairs-requires : goal.from_pairs-requires
from_pairs-requires c = ap slots_rise (c.as_slice-in-Misses.ensures.value ∙ c.in_ok-pairs.ensures.pairs) ∙ pairs_rise 0 c.args.candidate.now.choices

pub from_pairs-requires-in-Stops : goal.from_pairs-requires-in-Stops
from_pairs-requires-in-Stops c =
    ap slots_rise (c.as_slice-in-Stops-2.ensures.value ∙ c.in_ok-reason-in-Stops.ensures.reduced)
    ∙ still_rising (reaches_at (looking_at c.self-2.inside.reaching.plant c.self-2.inside.reaching.aim c.in-Stops.at)) [] c.as_slice-in-Stops.result.now
    (ap slots_rise (c.as_slice-in-Stops.ensures.value ∙ c.in_ok-pairs.ensures.pairs) ∙ pairs_rise 0 c.args.candidate.now.choices)
