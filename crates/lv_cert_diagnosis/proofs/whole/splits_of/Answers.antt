-- the zones are those of the states, and each candidate is explained
use Rattle.std.proofs.Common.{rules}
use Rattle.std.specs.Option.{option_copied}
use Rattle.lv_cert_diagnosis.specs.Showing.{targets_for}
use Rattle.lv_search_zones.specs.Moves.{move_slots, zones_from}
use Rattle.lv_cert_writing.specs.Explained.{last_if_full}
use Rattle.lv_cert_diagnosis.proofs.AnswerLemmas.{all_explained}
use Rattle.lv_cert_diagnosis.proofs.AskedLemmas.{are_tracked, explained_same}
use Rattle.lv_cert_diagnosis.proofs.whole.splits_of.Goals as goal

pub zones_of-requires-clause-states : goal.zones_of-requires-clause-states
zones_of-requires-clause-states c = are_tracked c.args.question.now.model.now c.args.question.now.tracked.now c.requires.states

pub close-requires-clause-explained : goal.close-requires-clause-explained
close-requires-clause-explained c =
    let plant = c.args.question.now.model.now in
    explained_same (option_copied c.as_ref.result) (targets_for c.args.question.now.limit.distinct plant) (search rules) c.in_ok-grid.grid (move_slots plant) c.in_ok-grid.ensures c.in_ok-zones.zones.items (zones_from plant 0 c.args.question.now.tracked.now) c.in_ok-zones.ensures
    (option_copied c.last_if_full.result) (last_if_full c.args.question.now.limit.most c.args.answer.now.listed.now) c.last_if_full.ensures c.args.answer.now.listed.now c.args.answer.now.kept.now
    (all_explained plant c.args.question.now.tracked.now c.args.question.now.facts.now c.args.question.now.limit.most c.args.question.now.limit.distinct c.args.answer.now.listed.now c.args.answer.now.kept.now c.requires.settled c.requires.some)
