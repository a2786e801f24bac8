-- a member has a choice at each slot
use Rattle.lv_search_guide.proofs.LowestLemmas.{slot_in_choices, slot_in_masks}
use Rattle.lv_search_guide.proofs.problem.Search.first_at.Goals as goal

pub choice_at-requires : goal.choice_at-requires
choice_at-requires c = slot_in_choices c.args.self.now.grid.now c.args.self.now.conflicts.now c.args.masks.now c.args.member.choices c.args.slot c.requires.free c.requires.within

pub lower_at-requires-clause-within : goal.lower_at-requires-clause-within
lower_at-requires-clause-within c = slot_in_masks c.args.self.now.grid.now c.args.self.now.conflicts.now c.args.masks.now c.args.member.choices c.args.slot c.requires.free c.requires.within
