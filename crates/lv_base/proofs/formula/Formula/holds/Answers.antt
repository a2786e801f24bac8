-- the fold's truth is the tree's
use Rattle.std.proofs.Common.{length, sym, ◌∙◌}
use Rattle.lv_base.proofs.FoldLemmas.{truth_of-tree_of, reads_below-tree_of}
use Rattle.lv_base.proofs.formula.Formula.holds.Goals as goal

pub holds_from-requires : goal.holds_from-requires
holds_from-requires c = sym (reads_below-tree_of (length c.args.values.now) c.args.base c.args.self.now) ∙ c.requires

pub returns : goal.returns
returns c = c.holds_from.ensures ∙ sym (truth_of-tree_of c.args.values.now c.args.base c.args.self.now)
