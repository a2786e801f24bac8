-- whether the fold fits is whether the tree does
use Rattle.std.proofs.Common.{sym, ◌∙◌}
use Rattle.lv_base.proofs.FoldLemmas.{fits-tree_of}
use Rattle.lv_base.proofs.formula.Formula.fits.Goals as goal

pub returns : goal.returns
returns c = c.fits_from.ensures ∙ sym (fits-tree_of c.args.ranges.now c.args.self.now)
