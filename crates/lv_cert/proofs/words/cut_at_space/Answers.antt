use Rattle.std.proofs.Common.{sym, ◌∙◌}
use Rattle.lv_cert.specs.Words.{is_space}
use Rattle.lv_cert.proofs.CutLemmas.{split_none, split_cut}
use Rattle.lv_cert.proofs.words.cut_at_space.Goals as goal

pub returns-in_err-at-clause-whole : goal.returns-in_err-at-clause-whole
returns-in_err-at-clause-whole c = rw c.from_residual.ensures (split_none is_space c.args.line.now (sym c.first_space.ensures ∙ c.in_err-at.was))

pub returns-clause-cut : goal.returns-clause-cut
returns-clause-cut c = split_cut is_space c.args.line.now c.in_ok-at.at 0 (sym c.first_space.ensures ∙ c.in_ok-at.was)
