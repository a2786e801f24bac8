-- what is written is all assumptions
use Rattle.std.proofs.Common.{take, ap, ◌∙◌}
use Rattle.lv_ltms.specs.Marked.{literals_from}
use Rattle.lv_ltms.specs.System.{System}
use Rattle.lv_ltms.proofs.CoreLemmas.{all_assumed}
use Rattle.lv_ltms.proofs.ltms.Ltms.core.Goals as goal

pub returns-clause-core : goal.returns-clause-core
returns-clause-core c = all_assumed c.args.self.now (take c.write_assumptions.result c.write_assumptions.new.out) c.requires.refuted (c.write_assumptions.ensures.written ∙ ap (literals_from 0) c.as_slice.ensures.value ∙ ap (λ (s : System). literals_from 0 s.assumed) c.self.view_is)
