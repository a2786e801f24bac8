-- nothing is told exactly where the pairs are possible together
use Rattle.std.proofs.Common.{◌∙◌}
use Rattle.lv_base.specs.declared.search.Pair.{Pair}
use Rattle.lv_clauses.specs.Marks.{Marks, is_marked}
use Rattle.lv_asking.specs.Literals.{pair_literal}
use Rattle.lv_asking.specs.Lawful.{decided_is_monotone}
use Rattle.lv_asking.proofs.BesideLemmas.{none_is}
use Rattle.lv_asking.proofs.ReducingLemmas.{told_possible}
use Rattle.lv_asking.proofs.asking.Asking.possible.Goals as goal

pub returns-clause-answer : goal.returns-clause-answer
returns-clause-answer c =
    λ possible decides.
    none_is c.in_ok-refuted.field-0 c.is_none.result c.is_none.ensures
    ∙ told_possible possible (decided_is_monotone c.args.self.now possible decides) (λ (marks : Marks) (p : Pair). is_marked marks (pair_literal c.args.self.now.choices p)) c.args.pairs.now
    c.in_ok-refuted.field-0 (c.in_ok-refuted.ensures.told possible decides)
