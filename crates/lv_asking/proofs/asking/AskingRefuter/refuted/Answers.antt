-- what the solver's answer says of the pairs
use Rattle.std.proofs.Common.{List, subst}
use Rattle.std.proofs.lemmas.List.{append-nil}
use Rattle.std.proofs.lemmas.Result.{IfOk-weaker}
use Rattle.lv_base.specs.declared.ids.Lit.{Lit}
use Rattle.lv_asking.specs.Literals.{pair_literals}
use Rattle.lv_asking.specs.Refutation.{Refutes}
use Rattle.lv_asking.proofs.AnswerLemmas.{answer}
use Rattle.lv_asking.proofs.asking.AskingRefuter.refuted.Goals as goal

pub returns-clause-told : goal.returns-clause-told
returns-clause-told c =
    λ possible decides.
    IfOk-weaker c.ask.result _ _
    (λ core told. answer c.args.self.now possible decides c.args.pairs.now c.requires.moves core
    (subst (λ (ls : List Lit). Refutes c.args.self.now.set ls c.args.self.now.assumed core) (append-nil (pair_literals c.args.self.now.choices c.args.pairs.now)) told))
    c.ask.ensures.answer
