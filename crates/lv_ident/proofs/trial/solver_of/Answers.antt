-- the clauses are those of the system
use Rattle.std.proofs.Common.{subst}
use Rattle.std.proofs.lemmas.Result.{IfOk-weaker}
use Rattle.lv_clauses.specs.ClauseMap.{ClauseMap}
use Rattle.lv_asking.specs.Lemmas.{HaveSameModels}
use Rattle.lv_ident.proofs.trial.solver_of.Goals as goal

pub returns-in-None : goal.returns-in-None
returns-in-None c =
    IfOk-weaker c.new.result _ _
    (λ solver models. record { system = c.args.system.now; system_of = c.requires.system; models = subst (λ (set : ClauseMap). HaveSameModels set solver) c.clauses.ensures models })
    c.new.ensures
