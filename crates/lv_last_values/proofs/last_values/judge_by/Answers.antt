-- the values make the clause true
use Rattle.std.proofs.Common.{[], Some, IfSome, sym, ap, subst, ◌∙◌}
use Rattle.lv_clauses.specs.Literals.{clause_holds}
use Rattle.lv_last_values.specs.Values.{IsModel}
use Rattle.lv_last_values.proofs.LastValuesLemmas.{model_kept}
use Rattle.lv_last_values.proofs.last_values.judge_by.Goals as goal

pub returns-else-not-clause_holds : goal.returns-else-not-clause_holds
returns-else-not-clause_holds c =
    λ old new id puts before.
    model_kept old new id (Some c.args.lits.now) c.in-Some.kept puts (ap (λ values. clause_holds values c.args.lits.now) (sym c.as_slice.ensures) ∙ sym c.clause_holds.ensures ∙ c.if-not-clause_holds.false)
    (subst (λ values. IfSome values (IsModel old [])) c.in-Some.is before)
