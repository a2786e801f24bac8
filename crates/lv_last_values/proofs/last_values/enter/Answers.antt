-- the clause is in the rows of its literals
use Rattle.std.proofs.Common.{IfSome, Option, sym, subst, ◌∙◌}
use Rattle.lv_last_values.specs.Occurrences.{NamesAll}
use Rattle.lv_last_values.specs.Rows.{Rows}
use Rattle.lv_last_values.proofs.LastValuesLemmas.{names_added, with_no_error}
use Rattle.lv_last_values.proofs.last_values.enter.Goals as goal

pub returns-else-is_err : goal.returns-else-is_err
returns-else-is_err c =
    λ old new puts before.
    names_added old new c.args.id c.args.lits.now c.in-Some.rows c.add.new.self puts (subst (λ (rows : Option Rows). IfSome rows (NamesAll old.slots)) c.in-Some.is before) (with_no_error c.add.result (sym c.is_err.ensures.value ∙ c.if-is_err.false) c.add.ensures)
