-- the clause that was added is that of the value
use Rattle.lv_compile.specs.FormulaClauses.{equality_clause}
use Rattle.lv_compile.proofs.GatherLemmas.{one_more}
use Rattle.lv_compile.proofs.formula.equality.Goals as goal

pub loop-value-preserved : goal.loop-value-preserved
loop-value-preserved c =
    one_more (equality_clause c.args.bools.now c.args.equation.left c.args.equation.right c.args.equation.sign) c.loop-value.out.items c.push.new.self.items c.in_ok-equality_clause.field-0 c.loop-value.value c.loop-value.invariant c.in_ok-push.ensures.items c.in_ok-equality_clause.ensures
