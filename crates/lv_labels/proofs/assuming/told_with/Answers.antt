-- what is read is read off the system in which the literals are assumed
use Rattle.std.proofs.lemmas.Result.{IfOk-weaker}
use Rattle.lv_labels.specs.Assuming.{IsRead, IsToldUnder}
use Rattle.lv_labels.proofs.assuming.told_with.Goals as goal

pub returns-clause-told : goal.returns-clause-told
returns-clause-told c =
    IfOk-weaker c.read.result (IsRead c.assume_all.new.ltms c.args.values.now) (IsToldUnder c.args.ltms.now c.args.lits.now c.args.values.now)
    (λ told read. record { system = c.assume_all.new.ltms; under = record { clauses = c.assume_all.ensures.clauses; assumed = c.in_ok-assume_all.ensures.joined }; read = read }) c.read.ensures
