-- all statements are added as they are read
use Rattle.std.proofs.lemmas.Result.{err_from_is_err_and, IfErr-weaker, IfOk-weaker}
use Rattle.lv_reader.specs.declared.statement.ModelText.{ModelText}
use Rattle.lv_checker.proofs.ModelLemmas.{reading_tells}
use Rattle.lv_checker.proofs.StandingLemmas.{stands_at_end, has_read, accepted_at_end, refused_at_end}
use Rattle.lv_checker.proofs.checking.model_of.Goals as goal

pub returns-in_err-lines-clause-fault : goal.returns-in_err-lines-clause-fault
returns-in_err-lines-clause-fault c =
    let p = err_from_is_err_and c.from_residual-in_err-lines.result c.from_residual-in_err-lines.ensures.1 in
    rw (p.1, p.2) (reading_tells _ _ c.in_err-lines.ensures.fault)

pub finish-requires : goal.finish-requires
finish-requires c = has_read _ (λ s. s) (λ s t x a. a) c.args.bytes.now c.in_ok-checking.checking c.read_each.new.taker c.in_ok-lines.lines c.in_ok-lines.ensures.ok c.in_ok-checking.ensures

pub returns-clause-ok : goal.returns-clause-ok
returns-clause-ok c =
    let text = c.in_ok-lines.ensures.ok in
    let whole : ModelText = record { statements = text.statements; lines = c.in_ok-lines.lines } in
    let stands = stands_at_end _ (λ s. s) (λ s t x a. a) c.args.bytes.now c.in_ok-checking.checking c.read_each.new.taker c.in_ok-lines.lines text c.in_ok-checking.ensures in
    IfOk-weaker c.finish.result _ _ (λ m e. accepted_at_end c.args.bytes.now whole text.reads c.read_each.new.taker stands m e) c.finish.ensures.ok

pub returns-clause-fault : goal.returns-clause-fault
returns-clause-fault c =
    let text = c.in_ok-lines.ensures.ok in
    let whole : ModelText = record { statements = text.statements; lines = c.in_ok-lines.lines } in
    let stands = stands_at_end _ (λ s. s) (λ s t x a. a) c.args.bytes.now c.in_ok-checking.checking c.read_each.new.taker c.in_ok-lines.lines text c.in_ok-checking.ensures in
    IfErr-weaker c.finish.result _ _ (λ fault told. refused_at_end c.args.bytes.now whole text.reads c.read_each.new.taker stands fault told) c.finish.ensures.fault
