-- the list has the statements that were taken
use Rattle.std.proofs.Common.{◌++◌, sym, ◌∙◌, ap, subst, List}
use Rattle.lv_reader.specs.declared.statement.NumberedStatement.{NumberedStatement}
use Rattle.lv_reader.specs.declared.reader.Listed.{Listed}
use Rattle.lv_reader.specs.Texts.{ReadsAs}
use Rattle.lv_reader.proofs.TakingLemmas.{all_listed}
use Rattle.lv_reader.proofs.reader.read_model.Goals as goal

pub returns-clause-ok : goal.returns-clause-ok
returns-clause-ok c =
    let text = c.in_ok-lines.ensures.ok in
    let listed = all_listed _ (λ (l : Listed). l.statements.items) (λ s t x taken. taken) _ _ text.statements text.taken in
    let all = c.from_vec.ensures ∙ listed ∙ ap (λ (xs : List NumberedStatement). xs ++ text.statements) c.new.ensures.items in
    subst (λ (ss : List NumberedStatement). ReadsAs c.args.bytes.now (record { statements = ss; lines = c.in_ok-lines.lines })) (sym all) text.reads
