-- all statements are added, and their lines written, as they are read
use Rattle.std.proofs.Common.{List, ◌++◌, ap₂, ◌∙◌, Bool, ℕ}
use Rattle.std.proofs.lemmas.Result.{err_from_is_err_and}
use Rattle.lv_reader.specs.declared.statement.ModelText.{ModelText}
use Rattle.lv_reader.specs.CanonicalTexts.{statements_of, written_lines}
use Rattle.lv_reader.proofs.CanonicalWriting.{all_written}
use Rattle.lv_checker.specs.declared.checking.Printing.{Printing}
use Rattle.lv_checker.proofs.ModelLemmas.{reading_tells}
use Rattle.lv_checker.proofs.StandingLemmas.{stands_at_end, has_read, accepted_at_end, refused_at_end}
use Rattle.lv_checker.proofs.checking.printed_model.Goals as goal

pub returns-in_err-lines-clause-fault : goal.returns-in_err-lines-clause-fault
returns-in_err-lines-clause-fault c =
    let p = err_from_is_err_and c.from_residual-in_err-lines.result c.from_residual-in_err-lines.ensures.1 in
    rw (p.1, p.2) (reading_tells _ _ c.in_err-lines.ensures.fault)

pub end-requires : goal.end-requires
end-requires c =
    has_read _ (λ (s : Printing). s.checking) (λ s t x a. a.adds) c.args.bytes.now c.in_ok-printing.printing c.read_each.new.taker c.in_ok-lines.lines c.in_ok-lines.ensures.ok
    c.in_ok-printing.ensures.nothing

pub returns-in_err-end-clause-fault : goal.returns-in_err-end-clause-fault
returns-in_err-end-clause-fault c =
    let text = c.in_ok-lines.ensures.ok in
    let whole : ModelText = record { statements = text.statements; lines = c.in_ok-lines.lines } in
    let stands = stands_at_end _ (λ (s : Printing). s.checking) (λ s t x a. a.adds) c.args.bytes.now c.in_ok-printing.printing c.read_each.new.taker c.in_ok-lines.lines text
    c.in_ok-printing.ensures.nothing in
    let p = err_from_is_err_and c.from_residual-in_err-end.result c.from_residual-in_err-end.ensures.1 in
    rw (p.1, p.2) (refused_at_end c.args.bytes.now whole text.reads c.read_each.new.taker.checking stands _ c.in_err-end.ensures.fault)

pub returns-clause-ok : goal.returns-clause-ok
returns-clause-ok c =
    let text = c.in_ok-lines.ensures.ok in
    let whole : ModelText = record { statements = text.statements; lines = c.in_ok-lines.lines } in
    let stands = stands_at_end _ (λ (s : Printing). s.checking) (λ s t x a. a.adds) c.args.bytes.now c.in_ok-printing.printing c.read_each.new.taker c.in_ok-lines.lines text
    c.in_ok-printing.ensures.nothing in
    let written = all_written _ (λ (s : Printing). s.canonical) (λ s t x a. a.writes) c.in_ok-printing.printing c.read_each.new.taker text.statements text.taken in
    let begun = ap₂ (λ (bytes : List ℕ) (b : Bool). bytes ++ written_lines b (statements_of text.statements)) c.in_ok-printing.ensures.bytes c.in_ok-printing.ensures.begun in
    record {
      plant = c.read_each.new.taker.checking.draft.value.plant;
      verdict = accepted_at_end c.args.bytes.now whole text.reads c.read_each.new.taker.checking stands c.read_each.new.taker.checking.draft.value.plant c.in_ok-end.ensures.ok;
      canonical_is = record { text = whole; reads = text.reads; printed = c.in_ok-into_bytes.ensures ∙ written ∙ begun };
    }
