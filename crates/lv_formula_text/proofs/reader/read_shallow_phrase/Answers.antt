-- what was read ends before the tokens do
use Rattle.std.proofs.Common.{◌≡◌, false, drop, arith}
use Rattle.lv_formula_text.specs.declared.connective.Connective.TheVariants.{Equivalence}
use Rattle.lv_formula_text.specs.PhraseTree.{tree_in}
use Rattle.lv_formula_text.specs.Grammar.{IsJoined}
use Rattle.lv_formula_text.specs.Reading.{Reads}
use Rattle.lv_formula_text.specs.Nesting.{is_too_deep}
use Rattle.lv_formula_text.proofs.ReadLemmas.{ends_late}
use Rattle.lv_formula_text.proofs.reader.read_shallow_phrase.Goals as goal

pub returns-then-not-is_at_end-clause-fault : goal.returns-then-not-is_at_end-clause-fault
returns-then-not-is_at_end-clause-fault c =
    let start : c.new-cursor.result ≡ drop c.args.from c.args.line.now = c.new-cursor.ensures in
    let read : Reads (IsJoined Equivalence) 1 c.new-cursor.result (tree_in c.in-Some.root) c.joined.new.cursor = rw c.in-Some.is at c.in_ok-root.ensures.found in
    let shallow : is_too_deep c.args.line.now ≡ false = grind arith in
    ends_late c.args.line.now c.args.from c.new-cursor.result c.joined.new.cursor (tree_in c.in-Some.root) start shallow read (grind arith)
