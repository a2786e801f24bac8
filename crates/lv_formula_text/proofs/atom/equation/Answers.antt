-- an equation is found where two paths and a sign between them were
use Rattle.std.proofs.Common.{◌≡◌, ap, ◌∙◌}
use Rattle.lv_formula_text.specs.PhraseTree.{tree_of, tree_in, equals}
use Rattle.lv_formula_text.specs.Reading.{Reads, HasNone}
use Rattle.lv_formula_text.specs.Grammar.{IsPath}
use Rattle.lv_formula_text.proofs.TreeLemmas.{tree_of-Equals}
use Rattle.lv_formula_text.proofs.AtomLemmas.{equals_none, right_none, equation_found}
use Rattle.lv_formula_text.proofs.atom.equation.Goals as goal

pub returns-then-not-takes-clause-found : goal.returns-then-not-takes-clause-found
returns-then-not-takes-clause-found c =
    let left : Reads IsPath 5 c.args.cursor.now c.in-Some.left c.path.new.cursor = rw c.in-Some.is at c.in_ok-left.ensures.found in
    equals_none c.args.cursor.now c.path.new.cursor c.takes.new.self c.in-Some.left left c.if-not-takes.ensures.told

pub returns-in_default-2-clause-found : goal.returns-in_default-2-clause-found
returns-in_default-2-clause-found c =
    let left : Reads IsPath 5 c.args.cursor.now c.in-Some.left c.path.new.cursor = rw c.in-Some.is at c.in_ok-left.ensures.found in
    let none : HasNone IsPath 5 c.takes.new.self = rw c.in_default-2.is at c.in_ok-right.ensures.found in
    right_none c.args.cursor.now c.path.new.cursor c.takes.new.self c.in-Some.left left c.if-not-takes.ensures.told none

pub returns-clause-found : goal.returns-clause-found
returns-clause-found c =
    let left : Reads IsPath 5 c.args.cursor.now c.in-Some.left c.path.new.cursor = rw c.in-Some.is at c.in_ok-left.ensures.found in
    let right : Reads IsPath 5 c.takes.new.self c.in-Some-2.right c.path-2.new.cursor = rw c.in-Some-2.is at c.in_ok-right.ensures.found in
    let tree : tree_in c.in_ok-new.field-0 ≡ equals c.in-Some.left c.in-Some-2.right =
    ap tree_of c.in_ok-new.ensures.ok ∙ tree_of-Equals (record { left = c.in-Some.left; right = c.in-Some-2.right }) in
    rw tree (equation_found c.args.cursor.now c.path.new.cursor c.takes.new.self c.path-2.new.cursor c.in-Some.left c.in-Some-2.right left c.if-not-takes.ensures.told right)
