-- a truth is found where its word was taken, else an equation may be
use Rattle.std.proofs.Common.{◌≡◌, ◌∙◌, ap, option_map}
use Rattle.std.proofs.lemmas.Result.{IfOk-weaker}
use Rattle.lv_formula_text.specs.PhraseTree.{tree_of, tree_in, always, never}
use Rattle.lv_formula_text.proofs.TreeLemmas.{tree_of-True, tree_of-False}
use Rattle.lv_formula_text.proofs.AtomLemmas.{truth_found, falsity_found, atom_equation}
use Rattle.lv_formula_text.proofs.atom.atom.Goals as goal

pub returns-then-takes_word-clause-found : goal.returns-then-takes_word-clause-found
returns-then-takes_word-clause-found c =
    let tree : tree_in c.in_ok-new.field-0 ≡ always = ap tree_of c.in_ok-new.ensures.ok ∙ tree_of-True in
    rw tree (truth_found c.args.cursor.now c.takes_word.new.self c.if-takes_word.ensures.told)

pub returns-then-takes_word-2-clause-found : goal.returns-then-takes_word-2-clause-found
returns-then-takes_word-2-clause-found c =
    let tree : tree_in c.in_ok-new-2.field-0 ≡ never = ap tree_of c.in_ok-new-2.ensures.ok ∙ tree_of-False in
    rw tree (falsity_found c.args.cursor.now c.takes_word.new.self c.takes_word-2.new.self c.if-takes_word.ensures.told c.if-takes_word-2.ensures.told)

pub returns-clause-found : goal.returns-clause-found
returns-clause-found c =
    IfOk-weaker c.equation.result _ _ (λ found h. atom_equation c.args.cursor.now c.takes_word.new.self c.takes_word-2.new.self (option_map tree_in found) c.equation.new.cursor c.if-takes_word.ensures.told c.if-takes_word-2.ensures.told h) c.equation.ensures.found
