-- each step of reading is one over plain lists of tokens
use Rattle.std.proofs.Common.{arith, subst, ◌<◌, Some, ◌≡◌, refl, true, false, length, ap₂, sym, ◌+◌, ◌-◌, [], ◌∷◌, ◌++◌, map, option_map, ap, ◌∙◌}
use Rattle.std.proofs.lemmas.List.{map-append}
use Rattle.std.proofs.lemmas.Result.{IfOk-weaker}
use Rattle.lv_formula_text.specs.declared.connective.Connective.TheVariants.{Equivalence}
use Rattle.lv_formula_text.specs.PhraseTree.{tree_of, tree_in}
use Rattle.lv_formula_text.specs.Connectives.{level, negations, binding}
use Rattle.lv_formula_text.specs.Grammar.{IsUnary, IsOperand, IsJoined}
use Rattle.lv_text.specs.declared.lexer.TokenKind.TheVariants.{Not}
use Rattle.lv_formula_text.specs.Cursors.{Takes}
use Rattle.lv_formula_text.specs.Reading.{Reads, HasNone}
use Rattle.lv_formula_text.proofs.ParserLemmas.{joining_none, joined_none, joined_alone, joined_first, joining_first, unary_none, joining_step, joined_step, operand_of_equivalence, operand_of_implication, operand_of_disjunction, operand_of_conjunction, negating_none, negating_more, enclosed_found, enclosed_none, enclosed_open, unary_atom}
use Rattle.lv_formula_text.proofs.parser.+read.Goals as goal

pub joined-returns-in-None-clause-found : goal.joined-returns-in-None-clause-found
joined-returns-in-None-clause-found t c =
    let none : HasNone IsUnary 5 c.args.cursor.now = rw c.in-None.is at c.in_ok-first.ensures.found in
    unary_none c.args.cursor.now none c.args.connective

pub joined_behind-returns-then-binding-level-clause-found : goal.joined_behind-returns-then-binding-level-clause-found
joined_behind-returns-then-binding-level-clause-found t c =
    let less : binding c.args.cursor.now < level c.args.connective = omega arith in
    λ ts r. joined_alone c.args.connective ts c.args.cursor.now (tree_in c.args.first) r less

pub joined_behind-returns-in_default-clause-found : goal.joined_behind-returns-in_default-clause-found
joined_behind-returns-in_default-clause-found t c = λ ts r.
    let none : HasNone (IsOperand c.args.connective) (level c.args.connective + 1) ts = rw c.in_default.is at (c.in_ok-next.ensures.found ts r) in
    joined_none c.args.connective ts ts [] (joining_none c.args.connective ts) none

pub joined_behind-returns-then-not-takes-clause-found : goal.joined_behind-returns-then-not-takes-clause-found
joined_behind-returns-then-not-takes-clause-found t c = λ ts r.
    let read : Reads (IsOperand c.args.connective) (level c.args.connective + 1) ts (tree_in c.in-Some.next) c.operand_behind.new.cursor =
    rw c.in-Some.is at (c.in_ok-next.ensures.found ts r) in
    joined_first c.args.connective ts c.operand_behind.new.cursor c.takes.new.self c.sign.result (tree_in c.in-Some.next) read c.if-not-takes.ensures.told c.sign.ensures

pub joined_behind-operands-init : goal.joined_behind-operands-init
joined_behind-operands-init t c =
    let items = ap (map tree_of) (c.in_ok-push_unboxed.ensures ∙ ap (λ xs. xs ++ c.in-Some.next.value ∷ []) c.new-operands.ensures.items) in
    let long = ap length c.if-not-takes.ensures.told.1 in
    record {
      reading = λ ts r.
          let read : Reads (IsOperand c.args.connective) (level c.args.connective + 1) ts (tree_in c.in-Some.next) c.operand_behind.new.cursor =
          rw c.in-Some.is at (c.in_ok-next.ensures.found ts r) in
          joining_first c.args.connective ts c.operand_behind.new.cursor c.takes.new.self c.sign.result _ (tree_in c.in-Some.next) read c.if-not-takes.ensures.told c.sign.ensures items;
      left = omega (arith, long);
    }

pub joined_behind-returns-in_default-2-clause-found : goal.joined_behind-returns-in_default-2-clause-found
joined_behind-returns-in_default-2-clause-found t c = λ ts r.
    let none : HasNone (IsOperand c.args.connective) (level c.args.connective + 1) c.operands.cursor = rw c.in_default-2.is at c.in_ok-next-2.ensures.found in
    joined_none c.args.connective ts c.operands.cursor (map tree_of c.operands.operands.items) (c.operands.invariant.reading ts r) none

pub joined_behind-returns-then-not-takes-2-clause-found : goal.joined_behind-returns-then-not-takes-2-clause-found
joined_behind-returns-then-not-takes-2-clause-found t c = λ ts r.
    let read : Reads (IsOperand c.args.connective) (level c.args.connective + 1) c.operands.cursor (tree_in c.in-Some-2.next) c.operand.new.cursor =
    rw c.in-Some-2.is at c.in_ok-next-2.ensures.found in
    joined_step c.args.connective ts c.operands.cursor c.operand.new.cursor c.takes-in-operands.new.self c.sign-in-operands.result (map tree_of c.operands.operands.items)
    (map tree_of c.operands.operands.items ++ tree_in c.in-Some-2.next ∷ []) (tree_in c.in-Some-2.next) _ (c.operands.invariant.reading ts r) read c.if-not-takes-2.ensures.told c.sign-in-operands.ensures refl c.in_ok-join.ensures

pub joined_behind-operands-preserved : goal.joined_behind-operands-preserved
joined_behind-operands-preserved t c =
    let read : Reads (IsOperand c.args.connective) (level c.args.connective + 1) c.operands.cursor (tree_in c.in-Some-2.next) c.operand.new.cursor =
    rw c.in-Some-2.is at c.in_ok-next-2.ensures.found in
    let items = ap (map tree_of) c.in_ok-push_unboxed-2.ensures ∙ map-append tree_of c.operands.operands.items (c.in-Some-2.next.value ∷ []) in
    record {
      reading = λ ts r.
          joining_step c.args.connective ts c.operands.cursor c.operand.new.cursor c.takes-in-operands.new.self c.sign-in-operands.result (map tree_of c.operands.operands.items) _ (tree_in c.in-Some-2.next)
          (c.operands.invariant.reading ts r) read c.if-not-takes-2.ensures.told c.sign-in-operands.ensures items;
      left = omega arith;
    }

pub operand_behind-returns-in-Equivalence-clause-found : goal.operand_behind-returns-in-Equivalence-clause-found
operand_behind-returns-in-Equivalence-clause-found t c = λ ts r.
    rw c.in-Equivalence.is (IfOk-weaker c.joined_behind.result _ _ (λ found h. operand_of_equivalence _ (option_map tree_in found) _ h) (c.joined_behind.ensures.found ts r))

pub operand_behind-returns-in-Implication-clause-found : goal.operand_behind-returns-in-Implication-clause-found
operand_behind-returns-in-Implication-clause-found t c = λ ts r.
    rw c.in-Implication.is (IfOk-weaker c.joined_behind-in-Implication.result _ _ (λ found h. operand_of_implication _ (option_map tree_in found) _ h) (c.joined_behind-in-Implication.ensures.found ts r))

pub operand_behind-returns-in-Disjunction-clause-found : goal.operand_behind-returns-in-Disjunction-clause-found
operand_behind-returns-in-Disjunction-clause-found t c = λ ts r.
    rw c.in-Disjunction.is (IfOk-weaker c.joined_behind-in-Disjunction.result _ _ (λ found h. operand_of_disjunction _ (option_map tree_in found) _ h) (c.joined_behind-in-Disjunction.ensures.found ts r))

pub operand_behind-returns-in-Conjunction-clause-found : goal.operand_behind-returns-in-Conjunction-clause-found
operand_behind-returns-in-Conjunction-clause-found t c = λ ts r.
    rw c.in-Conjunction.is (operand_of_conjunction ts (Some (tree_in c.args.first)) c.args.cursor.now r)

pub operand-returns-in-Equivalence-clause-found : goal.operand-returns-in-Equivalence-clause-found
operand-returns-in-Equivalence-clause-found t c =
    rw c.in-Equivalence.is (IfOk-weaker c.joined.result _ _ (λ found h. operand_of_equivalence _ (option_map tree_in found) _ h) c.joined.ensures.found)

pub operand-returns-in-Implication-clause-found : goal.operand-returns-in-Implication-clause-found
operand-returns-in-Implication-clause-found t c =
    rw c.in-Implication.is (IfOk-weaker c.joined-in-Implication.result _ _ (λ found h. operand_of_implication _ (option_map tree_in found) _ h) c.joined-in-Implication.ensures.found)

pub operand-returns-in-Disjunction-clause-found : goal.operand-returns-in-Disjunction-clause-found
operand-returns-in-Disjunction-clause-found t c =
    rw c.in-Disjunction.is (IfOk-weaker c.joined-in-Disjunction.result _ _ (λ found h. operand_of_disjunction _ (option_map tree_in found) _ h) c.joined-in-Disjunction.ensures.found)

pub operand-returns-in-Conjunction-clause-found : goal.operand-returns-in-Conjunction-clause-found
operand-returns-in-Conjunction-clause-found t c =
    rw c.in-Conjunction.is (IfOk-weaker c.unary.result _ _ (λ found h. operand_of_conjunction _ (option_map tree_in found) _ h) c.unary.ensures.found)

pub unary-signs-init : goal.unary-signs-init
unary-signs-init t c = negating_none c.args.cursor.now

pub unary-signs-preserved : goal.unary-signs-preserved
unary-signs-preserved t c =
    let told : Takes Not c.signs.cursor true c.takes.new.self = rw c.signs-test.true at c.takes.ensures.told in
    negating_more c.args.cursor.now c.signs.cursor c.takes.new.self c.signs.invariant told

pub unary-returns-in_ok-negated-in-Some-clause-found : goal.unary-returns-in_ok-negated-in-Some-clause-found
unary-returns-in_ok-negated-in-Some-clause-found t c =
    let told : Takes Not c.signs.cursor false c.takes.new.self = rw c.signs-test.false at c.takes.ensures.told in
    let read : Reads IsUnary 5 c.takes.new.self (tree_in c.in-Some.operand) c.primary.new.cursor = rw c.in-Some.is at c.in_ok-operand.ensures.found in
    let read_there : Reads IsUnary 5 c.signs.cursor (tree_in c.in-Some.operand) c.primary.new.cursor =
    subst (λ xs. Reads IsUnary 5 xs (tree_in c.in-Some.operand) c.primary.new.cursor) told.0 read in
    let all = c.signs.invariant.completes (tree_in c.in-Some.operand) c.primary.new.cursor read_there in
    let signs : c.len-before.result - c.len.result ≡ length c.args.cursor.now - length c.signs.cursor =
    ap₂ (λ a b. a - b) c.len-before.ensures (c.len.ensures ∙ ap length told.0) in
    rw c.in_ok-negated-in-Some.ensures (subst (λ n. Reads IsUnary 5 c.args.cursor.now (negations n (tree_in c.in-Some.operand)) c.primary.new.cursor) (sym signs) all)

pub unary-returns-in-None-clause-found : goal.unary-returns-in-None-clause-found
unary-returns-in-None-clause-found t c =
    let told : Takes Not c.signs.cursor false c.takes.new.self = rw c.signs-test.false at c.takes.ensures.told in
    let none : HasNone IsUnary 5 c.takes.new.self = rw c.in-None.is at c.in_ok-operand.ensures.found in
    c.signs.invariant.none (subst (λ xs. HasNone IsUnary 5 xs) told.0 none)

pub primary-returns-in_default-clause-found : goal.primary-returns-in_default-clause-found
primary-returns-in_default-clause-found t c =
    let none : HasNone (IsJoined Equivalence) 1 c.takes.new.self = rw c.in_default.is at c.in_ok-enclosed.ensures.found in
    enclosed_none c.args.cursor.now c.takes.new.self c.if-takes.ensures.told none

pub primary-returns-then-not-takes-clause-found : goal.primary-returns-then-not-takes-clause-found
primary-returns-then-not-takes-clause-found t c =
    let read : Reads (IsJoined Equivalence) 1 c.takes.new.self (tree_in c.in-Some.enclosed) c.joined.new.cursor = rw c.in-Some.is at c.in_ok-enclosed.ensures.found in
    enclosed_open c.args.cursor.now c.takes.new.self c.joined.new.cursor c.takes-then-takes.new.self (tree_in c.in-Some.enclosed) c.if-takes.ensures.told read c.if-not-takes.ensures.told

pub primary-returns-then-takes-clause-found : goal.primary-returns-then-takes-clause-found
primary-returns-then-takes-clause-found t c =
    let read : Reads (IsJoined Equivalence) 1 c.takes.new.self (tree_in c.in-Some.enclosed) c.joined.new.cursor = rw c.in-Some.is at c.in_ok-enclosed.ensures.found in
    enclosed_found c.args.cursor.now c.takes.new.self c.joined.new.cursor c.takes-then-takes.new.self (tree_in c.in-Some.enclosed) c.if-takes.ensures.told read c.if-not-takes.ensures.told

pub primary-returns-clause-found : goal.primary-returns-clause-found
primary-returns-clause-found t c =
    IfOk-weaker c.atom.result _ _ (λ found h. unary_atom c.args.cursor.now c.args.cursor.now c.takes.new.self (option_map tree_in found) _ (refl, c.requires.other) c.if-takes.ensures.told h) c.atom.ensures.found
