-- the word at the place stands first in what is left
use Rattle.std.proofs.Common.{refl, ◌≡◌, true, false, Some, None, sym, arith}
use Rattle.lv_base.specs.Names.{is_named}
use Rattle.lv_text.specs.Lexemes.{word_at}
use Rattle.lv_formula_text.proofs.CursorLemmas.{taken_word, other_word, no_word, same_word}
use Rattle.lv_formula_text.proofs.cursor.Cursor.takes_word.Goals as goal

pub returns-in_default-clause-told : goal.returns-in_default-clause-told
returns-in_default-clause-told c =
    let none : word_at c.self.inside.line.now c.self.inside.place ≡ None = grind arith in
    (refl, no_word c.self.inside.line.now c.args.self.now c.self.inside.place c.args.text.now c.self.view_is none)

pub overflow_add-self : goal.overflow_add-self
overflow_add-self c =
    let word : word_at c.self.inside.line.now c.self.inside.place ≡ Some c.in-Some.word.now = grind arith in
    let found = taken_word c.self.inside.line.now c.args.self.now c.self.inside.place c.in-Some.word.now (sym c.self.view_is) word in
    grind arith

pub returns-then-eq-clause-told : goal.returns-then-eq-clause-told
returns-then-eq-clause-told c =
    let word : word_at c.self.inside.line.now c.self.inside.place ≡ Some c.in-Some.word.now = grind arith in
    let same : is_named c.args.text.now c.in-Some.word.now ≡ true = grind arith in
    same_word c.self.inside.line.now c.args.self.now c.self.inside.place c.args.text.now c.in-Some.word.now (sym c.self.view_is) word same

pub returns-else-eq-clause-told : goal.returns-else-eq-clause-told
returns-else-eq-clause-told c =
    let word : word_at c.self.inside.line.now c.self.inside.place ≡ Some c.in-Some.word.now = grind arith in
    let differs : is_named c.args.text.now c.in-Some.word.now ≡ false = grind arith in
    (refl, other_word c.self.inside.line.now c.args.self.now c.self.inside.place c.args.text.now c.in-Some.word.now c.self.view_is word differs)
