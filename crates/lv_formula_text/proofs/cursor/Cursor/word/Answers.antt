-- the token at the place stands first in what is left
use Rattle.std.proofs.Common.{refl, ◌≡◌, ◌≢◌, Some, None, sym, subst, arith}
use Rattle.lv_text.specs.Lexemes.{word_at}
use Rattle.lv_text.specs.declared.lexer.TokenKind.TheVariants.{Word}
use Rattle.lv_formula_text.specs.Connectives.{first_kind}
use Rattle.lv_formula_text.proofs.CursorLemmas.{taken_word, found_no_word}
use Rattle.lv_formula_text.proofs.cursor.Cursor.word.Goals as goal

pub returns-in_err-word-clause-told : goal.returns-in_err-word-clause-told
returns-in_err-word-clause-told c =
    let none : word_at c.self.inside.line.now c.self.inside.place ≡ None = grind arith in
    rw c.from_residual.ensures
    (refl, subst (λ ts. first_kind ts ≢ Some Word) c.self.view_is (found_no_word c.self.inside.line.now c.self.inside.place none))

pub overflow_add-self : goal.overflow_add-self
overflow_add-self c =
    let word : word_at c.self.inside.line.now c.self.inside.place ≡ Some c.in_ok-word.word.now = grind arith in
    let found = taken_word c.self.inside.line.now c.args.self.now c.self.inside.place c.in_ok-word.word.now (sym c.self.view_is) word in
    grind arith

pub returns-clause-told : goal.returns-clause-told
returns-clause-told c =
    let word : word_at c.self.inside.line.now c.self.inside.place ≡ Some c.in_ok-word.word.now = grind arith in
    (taken_word c.self.inside.line.now c.args.self.now c.self.inside.place c.in_ok-word.word.now (sym c.self.view_is) word).1
