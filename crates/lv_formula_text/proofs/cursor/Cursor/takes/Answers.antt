-- the token at the place stands first in what is left
use Rattle.std.proofs.Common.{◌≡◌, Some, sym, arith}
use Rattle.lv_formula_text.specs.Connectives.{first_kind}
use Rattle.lv_formula_text.proofs.CursorLemmas.{taken}
use Rattle.lv_formula_text.proofs.cursor.Cursor.takes.Goals as goal

pub overflow_add-self : goal.overflow_add-self
overflow_add-self c =
    let first : first_kind c.args.self.now ≡ Some c.args.kind = grind arith in
    let found = taken c.self.inside.line.now c.args.self.now c.self.inside.place c.args.kind (sym c.self.view_is) first in
    grind arith

pub returns-then-eq-clause-told : goal.returns-then-eq-clause-told
returns-then-eq-clause-told c =
    let first : first_kind c.args.self.now ≡ Some c.args.kind = grind arith in
    (taken c.self.inside.line.now c.args.self.now c.self.inside.place c.args.kind (sym c.self.view_is) first).1
