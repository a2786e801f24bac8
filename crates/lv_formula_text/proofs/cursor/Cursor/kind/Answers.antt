-- the token at the place stands first in what is left
use Rattle.std.proofs.Common.{◌∙◌, ap}
use Rattle.lv_formula_text.specs.Connectives.{first_kind}
use Rattle.lv_formula_text.proofs.CursorLemmas.{first_at}
use Rattle.lv_formula_text.proofs.cursor.Cursor.kind.Goals as goal

pub returns : goal.returns
returns c = c.kind.ensures ∙ first_at c.self.inside.line.now c.self.inside.place ∙ ap first_kind c.self.view_is
