-- the literal is that of the numbering
use Rattle.std.proofs.Common.{ap, ◌∙◌}
use Rattle.lv_clauses.specs.Marks.{is_marked}
use Rattle.lv_asking.specs.Literals.{pair_literal}
use Rattle.lv_asking.specs.Asking.{AskingValue}
use Rattle.lv_asking.proofs.asking.AskingRefuter.is_needed.Goals as goal

pub returns : goal.returns
returns c =
    let numbered = c.literal-literal.ensures ∙ ap (λ (v : AskingValue). pair_literal v.choices c.args.pair) c.self.view_is in
    c.is_marked.ensures ∙ (λ i. is_marked (c.as_slice.ensures i) (numbered i))
