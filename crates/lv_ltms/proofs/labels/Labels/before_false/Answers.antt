-- before its place the literal isn't false, and where it isn't marked as false it is nowhere
use Rattle.std.proofs.Common.{◌≡◌, false, sym, ap, ◌∙◌, arith}
use Rattle.lv_base.specs.declared.ids.Lit.{Lit}
use Rattle.lv_clauses.specs.Literals.{neg}
use Rattle.lv_clauses.specs.Marks.{Marks, is_marked}
use Rattle.lv_ltms.proofs.ReadLemmas.{clear_before, clear_unmarked}
use Rattle.lv_ltms.proofs.labels.Labels.before_false.Goals as goal

pub returns-then-is_marked-clause-clear : goal.returns-then-is_marked-clause-clear
returns-then-is_marked-clause-clear c =
    clear_before c.args.self.now.trail c.args.lit c.min.result (omega (arith, c.min.ensures, c.place_of.ensures))

pub returns-else-is_marked-clause-clear : goal.returns-else-is_marked-clause-clear
returns-else-is_marked-clause-clear c =
    let q : is_marked c.args.self.now.marks (neg c.args.lit) ≡ false =
    ap (λ (m : Marks). is_marked m (neg c.args.lit)) (sym c.marks.ensures) ∙ ap (λ (l : Lit). is_marked c.marks.result.now l) (sym c.negation.ensures) ∙ sym c.is_marked.ensures ∙ c.if-is_marked.false in
    clear_unmarked c.args.self.now c.args.lit c.args.len c.requires.agrees q
