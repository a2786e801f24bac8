-- the marks are what is derived
use Rattle.std.proofs.Common.{◌≡◌, true, false, subst, sym, ap, ◌∙◌}
use Rattle.lv_base.specs.declared.ids.Lit.{Lit}
use Rattle.lv_clauses.specs.Literals.{neg}
use Rattle.lv_clauses.specs.Marks.{Marks, is_marked}
use Rattle.lv_ltms.specs.System.{System, IsDerived, IsRefuted}
use Rattle.lv_ltms.proofs.SystemLemmas.{marked_derived, unmarked_not_derived}
use Rattle.lv_ltms.proofs.ltms.Ltms.label.Goals as goal

pub returns-then-is_marked : goal.returns-then-is_marked
returns-then-is_marked c =
    let e : is_marked c.self.inside.network.labels.marks c.args.lit ≡ true = cc in
    subst (λ (s : System). IsDerived s c.args.lit) c.self.view_is (marked_derived c.self.invariant c.args.lit e)

pub returns-then-is_marked-2 : goal.returns-then-is_marked-2
returns-then-is_marked-2 c =
    let e : is_marked c.self.inside.network.labels.marks (neg c.args.lit) ≡ true = ap (λ (m : Marks). is_marked m (neg c.args.lit)) (sym c.marks-2.ensures) ∙ ap (λ (l : Lit). is_marked c.marks-2.result.now l) (sym c.negation.ensures) ∙ sym c.is_marked-2.ensures ∙ c.if-is_marked-2.true in
    subst (λ (s : System). IsDerived s (neg c.args.lit)) c.self.view_is (marked_derived c.self.invariant (neg c.args.lit) e)

pub returns : goal.returns
returns c =
    let p : is_marked c.self.inside.network.labels.marks c.args.lit ≡ false = cc in
    let q : is_marked c.self.inside.network.labels.marks (neg c.args.lit) ≡ false = ap (λ (m : Marks). is_marked m (neg c.args.lit)) (sym c.marks-2.ensures) ∙ ap (λ (l : Lit). is_marked c.marks-2.result.now l) (sym c.negation.ensures) ∙ sym c.is_marked-2.ensures ∙ c.if-is_marked-2.false in
    let never : (l : Lit) → is_marked c.self.inside.network.labels.marks l ≡ false → ¬ IsDerived c.args.self.now l =
    λ l e. subst (λ (s : System). ¬ IsRefuted s → ¬ IsDerived s l) c.self.view_is (λ fine. unmarked_not_derived c.self.invariant fine l e) c.requires in
    (never c.args.lit p, never (neg c.args.lit) q)
