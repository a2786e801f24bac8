-- the clause is false, has its first literal true or another one left, or its first literal is marked
use Rattle.std.proofs.Common.{◌≡◌, ◌||◌, true, false, sym, ap, subst, ◌∙◌}
use Rattle.lv_base.specs.declared.ids.Lit.{Lit}
use Rattle.lv_clauses.specs.Literals.{neg}
use Rattle.lv_clauses.specs.Marks.{Marks, is_marked}
use Rattle.lv_ltms.specs.Trail.{same_lit}
use Rattle.lv_ltms.specs.Labelled.{Labelled}
use Rattle.lv_ltms.specs.Standing.{Settles}
use Rattle.lv_ltms.proofs.PickLemmas.{settles_false, settles_kept, not_last, settled_room, settles_marked}
use Rattle.lv_ltms.proofs.propagation.settle.Goals as goal

pub returns-then-is_marked : goal.returns-then-is_marked
returns-then-is_marked c =
    let e : is_marked c.args.labels.now.marks (neg c.args.pair.near) ≡ true =
    ap (λ (m : Marks). is_marked m (neg c.args.pair.near)) (sym c.marks.ensures) ∙ ap (λ (l : Lit). is_marked c.marks.result.now l) (sym c.negation.ensures) ∙ sym c.is_marked.ensures ∙ c.if-is_marked.true in
    settles_false c.args.id c.args.pair c.args.labels.now c.args.progress c.requires.labels e

pub returns-then-is_marked-2 : goal.returns-then-is_marked-2
returns-then-is_marked-2 c =
    let e : is_marked c.args.labels.now.marks (neg c.args.pair.near) ≡ false =
    ap (λ (m : Marks). is_marked m (neg c.args.pair.near)) (sym c.marks.ensures) ∙ ap (λ (l : Lit). is_marked c.marks.result.now l) (sym c.negation.ensures) ∙ sym c.is_marked.ensures ∙ c.if-is_marked.false in
    let known : is_marked c.args.labels.now.marks c.args.pair.near ≡ true = ap (λ (m : Marks). is_marked m c.args.pair.near) (sym c.marks-2.ensures) ∙ sym c.is_marked-2.ensures ∙ c.if-is_marked-2.true in
    settles_kept c.args.id c.args.pair c.args.labels.now c.args.progress c.requires.labels e (λ g. known)

pub returns-then-not-is_last : goal.returns-then-not-is_last
returns-then-not-is_last c =
    let e : is_marked c.args.labels.now.marks (neg c.args.pair.near) ≡ false =
    ap (λ (m : Marks). is_marked m (neg c.args.pair.near)) (sym c.marks.ensures) ∙ ap (λ (l : Lit). is_marked c.marks.result.now l) (sym c.negation.ensures) ∙ sym c.is_marked.ensures ∙ c.if-is_marked.false in
    let open_still : (same_lit c.args.pair.near c.args.pair.far || is_marked c.args.labels.now.marks (neg c.args.pair.far)) ≡ false =
    ap (λ (m : Marks). same_lit c.args.pair.near c.args.pair.far || is_marked m (neg c.args.pair.far)) (sym c.marks-3.ensures) ∙ sym c.if-not-is_last.ensures in
    settles_kept c.args.id c.args.pair c.args.labels.now c.args.progress c.requires.labels e (not_last c.args.id c.args.pair c.args.labels.now c.args.progress c.requires.labels open_still)

pub push-requires-clause-room : goal.push-requires-clause-room
push-requires-clause-room c =
    let q : is_marked c.args.labels.now.marks (neg c.args.pair.near) ≡ false =
    ap (λ (m : Marks). is_marked m (neg c.args.pair.near)) (sym c.marks.ensures) ∙ ap (λ (l : Lit). is_marked c.marks.result.now l) (sym c.negation.ensures) ∙ sym c.is_marked.ensures ∙ c.if-is_marked.false in
    let p : is_marked c.args.labels.now.marks c.args.pair.near ≡ false = ap (λ (m : Marks). is_marked m c.args.pair.near) (sym c.marks-2.ensures) ∙ sym c.is_marked-2.ensures ∙ c.if-is_marked-2.false in
    settled_room c.args.id c.args.pair c.args.labels.now c.args.progress c.requires.labels p q c.requires.range

pub returns : goal.returns
returns c =
    let q : is_marked c.args.labels.now.marks (neg c.args.pair.near) ≡ false =
    ap (λ (m : Marks). is_marked m (neg c.args.pair.near)) (sym c.marks.ensures) ∙ ap (λ (l : Lit). is_marked c.marks.result.now l) (sym c.negation.ensures) ∙ sym c.is_marked.ensures ∙ c.if-is_marked.false in
    let p : is_marked c.args.labels.now.marks c.args.pair.near ≡ false = ap (λ (m : Marks). is_marked m c.args.pair.near) (sym c.marks-2.ensures) ∙ sym c.is_marked-2.ensures ∙ c.if-is_marked-2.false in
    let last : (same_lit c.args.pair.near c.args.pair.far || is_marked c.args.labels.now.marks (neg c.args.pair.far)) ≡ true =
    ap (λ (m : Marks). same_lit c.args.pair.near c.args.pair.far || is_marked m (neg c.args.pair.far)) (sym c.marks-3.ensures) ∙ sym c.if-not-is_last.ensures in
    subst (λ (x : Labelled). Settles c.args.id c.args.pair c.args.labels.now x c.args.progress c.args.progress) (sym c.push.ensures)
    (settles_marked c.args.id c.args.pair c.args.labels.now c.args.progress c.requires.labels p q c.requires.range last)
