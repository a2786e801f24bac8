-- the other literal is true, or another one isn't false, or the other one is false or marked now
use Rattle.std.proofs.Common.{◌≡◌, ◌<◌, true, false, length, find, Some, None, Contains, refl, sym, ap, subst, ◌∙◌}
use Rattle.lv_base.specs.declared.ids.Lit.{Lit}
use Rattle.lv_clauses.specs.Literals.{neg}
use Rattle.lv_clauses.specs.ClauseMap.{clause_at}
use Rattle.lv_clauses.specs.Marks.{Marks, is_marked}
use Rattle.lv_ltms.specs.declared.propagation.Meeting.TheVariants.{Holds, Moves, Fails}
use Rattle.lv_ltms.specs.Labelled.{Labelled, GoesOn}
use Rattle.lv_ltms.specs.Standing.{Meets}
use Rattle.lv_ltms.specs.Visiting.{is_open_but}
use Rattle.lv_ltms.proofs.FindLemmas.{if_some, from_some, open_found, none_open}
use Rattle.lv_ltms.proofs.MeetLemmas.{clause_range, unit_room, unit_marked, unit_goes_on}
use Rattle.lv_ltms.proofs.propagation.meet.Goals as goal

pub returns-in-Some-clause-meets : goal.returns-in-Some-clause-meets
returns-in-Some-clause-meets c =
    let e : find (is_open_but c.args.other c.args.labels.now.marks) c.get.result.now ≡ Some c.in-Some.open =
    ap (λ (m : Marks). find (is_open_but c.args.other m) c.get.result.now) (sym c.marks-2.ensures) ∙ sym c.find_open_but.ensures ∙ c.in-Some.is in
    let found = open_found c.get.result.now c.args.other c.args.labels.now.marks c.in-Some.open e in
    if_some (λ x. Meets x c.args.other c.args.labels.now.marks c.args.labels.now.marks (Moves c.in-Some.open)) (clause_at c.args.arena.now c.args.id.0) c.get.result.now c.get.ensures
    (found.member, found.differs, found.open_still, refl)

pub returns-then-is_marked-2-clause-meets : goal.returns-then-is_marked-2-clause-meets
returns-then-is_marked-2-clause-meets c =
    let e : find (is_open_but c.args.other c.args.labels.now.marks) c.get.result.now ≡ None =
    ap (λ (m : Marks). find (is_open_but c.args.other m) c.get.result.now) (sym c.marks-2.ensures) ∙ sym c.find_open_but.ensures ∙ c.in_default.is in
    let turned : is_marked c.args.labels.now.marks (neg c.args.other) ≡ true =
    ap (λ (m : Marks). is_marked m (neg c.args.other)) (sym c.marks-3.ensures) ∙ ap (λ (l : Lit). is_marked c.marks-3.result.now l) (sym c.negation.ensures) ∙ sym c.is_marked-2.ensures ∙ c.if-is_marked-2.true in
    if_some (λ x. Meets x c.args.other c.args.labels.now.marks c.args.labels.now.marks Fails) (clause_at c.args.arena.now c.args.id.0) c.get.result.now c.get.ensures
    (turned, none_open c.get.result.now c.args.other c.args.labels.now.marks e, refl)

pub push-requires-clause-mark : goal.push-requires-clause-mark
push-requires-clause-mark c =
    clause_range (length c.args.labels.now.marks) c.get.result.now c.args.other (c.requires.clauses c.args.id.0 c.get.result.now c.get.ensures)
    (from_some (λ x. Contains x c.args.other) (clause_at c.args.arena.now c.args.id.0) c.get.result.now c.get.ensures c.requires.member)

pub push-requires-clause-room : goal.push-requires-clause-room
push-requires-clause-room c =
    let p : is_marked c.args.labels.now.marks c.args.other ≡ false = ap (λ (m : Marks). is_marked m c.args.other) (sym c.marks.ensures) ∙ sym c.is_marked.ensures ∙ c.if-is_marked.false in
    let q : is_marked c.args.labels.now.marks (neg c.args.other) ≡ false =
    ap (λ (m : Marks). is_marked m (neg c.args.other)) (sym c.marks-3.ensures) ∙ ap (λ (l : Lit). is_marked c.marks-3.result.now l) (sym c.negation.ensures) ∙ sym c.is_marked-2.ensures ∙ c.if-is_marked-2.false in
    unit_room c.args.arena.now c.args.labels.now c.args.id c.get.result.now c.args.other c.get.ensures c.requires.labels
    (clause_range (length c.args.labels.now.marks) c.get.result.now c.args.other (c.requires.clauses c.args.id.0 c.get.result.now c.get.ensures)
    (from_some (λ x. Contains x c.args.other) (clause_at c.args.arena.now c.args.id.0) c.get.result.now c.get.ensures c.requires.member)) p q

pub push-requires-clause-support : goal.push-requires-clause-support
push-requires-clause-support c =
    subst (λ n. c.args.other.var.0 < n) (sym c.requires.labels.supports)
    (clause_range (length c.args.labels.now.marks) c.get.result.now c.args.other (c.requires.clauses c.args.id.0 c.get.result.now c.get.ensures)
    (from_some (λ x. Contains x c.args.other) (clause_at c.args.arena.now c.args.id.0) c.get.result.now c.get.ensures c.requires.member))

pub returns-clause-meets : goal.returns-clause-meets
returns-clause-meets c =
    let p : is_marked c.args.labels.now.marks c.args.other ≡ false = ap (λ (m : Marks). is_marked m c.args.other) (sym c.marks.ensures) ∙ sym c.is_marked.ensures ∙ c.if-is_marked.false in
    let q : is_marked c.args.labels.now.marks (neg c.args.other) ≡ false =
    ap (λ (m : Marks). is_marked m (neg c.args.other)) (sym c.marks-3.ensures) ∙ ap (λ (l : Lit). is_marked c.marks-3.result.now l) (sym c.negation.ensures) ∙ sym c.is_marked-2.ensures ∙ c.if-is_marked-2.false in
    let member : Contains c.get.result.now c.args.other = from_some (λ x. Contains x c.args.other) (clause_at c.args.arena.now c.args.id.0) c.get.result.now c.get.ensures c.requires.member in
    if_some (λ x. Meets x c.args.other c.args.labels.now.marks c.push.new.self.marks Holds) (clause_at c.args.arena.now c.args.id.0) c.get.result.now c.get.ensures
    (ap (λ (x : Labelled). is_marked x.marks c.args.other) c.push.ensures
    ∙ unit_marked c.args.arena.now c.args.labels.now c.args.id c.get.result.now c.args.other c.get.ensures c.requires.labels
    (clause_range (length c.args.labels.now.marks) c.get.result.now c.args.other (c.requires.clauses c.args.id.0 c.get.result.now c.get.ensures) member) p q)

pub returns-clause-goes_on : goal.returns-clause-goes_on
returns-clause-goes_on c =
    let p : is_marked c.args.labels.now.marks c.args.other ≡ false = ap (λ (m : Marks). is_marked m c.args.other) (sym c.marks.ensures) ∙ sym c.is_marked.ensures ∙ c.if-is_marked.false in
    let q : is_marked c.args.labels.now.marks (neg c.args.other) ≡ false =
    ap (λ (m : Marks). is_marked m (neg c.args.other)) (sym c.marks-3.ensures) ∙ ap (λ (l : Lit). is_marked c.marks-3.result.now l) (sym c.negation.ensures) ∙ sym c.is_marked-2.ensures ∙ c.if-is_marked-2.false in
    let e : find (is_open_but c.args.other c.args.labels.now.marks) c.get.result.now ≡ None =
    ap (λ (m : Marks). find (is_open_but c.args.other m) c.get.result.now) (sym c.marks-2.ensures) ∙ sym c.find_open_but.ensures ∙ c.in_default.is in
    let member : Contains c.get.result.now c.args.other = from_some (λ x. Contains x c.args.other) (clause_at c.args.arena.now c.args.id.0) c.get.result.now c.get.ensures c.requires.member in
    subst (GoesOn c.args.arena.now c.args.labels.now) (sym c.push.ensures)
    (unit_goes_on c.args.arena.now c.args.labels.now c.args.id c.get.result.now c.args.other c.get.ensures c.requires.labels
    (clause_range (length c.args.labels.now.marks) c.get.result.now c.args.other (c.requires.clauses c.args.id.0 c.get.result.now c.get.ensures) member) p q member (none_open c.get.result.now c.args.other c.args.labels.now.marks e))
