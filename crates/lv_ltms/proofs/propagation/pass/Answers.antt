-- the other literal is true, or the clause has more than two, or the other one is false or marked now
use Rattle.std.proofs.Common.{◌≡◌, ◌<◌, false, length, sym, ap, subst, ◌∙◌}
use Rattle.lv_base.specs.declared.ids.Lit.{Lit}
use Rattle.lv_clauses.specs.Literals.{neg}
use Rattle.lv_clauses.specs.Marks.{Marks, is_marked}
use Rattle.lv_ltms.specs.Labelled.{Labelled, GoesOn}
use Rattle.lv_ltms.proofs.MeetLemmas.{clause_range, unit_room, unit_marked, unit_goes_on}
use Rattle.lv_ltms.proofs.PairLemmas.{IsBoth, both_of, both_falsified}
use Rattle.lv_ltms.proofs.propagation.pass.Goals as goal

pub returns-then-is_marked-2-clause-passes : goal.returns-then-is_marked-2-clause-passes
returns-then-is_marked-2-clause-passes c =
    both_falsified c.args.arena.now c.args.labels.now.marks c.args.id.0 c.args.lit c.args.other (both_of c.args.arena.now c.args.id.0 c.args.lit c.args.other c.requires.pair (sym c.if-not-is_pair.ensures)) c.requires.turned
    (ap (λ (m : Marks). is_marked m (neg c.args.other)) (sym c.marks-2.ensures) ∙ ap (λ (l : Lit). is_marked c.marks-2.result.now l) (sym c.negation.ensures) ∙ sym c.is_marked-2.ensures ∙ c.if-is_marked-2.true)

pub push-requires-clause-mark : goal.push-requires-clause-mark
push-requires-clause-mark c =
    let both : IsBoth c.args.arena.now c.args.id.0 c.args.lit c.args.other = both_of c.args.arena.now c.args.id.0 c.args.lit c.args.other c.requires.pair (sym c.if-not-is_pair.ensures) in
    clause_range (length c.args.labels.now.marks) both.clause c.args.other (c.requires.clauses c.args.id.0 both.clause both.present) both.member

pub push-requires-clause-support : goal.push-requires-clause-support
push-requires-clause-support c =
    let both : IsBoth c.args.arena.now c.args.id.0 c.args.lit c.args.other = both_of c.args.arena.now c.args.id.0 c.args.lit c.args.other c.requires.pair (sym c.if-not-is_pair.ensures) in
    subst (λ n. c.args.other.var.0 < n) (sym c.requires.labels.supports) (clause_range (length c.args.labels.now.marks) both.clause c.args.other (c.requires.clauses c.args.id.0 both.clause both.present) both.member)

pub push-requires-clause-room : goal.push-requires-clause-room
push-requires-clause-room c =
    let p : is_marked c.args.labels.now.marks c.args.other ≡ false = ap (λ (m : Marks). is_marked m c.args.other) (sym c.marks.ensures) ∙ sym c.is_marked.ensures ∙ c.if-is_marked.false in
    let q : is_marked c.args.labels.now.marks (neg c.args.other) ≡ false =
    ap (λ (m : Marks). is_marked m (neg c.args.other)) (sym c.marks-2.ensures) ∙ ap (λ (l : Lit). is_marked c.marks-2.result.now l) (sym c.negation.ensures) ∙ sym c.is_marked-2.ensures ∙ c.if-is_marked-2.false in
    let both : IsBoth c.args.arena.now c.args.id.0 c.args.lit c.args.other = both_of c.args.arena.now c.args.id.0 c.args.lit c.args.other c.requires.pair (sym c.if-not-is_pair.ensures) in
    unit_room c.args.arena.now c.args.labels.now c.args.id both.clause c.args.other both.present c.requires.labels
    (clause_range (length c.args.labels.now.marks) both.clause c.args.other (c.requires.clauses c.args.id.0 both.clause both.present) both.member) p q

pub returns-clause-passes : goal.returns-clause-passes
returns-clause-passes c =
    let p : is_marked c.args.labels.now.marks c.args.other ≡ false = ap (λ (m : Marks). is_marked m c.args.other) (sym c.marks.ensures) ∙ sym c.is_marked.ensures ∙ c.if-is_marked.false in
    let q : is_marked c.args.labels.now.marks (neg c.args.other) ≡ false =
    ap (λ (m : Marks). is_marked m (neg c.args.other)) (sym c.marks-2.ensures) ∙ ap (λ (l : Lit). is_marked c.marks-2.result.now l) (sym c.negation.ensures) ∙ sym c.is_marked-2.ensures ∙ c.if-is_marked-2.false in
    let both : IsBoth c.args.arena.now c.args.id.0 c.args.lit c.args.other = both_of c.args.arena.now c.args.id.0 c.args.lit c.args.other c.requires.pair (sym c.if-not-is_pair.ensures) in
    ap (λ (x : Labelled). is_marked x.marks c.args.other) c.push.ensures
    ∙ unit_marked c.args.arena.now c.args.labels.now c.args.id both.clause c.args.other both.present c.requires.labels
    (clause_range (length c.args.labels.now.marks) both.clause c.args.other (c.requires.clauses c.args.id.0 both.clause both.present) both.member) p q

pub returns-clause-goes_on : goal.returns-clause-goes_on
returns-clause-goes_on c =
    let p : is_marked c.args.labels.now.marks c.args.other ≡ false = ap (λ (m : Marks). is_marked m c.args.other) (sym c.marks.ensures) ∙ sym c.is_marked.ensures ∙ c.if-is_marked.false in
    let q : is_marked c.args.labels.now.marks (neg c.args.other) ≡ false =
    ap (λ (m : Marks). is_marked m (neg c.args.other)) (sym c.marks-2.ensures) ∙ ap (λ (l : Lit). is_marked c.marks-2.result.now l) (sym c.negation.ensures) ∙ sym c.is_marked-2.ensures ∙ c.if-is_marked-2.false in
    let both : IsBoth c.args.arena.now c.args.id.0 c.args.lit c.args.other = both_of c.args.arena.now c.args.id.0 c.args.lit c.args.other c.requires.pair (sym c.if-not-is_pair.ensures) in
    subst (GoesOn c.args.arena.now c.args.labels.now) (sym c.push.ensures)
    (unit_goes_on c.args.arena.now c.args.labels.now c.args.id both.clause c.args.other both.present c.requires.labels
    (clause_range (length c.args.labels.now.marks) both.clause c.args.other (c.requires.clauses c.args.id.0 both.clause both.present) both.member) p q both.member
    (λ m h differs. ap (λ (l : Lit). is_marked c.args.labels.now.marks (neg l)) (both.rest m h differs) ∙ c.requires.turned))
