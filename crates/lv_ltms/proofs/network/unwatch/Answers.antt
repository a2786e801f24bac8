-- each is put back or passed over
use Rattle.std.proofs.Common.{◌≡◌, ◌<◌, ℕ, length, set, None, sym, ap, subst, ◌∙◌, arith}
use Rattle.lv_base.specs.declared.ids.Lit.{Lit}
use Rattle.lv_clauses.specs.ClauseMap.{clause_at}
use Rattle.lv_ltms.specs.Watching.{Rows, head_of, lit_at, with_head}
use Rattle.lv_ltms.proofs.MeetLemmas.{clause_range}
use Rattle.lv_ltms.proofs.BlankLemmas.{blank_is, HasLit, lit_there}
use Rattle.lv_ltms.proofs.UnwatchLemmas.{IsUnwatching, unwatch_start, unwatch_over, unwatch_end, unwatch_room, unwatch_skip, unwatch_put, unwatch_same, unwatch_empty, set_gone}
use Rattle.lv_ltms.proofs.network.unwatch.Goals as goal
use Rattle.lv_ltms.proofs.network.unwatch.Goals.{then-other-id, else-other-id}

pub returns-then-is_blank-clause-threaded : goal.returns-then-is_blank-clause-threaded
returns-then-is_blank-clause-threaded c =
    unwatch_empty c.args.arena.now (length c.args.rows.now.of_true) c.args.rows.now c.args.id.0 (blank_is (clause_at c.args.arena.now c.args.id.0) (sym c.is_blank.ensures ∙ c.if-is_blank.true)) c.requires.threaded

pub lit-lit-requires : goal.lit-lit-requires
lit-lit-requires c = c.requires.threaded.room c.args.id.0 c.requires.present

pub loop-init : goal.loop-init
loop-init c =
    let has : HasLit (clause_at c.args.arena.now c.args.id.0) = lit_there (clause_at c.args.arena.now c.args.id.0) c.requires.present (sym c.is_blank.ensures ∙ c.if-is_blank.false) in
    let range : (lit_at c.args.rows.now c.args.id.0).var.0 < length c.args.rows.now.of_true =
    clause_range (length c.args.rows.now.of_true) has.clause (lit_at c.args.rows.now c.args.id.0) (c.requires.clauses c.args.id.0 has.clause has.present) (c.requires.members.member c.args.id.0 has.clause has.lit has.present has.has) in
    let lit : c.lit-lit.result ≡ lit_at c.args.rows.now c.args.id.0 = c.lit-lit.ensures in
    subst (λ (l : Lit). IsUnwatching (set c.args.arena.now c.args.id.0 None) (length c.args.rows.now.of_true) c.args.rows.now c.args.id l c.room-end.result 0 c.take-at.new.self c.take-at.result) (sym lit)
    (subst (λ (n : ℕ). IsUnwatching (set c.args.arena.now c.args.id.0 None) (length c.args.rows.now.of_true) c.args.rows.now c.args.id (lit_at c.args.rows.now c.args.id.0) n 0 c.take-at.new.self c.take-at.result)
    (sym (c.room-end.ensures ∙ ap (λ (r : Rows). length r.watches) (c.take-at.ensures.taken ∙ ap (λ (l : Lit). with_head c.args.rows.now l None) lit)))
    (unwatch_same (c.take-at.ensures.taken ∙ ap (λ (l : Lit). with_head c.args.rows.now l None) lit) (c.take-at.ensures.first ∙ ap (head_of c.args.rows.now) lit)
    (unwatch_start c.args.arena.now (length c.args.rows.now.of_true) c.args.rows.now c.args.id c.requires.threaded range)))

pub returns-in_default-clause-threaded : goal.returns-in_default-clause-threaded
returns-in_default-clause-threaded c = unwatch_end c.loop.invariant (set_gone c.args.arena.now c.args.id.0) c.in_default.is

pub returns-in_default-clause-same : goal.returns-in_default-clause-same
returns-in_default-clause-same c = c.loop.invariant.same

pub next-at-requires : goal.next-at-requires
next-at-requires c = unwatch_room c.loop.invariant c.in-Some.other c.in-Some.is

pub put-requires-clause-room : goal.put-requires-clause-room
put-requires-clause-room c = unwatch_room c.loop.invariant c.in-Some.other c.in-Some.is

pub take-at-requires : goal.take-at-requires
take-at-requires c =
    let has : HasLit (clause_at c.args.arena.now c.args.id.0) = lit_there (clause_at c.args.arena.now c.args.id.0) c.requires.present (sym c.is_blank.ensures ∙ c.if-is_blank.false) in
    let range : (lit_at c.args.rows.now c.args.id.0).var.0 < length c.args.rows.now.of_true =
    clause_range (length c.args.rows.now.of_true) has.clause (lit_at c.args.rows.now c.args.id.0) (c.requires.clauses c.args.id.0 has.clause has.present) (c.requires.members.member c.args.id.0 has.clause has.lit has.present has.has) in
    omega (arith, range, ap (λ (l : Lit). l.var.0) c.lit-lit.ensures)

pub put-requires-clause-range : goal.put-requires-clause-range
put-requires-clause-range c =
    let has : HasLit (clause_at c.args.arena.now c.args.id.0) = lit_there (clause_at c.args.arena.now c.args.id.0) c.requires.present (sym c.is_blank.ensures ∙ c.if-is_blank.false) in
    let range : (lit_at c.args.rows.now c.args.id.0).var.0 < length c.args.rows.now.of_true =
    clause_range (length c.args.rows.now.of_true) has.clause (lit_at c.args.rows.now c.args.id.0) (c.requires.clauses c.args.id.0 has.clause has.present) (c.requires.members.member c.args.id.0 has.clause has.lit has.present has.has) in
    omega (arith, range, ap (λ (l : Lit). l.var.0) c.lit-lit.ensures, c.loop.invariant.traversing.of_true)

pub loop-preserved : goal.loop-preserved
loop-preserved c =
    let has : HasLit (clause_at c.args.arena.now c.args.id.0) = lit_there (clause_at c.args.arena.now c.args.id.0) c.requires.present (sym c.is_blank.ensures ∙ c.if-is_blank.false) in
    let range : (lit_at c.args.rows.now c.args.id.0).var.0 < length c.args.rows.now.of_true =
    clause_range (length c.args.rows.now.of_true) has.clause (lit_at c.args.rows.now c.args.id.0) (c.requires.clauses c.args.id.0 has.clause has.present) (c.requires.members.member c.args.id.0 has.clause has.lit has.present has.has) in
    elim c.if-other-id.branch [
      | then-other-id w ↦
          unwatch_same (w.rows-is ∙ w.put.ensures) c.next-at.ensures
          (unwatch_put c.loop.invariant c.in-Some.other c.in-Some.is w.if-other-id.true (omega (arith, range, ap (λ (l : Lit). l.var.0) c.lit-lit.ensures)))
      | else-other-id w ↦
          unwatch_same w.rows-is c.next-at.ensures
          (unwatch_skip c.loop.invariant c.in-Some.other c.in-Some.is w.if-other-id.false)
    ]

pub returns-clause-threaded : goal.returns-clause-threaded
returns-clause-threaded c = unwatch_end c.loop.invariant (set_gone c.args.arena.now c.args.id.0) (unwatch_over c.loop.invariant (omega (arith, c.loop-test.false)))

pub returns-clause-same : goal.returns-clause-same
returns-clause-same c = c.loop.invariant.same
