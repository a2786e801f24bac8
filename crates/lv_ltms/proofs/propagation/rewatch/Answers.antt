-- each clause gone over is put into a list again
use Rattle.std.proofs.Common.{ℕ, length, Option, None, refl, sym, subst, ◌∙◌, arith, Contains}
use Rattle.lv_base.specs.declared.ids.Lit.{Lit}
use Rattle.lv_base.specs.declared.ids.ClauseId.{ClauseId}
use Rattle.lv_clauses.specs.Literals.{neg}
use Rattle.lv_clauses.specs.ClauseMap.{clause_at, AreClauses}
use Rattle.lv_ltms.specs.declared.propagation.Meeting.TheVariants.{Moves}
use Rattle.lv_ltms.specs.Watching.{Rows, lit_at, with_head}
use Rattle.lv_ltms.specs.Standing.{Meets}
use Rattle.lv_ltms.proofs.LabelLemmas.{has_within}
use Rattle.lv_ltms.proofs.FindLemmas.{if_some, from_some, is_there}
use Rattle.lv_ltms.proofs.MeetLemmas.{clause_range}
use Rattle.lv_ltms.proofs.VisitLemmas.{IsVisiting, visiting_start, visiting_same, watches, visit_room, visited_holds, visited_moves, visited_fails, visited_network, visited_all, visit_over}
use Rattle.lv_ltms.proofs.propagation.rewatch.Goals as goal
use Rattle.lv_ltms.proofs.propagation.rewatch.Goals.{in-Holds, in-Moves, in-Fails}

pub loop-init : goal.loop-init
loop-init c =
    subst (λ n. IsVisiting c.args.arena.now (length c.args.labels.now.marks) c.args.near.now c.args.far.now c.args.labels.now c.args.lit n 0 c.take-at.new.self c.args.labels.now c.take-at.result None) (sym c.room-end.ensures)
    (subst (λ (r : Rows). IsVisiting c.args.arena.now (length c.args.labels.now.marks) c.args.near.now c.args.far.now c.args.labels.now c.args.lit (length r.watches) 0 r c.args.labels.now c.take-at.result None) (sym c.take-at.ensures.taken)
    (subst (λ (s : Option ClauseId). IsVisiting c.args.arena.now (length c.args.labels.now.marks) c.args.near.now c.args.far.now c.args.labels.now c.args.lit (length (with_head c.args.near.now c.args.lit None).watches) 0 (with_head c.args.near.now c.args.lit None) c.args.labels.now s None) (sym c.take-at.ensures.first)
    (visiting_start c.args.arena.now (length c.args.labels.now.marks) c.args.near.now c.args.far.now c.args.labels.now c.args.lit c.requires.network (has_within c.args.labels.now.marks (neg c.args.lit) c.requires.turned))))

pub returns-in_default-clause-network : goal.returns-in_default-clause-network
returns-in_default-clause-network c = visited_network c.args.arena.now (length c.args.labels.now.marks) c.args.near.now c.args.far.now c.args.labels.now c.args.lit c.room-end.result c.loop.counter c.loop.near c.loop.labels c.loop.at c.loop.found c.loop.invariant c.in_default.is c.requires.network

pub returns-in_default-clause-visits : goal.returns-in_default-clause-visits
returns-in_default-clause-visits c = visited_all c.args.arena.now (length c.args.labels.now.marks) c.args.near.now c.args.far.now c.args.labels.now c.args.lit c.room-end.result c.loop.counter c.loop.near c.loop.labels c.loop.at c.loop.found c.loop.invariant c.in_default.is c.requires.network

pub returns-in_default-clause-goes_on : goal.returns-in_default-clause-goes_on
returns-in_default-clause-goes_on c = c.loop.invariant.goes_on

pub returns-in_default-clause-found : goal.returns-in_default-clause-found
returns-in_default-clause-found c = c.loop.invariant.falsified

pub next-at-requires : goal.next-at-requires
next-at-requires c = visit_room c.args.arena.now (length c.args.labels.now.marks) c.args.near.now c.args.far.now c.args.labels.now c.args.lit c.room-end.result c.loop.counter c.loop.near c.loop.labels c.loop.at c.loop.found c.in-Some.id c.loop.invariant c.in-Some.is c.requires.turned (has_within c.args.labels.now.marks (neg c.args.lit) c.requires.turned)

pub lit-requires : goal.lit-requires
lit-requires c =
    c.requires.network.far_rows.room c.in-Some.id.0 (is_there (clause_at c.args.arena.now c.in-Some.id.0) (watches c.args.arena.now (length c.args.labels.now.marks) c.args.near.now c.args.far.now c.args.labels.now c.args.lit c.room-end.result c.loop.counter c.loop.near c.loop.labels c.loop.at c.loop.found c.in-Some.id c.loop.invariant c.in-Some.is c.requires.turned (has_within c.args.labels.now.marks (neg c.args.lit) c.requires.turned)).clause (watches c.args.arena.now (length c.args.labels.now.marks) c.args.near.now c.args.far.now c.args.labels.now c.args.lit c.room-end.result c.loop.counter c.loop.near c.loop.labels c.loop.at c.loop.found c.in-Some.id c.loop.invariant c.in-Some.is c.requires.turned (has_within c.args.labels.now.marks (neg c.args.lit) c.requires.turned)).present)

pub meet-requires-clause-present : goal.meet-requires-clause-present
meet-requires-clause-present c = is_there (clause_at c.args.arena.now c.in-Some.id.0) (watches c.args.arena.now (length c.args.labels.now.marks) c.args.near.now c.args.far.now c.args.labels.now c.args.lit c.room-end.result c.loop.counter c.loop.near c.loop.labels c.loop.at c.loop.found c.in-Some.id c.loop.invariant c.in-Some.is c.requires.turned (has_within c.args.labels.now.marks (neg c.args.lit) c.requires.turned)).clause (watches c.args.arena.now (length c.args.labels.now.marks) c.args.near.now c.args.far.now c.args.labels.now c.args.lit c.room-end.result c.loop.counter c.loop.near c.loop.labels c.loop.at c.loop.found c.in-Some.id c.loop.invariant c.in-Some.is c.requires.turned (has_within c.args.labels.now.marks (neg c.args.lit) c.requires.turned)).present

pub meet-requires-clause-member : goal.meet-requires-clause-member
meet-requires-clause-member c =
    let hand = watches c.args.arena.now (length c.args.labels.now.marks) c.args.near.now c.args.far.now c.args.labels.now c.args.lit c.room-end.result c.loop.counter c.loop.near c.loop.labels c.loop.at c.loop.found c.in-Some.id c.loop.invariant c.in-Some.is c.requires.turned (has_within c.args.labels.now.marks (neg c.args.lit) c.requires.turned) in
    if_some (λ x. Contains x c.lit.result) (clause_at c.args.arena.now c.in-Some.id.0) hand.clause hand.present
    (subst (Contains hand.clause) (sym (c.lit.ensures)) (c.requires.members.member c.in-Some.id.0 hand.clause hand.member hand.present hand.has))

pub meet-requires-clause-clauses : goal.meet-requires-clause-clauses
meet-requires-clause-clauses c = subst (λ (n : ℕ). AreClauses n c.args.arena.now) (sym c.loop.invariant.goes_on.grows.marks) c.requires.network.clauses

pub meet-requires-clause-labels : goal.meet-requires-clause-labels
meet-requires-clause-labels c =
    record {
      marks = refl;
      supports = c.loop.invariant.goes_on.grows.supports ∙ c.requires.network.are_labels.supports ∙ sym c.loop.invariant.goes_on.grows.marks;
      agrees = c.loop.invariant.goes_on.grows.agrees;
    }

pub put-requires-clause-range : goal.put-requires-clause-range
put-requires-clause-range c = omega (arith, has_within c.args.labels.now.marks (neg c.args.lit) c.requires.turned, c.loop.invariant.traversing.of_true)

pub put-requires-in-Fails-clause-range : goal.put-requires-in-Fails-clause-range
put-requires-in-Fails-clause-range c = omega (arith, has_within c.args.labels.now.marks (neg c.args.lit) c.requires.turned, c.loop.invariant.traversing.of_true)

pub put-requires-clause-room : goal.put-requires-clause-room
put-requires-clause-room c = visit_room c.args.arena.now (length c.args.labels.now.marks) c.args.near.now c.args.far.now c.args.labels.now c.args.lit c.room-end.result c.loop.counter c.loop.near c.loop.labels c.loop.at c.loop.found c.in-Some.id c.loop.invariant c.in-Some.is c.requires.turned (has_within c.args.labels.now.marks (neg c.args.lit) c.requires.turned)

pub put-requires-in-Moves-clause-room : goal.put-requires-in-Moves-clause-room
put-requires-in-Moves-clause-room c = visit_room c.args.arena.now (length c.args.labels.now.marks) c.args.near.now c.args.far.now c.args.labels.now c.args.lit c.room-end.result c.loop.counter c.loop.near c.loop.labels c.loop.at c.loop.found c.in-Some.id c.loop.invariant c.in-Some.is c.requires.turned (has_within c.args.labels.now.marks (neg c.args.lit) c.requires.turned)

pub put-requires-in-Fails-clause-room : goal.put-requires-in-Fails-clause-room
put-requires-in-Fails-clause-room c = visit_room c.args.arena.now (length c.args.labels.now.marks) c.args.near.now c.args.far.now c.args.labels.now c.args.lit c.room-end.result c.loop.counter c.loop.near c.loop.labels c.loop.at c.loop.found c.in-Some.id c.loop.invariant c.in-Some.is c.requires.turned (has_within c.args.labels.now.marks (neg c.args.lit) c.requires.turned)

pub put-requires-in-Moves-clause-range : goal.put-requires-in-Moves-clause-range
put-requires-in-Moves-clause-range c =
    let hand = watches c.args.arena.now (length c.args.labels.now.marks) c.args.near.now c.args.far.now c.args.labels.now c.args.lit c.room-end.result c.loop.counter c.loop.near c.loop.labels c.loop.at c.loop.found c.in-Some.id c.loop.invariant c.in-Some.is c.requires.turned (has_within c.args.labels.now.marks (neg c.args.lit) c.requires.turned) in
    let told = from_some (λ x. Meets x c.lit.result c.loop.labels.marks c.meet.new.labels.marks (Moves c.in-Moves.other)) (clause_at c.args.arena.now c.in-Some.id.0) hand.clause hand.present c.in-Moves.ensures.meets in
    omega (arith, clause_range (length c.args.labels.now.marks) hand.clause c.in-Moves.other (c.requires.network.clauses c.in-Some.id.0 hand.clause hand.present) told.0, c.loop.invariant.traversing.of_true)

pub loop-preserved : goal.loop-preserved
loop-preserved c =
    let hand = watches c.args.arena.now (length c.args.labels.now.marks) c.args.near.now c.args.far.now c.args.labels.now c.args.lit c.room-end.result c.loop.counter c.loop.near c.loop.labels c.loop.at c.loop.found c.in-Some.id c.loop.invariant c.in-Some.is c.requires.turned (has_within c.args.labels.now.marks (neg c.args.lit) c.requires.turned) in
    let meets : Meets hand.clause (lit_at c.args.far.now c.in-Some.id.0) c.loop.labels.marks c.meet.new.labels.marks c.meet.result =
    subst (λ (l : Lit). Meets hand.clause l c.loop.labels.marks c.meet.new.labels.marks c.meet.result) (c.lit.ensures)
    (from_some (λ x. Meets x c.lit.result c.loop.labels.marks c.meet.new.labels.marks c.meet.result) (clause_at c.args.arena.now c.in-Some.id.0) hand.clause hand.present c.meet.ensures.meets) in
    elim c.match-meet.branch [
      | in-Holds w ↦
          visiting_same (w.near-is ∙ w.put.ensures) c.next-at.ensures w.found-is
          (visited_holds c.args.arena.now (length c.args.labels.now.marks) c.args.near.now c.args.far.now c.args.labels.now c.args.lit c.room-end.result c.loop.counter c.loop.near c.loop.labels c.loop.at c.loop.found c.in-Some.id c.loop.invariant c.in-Some.is c.requires.turned (has_within c.args.labels.now.marks (neg c.args.lit) c.requires.turned) c.meet.new.labels c.meet.result meets c.meet.ensures.goes_on w.in-Holds.is)
      | in-Moves w ↦
          visiting_same (w.near-is ∙ w.put-in-Moves.ensures) c.next-at.ensures w.found-is
          (visited_moves c.args.arena.now (length c.args.labels.now.marks) c.args.near.now c.args.far.now c.args.labels.now c.args.lit c.room-end.result c.loop.counter c.loop.near c.loop.labels c.loop.at c.loop.found c.in-Some.id c.loop.invariant c.in-Some.is c.requires.turned (has_within c.args.labels.now.marks (neg c.args.lit) c.requires.turned) c.meet.new.labels c.meet.result meets c.meet.ensures.goes_on w.in-Moves.other w.in-Moves.is
          (clause_range (length c.args.labels.now.marks) hand.clause w.in-Moves.other (c.requires.network.clauses c.in-Some.id.0 hand.clause hand.present)
          (subst (Meets hand.clause (lit_at c.args.far.now c.in-Some.id.0) c.loop.labels.marks c.meet.new.labels.marks) w.in-Moves.is meets).0))
      | in-Fails w ↦
          visiting_same (w.near-is ∙ w.put-in-Fails.ensures) c.next-at.ensures w.found-is
          (visited_fails c.args.arena.now (length c.args.labels.now.marks) c.args.near.now c.args.far.now c.args.labels.now c.args.lit c.room-end.result c.loop.counter c.loop.near c.loop.labels c.loop.at c.loop.found c.in-Some.id c.loop.invariant c.in-Some.is c.requires.turned (has_within c.args.labels.now.marks (neg c.args.lit) c.requires.turned) c.meet.new.labels c.meet.result meets c.meet.ensures.goes_on w.in-Fails.is)
    ]

pub returns-clause-network : goal.returns-clause-network
returns-clause-network c = visited_network c.args.arena.now (length c.args.labels.now.marks) c.args.near.now c.args.far.now c.args.labels.now c.args.lit c.room-end.result c.loop.counter c.loop.near c.loop.labels c.loop.at c.loop.found c.loop.invariant (visit_over c.args.arena.now (length c.args.labels.now.marks) c.args.near.now c.args.far.now c.args.labels.now c.args.lit c.room-end.result c.loop.counter c.loop.near c.loop.labels c.loop.at c.loop.found c.loop.invariant (omega (arith, c.loop-test.false))) c.requires.network

pub returns-clause-visits : goal.returns-clause-visits
returns-clause-visits c = visited_all c.args.arena.now (length c.args.labels.now.marks) c.args.near.now c.args.far.now c.args.labels.now c.args.lit c.room-end.result c.loop.counter c.loop.near c.loop.labels c.loop.at c.loop.found c.loop.invariant (visit_over c.args.arena.now (length c.args.labels.now.marks) c.args.near.now c.args.far.now c.args.labels.now c.args.lit c.room-end.result c.loop.counter c.loop.near c.loop.labels c.loop.at c.loop.found c.loop.invariant (omega (arith, c.loop-test.false))) c.requires.network

pub returns-clause-goes_on : goal.returns-clause-goes_on
returns-clause-goes_on c = c.loop.invariant.goes_on

pub returns-clause-found : goal.returns-clause-found
returns-clause-found c = c.loop.invariant.falsified
