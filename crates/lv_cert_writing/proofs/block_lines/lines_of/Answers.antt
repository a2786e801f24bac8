-- a step is left out, or becomes a line; the last one is that of the empty clause
use Rattle.std.proofs.Common.{◌≡◌, ◌+◌, ◌-◌, ◌<◌, ℕ, true, [], List, Some, length, get_or, slice_get, sym, ap, ◌∙◌, subst, arith, rules}
use Rattle.std.specs.List.{list_all}
use Rattle.std.proofs.lemmas.Option.{slice_get-get_or}
use Rattle.lv_clauses.specs.declared.log.Step.{Step}
use Rattle.lv_cert_writing.specs.declared.derivation.Derivation.{Derivation}
use Rattle.lv_cert_writing.specs.Needed.{has_named}
use Rattle.lv_cert_writing.specs.BlockLines.{line_of, last_line}
use Rattle.lv_cert_writing.proofs.WalkLemmas.{IsSoFar, left_out, taken, last_taken}
use Rattle.lv_cert_writing.proofs.block_lines.lines_of.Goals as goal
use Rattle.lv_cert_writing.proofs.block_lines.lines_of.Goals.{then-needed-place+in_ok-line+in_ok-push+in_ok-push-2, else-needed-place+in_ok-push-3}

pub loop-place-preserved : goal.loop-place-preserved
loop-place-preserved c =
    λ set clauses long is.
    let log = c.args.log.now in
    let needed = c.args.needed.now in
    let place = c.loop-place.place in
    let far : IsSoFar set clauses log needed place c.loop-place.lines c.loop-place.placed.items = c.loop-place.invariant set clauses long is in
    elim c.if-needed-place.branch [
      | then-needed-place+in_ok-line+in_ok-push+in_ok-push-2 w ↦
          let s = w.step.result.now in
          let made : w.in_ok-line.line ≡ line_of c.args.numbers.now c.loop-place.placed.items s =
          w.in_ok-line.ensures ∙ ap (λ (ns : List ℕ). line_of c.args.numbers.now ns s) w.as_slice.ensures.value in
          taken set clauses c.args.numbers.now c.args.units.now log needed is place c.loop-place.lines c.loop-place.placed.items far s w.step.ensures
          (is.marks.named place s (omega arith) w.step.ensures w.if-needed-place.true) w.in_ok-line.line made c.if-needed-place.lines (w.lines-is ∙ w.in_ok-push.ensures.ok)
          (c.args.before + w.len.result) (let count = w.len.ensures in let same = ap (λ (ls : List Derivation). length ls) w.lines-is in omega (arith, same, count, long))
          c.if-needed-place.placed.items (ap (λ v. v.items) w.placed-is ∙ w.in_ok-push-2.ensures.items)
      | else-needed-place+in_ok-push-3 w ↦
          let below : place < length log = search rules in
          let none : Step = record { clause = []; hints = [] } in
          let here : IsSoFar set clauses log needed (place + 1) c.loop-place.lines c.if-needed-place.placed.items =
          left_out set clauses c.args.numbers.now c.args.units.now log needed is place c.loop-place.lines c.loop-place.placed.items far (get_or log place none) (slice_get-get_or log place none below)
          w.if-needed-place.false c.if-needed-place.placed.items (ap (λ v. v.items) w.placed-is ∙ w.in_ok-push-3.ensures.items) in
          subst (λ (ls : List Derivation). IsSoFar set clauses log needed (place + 1) ls c.if-needed-place.placed.items) (sym w.lines-is) here
    ]

pub returns : goal.returns
returns c =
    λ set clauses long is.
    let log = c.args.log.now in
    let needed = c.args.needed.now in
    let s = c.step-2.result.now in
    let ended : c.loop-place.place ≡ length log - 1 = search rules in
    let at : slice_get log (length log - 1) ≡ Some s = search rules in
    let made : c.in_ok-end.end ≡ last_line c.args.numbers.now c.args.units.now c.loop-place.placed.items s =
    c.in_ok-end.ensures ∙ ap (λ (ns : List ℕ). last_line c.args.numbers.now c.args.units.now ns s) c.as_slice-2.ensures.value in
    last_taken set clauses c.args.numbers.now c.args.units.now log needed is c.loop-place.place c.loop-place.lines c.loop-place.placed.items (c.loop-place.invariant set clauses long is) s
    (ap (slice_get log) ended ∙ at) (subst (λ (n : ℕ). list_all (has_named needed n) s.hints ≡ true) (sym ended) (is.marks.named (length log - 1) s (omega arith) at is.marks.last)) (is.ends s at) c.in_ok-end.end made _ c.in_ok-push-4.ensures.ok
