-- values are found, assumptions are refuted, or a choice is turned
use Rattle.std.proofs.Common.{List, length, None, [], ◌∷◌, ◌++◌, ◌-◌, take, get_or, false, sym, ap, subst, ◌∙◌, arith}
use Rattle.lv_trail.specs.declared.trail.Entry.{Entry}
use Rattle.lv_clauses.specs.declared.log.Hint.TheVariants.{Earlier}
use Rattle.lv_trail.specs.Trail.{IsTurned, turned}
use Rattle.lv_sat.specs.Search.{IsSearch}
use Rattle.lv_trail.specs.Analysis.{Derives}
use Rattle.lv_sat.proofs.SearchLemmas.{values_end, refuted_end, grown_end, turn_keeps, turn_falls, search_extended, floor_fits}
use Rattle.lv_sat.proofs.search.Search.seek.Goals as goal

abbrev blank : Entry
blank = record { lit = record { var = record { 0 = 0 }; sign = false }; reason = None }

pub returns-in-Values-clause-found : goal.returns-in-Values-clause-found
returns-in-Values-clause-found c =
    values_end c.args.set.now c.args.self.now.trail.entries.items c.conflicts.log c.rest-from.new.self.trail.marks.items c.extend.new.self.trail.marks.items c.rest-from.new.self.trail.entries.items c.extend.new.self.trail.entries.items (c.rest-from.ensures.search c.args.set.now c.args.self.now.trail.entries.items c.conflicts.log (ap (λ (es : List Entry). length es) (sym c.entries-floor.ensures)) c.conflicts.invariant)
    c.in-Values.values c.in_ok-values.field-0 c.in-Values.is c.in_ok-values.ensures

pub returns-in-Values-clause-trail : goal.returns-in-Values-clause-trail
returns-in-Values-clause-trail c =
    grown_end c.args.set.now c.args.self.now.trail.entries.items c.conflicts.log c.rest-from.new.self.trail.marks.items c.extend.new.self.trail.marks.items c.rest-from.new.self.trail.entries.items c.extend.new.self.trail.entries.items (c.rest-from.ensures.search c.args.set.now c.args.self.now.trail.entries.items c.conflicts.log (ap (λ (es : List Entry). length es) (sym c.entries-floor.ensures)) c.conflicts.invariant)
    c.in_ok-values.field-0 c.in_ok-values.ensures

pub returns-in-None-clause-found : goal.returns-in-None-clause-found
returns-in-None-clause-found c =
    refuted_end c.args.set.now c.args.self.now.trail.entries.items c.conflicts.log c.rest-from.new.self.trail.marks.items c.extend.new.self.trail.marks.items c.rest-from.new.self.trail.entries.items c.extend.new.self.trail.entries.items (c.rest-from.ensures.search c.args.set.now c.args.self.now.trail.entries.items c.conflicts.log (ap (λ (es : List Entry). length es) (sym c.entries-floor.ensures)) c.conflicts.invariant)
    c.in_ok-values.field-0 c.in_ok-derive-in-False.field-0 c.entries-entries.result.now c.derive.new.log c.in_ok-values.ensures c.entries-entries.ensures c.in-None.is
    (subst (λ (es : List Entry). Derives c.args.set.now c.conflicts.log c.derive.new.log (length es) c.entries-entries.result.now c.in_ok-derive-in-False.field-0) c.entries-floor.ensures c.in_ok-derive-in-False.ensures)

pub returns-in-None-clause-trail : goal.returns-in-None-clause-trail
returns-in-None-clause-trail c =
    grown_end c.args.set.now c.args.self.now.trail.entries.items c.conflicts.log c.rest-from.new.self.trail.marks.items c.extend.new.self.trail.marks.items c.rest-from.new.self.trail.entries.items c.extend.new.self.trail.entries.items (c.rest-from.ensures.search c.args.set.now c.args.self.now.trail.entries.items c.conflicts.log (ap (λ (es : List Entry). length es) (sym c.entries-floor.ensures)) c.conflicts.invariant)
    c.in_ok-values.field-0 c.in_ok-values.ensures

pub conflicts-smaller : goal.conflicts-smaller
conflicts-smaller c =
    omega (
      arith,
      c.rest-from.ensures.fewer c.args.set.now.bools,
      turn_falls c.args.set.now c.args.self.now.trail.entries.items c.conflicts.log c.rest-from.new.self.trail.marks.items c.extend.new.self.trail.marks.items c.rest-from.new.self.trail.entries.items c.extend.new.self.trail.entries.items (c.rest-from.ensures.search c.args.set.now c.args.self.now.trail.entries.items c.conflicts.log (ap (λ (es : List Entry). length es) (sym c.entries-floor.ensures)) c.conflicts.invariant)
          c.in_ok-values.field-0 c.in-Some.flip c.in_ok-derive-in-False.field-0 c.entries-entries.result.now c.turn.new.self.entries.items c.derive.new.log blank c.in_ok-values.ensures c.entries-entries.ensures c.in-Some.is
          (subst (λ (es : List Entry). Derives c.args.set.now c.conflicts.log c.derive.new.log (length es) c.entries-entries.result.now c.in_ok-derive-in-False.field-0) c.entries-floor.ensures c.in_ok-derive-in-False.ensures)
          (c.in_ok-turn-in-Some.ensures.entries blank ∙ ap (λ n. take c.in-Some.flip.cut c.extend.new.self.trail.entries.items ++ turned (get_or c.extend.new.self.trail.entries.items c.in-Some.flip.place blank) (Earlier (n - 1)) ∷ []) c.len-step.ensures),
    )

pub conflicts-preserved : goal.conflicts-preserved
conflicts-preserved c =
    turn_keeps c.args.set.now c.args.self.now.trail.entries.items c.conflicts.log c.rest-from.new.self.trail.marks.items c.extend.new.self.trail.marks.items c.rest-from.new.self.trail.entries.items c.extend.new.self.trail.entries.items (c.rest-from.ensures.search c.args.set.now c.args.self.now.trail.entries.items c.conflicts.log (ap (λ (es : List Entry). length es) (sym c.entries-floor.ensures)) c.conflicts.invariant)
    c.in_ok-values.field-0 c.in-Some.flip c.in_ok-derive-in-False.field-0 c.entries-entries.result.now c.turn.new.self.entries.items c.derive.new.log blank c.in_ok-values.ensures c.entries-entries.ensures c.in-Some.is
    (subst (λ (es : List Entry). Derives c.args.set.now c.conflicts.log c.derive.new.log (length es) c.entries-entries.result.now c.in_ok-derive-in-False.field-0) c.entries-floor.ensures c.in_ok-derive-in-False.ensures)
    (c.in_ok-turn-in-Some.ensures.entries blank ∙ ap (λ n. take c.in-Some.flip.cut c.extend.new.self.trail.entries.items ++ turned (get_or c.extend.new.self.trail.entries.items c.in-Some.flip.place blank) (Earlier (n - 1)) ∷ []) c.len-step.ensures)
    c.turn.new.self.marks.items (λ sets steps trail turn. c.in_ok-turn-in-Some.ensures.trail sets steps trail (subst (λ n. IsTurned sets steps c.extend.new.self.trail.entries.items c.in-Some.flip (Earlier (n - 1))) (sym c.len-step.ensures) turn))

pub extend-requires-clause-trail : goal.extend-requires-clause-trail
extend-requires-clause-trail c =
    let here : IsSearch c.args.set.now c.args.self.now.trail.entries.items c.conflicts.log c.rest-from.new.self.trail.marks.items c.rest-from.new.self.trail.entries.items
    = c.rest-from.ensures.search c.args.set.now c.args.self.now.trail.entries.items c.conflicts.log (ap (λ (es : List Entry). length es) (sym c.entries-floor.ensures)) c.conflicts.invariant in
    here.trail

pub derive-requires-clause-floor : goal.derive-requires-clause-floor
derive-requires-clause-floor c =
    let here : IsSearch c.args.set.now c.args.self.now.trail.entries.items c.conflicts.log c.rest-from.new.self.trail.marks.items c.rest-from.new.self.trail.entries.items
    = c.rest-from.ensures.search c.args.set.now c.args.self.now.trail.entries.items c.conflicts.log (ap (λ (es : List Entry). length es) (sym c.entries-floor.ensures)) c.conflicts.invariant in
    let more : IsSearch c.args.set.now c.args.self.now.trail.entries.items c.conflicts.log c.extend.new.self.trail.marks.items c.extend.new.self.trail.entries.items
    = search_extended c.args.set.now c.args.self.now.trail.entries.items c.conflicts.log c.rest-from.new.self.trail.marks.items c.extend.new.self.trail.marks.items c.rest-from.new.self.trail.entries.items c.extend.new.self.trail.entries.items here c.in_ok-values.ensures.trail c.in_ok-values.ensures.front in
    omega (
      arith,
      floor_fits c.args.set.now c.args.self.now.trail.entries.items c.conflicts.log c.extend.new.self.trail.marks.items c.extend.new.self.trail.entries.items more,
      ap (λ (es : List Entry). length es) c.entries-floor.ensures,
      ap (λ (es : List Entry). length es) c.entries-entries.ensures,
    )
