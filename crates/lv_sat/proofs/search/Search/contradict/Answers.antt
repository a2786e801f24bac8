-- the entry has a reason, which is false once the assumption stands in its place
use Rattle.std.proofs.Common.{List, ◌∙◌, ◌+◌, ◌<◌, false, get_or, take, set, length, None, sym, ap, subst}
use Rattle.std.proofs.lemmas.List.{take_more_set, set-set, set-get_or}
use Rattle.lv_trail.specs.declared.trail.Entry.{Entry}
use Rattle.lv_trail.specs.Trail.{unforced, lits_of, IsChain, IsFalse}
use Rattle.lv_trail.specs.Analysis.{IsDerived}
use Rattle.lv_sat.proofs.FrontLemmas.{none_left, has_reason, chain_instead, false_instead, refuted_instead}
use Rattle.lv_sat.proofs.search.Search.contradict.Goals as goal

abbrev blank : Entry
blank = record { lit = record { var = record { 0 = 0 }; sign = false }; reason = None }

pub returns-in_default-clause-refuted : goal.returns-in_default-clause-refuted
returns-in_default-clause-refuted c =
    let entries = c.args.self.now.trail.entries.items in
    let place = c.place_of-place.result in
    let within : place < length entries = subst (λ (es : List Entry). place < length es) c.entries.ensures c.place_of-place.ensures.within in
    let there = ap (λ (es : List Entry). (get_or es place blank).lit) (sym c.entries.ensures) ∙ c.place_of-place.ensures.lit blank ∙ c.negation.ensures in
    λ assumptions front clause.
    absurd
    (has_reason c.args.set.now c.args.log.now entries c.requires.chain c.args.lit place blank within there assumptions front clause
    (ap (λ (es : List Entry). (get_or es place blank).reason) (sym c.entries-2.ensures) ∙ none_left (get_or c.entries-2.result.now place blank).reason c.in_default.not-Some))

pub refute-requires-clause-chain : goal.refute-requires-clause-chain
refute-requires-clause-chain c =
    let entries = c.args.self.now.trail.entries.items in
    let place = c.place_of-place.result in
    let within : place < length entries = subst (λ (es : List Entry). place < length es) c.entries.ensures c.place_of-place.ensures.within in
    let there = ap (λ (es : List Entry). (get_or es place blank).lit) (sym c.entries.ensures) ∙ c.place_of-place.ensures.lit blank ∙ c.negation.ensures in
    subst (λ (es : List Entry). IsChain c.args.set.now c.args.log.now es) (sym (ap (take (place + 1)) (c.entries-3.ensures ∙ c.put.ensures.entries) ∙ take_more_set entries place (record { lit = c.args.lit; reason = None }) within))
    (chain_instead c.args.set.now c.args.log.now entries c.requires.chain c.args.lit place blank within there)

pub refute-requires-clause-refuted : goal.refute-requires-clause-refuted
refute-requires-clause-refuted c =
    let entries = c.args.self.now.trail.entries.items in
    let place = c.place_of-place.result in
    let within : place < length entries = subst (λ (es : List Entry). place < length es) c.entries.ensures c.place_of-place.ensures.within in
    let there = ap (λ (es : List Entry). (get_or es place blank).lit) (sym c.entries.ensures) ∙ c.place_of-place.ensures.lit blank ∙ c.negation.ensures in
    subst (λ (es : List Entry). IsFalse c.args.set.now.slots c.args.log.now (lits_of es) c.in-Some.hint)
    (sym (ap (take (place + 1)) (c.entries-3.ensures ∙ c.put.ensures.entries) ∙ take_more_set entries place (record { lit = c.args.lit; reason = None }) within))
    (false_instead c.args.set.now c.args.log.now entries c.requires.chain c.args.lit place blank within there c.in-Some.hint
    (ap (λ (es : List Entry). (get_or es place blank).reason) (sym c.entries-2.ensures) ∙ c.in-Some.is))

pub returns-clause-refuted : goal.returns-clause-refuted
returns-clause-refuted c =
    let entries = c.args.self.now.trail.entries.items in
    let place = c.place_of-place.result in
    let within : place < length entries = subst (λ (es : List Entry). place < length es) c.entries.ensures c.place_of-place.ensures.within in
    let there = ap (λ (es : List Entry). (get_or es place blank).lit) (sym c.entries.ensures) ∙ c.place_of-place.ensures.lit blank ∙ c.negation.ensures in
    λ assumptions front clause.
    refuted_instead c.args.set.now c.args.log.now entries c.requires.chain c.args.lit place blank within there assumptions c.refute.new.log c.requires.log front
    (subst (λ (es : List Entry). IsDerived c.args.set.now c.args.log.now c.refute.new.log (unforced es))
    (ap (take (place + 1)) (c.entries-3.ensures ∙ c.put.ensures.entries) ∙ take_more_set entries place (record { lit = c.args.lit; reason = None }) within) c.in_ok-refute.ensures)

pub returns-clause-entries : goal.returns-clause-entries
returns-clause-entries c =
    let entries = c.args.self.now.trail.entries.items in
    let place = c.place_of-place.result in
    let instead : Entry = record { lit = c.args.lit; reason = None } in
    let negated = get_or c.entries-2.result.now place blank in
    c.put-2.ensures.entries
    ∙ ap (λ (es : List Entry). set es place negated) c.put.ensures.entries
    ∙ set-set entries place instead negated
    ∙ ap (λ (es : List Entry). set entries place (get_or es place blank)) c.entries-2.ensures
    ∙ set-get_or entries place blank
