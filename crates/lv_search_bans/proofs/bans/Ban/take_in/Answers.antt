-- the slots rise still, and what has one of each of the widened has one of each of one of both
use Rattle.std.proofs.Common.{List, refl, sym, subst, get_or}
use Rattle.std.specs.Prelude.{IsTrue, slice_set}
use Rattle.lv_search_bans.specs.declared.bans.Choices.{Choices}
use Rattle.lv_search_bans.specs.Bans.{IsAlikeBut, TakesIn}
use Rattle.lv_search_bans.proofs.BanLemmas.{both_sets, rising_still, taken_in}
use Rattle.lv_search_bans.proofs.bans.Ban.take_in.Goals as goal

pub invariant_of-self : goal.invariant_of-self
invariant_of-self c = subst (λ b. IsTrue b) (sym (rising_still c.in-Some.place 0 c.self.inside.sets.items c.index-own.result.now c.index-own.result.now _ c.index-own.ensures)) c.self.invariant

pub returns-in-Some-clause-taken : goal.returns-in-Some-clause-taken
returns-in-Some-clause-taken c =
    λ _. subst (λ (one : List Choices). TakesIn one c.args.sets.now (slice_set c.self.inside.sets.items c.in-Some.place (both_sets c.index-own.result.now (get_or c.args.sets.now c.in-Some.place (record { slot = 0; mask = 0 }))))) c.self.view_is
    (taken_in c.in-Some.place c.self.inside.sets.items c.args.sets.now _ c.index-own.result.now (get_or c.args.sets.now c.in-Some.place (record { slot = 0; mask = 0 })) c.index-own.result.now (record { slot = 0; mask = 0 })
    (subst (λ (one : List Choices). IsAlikeBut c.in-Some.place one c.args.sets.now) c.as_slice.ensures.value (rw c.in-Some.is at c.differing.ensures)) c.index-own.ensures refl refl)
