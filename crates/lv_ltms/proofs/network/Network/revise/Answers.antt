-- what lost its support falls, and what follows from the rest is marked
use Rattle.std.proofs.Common.{◌≡◌, ℕ, true, false, List, length, IsTrue, sym, subst, ◌∙◌}
use Rattle.std.specs.List.{list_all}
use Rattle.lv_base.specs.declared.ids.Lit.{Lit}
use Rattle.lv_clauses.specs.Literals.{neg, in_range}
use Rattle.lv_clauses.specs.Marks.{is_marked}
use Rattle.lv_ltms.specs.Labelled.{AreLabels}
use Rattle.lv_ltms.specs.Watching.{lit_at, has_lit, AllInRow, AreGuarded, AreSettled}
use Rattle.lv_ltms.specs.Standing.{true_before}
use Rattle.lv_ltms.specs.Revising.{AreMarkedOrWait, AreUpright, NoneOpposed}
use Rattle.lv_ltms.proofs.PairLemmas.{watched_looked}
use Rattle.lv_ltms.proofs.RestLemmas.{stops_falsified, network_sized}
use Rattle.lv_ltms.proofs.ReviseLemmas.{swept_upright, swept_unopposed, revised_guarded, revised_settled, revised_network, revised_looked}
use Rattle.lv_ltms.proofs.StayLemmas.{stays_grown}
use Rattle.lv_ltms.proofs.SupportLemmas.{swept_marked}
use Rattle.lv_ltms.proofs.TraverseLemmas.{rows_of_both}
use Rattle.lv_ltms.proofs.network.Network.revise.Goals as goal

pub sweep-looked-requires-clause-pairs : goal.sweep-looked-requires-clause-pairs
sweep-looked-requires-clause-pairs c =
    watched_looked (length c.args.self.now.labels.marks) c.args.self.now.arena c.args.self.now.near c.args.self.now.far c.args.self.now.labels c.args.self.now.progress.done c.requires.alive.network c.requires.alive.looked

pub support_all-requires-clause-rows : goal.support_all-requires-clause-rows
support_all-requires-clause-rows c =
    rows_of_both c.args.self.now.near c.args.self.now.far c.args.self.now.arena (length c.args.self.now.labels.marks) c.requires.alive.network.near_rows c.requires.alive.network.far_rows

pub support_all-requires-clause-labels : goal.support_all-requires-clause-labels
support_all-requires-clause-labels c = subst (λ (n : ℕ). AreLabels n c.sweep-looked.new.labels) (sym c.sweep-looked.ensures.labels.marks) c.sweep-looked.ensures.labels

pub support_all-requires-clause-range : goal.support_all-requires-clause-range
support_all-requires-clause-range c =
    subst (λ (ls : List Lit). IsTrue (list_all (in_range (length c.sweep-looked.new.labels.marks)) ls)) (sym c.as_slice.ensures.value)
    (subst (λ (n : ℕ). IsTrue (list_all (in_range n) c.sweep-looked.new.fallen.items)) (sym c.sweep-looked.ensures.labels.marks) c.sweep-looked.ensures.range)

pub support_all-requires-clause-one_sided : goal.support_all-requires-clause-one_sided
support_all-requires-clause-one_sided c = c.requires.shaken.one_sided

pub support_all-requires-clause-against : goal.support_all-requires-clause-against
support_all-requires-clause-against c = c.sweep-looked.ensures.swept.against

pub support_all-requires-clause-marked : goal.support_all-requires-clause-marked
support_all-requires-clause-marked c =
    subst (AreMarkedOrWait (is_marked c.args.assumed.now) c.sweep-looked.new.labels) (sym c.as_slice.ensures.value)
    (swept_marked (is_marked c.args.assumed.now) c.args.self.now.arena c.args.self.now.labels c.sweep-looked.new.labels c.sweep-looked.new.fallen.items c.requires.marked c.sweep-looked.ensures.swept)

pub support_all-requires-clause-upright : goal.support_all-requires-clause-upright
support_all-requires-clause-upright c =
    λ calm.
    subst (AreUpright (is_marked c.args.assumed.now)) (sym c.as_slice.ensures.value)
    (swept_upright (is_marked c.args.assumed.now) c.args.self.now.arena c.args.self.now.labels c.sweep-looked.new.labels c.sweep-looked.new.fallen.items c.sweep-looked.ensures.swept (c.requires.straight (c.may_turn-both.ensures.turns calm)))

pub lower_all-done-requires-clause-near : goal.lower_all-done-requires-clause-near
lower_all-done-requires-clause-near c =
    rows_of_both c.args.self.now.near c.args.self.now.far c.args.self.now.arena (length c.args.self.now.labels.marks) c.requires.alive.network.near_rows c.requires.alive.network.far_rows

pub lower_all-done-requires-clause-far : goal.lower_all-done-requires-clause-far
lower_all-done-requires-clause-far c =
    rows_of_both c.args.self.now.far c.args.self.now.near c.args.self.now.arena (length c.args.self.now.labels.marks) c.requires.alive.network.far_rows c.requires.alive.network.near_rows

pub lower_all-done-requires-clause-agrees : goal.lower_all-done-requires-clause-agrees
lower_all-done-requires-clause-agrees c = c.support_all.ensures.grows.agrees

pub propagate-self-requires-clause-network : goal.propagate-self-requires-clause-network
propagate-self-requires-clause-network c = revised_network (is_marked c.args.assumed.now) c.args.self.now.arena (length c.args.self.now.labels.marks) c.args.self.now.near c.args.self.now.far c.args.self.now.labels c.sweep-looked.new.labels c.support_all.new.labels c.sweep-looked.new.fallen.items c.args.self.now.progress.done c.sweep-looked.result c.lower_all-done.result c.requires.alive.network c.requires.alive.looked c.sweep-looked.ensures.swept c.sweep-looked.ensures.labels c.sweep-looked.ensures.looked c.sweep-looked.ensures.within c.support_all.ensures.grows c.lower_all-done.ensures.within

pub propagate-self-requires-clause-looked : goal.propagate-self-requires-clause-looked
propagate-self-requires-clause-looked c =
    revised_looked (is_marked c.args.assumed.now) c.args.self.now.arena (length c.args.self.now.labels.marks) c.args.self.now.near c.args.self.now.far c.args.self.now.labels c.sweep-looked.new.labels c.support_all.new.labels c.sweep-looked.new.fallen.items c.args.self.now.progress.done c.sweep-looked.result c.lower_all-done.result c.requires.alive.network c.requires.alive.looked c.sweep-looked.ensures.swept c.sweep-looked.ensures.labels c.sweep-looked.ensures.looked c.sweep-looked.ensures.within c.support_all.ensures.grows c.lower_all-done.ensures.within
    (c.support_all.ensures.settled c.args.self.now.arena (length c.args.self.now.labels.marks) c.requires.alive.network.near_rows
    (λ calm. subst (NoneOpposed c.args.self.now.arena (lit_at c.args.self.now.near) (lit_at c.args.self.now.far)) (sym c.as_slice.ensures.value) (swept_unopposed (is_marked c.args.assumed.now) c.args.self.now.arena c.args.self.now.near c.args.self.now.far c.args.self.now.labels c.sweep-looked.new.labels c.sweep-looked.new.fallen.items c.args.self.now.progress.done c.sweep-looked.ensures.swept c.requires.alive.network.are_labels.agrees c.requires.alive.looked (c.may_turn-both.ensures.done calm)))
    (subst (AreSettled c.args.self.now.arena (lit_at c.args.self.now.near) (lit_at c.args.self.now.far) c.sweep-looked.new.labels.marks) (sym c.as_slice.ensures.value) (revised_settled (is_marked c.args.assumed.now) c.args.self.now.arena (length c.args.self.now.labels.marks) c.args.self.now.near c.args.self.now.far c.args.self.now.labels c.sweep-looked.new.labels c.support_all.new.labels c.sweep-looked.new.fallen.items c.args.self.now.progress.done c.sweep-looked.result c.lower_all-done.result c.requires.alive.network c.requires.alive.looked c.sweep-looked.ensures.swept c.sweep-looked.ensures.labels c.sweep-looked.ensures.looked c.sweep-looked.ensures.within c.support_all.ensures.grows c.lower_all-done.ensures.within)))
    (subst (λ (ls : List Lit). (f : Lit) → has_lit ls f ≡ true → AllInRow c.args.self.now.near f (λ id. true_before c.lower_all-done.result c.support_all.new.labels.trail (neg (lit_at c.args.self.now.far id.0)) ≡ false)) c.as_slice-2.ensures.value c.lower_all-done.ensures.near)
    (subst (λ (ls : List Lit). (f : Lit) → has_lit ls f ≡ true → AllInRow c.args.self.now.far f (λ id. true_before c.lower_all-done.result c.support_all.new.labels.trail (neg (lit_at c.args.self.now.near id.0)) ≡ false)) c.as_slice-2.ensures.value c.lower_all-done.ensures.far)

pub returns-clause-rested : goal.returns-clause-rested
returns-clause-rested c =
    record {
      alive =
          record {
            network = network_sized c.args.self.now.arena c.propagate-self.new.near c.propagate-self.new.far c.support_all.new.labels c.propagate-self.new.labels c.propagate-self.ensures.goes_on c.propagate-self.ensures.network;
            looked = c.propagate-self.ensures.looked;
            falsified = stops_falsified c.args.self.now.arena c.propagate-self.new.labels c.propagate-self.result.done c.propagate-self.result.conflict c.propagate-self.ensures.stops;
            tells_empty = c.requires.alive.tells_empty;
          };
      stops = c.propagate-self.ensures.stops;
    }

pub returns-clause-marks : goal.returns-clause-marks
returns-clause-marks c = c.propagate-self.ensures.goes_on.grows.marks ∙ c.support_all.ensures.grows.marks ∙ c.sweep-looked.ensures.labels.marks

pub returns-clause-derivation : goal.returns-clause-derivation
returns-clause-derivation c =
    c.propagate-self.ensures.goes_on.derivation (is_marked c.args.assumed.now)
    (c.support_all.ensures.derivation c.args.self.now.arena (length c.args.self.now.labels.marks) (true_before c.args.self.now.progress.done c.args.self.now.labels.trail) c.sweep-looked.new.labels.marks c.requires.alive.network.near_rows
    (subst (AreGuarded c.args.self.now.arena (lit_at c.args.self.now.near) (lit_at c.args.self.now.far) (true_before c.args.self.now.progress.done c.args.self.now.labels.trail) c.sweep-looked.new.labels.marks) (sym c.as_slice.ensures.value) (revised_guarded (is_marked c.args.assumed.now) c.args.self.now.arena (length c.args.self.now.labels.marks) c.args.self.now.near c.args.self.now.far c.args.self.now.labels c.sweep-looked.new.labels c.support_all.new.labels c.sweep-looked.new.fallen.items c.args.self.now.progress.done c.sweep-looked.result c.lower_all-done.result c.requires.alive.network c.requires.alive.looked c.sweep-looked.ensures.swept c.sweep-looked.ensures.labels c.sweep-looked.ensures.looked c.sweep-looked.ensures.within c.support_all.ensures.grows c.lower_all-done.ensures.within))
    c.sweep-looked.ensures.swept.derivation)

pub returns-clause-marked : goal.returns-clause-marked
returns-clause-marked c = record { marked = λ l a. c.propagate-self.ensures.goes_on.grows.kept l (c.support_all.ensures.marked.marked l a) }

pub returns-clause-stays : goal.returns-clause-stays
returns-clause-stays c =
    λ l without.
    stays_grown c.args.self.now.arena c.args.self.now.labels.trail l c.args.self.now.labels.trail c.support_all.new.labels c.propagate-self.new.labels c.propagate-self.ensures.goes_on.grows
    (stays_grown c.args.self.now.arena c.args.self.now.labels.trail l c.args.self.now.labels.trail c.sweep-looked.new.labels c.support_all.new.labels c.support_all.ensures.grows (c.sweep-looked.ensures.stays l without))
