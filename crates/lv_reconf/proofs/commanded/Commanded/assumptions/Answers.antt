-- the modes, then the values
use Rattle.std.proofs.Common.{◌≡◌, ◌&&◌, true, [], List, sym, subst}
use Rattle.lv_base.specs.declared.ids.Lit.{Lit}
use Rattle.lv_model.specs.Lists.{controls}
use Rattle.lv_model.specs.Ranges.{plant_ranges}
use Rattle.lv_meaning.specs.Ranges.{modes_fit}
use Rattle.lv_meaning.specs.Recovers.{has_modes, has_controls}
use Rattle.lv_reconf.specs.Assuming.{Assumes, CommandedValue, MarkedHold}
use Rattle.lv_reconf.proofs.AssumingLemmas.{assumes_both, modes_long}
use Rattle.lv_reconf.proofs.MarkLemmas.{all_marked_hold}
use Rattle.lv_reconf.proofs.commanded.Commanded.assumptions.Goals as goal

pub assume_modes-requires-clause-whole : goal.assume_modes-requires-clause-whole
assume_modes-requires-clause-whole c =
    let plant = c.self.inside.compiled.now in
    modes_long (plant_ranges plant) plant.parts c.args.modes.now (subst (λ (v : CommandedValue). modes_fit (plant_ranges v.plant) v.plant.parts c.args.modes.now ≡ true) (sym c.self.view_is) c.requires)

pub returns-clause-marked : goal.returns-clause-marked
returns-clause-marked c =
    let plant = c.self.inside.compiled.now in
    subst (λ (v : CommandedValue). MarkedHold v.plant c.args.modes.now v.pairs c.assume_controls.new.lits.items) c.self.view_is
    (all_marked_hold plant c.args.modes.now c.self.inside.pairs.now c.assume_modes.new.lits.items c.assume_controls.new.lits.items c.self.invariant
    (subst (λ (old : List Lit). Assumes plant old c.assume_modes.new.lits.items (has_modes plant.parts c.args.modes.now)) c.new-lits.ensures.items c.in_ok-assume_modes.ensures)
    c.in_ok-assume_controls.ensures.adds)

pub returns-clause-says : goal.returns-clause-says
returns-clause-says c =
    let plant = c.self.inside.compiled.now in
    subst (λ (v : CommandedValue). Assumes v.plant [] c.assume_controls.new.lits.items (λ a. has_modes v.plant.parts c.args.modes.now a && has_controls (controls v.plant) a v.pairs)) c.self.view_is
    (assumes_both plant [] c.assume_modes.new.lits.items c.assume_controls.new.lits.items (has_modes plant.parts c.args.modes.now) (λ a. has_controls (controls plant) a c.self.inside.pairs.now)
    (subst (λ (old : List Lit). Assumes plant old c.assume_modes.new.lits.items (has_modes plant.parts c.args.modes.now)) c.new-lits.ensures.items c.in_ok-assume_modes.ensures)
    c.in_ok-assume_controls.ensures.says)
