use Rattle.std.proofs.Common.{ap}
use Rattle.lv_model.specs.declared.plant.Plant.{Plant}
use Rattle.lv_model_draft.specs.declared.directory.Directory.{Directory}
use Rattle.lv_model_draft.proofs.NameLemmas.{variable_found, short_variable}
use Rattle.lv_model_draft.proofs.named_plant.NamedPlant.find_variable.Goals as goal

pub returns-clause-place : goal.returns-clause-place
returns-clause-place c =
    variable_found c.args.kind c.args.word.now c.in_ok-places.places.now c.as_slice-2.result.now c.self.inside.names.variables c.self.inside.plant.types c.args.self.now.types c.find.result
    c.in_ok-places.ensures.lookup.3.0 c.in_ok-places.ensures.lookup.1 c.as_slice-2.ensures
    (ap (λ (names : Directory). names.variables) c.self.invariant)
    (ap (λ (p : Plant). p.types) c.self.view_is)
    c.find.ensures

pub returns-clause-within : goal.returns-clause-within
returns-clause-within c =
    short_variable c.args.kind c.args.word.now c.in_ok-of.of.now c.as_slice.result.now c.self.inside.plant.types c.args.self.now.types c.find.result c.len-count.result
    c.in_ok-of.ensures.lookup.3.0 c.in_ok-of.ensures.lookup.1 c.as_slice.ensures
    (ap (λ (p : Plant). p.types) c.self.view_is)
    (returns-clause-place c) c.len-count.ensures c.len-count.type_inv
