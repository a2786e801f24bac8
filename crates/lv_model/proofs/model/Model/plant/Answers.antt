-- the plant is well formed, so its parts and laws read their own variables alone
use Rattle.lv_model.proofs.Reading.{parts-of_well_formed, laws-of_well_formed, ends-of_well_formed, few_variables, few-parts}
use Rattle.lv_model.proofs.Sizes.{small-types}
use Rattle.lv_model.proofs.model.Model.plant.Goals as goal

pub returns-clause-parts : goal.returns-clause-parts
returns-clause-parts c = parts-of_well_formed c.self.inside.plant c.self.invariant

pub returns-clause-laws : goal.returns-clause-laws
returns-clause-laws c = laws-of_well_formed c.self.inside.plant c.self.invariant

pub returns-clause-ends : goal.returns-clause-ends
returns-clause-ends c = ends-of_well_formed c.self.inside.plant c.self.invariant

pub returns-clause-types : goal.returns-clause-types
returns-clause-types c = small-types c.self.inside.plant c.self.invariant

pub returns-clause-count : goal.returns-clause-count
returns-clause-count c = few-parts c.self.inside.plant c.self.invariant

pub returns-clause-few : goal.returns-clause-few
returns-clause-few c = few_variables c.self.inside.plant c.self.invariant
