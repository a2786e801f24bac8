-- Commands of variables of a plant speak of variables of it.
use Rattle.std.proofs.Common.{ℕ, List, [], ◌∷◌, arith, All}
use Rattle.std.proofs.lemmas.List.Elements.{All-cons, All-append, All-tail}
use Rattle.lv_base.specs.declared.ids.ValId.{ValId}
use Rattle.lv_base.specs.declared.ids.VarId.{VarId}
use Rattle.lv_model.specs.declared.plant.Plant.{Plant}
use Rattle.lv_model.specs.Lists.{controls, variable_count, IsVariable}
use Rattle.lv_meaning.specs.declared.facts.Facts.{Facts}
use Rattle.lv_meaning.specs.Facts.{IsInRange, FactsFit, commanded, now_facts}

commanded-in_range : (count : ℕ) (cs : List VarId) (vs : List ValId) → All (IsVariable count) cs → All (IsInRange count) (commanded cs vs)
commanded-in_range count [] vs all = λ k d below. absurd (omega arith)
commanded-in_range count (c ∷ cs) [] all = λ k d below. absurd (omega arith)
commanded-in_range count (c ∷ cs) (v ∷ vs) all =
    All-cons (IsInRange count) (record { var = c; val = v }) (commanded cs vs)
    (record { below = (all 0 c (omega arith)).below })
    (commanded-in_range count cs vs (All-tail (IsVariable count) c cs all))

-- all that the assignment before the step has to have is said of variables of the plant
pub now_facts-in_range : (plant : Plant) (facts : Facts) → FactsFit plant facts → All (IsVariable (variable_count plant)) (controls plant) → All (IsInRange (variable_count plant)) (now_facts plant facts)
now_facts-in_range plant facts fit all =
    All-append (IsInRange (variable_count plant)) (commanded (controls plant) facts.controls) facts.present
    (commanded-in_range (variable_count plant) (controls plant) facts.controls all) fit.present
