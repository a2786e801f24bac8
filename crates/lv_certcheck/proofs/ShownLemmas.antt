-- What steps show.
use Rattle.std.proofs.Common.{◌≡◌, ◌≢◌, ℕ, zero, suc, ◌+◌, ◌<◌, Bool, true, false, ◌&&◌, nat_eq, List, [], ◌∷◌, length, drop, map, slice_get, slice_index_or, refl, sym, ap, ◌∙◌, arith}
use Rattle.std.specs.Option.{option_map_or}
use Rattle.lv_base.specs.declared.ids.ValId.{ValId}
use Rattle.lv_base.specs.declared.ids.VarId.{VarId}
use Rattle.lv_base.specs.Tree.{number_of}
use Rattle.lv_model.specs.declared.plant.Plant.{Plant}
use Rattle.lv_model.specs.declared.plant.ComponentType.{ComponentType}
use Rattle.lv_model.specs.declared.plant.Part.{Part}
use Rattle.lv_model.specs.Meaning.{is_feasible, parts_step, part_steps, is_step}
use Rattle.lv_model.specs.Prices.{price_of}
use Rattle.lv_meaning.specs.declared.facts.Facts.{Facts}
use Rattle.lv_meaning.specs.Facts.{meets, commanded, meets_facts}
use Rattle.lv_meaning.specs.Possible.{move_number}
use Rattle.lv_meaning.specs.Commands.{commands_cost}

commanded_none : (cs : List VarId) → commanded cs [] ≡ []
commanded_none [] = refl
commanded_none (c ∷ cs) = refl

-- the commands from a place on are met where the first of them is and the others are
command_met_at : (a : List ValId) (cs : List VarId) (vs : List ValId) (k : ℕ) (d : VarId) → k < length cs
    → meets a (commanded (drop k cs) (drop k vs))
    ≡ (option_map_or (λ (v : ValId). nat_eq (number_of a (slice_index_or cs k d).0) v.0) (slice_get vs k) true && meets a (commanded (drop (suc k) cs) (drop (suc k) vs)))
command_met_at a [] vs k d below = absurd (omega (arith, below))
command_met_at a (c ∷ cs) [] zero d below = ap (meets a) (sym (commanded_none cs))
command_met_at a (c ∷ cs) (v ∷ vs) zero d below = refl
command_met_at a (c ∷ cs) [] (suc k) d below = ap (meets a) (commanded_none (drop k cs)) ∙ sym (ap (meets a) (commanded_none (drop (suc k) cs)))
command_met_at a (c ∷ cs) (v ∷ vs) (suc k) d below = command_met_at a cs vs k d (omega (arith, below))

pub command_met : (a : List ValId) (cs : List VarId) (vs : List ValId) (k n : ℕ) (d : VarId) → n ≡ suc k → k < length cs
    → meets a (commanded (drop k cs) (drop k vs))
    ≡ (option_map_or (λ (v : ValId). nat_eq (number_of a (slice_index_or cs k d).0) v.0) (slice_get vs k) true && meets a (commanded (drop n cs) (drop n vs)))
command_met a cs vs k n d is below =
    command_met_at a cs vs k d below
    ∙ ap (λ (m : ℕ). option_map_or (λ (v : ValId). nat_eq (number_of a (slice_index_or cs k d).0) v.0) (slice_get vs k) true && meets a (commanded (drop m cs) (drop m vs))) (sym is)

-- what the values from a place on cost is the price of the first and what the others cost
cost_of_first_at : (plant : Plant) (cs : List VarId) (vs : List ℕ) (k : ℕ) (c : VarId) (d : ℕ) → k < length cs → k < length vs
    → commands_cost plant (drop k cs) (drop k vs) ≡ price_of plant (slice_index_or cs k c).0 (slice_index_or vs k d) + commands_cost plant (drop (suc k) cs) (drop (suc k) vs)
cost_of_first_at plant [] vs k c d below within = absurd (omega (arith, below))
cost_of_first_at plant (x ∷ xs) [] k c d below within = absurd (omega (arith, within))
cost_of_first_at plant (x ∷ xs) (v ∷ vs) zero c d below within = refl
cost_of_first_at plant (x ∷ xs) (v ∷ vs) (suc k) c d below within = cost_of_first_at plant xs vs k c d (omega (arith, below)) (omega (arith, within))

pub cost_of_first : (plant : Plant) (cs : List VarId) (vs : List ℕ) (k n : ℕ) (c : VarId) (d : ℕ) → n ≡ suc k → k < length cs → k < length vs
    → commands_cost plant (drop k cs) (drop k vs) ≡ price_of plant (slice_index_or cs k c).0 (slice_index_or vs k d) + commands_cost plant (drop n cs) (drop n vs)
cost_of_first plant cs vs k n c d is below within =
    cost_of_first_at plant cs vs k c d below within ∙ ap (λ (m : ℕ). price_of plant (slice_index_or cs k c).0 (slice_index_or vs k d) + commands_cost plant (drop m cs) (drop m vs)) (sym is)

both_false : (a : Bool) → (a && false) ≡ false
both_false true = refl
both_false false = refl

-- no step is by more moves or fewer than there are parts
pub unequal_moves : (types : List ComponentType) (a b : List ValId) (ps : List Part) (choices : List ℕ) → length choices ≢ length ps → parts_step types a b ps (map move_number choices) ≡ false
unequal_moves types a b [] [] unequal = absurd (unequal refl)
unequal_moves types a b [] (c ∷ cs) unequal = refl
unequal_moves types a b (p ∷ ps) [] unequal = refl
unequal_moves types a b (p ∷ ps) (c ∷ cs) unequal =
    ap (λ (t : Bool). part_steps types a b p c && t) (unequal_moves types a b ps cs (λ same. unequal (ap suc same))) ∙ both_false (part_steps types a b p c)

pub no_step_of : (plant : Plant) (facts : Facts) (a b : List ValId) (choices : List ℕ) → length choices ≢ length plant.parts
    → (is_step plant a b (map move_number choices) && meets_facts plant facts a b) ≡ false
no_step_of plant facts a b choices unequal =
    ap (λ (t : Bool). (is_feasible plant a && (is_feasible plant b && t)) && meets_facts plant facts a b) (unequal_moves plant.types a b plant.parts choices unequal)
    ∙ by (is_feasible plant a) (is_feasible plant b)
  where
    by : (p q : Bool) → ((p && (q && false)) && meets_facts plant facts a b) ≡ false
    by true true = refl
    by true false = refl
    by false q = refl
