-- The command sets: a value for each control, in the order of their prices and then of their values.
use Rattle.std.specs.Prelude.{ℕ, zero, suc, ◌+◌, Bool, nat_lt, List, [], ◌∷◌, map, slice_index_or}
use Rattle.std.specs.List.{flat_map}
use Rattle.std.specs.Cmp.Lexicographic.{pointwise}
use Rattle.lv_base.specs.declared.ids.VarId.{VarId}
use Rattle.lv_base.specs.declared.rank.Rank.{Rank}
use Rattle.lv_model.specs.declared.plant.Plant.{Plant}
use Rattle.lv_model.specs.Lists.{sizes, controls}
use Rattle.lv_model.specs.Prices.{price_of}
use Rattle.lv_boxes.specs.Ranked.{ranked}

-- how many values each control has
abbrev pub control_sizes : Plant → List ℕ
control_sizes plant = map (λ (c : VarId). slice_index_or (sizes plant) c.0 0) (controls plant)

-- a value for each control
abbrev pub is_command_set : Plant → List ℕ → Bool
is_command_set plant u = pointwise nat_lt u (control_sizes plant)

-- the numbers below n
abbrev pub numbers_below : ℕ → List ℕ
numbers_below zero = []
numbers_below (suc n) = n ∷ numbers_below n

-- every list of a number below each bound
abbrev pub lists_below : List ℕ → List (List ℕ)
lists_below [] = [] ∷ []
lists_below (n ∷ ns) = flat_map (λ v. map (λ vs. v ∷ vs) (lists_below ns)) (numbers_below n)

-- what the values of these controls cost together
abbrev pub commands_cost : Plant → List VarId → List ℕ → ℕ
commands_cost plant [] vs = 0
commands_cost plant (c ∷ cs) [] = 0
commands_cost plant (c ∷ cs) (v ∷ vs) = price_of plant c.0 v + commands_cost plant cs vs

abbrev pub command_rank : Plant → List ℕ → Rank
command_rank plant u = record { cost = record { 0 = commands_cost plant (controls plant) u }; source = 0; choices = u }

-- all command sets of the plant, by cost and then by values
abbrev pub command_sets : Plant → List Rank
command_sets plant = ranked (map (command_rank plant) (lists_below (control_sizes plant)))
