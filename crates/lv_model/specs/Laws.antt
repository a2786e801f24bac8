-- What holds of the moves of a well-formed plant.
use Rattle.std.specs.Prelude.{◌≡◌, ◌+◌, ◌<◌, ◌≤◌, ℕ, true, Some, slice_get}
use Rattle.lv_model.specs.declared.plant.Plant.{Plant}
use Rattle.lv_model.specs.declared.plant.Move.{Move}
use Rattle.lv_model.specs.Moves.{first_move, move_count, moves_of}
use Rattle.lv_model.specs.WellFormed.{is_well_formed}

-- the moves from the first of a mode on, as many as it has, are those that go from the mode, and no others are
pub record MovesFromAreTheModes : Type 0 where
  pub are : (plant : Plant) → is_well_formed plant ≡ true → (part mode n : ℕ) (m : Move) → slice_get (moves_of plant part) n ≡ Some m
      → first_move (moves_of plant part) mode ≤ n → n < first_move (moves_of plant part) mode + move_count (moves_of plant part) mode → m.source.0 ≡ mode
  pub all : (plant : Plant) → is_well_formed plant ≡ true → (part n : ℕ) (m : Move) → slice_get (moves_of plant part) n ≡ Some m
      → (first_move (moves_of plant part) m.source.0 ≤ n) × (n < first_move (moves_of plant part) m.source.0 + move_count (moves_of plant part) m.source.0)
