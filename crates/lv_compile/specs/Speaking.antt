-- The formulas of a plant speak of values that have booleans, as the code hands this on.
use Rattle.std.specs.Prelude.{◌≡◌, ◌<◌, ℕ, Bool, true, IsTrue, All, List, Some, slice_get}
use Rattle.std.specs.Option.{option_map_or}
use Rattle.lv_base.specs.Tree.{Tree}
use Rattle.lv_model.specs.declared.plant.ComponentType.{ComponentType}
use Rattle.lv_model.specs.declared.plant.ModeFormula.{ModeFormula}
use Rattle.lv_model.specs.declared.plant.Move.{Move}
use Rattle.lv_model.specs.declared.plant.Part.{Part}
use Rattle.lv_compile.specs.Booleans.{Booleans}
use Rattle.lv_compile.specs.FormulaClauses.{size_of, speaks_of}

pub record Speaks (b : Booleans) (base : ℕ) (f : Tree) : Type 0 where
  pub of : IsTrue (speaks_of b base f)

-- and its mode is a value of the part's first variable
pub record ModeFormulaSpeaks (b : Booleans) (base : ℕ) (f : ModeFormula) : Type 0 where
  pub condition : IsTrue (speaks_of b base f.condition)
  pub mode : f.mode.0 < size_of b base

abbrev pub guard_speaks : Booleans → ℕ → Move → Bool
guard_speaks b base m = option_map_or (speaks_of b base) m.guard true

pub record GuardSpeaks (b : Booleans) (base : ℕ) (m : Move) : Type 0 where
  pub guard : IsTrue (guard_speaks b base m)

-- its source before the step and its target after it are values of the part's first variable
pub record MoveSpeaks (a b : Booleans) (base : ℕ) (m : Move) : Type 0 where
  pub source : m.source.0 < size_of a base
  pub target : m.target.0 < size_of b base

pub record TypeSpeaks (b : Booleans) (base : ℕ) (t : ComponentType) : Type 0 where
  pub laws : All (Speaks b base) t.laws
  pub formulas : All (ModeFormulaSpeaks b base) t.formulas

pub record MovesSpeak (a b : Booleans) (base : ℕ) (t : ComponentType) : Type 0 where
  pub guards : All (GuardSpeaks a base) t.moves
  pub ends : All (MoveSpeaks a b base) t.moves

-- what holds of the part speaks of values that have booleans
pub record PartHolds (b : Booleans) (types : List ComponentType) (p : Part) : Type 0 where
  pub kind : (t : ComponentType) → slice_get types p.kind ≡ Some t → TypeSpeaks b p.first.0 t

-- its moves do
pub record PartSpeaks (a b : Booleans) (types : List ComponentType) (p : Part) : Type 0 where
  pub kind : (t : ComponentType) → slice_get types p.kind ≡ Some t → MovesSpeak a b p.first.0 t
