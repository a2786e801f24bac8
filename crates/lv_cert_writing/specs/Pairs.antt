-- Pairs of a slot and one of its choices.
use Rattle.std.specs.Prelude.{◌<◌, ℕ, List, slice_index_or}
use Rattle.lv_base.specs.declared.search.Pair.{Pair}

-- the slot has the choice
pub record HasChoice (counts : List ℕ) (p : Pair) : Type 0 where
  pub below : p.choice < slice_index_or counts p.slot 0
