-- States as the keys of a set, told apart by their modes.
use Rattle.std.specs.Prelude.{List, map}
use Rattle.std.specs.Cmp.{IsEquivalence, on_equiv, nat_eq_equiv, unsigned_Decides}
use Rattle.std.specs.Cmp.Lexicographic.{pointwise, lists_equiv}
use Rattle.std.specs.Hash as fed
use Rattle.std.specs.Hash.{HashWrites, Alike, on_Alike, items_Alike, same_Alike}
use Rattle.lv_base.specs.declared.ids.ValId.{ValId}
use Rattle.lv_model.specs.declared.state.TrackedState.{TrackedState}
use Rattle.lv_tracker.specs.declared.distinct.ByModes.{ByModes}
use Rattle.lv_tracker.specs.Distinct.{is_same_mode}

abbrev pub modes_of : ByModes → List ValId
modes_of k = k.tracked.state.modes

-- the states that the keys of a set are
abbrev pub states_of : List ByModes → List TrackedState
states_of = map (λ (k : ByModes). k.tracked)

-- having the same modes is an equivalence
pub modes_equiv : IsEquivalence (pointwise is_same_mode)
modes_equiv = lists_equiv (on_equiv (λ (m : ValId). m.0) nat_eq_equiv)

-- what modes write to a hash, which is the same for the same modes
abbrev pub fed_modes : List ValId → HashWrites
fed_modes = fed.slice (λ (m : ValId). fed.u32 m.0)

pub modes_alike : Alike (pointwise is_same_mode) fed_modes
modes_alike = items_Alike (on_Alike (λ (m : ValId). m.0) (same_Alike fed.u32 unsigned_Decides))
