-- What an iterator over the arena shows of the clauses present.
use Rattle.std.proofs.Common.{◌≡◌, ℕ, ◌+◌, Bool, List, [], ◌∷◌, map, Some, None, refl, ap, ◌&&◌}
use Rattle.std.specs.List.{list_all}
use Rattle.slab.specs.Slab.{entries_from}
use Rattle.lv_base.specs.declared.ids.Lit.{Lit}
use Rattle.lv_base.specs.declared.ids.ClauseId.{ClauseId}
use Rattle.lv_clauses.specs.Literals.{clause_holds}
use Rattle.lv_clauses.specs.ClauseMap.{Slots, satisfies, ids_from}

-- the values make the clause of the entry true
abbrev pub entry_holds : List Bool → (ℕ × List Lit) → Bool
entry_holds values e = clause_holds values e.1

abbrev pub entry_id : (ℕ × List Lit) → ClauseId
entry_id e = record { 0 = e.0 }

pub all_entries_hold : (values : List Bool) (first : ℕ) (slots : Slots) → list_all (entry_holds values) (entries_from first slots) ≡ satisfies values slots
all_entries_hold values first [] = refl
all_entries_hold values first (None ∷ rest) = all_entries_hold values (first + 1) rest
all_entries_hold values first (Some c ∷ rest) = ap (λ b. clause_holds values c && b) (all_entries_hold values (first + 1) rest)

pub ids_of_entries : (first : ℕ) (slots : Slots) → map entry_id (entries_from first slots) ≡ ids_from first slots
ids_of_entries first [] = refl
ids_of_entries first (None ∷ rest) = ids_of_entries (first + 1) rest
ids_of_entries first (Some c ∷ rest) = let id : ClauseId = record { 0 = first } in ap (λ ids. id ∷ ids) (ids_of_entries (first + 1) rest)
