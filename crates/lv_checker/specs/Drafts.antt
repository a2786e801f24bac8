-- A model as far as its statements go, and one more entry.
use Rattle.std.specs.Prelude.{ℕ, ◌+◌, Bool, true, false, ◌&&◌, ◌||◌, List, [], ◌∷◌, ◌++◌, length, map, nat_eq, nat_lt, position, unwrap_or, insert, if◌then◌else◌, Option, Some, None, codes}
use Rattle.lv_base.specs.declared.limits.TheConstants.{MODES}
use Rattle.lv_base.specs.declared.range.Range.{Range}
use Rattle.lv_base.specs.Tree.{Tree}
use Rattle.lv_model.specs.declared.plant.Plant.{Plant}
use Rattle.lv_model.specs.declared.plant.Domain.{Domain}
use Rattle.lv_model.specs.declared.plant.ModeFormula.{ModeFormula}
use Rattle.lv_model.specs.declared.plant.Move.{Move}
use Rattle.lv_model.specs.declared.plant.MoveKind.TheVariants.{Stay}
use Rattle.lv_model.specs.declared.plant.Part.{Part}
use Rattle.lv_model.specs.declared.plant.Variable.{Variable}
use Rattle.lv_model.specs.Ranges.{part_ranges}
use Rattle.lv_model.specs.WellFormed.{kind_place}
use Rattle.lv_model.specs.Counts.{held, limited, variable_size, type_count, law_count}
use Rattle.lv_model_entries.specs.declared.draft.Draft.{Draft}
use Rattle.lv_model_entries.specs.declared.draft.TypeDraft.{TypeDraft}
use Rattle.lv_model_entries.specs.declared.draft.Entry.{Entry}
use Rattle.lv_model_entries.specs.declared.draft.Entry.TheVariants.{Named, NewDomain, TypeBegins, NewVariable, NewMode, TypeLaw, ModeLaws, NewMove, NewMoves, TypeEnds, NewPart, SystemLaw, NewPrice}
use Rattle.lv_checker.specs.Faults.{share_of}

-- the plant before any statement
abbrev pub bare : Plant
bare = record { name = codes "model"; domains = []; types = []; parts = []; laws = []; prices = [] }

abbrev pub empty : Draft
empty = record { plant = bare; ranges = []; sizes = []; shares = []; clauses = 0; current = None; has_begun = false }

-- a type that has only its name; in its formulas the mode counts with as many values as a type may have modes
abbrev pub begun : List ℕ → TypeDraft
begun name =
    record {
      lists = record { name = name; variables = []; modes = []; laws = []; formulas = []; moves = [] };
      sizes = MODES ∷ [];
      lines = 0;
    }

abbrev pub stay_in : ℕ → Move
stay_in mode = record { kind = Stay; source = record { 0 = mode }; target = record { 0 = mode }; guard = None; cost = record { 0 = 0 }; line = 0 }

-- a move stands before another: one of an earlier mode, or of the same mode a step before the stay, and this before a fault
abbrev pub stands_before : Move → Move → Bool
stands_before m x = nat_lt m.source.0 x.source.0 || (nat_eq m.source.0 x.source.0 && nat_lt (kind_place m.kind) (kind_place x.kind))

-- how many of the moves stand before a new one: those before the first that it stands before
abbrev pub place_among : Move → List Move → ℕ
place_among m moves = unwrap_or (position (stands_before m) moves) (length moves)

-- the moves with a new one in its place
abbrev pub with_move_in_place : Move → List Move → List Move
with_move_in_place m moves = insert moves (place_among m moves) m

abbrev pub with_variable : List Domain → TypeDraft → Variable → TypeDraft
with_variable domains t v =
    record t { lists = record (t.lists) { variables = t.lists.variables ++ v ∷ [] }; sizes = t.sizes ++ variable_size domains v ∷ [] }

-- a mode with its stay
abbrev pub with_mode : TypeDraft → List ℕ → ℕ → TypeDraft
with_mode t name n =
    record t { lists = record (t.lists) { modes = t.lists.modes ++ name ∷ []; moves = with_move_in_place (stay_in n) t.lists.moves } }

abbrev pub with_type_law : TypeDraft → Tree → TypeDraft
with_type_law t f = record t { lists = record (t.lists) { laws = t.lists.laws ++ f ∷ [] } }

abbrev pub with_mode_laws : TypeDraft → List ModeFormula → TypeDraft
with_mode_laws t fs = record t { lists = record (t.lists) { formulas = t.lists.formulas ++ fs } }

-- the moves with new ones, one after the other
abbrev pub with_moves_in_place : List Move → List Move → List Move
with_moves_in_place [] moves = moves
with_moves_in_place (m ∷ ms) moves = with_moves_in_place ms (with_move_in_place m moves)

-- the moves of the line of this number
abbrev pub with_moves : TypeDraft → ℕ → List Move → TypeDraft
with_moves t line ms = record t { lists = record (t.lists) { moves = with_moves_in_place ms t.lists.moves }; lines = line }

-- a type that goes on
abbrev pub type_with : List Domain → TypeDraft → Entry → TypeDraft
type_with domains t (NewVariable v) = with_variable domains t v
type_with domains t (NewMode name n) = with_mode t name n
type_with domains t (TypeLaw f) = with_type_law t f
type_with domains t (ModeLaws fs) = with_mode_laws t fs
type_with domains t (NewMove line m) = with_moves t line (m ∷ [])
type_with domains t (NewMoves line ms) = with_moves t line ms
type_with domains t entry = t

-- a type that ends, behind those before it, with the share of a part of it
abbrev pub with_type : Draft → TypeDraft → Draft
with_type d t =
    record d {
      plant = record (d.plant) { types = d.plant.types ++ t.lists ∷ [] };
      shares = d.shares ++ held (type_count d.plant.domains t.lists) ∷ [];
      current = None;
    }

abbrev pub is_end : Entry → Bool
is_end TypeEnds = true
is_end entry = false

abbrev pub with_inside : Draft → TypeDraft → Entry → Draft
with_inside d t entry = if is_end entry then with_type d t else record d { current = Some (type_with d.plant.domains t entry) }

abbrev pub limited_size : Range → ℕ
limited_size r = limited r.size

-- a part with its variables and its share of clauses
abbrev pub with_part : Draft → Part → Draft
with_part d p =
    record d {
      plant = record (d.plant) { parts = d.plant.parts ++ p ∷ [] };
      ranges = d.ranges ++ part_ranges d.plant.domains d.plant.types p;
      sizes = d.sizes ++ map limited_size (part_ranges d.plant.domains d.plant.types p);
      clauses = held (d.clauses + share_of d p);
    }

abbrev pub with_law : Draft → Tree → Draft
with_law d f = record d { plant = record (d.plant) { laws = d.plant.laws ++ f ∷ [] }; clauses = held (d.clauses + law_count d.sizes f) }

abbrev pub with_outside : Draft → Entry → Draft
with_outside d (Named name) = record d { plant = record (d.plant) { name = name } }
with_outside d (NewDomain x) = record d { plant = record (d.plant) { domains = d.plant.domains ++ x ∷ [] } }
with_outside d (TypeBegins name) = record d { current = Some (begun name) }
with_outside d (NewPart p) = with_part d p
with_outside d (SystemLaw f) = with_law d f
with_outside d (NewPrice p) = record d { plant = record (d.plant) { prices = d.plant.prices ++ p ∷ [] } }
with_outside d entry = d

abbrev pub with_where : Draft → Option TypeDraft → Entry → Draft
with_where d None entry = with_outside d entry
with_where d (Some t) entry = with_inside d t entry

-- the draft with one more entry
abbrev pub with_entry : Draft → Entry → Draft
with_entry d entry = with_where (record d { has_begun = true }) d.current entry
