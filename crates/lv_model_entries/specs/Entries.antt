-- What a statement adds to the statements before it, or why its place or its names are refused: its place first, then its names
-- from left to right.
use Rattle.std.specs.Prelude.{◌≡◌, ℕ, zero, suc, ◌+◌, ◌-◌, Bool, true, false, List, [], ◌∷◌, ◌++◌, nat_eq, nat_lt, length, map, slice_get, if◌then◌else◌, Option, Some, None, Result, Ok, Err}
use Rattle.std.specs.Option.{option_and_then, option_map_or}
use Rattle.lv_base.specs.declared.ids.VarId.{VarId}
use Rattle.lv_base.specs.declared.ids.ValId.{ValId}
use Rattle.lv_base.specs.declared.names.Class.{Class}
use Rattle.lv_base.specs.Tree.{Tree, is}
use Rattle.lv_formula_text.specs.declared.path.Path.TheVariants.{Own}
use Rattle.lv_model.specs.declared.plant.Domain.{Domain}
use Rattle.lv_model.specs.declared.plant.ComponentType.{ComponentType}
use Rattle.lv_model.specs.declared.plant.ModeFormula.{ModeFormula}
use Rattle.lv_model.specs.declared.plant.Move.{Move}
use Rattle.lv_model.specs.declared.plant.MoveKind.TheVariants.{Step, Fault}
use Rattle.lv_model.specs.declared.plant.Part.{Part}
use Rattle.lv_model.specs.declared.plant.Variable.{Variable}
use Rattle.lv_model.specs.Counts.{has_count}
use Rattle.lv_model.specs.Lists.{is_control}
use Rattle.lv_formula_text.specs.PhraseTree.{PhraseTree}
use Rattle.lv_reader.specs.declared.code.ModelCode.{ModelCode}
use Rattle.lv_reader.specs.declared.code.ModelCode.TheVariants.{UnknownName, NoFit, Misplaced, NotEnded, LimitPassed, TooManyClauses}
use Rattle.lv_reader.specs.declared.statement.Repair.{Repair}
use Rattle.lv_reader.specs.declared.statement.Statement.{Statement}
use Rattle.lv_reader.specs.declared.statement.Statement.TheVariants.{ModelLine, DomainLine, TypeLine, VariableLine, ModeLine, LawLine, InLine, StepLine, FaultLine, FaultsLine, RepairLine, EndLine, PartLine, PriceLine}
use Rattle.lv_model_entries.specs.declared.draft.Draft.{Draft}
use Rattle.lv_model_entries.specs.declared.draft.TypeDraft.{TypeDraft}
use Rattle.lv_model_entries.specs.declared.draft.CheckFault.{CheckFault}
use Rattle.lv_model_entries.specs.declared.draft.CheckFault.TheVariants.{Refused, Memory}
use Rattle.lv_model_entries.specs.declared.draft.Entry.{Entry}
use Rattle.lv_model_entries.specs.declared.draft.Entry.TheVariants.{Named, NewDomain, TypeBegins, NewVariable, NewMode, TypeLaw, ModeLaws, NewMove, NewMoves, TypeEnds, NewPart, SystemLaw, NewPrice}
use Rattle.lv_model_entries.specs.Places.{placed, domain_place, type_place, mode_place, variable_numbered, variable_place, part_of_name, mode_of_type}
use Rattle.lv_model_entries.specs.Scopes.{formula_in, variable_of_type, value_of_type, type_names, system_names, variable_of_part, value_of_system}

-- what comes of what there is, and the code where there is nothing
abbrev pub known : {A B : Type 0} → Option A → ModelCode → (A → Result B ModelCode) → Result B ModelCode
known None code next = Err code
known (Some x) code next = next x

-- what comes of a result, where it is no fault
abbrev pub on_ok : {A B : Type 0} → Result A ModelCode → (A → Result B ModelCode) → Result B ModelCode
on_ok (Err code) next = Err code
on_ok (Ok x) next = next x

-- a formula of a type
abbrev pub type_formula : List Domain → ComponentType → PhraseTree → Result Tree ModelCode
type_formula domains t f = formula_in (type_names domains t) f

abbrev pub system_formula : Draft → PhraseTree → Result Tree ModelCode
system_formula d f = formula_in (system_names d) f

abbrev pub variable_entry : List Domain → Class → List ℕ → List ℕ → Result Entry ModelCode
variable_entry domains class name domain =
    known (domain_place domains domain) UnknownName (λ place. Ok (NewVariable (record { name = name; class = class; domain = place })))

-- a mode, by the number behind those before it
abbrev pub mode_entry : ComponentType → List ℕ → Result Entry ModelCode
mode_entry t name = known (placed (length t.modes)) LimitPassed (λ n. Ok (NewMode name n))

-- the modes of these names, where all are known
abbrev pub mode_places : ComponentType → List (List ℕ) → Result (List ValId) ModelCode
mode_places t [] = Ok []
mode_places t (mode ∷ modes) = known (mode_place t mode) UnknownName (λ m. on_ok (mode_places t modes) (λ ms. Ok (m ∷ ms)))

-- a formula that holds in a mode
abbrev pub law_in : Tree → ValId → ModeFormula
law_in f mode = record { mode = mode; condition = f }

-- a formula once for each mode that the line names
abbrev pub mode_laws_entry : List Domain → ComponentType → List (List ℕ) → PhraseTree → Result Entry ModelCode
mode_laws_entry domains t modes f =
    on_ok (mode_places t modes) (λ ms. on_ok (type_formula domains t f) (λ g. Ok (ModeLaws (map (law_in g) ms))))

abbrev pub step_of : ValId → ValId → Tree → ℕ → Move
step_of source target guard line = record { kind = Step; source = source; target = target; guard = Some guard; cost = record { 0 = 0 }; line = line }

abbrev pub fault_of : ValId → ValId → ℕ → Option Tree → ℕ → Move
fault_of source target cost guard line = record { kind = Fault; source = source; target = target; guard = guard; cost = record { 0 = cost }; line = line }

-- the number of the next step or fault line of a type, from 1
abbrev pub line_number : TypeDraft → Option ℕ
line_number t = placed (t.lines + 1)

abbrev pub step_entry : List Domain → TypeDraft → List ℕ → List ℕ → PhraseTree → Result Entry ModelCode
step_entry domains t source target f =
    known (mode_place t.lists source) UnknownName (λ a.
    known (mode_place t.lists target) UnknownName (λ b.
    on_ok (type_formula domains t.lists f) (λ g.
    known (line_number t) LimitPassed (λ n. Ok (NewMove n (step_of a b g n))))))

-- a guard, if there is one
abbrev pub guard_in : List Domain → ComponentType → Option PhraseTree → Result (Option Tree) ModelCode
guard_in domains t None = Ok None
guard_in domains t (Some f) = on_ok (type_formula domains t f) (λ g. Ok (Some g))

abbrev pub fault_entry : List Domain → TypeDraft → List ℕ → List ℕ → ℕ → Option PhraseTree → Result Entry ModelCode
fault_entry domains t source target cost guard =
    known (mode_place t.lists source) UnknownName (λ a.
    known (mode_place t.lists target) UnknownName (λ b.
    on_ok (guard_in domains t.lists guard) (λ g.
    known (line_number t) LimitPassed (λ n. Ok (NewMove n (fault_of a b cost g n))))))

-- a fault to the mode from each other one of so many modes, in their order
abbrev pub faults_to : ValId → ℕ → Option Tree → ℕ → ℕ → List Move
faults_to target cost guard line zero = []
faults_to target cost guard line (suc modes) =
    faults_to target cost guard line modes
    ++ (if nat_eq modes target.0 then [] else fault_of (record { 0 = modes }) target cost guard line ∷ [])

-- the guard gives few enough clauses
abbrev pub is_short : TypeDraft → Option Tree → Bool
is_short t guard = option_map_or (has_count t.sizes true) guard true

-- the guard's clauses are counted here, as there may be no other mode, and so no move that has it
abbrev pub faults_entry : List Domain → TypeDraft → List ℕ → ℕ → Option PhraseTree → Result Entry ModelCode
faults_entry domains t target cost guard =
    known (mode_place t.lists target) UnknownName (λ b.
    on_ok (guard_in domains t.lists guard) (λ g.
    if is_short t g
    then known (line_number t) LimitPassed (λ n.
    known (placed (length t.lists.modes)) LimitPassed (λ modes. Ok (NewMoves n (faults_to b cost g n modes))))
    else Err TooManyClauses))

-- the variable at a place of a type, counted from its mode
abbrev pub own_variable : List Variable → ℕ → Option Variable
own_variable variables n = if nat_eq n 0 then None else slice_get variables (n - 1)

abbrev pub is_control_of : ComponentType → List ℕ → Bool
is_control_of t word = option_map_or (λ (v : Variable). is_control v.class) (option_and_then (own_variable t.variables) (variable_place t.variables word)) false

-- the equation of a repair: its variable is to be known, then it is to be a control, and the value one of its domain's
abbrev pub repair_in : List Domain → ComponentType → Repair → Result Tree ModelCode
repair_in domains t repair =
    known (variable_of_type t (Own repair.control)) UnknownName (λ x.
    if is_control_of t repair.control
    then known (value_of_type domains t x repair.value) NoFit (λ v. Ok (is x.0 v.0))
    else Err NoFit)

-- a fault, and a step back by its repair
abbrev pub repair_entry : List Domain → TypeDraft → List ℕ → List ℕ → ℕ → Repair → Option PhraseTree → Result Entry ModelCode
repair_entry domains t source target cost repair guard =
    known (mode_place t.lists source) UnknownName (λ a.
    known (mode_place t.lists target) UnknownName (λ b.
    on_ok (repair_in domains t.lists repair) (λ r.
    on_ok (guard_in domains t.lists guard) (λ g.
    known (line_number t) LimitPassed (λ n. Ok (NewMoves n (fault_of a b cost g n ∷ step_of b a r n ∷ [])))))))

-- a type ends that has a mode
abbrev pub end_entry : ComponentType → Result Entry ModelCode
end_entry t = if nat_eq (length t.modes) 0 then Err NotEnded else Ok TypeEnds

-- a statement in a type that has not ended
unfoldable pub inside_entry : List Domain → TypeDraft → Statement → Result Entry ModelCode
inside_entry domains t (VariableLine class name domain) = variable_entry domains class name domain
inside_entry domains t (ModeLine name) = mode_entry t.lists name
inside_entry domains t (LawLine f) = on_ok (type_formula domains t.lists f) (λ g. Ok (TypeLaw g))
inside_entry domains t (InLine modes f) = mode_laws_entry domains t.lists modes f
inside_entry domains t (StepLine source target f) = step_entry domains t source target f
inside_entry domains t (FaultLine source target cost guard) = fault_entry domains t source target cost guard
inside_entry domains t (FaultsLine target cost guard) = faults_entry domains t target cost guard
inside_entry domains t (RepairLine source target cost repair guard) = repair_entry domains t source target cost repair guard
inside_entry domains t EndLine = end_entry t.lists
inside_entry domains t statement = Err Misplaced

-- the model's name, if it stands first
abbrev pub name_entry : Draft → List ℕ → Result Entry ModelCode
name_entry d name = if d.has_begun then Err Misplaced else Ok (Named name)

abbrev pub part_entry : Draft → List ℕ → List ℕ → List ℕ → Result Entry ModelCode
part_entry d name kind start =
    known (type_place d.plant.types kind) UnknownName (λ k.
    known (mode_of_type d.plant.types k start) UnknownName (λ m.
    known (variable_numbered (length d.ranges)) LimitPassed (λ x.
    Ok (NewPart (record { name = name; kind = k; start = m; first = x })))))

-- the word names a control of the part
abbrev pub has_control : List ComponentType → List ℕ → Part → Bool
has_control types word p = option_map_or (λ (t : ComponentType). is_control_of t word) (slice_get types p.kind) false

abbrev pub priced_entry : ValId → VarId → ℕ → Result Entry ModelCode
priced_entry v x cost = if nat_lt 0 v.0 then Ok (NewPrice (record { control = x; value = v; cost = record { 0 = cost } })) else Err NoFit

-- a price of a part's control: its part and variable are to be known, then it is to be a control, and the value one of its domain's
-- that isn't the resting one
abbrev pub price_entry : Draft → List ℕ → List ℕ → List ℕ → ℕ → Result Entry ModelCode
price_entry d part control value cost =
    known (part_of_name d.plant.parts part) UnknownName (λ (p : Part).
    known (variable_of_part d.plant.types control p) UnknownName (λ x.
    if has_control d.plant.types control p
    then known (value_of_system d x value) NoFit (λ v. priced_entry v x cost)
    else Err NoFit))

-- a statement outside types
unfoldable pub outside_entry : Draft → Statement → Result Entry ModelCode
outside_entry d (ModelLine name) = name_entry d name
outside_entry d (DomainLine name values) = Ok (NewDomain (record { name = name; values = values }))
outside_entry d (TypeLine name) = Ok (TypeBegins name)
outside_entry d (LawLine f) = on_ok (system_formula d f) (λ g. Ok (SystemLaw g))
outside_entry d (PartLine name kind start) = part_entry d name kind start
outside_entry d (PriceLine part control value cost) = price_entry d part control value cost
outside_entry d statement = Err Misplaced

abbrev pub entry_where : Draft → Option TypeDraft → Statement → Result Entry ModelCode
entry_where d None statement = outside_entry d statement
entry_where d (Some t) statement = inside_entry d.plant.domains t statement

-- what a statement adds
abbrev pub entry_of : Draft → Statement → Result Entry ModelCode
entry_of d statement = entry_where d d.current statement

-- a fault tells the code; want of memory tells nothing
abbrev pub TellsEntry : CheckFault → Result Entry ModelCode → Type 0
TellsEntry (Refused code) found = found ≡ Err code
TellsEntry Memory found = Unit {0}

-- the same of what an entry is made of
abbrev pub TellsFound : {A : Type 0} → CheckFault → Result A ModelCode → Type 0
TellsFound (Refused code) found = found ≡ Err code
TellsFound Memory found = Unit {0}
