-- The statement whose form a line has, as a function of the line's lexemes.
use Rattle.std.specs.Prelude.{ℕ, ◌+◌, ◌*◌, List, length, drop, nat_eq, if◌then◌else◌, Option, Some, None, option_map, codes}
use Rattle.std.specs.Option.{option_and_then}
use Rattle.lv_formula_text.specs.lv_text.Lexemes.{Lexeme, says}
use Rattle.lv_formula_text.specs.PhraseTree.{PhraseTree}
use Rattle.lv_formula_text.specs.Descent.{phrase_of}
use Rattle.lv_reader.specs.declared.keyword.Keyword.{Keyword}
use Rattle.lv_reader.specs.declared.keyword.Keyword.TheVariants.{ModelWord, DomainWord, TypeWord, ClassWord, ModeWord, LawWord, InWord, StepWord, FaultWord, EndWord, PartWord, PriceWord, VersionWord}
use Rattle.lv_reader.specs.declared.statement.Repair.{Repair}
use Rattle.lv_reader.specs.declared.statement.Statement.{Statement}
use Rattle.lv_reader.specs.declared.statement.Statement.TheVariants.{ModelLine, DomainLine, TypeLine, VariableLine, ModeLine, LawLine, InLine, StepLine, FaultLine, FaultsLine, RepairLine, EndLine, PartLine, PriceLine, VersionLine}
use Rattle.lv_reader.specs.declared.words.NameAndNames.{NameAndNames}
use Rattle.lv_reader.specs.declared.words.TwoNames.{TwoNames}
use Rattle.lv_reader.specs.declared.words.ThreeNames.{ThreeNames}
use Rattle.lv_reader.specs.Words.{is_arrow, has_kind_at, only_numeral, only_name, name_and_names, two_names, three_names, one_or_more, both_ends, bare_target, repair_of, priced_names, numeral_at}

-- the formula from this place to the end
abbrev pub formula_at : List Lexeme → ℕ → Option PhraseTree
formula_at line i = phrase_of (drop i line)

-- what stands from this place on: no guard, or the formula behind `when`
abbrev pub guard_at : List Lexeme → ℕ → Option (Option PhraseTree)
guard_at line i = if nat_eq (length line) i then Some None else (if says (codes "when") line i then option_map (λ (f : PhraseTree). Some f) (formula_at line (i + 1)) else None)

abbrev pub in_form : List Lexeme → List (List ℕ) → Option Statement
in_form line modes = option_map (InLine modes) (formula_at line (2 * length modes))

-- a step has a guard
abbrev pub step_with : TwoNames → Option (Option PhraseTree) → Option Statement
step_with ends (Some (Some guard)) = Some (StepLine ends.first ends.second guard)
step_with ends _ = None

abbrev pub step_form : List Lexeme → TwoNames → Option Statement
step_form line ends = step_with ends (guard_at line 4)

-- a fault from one mode
abbrev pub fault_with : List Lexeme → TwoNames → ℕ → Option Statement
fault_with line ends cost = option_map (FaultLine ends.first ends.second cost) (guard_at line 6)

abbrev pub fault_from : List Lexeme → TwoNames → Option Statement
fault_from line ends = option_and_then (fault_with line ends) (numeral_at line 5)

abbrev pub fault_form : List Lexeme → Option Statement
fault_form line = if says (codes "cost") line 4 then option_and_then (fault_from line) (both_ends line) else None

-- a fault from each other mode
abbrev pub faults_with : List Lexeme → List ℕ → ℕ → Option Statement
faults_with line target cost = option_map (FaultsLine target cost) (guard_at line 5)

abbrev pub faults_to : List Lexeme → List ℕ → Option Statement
faults_to line target = option_and_then (faults_with line target) (numeral_at line 4)

abbrev pub faults_form : List Lexeme → Option Statement
faults_form line = if says (codes "cost") line 3 then option_and_then (faults_to line) (bare_target line) else None

-- a fault with a repair
abbrev pub repair_with : List Lexeme → TwoNames → ℕ → Repair → Option Statement
repair_with line ends cost repair = option_map (RepairLine ends.first ends.second cost repair) (guard_at line 10)

abbrev pub repair_behind : List Lexeme → TwoNames → ℕ → Option Statement
repair_behind line ends cost = option_and_then (repair_with line ends cost) (repair_of line)

abbrev pub repair_from : List Lexeme → TwoNames → Option Statement
repair_from line ends = option_and_then (repair_behind line ends) (numeral_at line 5)

abbrev pub repair_form : List Lexeme → Option Statement
repair_form line = if says (codes "cost") line 4 then option_and_then (repair_from line) (both_ends line) else None

-- a fault from one mode, as there is a repair or not
abbrev pub from_one : List Lexeme → Option Statement
from_one line = if says (codes "repair") line 6 then repair_form line else fault_form line

abbrev pub any_fault : List Lexeme → Option Statement
any_fault line = if has_kind_at is_arrow line 1 then faults_form line else from_one line

abbrev pub price_with : List Lexeme → ThreeNames → Option Statement
price_with line names = option_map (PriceLine names.first names.second names.third) (numeral_at line 6)

-- the statement that begins with this word whose form the lexemes have
unfoldable pub form_by : Keyword → List Lexeme → Option Statement
form_by ModelWord line = option_map ModelLine (only_name line)
form_by DomainWord line = option_map (λ (n : NameAndNames). DomainLine n.name n.others) (name_and_names line)
form_by TypeWord line = option_map TypeLine (only_name line)
form_by (ClassWord class) line = option_map (λ (n : TwoNames). VariableLine class n.first n.second) (two_names line)
form_by ModeWord line = option_map ModeLine (only_name line)
form_by LawWord line = option_map LawLine (formula_at line 1)
form_by InWord line = option_and_then (in_form line) (one_or_more line)
form_by StepWord line = option_and_then (step_form line) (both_ends line)
form_by FaultWord line = any_fault line
form_by EndWord line = if nat_eq (length line) 1 then Some EndLine else None
form_by PartWord line = option_map (λ (n : ThreeNames). PartLine n.first n.second n.third) (three_names line)
form_by PriceWord line = option_and_then (price_with line) (priced_names line)
form_by VersionWord line = option_map VersionLine (only_numeral line)
