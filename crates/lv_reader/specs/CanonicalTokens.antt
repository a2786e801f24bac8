-- The canonical tokens of a statement: its words and names, numbers without leading zeros, formulas as they are printed.
use Rattle.std.specs.Prelude.{ℕ, List, [], ◌∷◌, ◌++◌, map, Option, Some, None, codes, false}
use Rattle.std.specs.Fmt.{decimal}
use Rattle.std.specs.List.{flat_map}
use Rattle.lv_base.specs.declared.names.Class.{Class}
use Rattle.lv_base.specs.declared.names.Class.TheVariants.{Control, Dependent, Observable}
use Rattle.lv_text.specs.declared.lexer.TokenKind.TheVariants.{Number, Arrow, Or, Dot, Equals}
use Rattle.lv_text.specs.Lexemes.{Lexeme}
use Rattle.lv_formula_text.specs.PhraseTree.{PhraseTree}
use Rattle.lv_formula_text.specs.Spacing.{word, symbol, spaced}
use Rattle.lv_formula_text.specs.Canonical.{tokens_of}
use Rattle.lv_reader.specs.declared.statement.Repair.{Repair}
use Rattle.lv_reader.specs.declared.statement.Statement.{Statement}
use Rattle.lv_reader.specs.declared.statement.Statement.TheVariants.{ModelLine, DomainLine, TypeLine, VariableLine, ModeLine, LawLine, InLine, StepLine, FaultLine, FaultsLine, RepairLine, EndLine, PartLine, PriceLine, VersionLine}

-- the token of a number
abbrev pub number : ℕ → Lexeme
number n = record { kind = Number; text = decimal n }

abbrev pub class_word : Class → List ℕ
class_word Control = codes "control"
class_word Dependent = codes "variable"
class_word Observable = codes "observable"

-- `WORD NAME`
abbrev pub named_tokens : List ℕ → List ℕ → List Lexeme
named_tokens keyword name = word keyword ∷ word name ∷ []

-- `| NAME`
abbrev pub alternative_tokens : List ℕ → List Lexeme
alternative_tokens name = symbol Or ∷ word name ∷ []

-- `NAME | NAME ..`
abbrev pub mode_tokens : List (List ℕ) → List Lexeme
mode_tokens [] = []
mode_tokens (mode ∷ others) = word mode ∷ flat_map alternative_tokens others

-- `WORD MODE -> MODE`
abbrev pub move_tokens : List ℕ → List ℕ → List ℕ → List Lexeme
move_tokens keyword source target = word keyword ∷ word source ∷ symbol Arrow ∷ word target ∷ []

-- `when FORMULA`, if there is one
abbrev pub guard_tokens : Option PhraseTree → List Lexeme
guard_tokens None = []
guard_tokens (Some f) = word (codes "when") ∷ tokens_of f

-- `cost N`, and the guard if there is one
abbrev pub cost_tokens : ℕ → Option PhraseTree → List Lexeme
cost_tokens cost guard = word (codes "cost") ∷ number cost ∷ guard_tokens guard

-- `repair CONTROL = VALUE`
abbrev pub repair_tokens : Repair → List Lexeme
repair_tokens repair = word (codes "repair") ∷ word repair.control ∷ symbol Equals ∷ word repair.value ∷ []

-- `.CONTROL = VALUE N`
abbrev pub price_tokens : List ℕ → List ℕ → ℕ → List Lexeme
price_tokens control value cost = symbol Dot ∷ word control ∷ symbol Equals ∷ word value ∷ number cost ∷ []

abbrev pub statement_tokens : Statement → List Lexeme
statement_tokens (ModelLine name) = named_tokens (codes "model") name
statement_tokens (DomainLine name values) = named_tokens (codes "domain") name ++ map word values
statement_tokens (TypeLine name) = named_tokens (codes "type") name
statement_tokens (VariableLine class name domain) = named_tokens (class_word class) name ++ word domain ∷ []
statement_tokens (ModeLine name) = named_tokens (codes "mode") name
statement_tokens (LawLine f) = word (codes "law") ∷ tokens_of f
statement_tokens (InLine modes f) = word (codes "in") ∷ (mode_tokens modes ++ tokens_of f)
statement_tokens (StepLine source target guard) = move_tokens (codes "step") source target ++ guard_tokens (Some guard)
statement_tokens (FaultLine source target cost guard) = move_tokens (codes "fault") source target ++ cost_tokens cost guard
statement_tokens (FaultsLine target cost guard) = word (codes "fault") ∷ symbol Arrow ∷ word target ∷ cost_tokens cost guard
statement_tokens (RepairLine source target cost repair guard) =
    move_tokens (codes "fault") source target ++ word (codes "cost") ∷ number cost ∷ (repair_tokens repair ++ guard_tokens guard)
statement_tokens EndLine = word (codes "end") ∷ []
statement_tokens (PartLine name kind start) = named_tokens (codes "part") name ++ (word kind ∷ word start ∷ [])
statement_tokens (PriceLine part control value cost) = named_tokens (codes "price") part ++ price_tokens control value cost
statement_tokens (VersionLine n) = word (codes "version") ∷ number n ∷ []

-- the canonical text of a statement, one line without its end
abbrev pub statement_text : Statement → List ℕ
statement_text s = spaced false (statement_tokens s)
