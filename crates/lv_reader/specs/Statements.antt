-- What lexemes are which statement: by cases on the statement, the word that it begins with and the form of the rest.
use Rattle.std.specs.Prelude.{◌≡◌, ◌*◌, List, Bool, true, false, ◌&&◌, length, nat_eq, nat_le, is_some, Some, None, codes}
use Rattle.lv_base.specs.declared.limits.TheConstants.{LEAST_FAULT_COST, FAULT_COST, PRICE}
use Rattle.lv_text.specs.Lexemes.{Lexeme, says}
use Rattle.lv_formula_text.specs.Nesting.{is_too_deep}
use Rattle.lv_reader.specs.declared.code.ModelCode.{ModelCode}
use Rattle.lv_reader.specs.declared.code.ModelCode.TheVariants as code
use Rattle.lv_reader.specs.declared.keyword.Keyword.{Keyword}
use Rattle.lv_reader.specs.declared.keyword.Keyword.TheVariants.{ModelWord, DomainWord, TypeWord, ClassWord, ModeWord, LawWord, InWord, StepWord, FaultWord, EndWord, PartWord, PriceWord, VersionWord}
use Rattle.lv_reader.specs.declared.statement.Statement.{Statement}
use Rattle.lv_reader.specs.declared.statement.Statement.TheVariants.{ModelLine, DomainLine, TypeLine, VariableLine, ModeLine, LawLine, InLine, StepLine, FaultLine, FaultsLine, RepairLine, EndLine, PartLine, PriceLine, VersionLine}
use Rattle.lv_reader.specs.declared.version.TheConstants.{NEWEST}
use Rattle.lv_reader.specs.declared.version.Version.{Version}
use Rattle.lv_reader.specs.declared.version.Version.TheVariants.{One, Two}
use Rattle.lv_reader.specs.Keywords.{keyword_of}
use Rattle.lv_reader.specs.Words.{only_numeral, only_name, name_and_names, two_names, three_names, one_or_more, both_ends, bare_target, repair_of, priced_names, numeral_at, EndsInFormula, HasGuard}

-- the word that a statement begins with
abbrev pub word_of : Statement → Keyword
word_of (ModelLine name) = ModelWord
word_of (DomainLine name values) = DomainWord
word_of (TypeLine name) = TypeWord
word_of (VariableLine class name domain) = ClassWord class
word_of (ModeLine name) = ModeWord
word_of (LawLine f) = LawWord
word_of (InLine modes f) = InWord
word_of (StepLine source target guard) = StepWord
word_of (FaultLine source target cost guard) = FaultWord
word_of (FaultsLine target cost guard) = FaultWord
word_of (RepairLine source target cost repair guard) = FaultWord
word_of EndLine = EndWord
word_of (PartLine name kind start) = PartWord
word_of (PriceLine part control value cost) = PriceWord
word_of (VersionLine n) = VersionWord

-- the form of what stands behind that word
abbrev pub HasShape : List Lexeme → Statement → Type 0
HasShape line (ModelLine name) = only_name line ≡ Some name
HasShape line (DomainLine name values) = name_and_names line ≡ Some (record { name = name; others = values })
HasShape line (TypeLine name) = only_name line ≡ Some name
HasShape line (VariableLine class name domain) = two_names line ≡ Some (record { first = name; second = domain })
HasShape line (ModeLine name) = only_name line ≡ Some name
HasShape line (LawLine f) = EndsInFormula line 1 f
HasShape line (InLine modes f) = (one_or_more line ≡ Some modes) × EndsInFormula line (2 * length modes) f
HasShape line (StepLine source target guard) = (both_ends line ≡ Some (record { first = source; second = target })) × HasGuard line 4 (Some guard)
HasShape line (FaultLine source target cost guard) =
    (both_ends line ≡ Some (record { first = source; second = target })) × (says (codes "cost") line 4 ≡ true) × (numeral_at line 5 ≡ Some cost) × HasGuard line 6 guard
HasShape line (FaultsLine target cost guard) =
    (bare_target line ≡ Some target) × (says (codes "cost") line 3 ≡ true) × (numeral_at line 4 ≡ Some cost) × HasGuard line 5 guard
HasShape line (RepairLine source target cost repair guard) =
    (both_ends line ≡ Some (record { first = source; second = target })) × (says (codes "cost") line 4 ≡ true) × (numeral_at line 5 ≡ Some cost)
    × (repair_of line ≡ Some repair) × HasGuard line 10 guard
HasShape line EndLine = length line ≡ 1
HasShape line (PartLine name kind start) = three_names line ≡ Some (record { first = name; second = kind; third = start })
HasShape line (PriceLine part control value cost) =
    (priced_names line ≡ Some (record { first = part; second = control; third = value })) × (numeral_at line 6 ≡ Some cost)
HasShape line (VersionLine n) = only_numeral line ≡ Some n

-- the lexemes have the form of the statement
pub record HasForm (line : List Lexeme) (s : Statement) : Type 0 where
  pub word : keyword_of line ≡ Some (word_of s)
  pub shape : HasShape line s

-- they have the form of none
pub record HasNoForm (line : List Lexeme) : Type 0 where
  pub none : (s : Statement) → HasForm line s → ⊥

-- the version has that form: the first has one mode alone behind `in`, and of faults those from one mode and without repair
abbrev pub has_form_of : Version → Statement → Bool
has_form_of Two s = true
has_form_of One (InLine modes f) = nat_eq (length modes) 1
has_form_of One (FaultsLine target cost guard) = false
has_form_of One (RepairLine source target cost repair guard) = false
has_form_of One s = true

-- the lexemes have the form of no statement of the version
pub record HasNoFormIn (version : Version) (line : List Lexeme) : Type 0 where
  pub none : (s : Statement) → HasForm line s → has_form_of version s ≡ true → ⊥

-- the number of a statement, if it has one, is within its limits
abbrev pub number_fits : Statement → Bool
number_fits (FaultLine source target cost guard) = nat_le LEAST_FAULT_COST cost && nat_le cost FAULT_COST
number_fits (FaultsLine target cost guard) = nat_le LEAST_FAULT_COST cost && nat_le cost FAULT_COST
number_fits (RepairLine source target cost repair guard) = nat_le LEAST_FAULT_COST cost && nat_le cost FAULT_COST
number_fits (PriceLine part control value cost) = nat_le cost PRICE
number_fits (VersionLine n) = nat_le 1 n && nat_le n NEWEST
number_fits s = true

-- the lexemes are that statement in a text of the version: they don't nest too deep, have its form, which the version has, and its
-- number is within its limits
pub record IsStatement (version : Version) (line : List Lexeme) (s : Statement) : Type 0 where
  pub shallow : is_too_deep line ≡ false
  pub form : HasForm line s
  pub known : has_form_of version s ≡ true
  pub number : number_fits s ≡ true

-- the line begins with a statement's word, and nests too deep
pub record NestsTooDeep (line : List Lexeme) : Type 0 where
  pub known : is_some (keyword_of line) ≡ true
  pub deep : is_too_deep line ≡ true

-- it begins with a statement's word and doesn't nest too deep, and has the form of no statement of the version
pub record IsOutOfForm (version : Version) (line : List Lexeme) : Type 0 where
  pub known : is_some (keyword_of line) ≡ true
  pub shallow : is_too_deep line ≡ false
  pub form : HasNoFormIn version line

-- it has the form of a statement of the version whose number is outside its limits
pub record IsOutOfRange (version : Version) (line : List Lexeme) : Type 0 where
  pub shallow : is_too_deep line ≡ false
  pub statement : Statement
  pub form : HasForm line statement
  pub known : has_form_of version statement ≡ true
  pub number : number_fits statement ≡ false

-- why lexemes are no statement of the version: the first of these in this order
abbrev pub IsRefusedBy : Version → List Lexeme → ModelCode → Type 0
IsRefusedBy version line code.UnknownStatement = keyword_of line ≡ None
IsRefusedBy version line code.TooDeep = NestsTooDeep line
IsRefusedBy version line code.Form = IsOutOfForm version line
IsRefusedBy version line code.NumberOutOfRange = IsOutOfRange version line
IsRefusedBy version line other = ⊥
