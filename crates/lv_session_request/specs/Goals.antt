-- The goal that a line names: the formula that its tokens are, each name in it given what it stands for over the whole plant.
use Rattle.std.specs.Prelude.{◌≡◌, ℕ, Bool, true, false, ◌&&◌, List, drop, if◌then◌else◌, Some, Result, Ok, Err}
use Rattle.std.specs.Option.{ok_or}
use Rattle.lv_text.specs.Lexemes.{Lexeme, reads, line_reading}
use Rattle.lv_base.specs.Tree.{Tree}
use Rattle.lv_base.specs.Fits.{fits}
use Rattle.lv_model.specs.declared.plant.Plant.{Plant}
use Rattle.lv_model.specs.Counts.{has_count}
use Rattle.lv_model.specs.Ranges.{plant_ranges}
use Rattle.lv_formula_text.specs.PhraseTree.{PhraseTree}
use Rattle.lv_formula_text.specs.Nesting.{is_too_deep}
use Rattle.lv_formula_text.specs.Canonical.{tokens_of, canonical_text}
use Rattle.lv_formula_text.specs.Resolving.{resolved}
use Rattle.lv_formula_text.specs.declared.resolver.NameFault.{NameFault}
use Rattle.lv_formula_text.specs.declared.resolver.NameFault.TheVariants as name_fault
use Rattle.lv_formula_text.specs.Descent.{phrase_of}
use Rattle.lv_reply.specs.declared.reply.Refusal.{Refusal}
use Rattle.lv_reply.specs.declared.reply.Refusal.TheVariants.{Form, UnknownName, NoValue, TooComplex}
use Rattle.lv_model_names.specs.declared.lists.Lists.{Lists}
use Rattle.lv_model_names.specs.Lists.{lists_of}
use Rattle.lv_model_names.specs.Names.{names_over, plant_names}
use Rattle.lv_session_request.specs.declared.goals.Goal.{Goal}
use Rattle.lv_session_request.specs.Chain.{and_then}
use Rattle.lv_session_request.specs.Forms.{name_at}

-- the tokens behind a goal's name have to be a formula
abbrev pub phrase_in : List Lexeme → Result PhraseTree Refusal
phrase_in line = ok_or (phrase_of (drop 2 line)) Form

-- the first side of an equation that stands for nothing fitting is refused
abbrev pub with_refusal : Result Tree NameFault → Result Tree Refusal
with_refusal (Ok f) = Ok f
with_refusal (Err name_fault.UnknownName) = Err UnknownName
with_refusal (Err name_fault.NoFit) = Err NoValue

abbrev pub formula_of : Plant → Lists → PhraseTree → Result Tree Refusal
formula_of plant lists phrase = with_refusal (resolved (names_over plant lists.ranges) phrase)

-- the formula gives few enough clauses, in either sign
abbrev pub is_simple : Lists → Tree → Bool
is_simple lists f = has_count lists.sizes true f && has_count lists.sizes false f

abbrev pub simple : Lists → Tree → Result Tree Refusal
simple lists f = if is_simple lists f then Ok f else Err TooComplex

-- a phrase as a goal of this name, with its canonical text
abbrev pub goal_as : Plant → Lists → List ℕ → PhraseTree → Result Goal Refusal
goal_as plant lists name phrase =
    and_then (formula_of plant lists phrase) (λ f. and_then (simple lists f) (λ g. Ok (record { name = name; text = canonical_text phrase; formula = g })))

-- `goal NAME FORMULA`
unfoldable pub goal_of : Plant → Lists → List Lexeme → Result Goal Refusal
goal_of plant lists line = and_then (ok_or (name_at line 1) Form) (λ name. and_then (phrase_in line) (λ phrase. goal_as plant lists name phrase))

-- tokens that a line reads as
pub record AreRead (tokens : List Lexeme) : Type 0 where
  pub line : List ℕ
  pub reading : line_reading line ≡ reads tokens

-- the canonical text of the formula is a line that is read as it, and nests no deeper than a line may
pub record ReadsBack (f : PhraseTree) : Type 0 where
  pub reading : line_reading (canonical_text f) ≡ reads (tokens_of f)
  pub shallow : is_too_deep (tokens_of f) ≡ false
  pub read : phrase_of (tokens_of f) ≡ Some f

-- a goal each of whose equations compares a variable of the plant with one of its values, or two variables of one domain; and its text
-- is the canonical one of a formula that stands for it over the plant, and reads back
pub record IsGoalIn (plant : Plant) (g : Goal) : Type 0 where
  pub fits : fits (plant_ranges plant) g.formula ≡ true
  pub phrase : PhraseTree
  pub text : g.text ≡ canonical_text phrase
  pub reads_back : ReadsBack phrase
  pub stands_for : resolved (plant_names plant) phrase ≡ Ok g.formula
  pub simple : is_simple (lists_of plant) g.formula ≡ true
