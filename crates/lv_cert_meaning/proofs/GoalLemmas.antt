-- What a line reads as, and what the names of a goal stand for.
use Rattle.std.proofs.Common.{◌≡◌, List, Some, None, Ok, if◌then◌else◌, sym, ap, ◌∙◌}
use Rattle.lv_text.specs.Lexemes.{Lexeme}
use Rattle.lv_base.specs.declared.range.Range.{Range}
use Rattle.lv_base.specs.Tree.{Tree}
use Rattle.lv_model.specs.declared.plant.Plant.{Plant}
use Rattle.lv_model.specs.Ranges.{plant_ranges}
use Rattle.lv_formula_text.specs.PhraseTree.{PhraseTree}
use Rattle.lv_formula_text.specs.Nesting.{is_too_deep}
use Rattle.lv_formula_text.specs.ReadPhrase.{IsReadAs, IsNone}
use Rattle.lv_formula_text.specs.Resolving.{resolved}
use Rattle.lv_formula_text.proofs.FittingLemmas.{resolved_fits}
use Rattle.lv_formula_text.specs.Descent.{phrase_of}
use Rattle.lv_formula_text.proofs.Complete.{read_gives, none_gives}
use Rattle.lv_model_names.specs.Names.{names_over, plant_names}
use Rattle.lv_model_names.proofs.ScopeLemmas.{scope_fits}
use Rattle.lv_meaning.specs.Ranges.{GoalFits}

pub is_phrase : (line : List Lexeme) (phrase : PhraseTree) → IsReadAs line 0 phrase → Some phrase ≡ (if is_too_deep line then None else phrase_of line)
is_phrase line phrase read = sym (ap (λ b. if b then None else phrase_of line) read.shallow ∙ read_gives line 0 phrase read)

pub is_no_phrase : (line : List Lexeme) → IsNone line 0 → None ≡ (if is_too_deep line then None else phrase_of line)
is_no_phrase line none = sym (ap (λ b. if b then None else phrase_of line) none.shallow ∙ none_gives line 0 none)

-- a formula that resolves fits
pub goal_within : (plant : Plant) (ranges : List Range) (phrase : PhraseTree) (f : Tree) → ranges ≡ plant_ranges plant → resolved (names_over plant ranges) phrase ≡ Ok f → GoalFits plant f
goal_within plant ranges phrase f same is =
    let own : resolved (plant_names plant) phrase ≡ Ok f = ap (λ (rs : List Range). resolved (names_over plant rs) phrase) (sym same) ∙ is in
    record { equations = resolved_fits (plant_names plant) (plant_ranges plant) (scope_fits plant) phrase f own }
