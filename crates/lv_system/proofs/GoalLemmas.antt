-- The clauses of a goal say what the goal says of what is after the step.
use Rattle.std.proofs.Common.{◌≡◌, ℕ, Bool, true, List, refl, ap, ◌∙◌, arith}
use Rattle.std.specs.List.{list_all}
use Rattle.lv_base.specs.declared.ids.ValId.{ValId}
use Rattle.lv_clauses.specs.Literals.{same_truth, is_clause}
use Rattle.lv_base.specs.Tree.{Tree, truth_of}
use Rattle.lv_base.specs.Fits.{fits}
use Rattle.lv_model.specs.declared.plant.Plant.{Plant}
use Rattle.lv_model.specs.Ranges.{plant_ranges}
use Rattle.lv_compile.specs.Booleans.{Booleans, booleans_next, bool_count}
use Rattle.lv_compile.specs.FormulaClauses.{formula_clauses, speaks_of}
use Rattle.lv_compile.specs.Cleaning.{cleaned}
use Rattle.lv_compile.specs.Laws.{are_true, Encode}
use Rattle.lv_compile.proofs.RangeLemmas.{have_system}
use Rattle.lv_compile.proofs.SpeakingLemmas.{speaks}
use Rattle.lv_compile.proofs.InRangeLemmas.{formula_in}
use Rattle.lv_compile.proofs.ApartLemmas.{cleaned_are}
use Rattle.lv_compile.proofs.CleaningLemmas.{cleaned_true}
use Rattle.lv_compile.proofs.FormulaLemmas.{exact}
use Rattle.lv_system.specs.Goals.{GoalClausesAreExact}

module _ (plant : Plant) (goal : Tree) (fit : fits (plant_ranges plant) goal ≡ true) where
  next_speaks : speaks_of (booleans_next plant) 0 goal ≡ true
  next_speaks = speaks (plant_ranges plant) (booleans_next plant) 0 (have_system plant (booleans_next plant) refl) goal fit

  next_clauses : (sign : Bool) → list_all (is_clause (bool_count plant)) (cleaned (formula_clauses (booleans_next plant) 0 sign goal)) ≡ true
  next_clauses sign =
      cleaned_are (bool_count plant) (formula_clauses (booleans_next plant) 0 sign goal)
      (formula_in (bool_count plant) (booleans_next plant) (omega arith) 0 goal next_speaks sign)

  next_exact : (truth : ℕ → Bool) (b : List ValId) → Encode truth (booleans_next plant) b → (sign : Bool)
      → are_true truth (cleaned (formula_clauses (booleans_next plant) 0 sign goal)) ≡ same_truth (truth_of b 0 goal) sign
  next_exact truth b code sign =
      cleaned_true truth (formula_clauses (booleans_next plant) 0 sign goal)
      ∙ exact (plant_ranges plant) (booleans_next plant) 0 (have_system plant (booleans_next plant) refl) truth b code goal fit sign

pub goals_exact : GoalClausesAreExact
goals_exact =
    record {
      speaks = λ plant s is goal fit. ap (λ (b : Booleans). speaks_of b 0 goal) is.after ∙ next_speaks plant goal fit;
      clauses = λ plant s is goal fit sign.
          ap (λ (b : Booleans). list_all (is_clause (bool_count plant)) (cleaned (formula_clauses b 0 sign goal))) is.after ∙ next_clauses plant goal fit sign;
      exact = λ plant s is truth b code goal fit sign.
          ap (λ (c : Booleans). are_true truth (cleaned (formula_clauses c 0 sign goal))) is.after ∙ next_exact plant goal fit truth b code sign;
    }
