-- Statements that are added as they are read.
use Rattle.std.proofs.Common.{◌≡◌, ℕ, List, [], ◌∷◌, true, refl, sym, ap, ◌∙◌, subst}
use Rattle.lv_model.specs.declared.plant.Plant.{Plant}
use Rattle.lv_model.specs.WellFormed.{is_well_formed}
use Rattle.lv_reader.specs.declared.fault.ModelFault.{ModelFault}
use Rattle.lv_reader.specs.declared.statement.NumberedStatement.{NumberedStatement}
use Rattle.lv_reader.specs.declared.statement.ModelText.{ModelText}
use Rattle.lv_reader.specs.Texts.{ReadsAs}
use Rattle.lv_reader.specs.Taking.{TakesAll, none_taken, one_taken, TakesText}
use Rattle.lv_model_entries.specs.declared.draft.Draft.{Draft}
use Rattle.lv_checker.specs.declared.checking.Checking.{Checking}
use Rattle.lv_checker.specs.Drafts.{empty}
use Rattle.lv_checker.specs.Checking.{Checked, fine, faulty, after, one_added, all_added, finished, checked, Finds}
use Rattle.lv_checker.specs.Standing.{standing, ended, AddsOne, HasRead}
use Rattle.lv_checker.specs.Verdicts.{IsVerdict, accepted, Tells}
use Rattle.lv_checker.proofs.FitsDrafts.{text_well}
use Rattle.lv_checker.proofs.ModelLemmas.{text_accepted, checking_tells}

nothing_more : (c : Checked Draft) → c ≡ after c (λ d. all_added d [])
nothing_more (fine d) = refl
nothing_more (faulty code line) = refl

one_first : (c : Checked Draft) (x : NumberedStatement) (xs : List NumberedStatement) → after (after c (λ d. one_added d x)) (λ d. all_added d xs) ≡ after c (λ d. all_added d (x ∷ xs))
one_first (fine d) x xs = refl
one_first (faulty code line) x xs = refl

-- where each statement is added, all are
pub all_are_added : {S : Type 0} (takes : S → NumberedStatement → S → Type 0) (checking : S → Checking) → ((s t : S) (x : NumberedStatement) → takes s x t → AddsOne x (checking s) (checking t))
    → (s t : S) (xs : List NumberedStatement) → TakesAll takes s xs t → standing (checking t) ≡ after (standing (checking s)) (λ d. all_added d xs)
all_are_added takes checking step s t [] (none_taken e) = ap (λ u. standing (checking u)) e ∙ nothing_more (standing (checking s))
all_are_added takes checking step s t (x ∷ xs) (one_taken {t = u} first rest) =
    all_are_added takes checking step u t xs rest
    ∙ ap (λ (c : Checked Draft). after c (λ d. all_added d xs)) (step s u x first)
    ∙ one_first (standing (checking s)) x xs

-- what a text that was read comes to is well formed
pub ends_well : (lines : ℕ) (c : Checking) (plant : Plant) → HasRead lines c → ended lines c ≡ fine plant → is_well_formed plant ≡ true
ends_well lines c plant h is =
    text_well h.read.bytes h.text plant h.read.reads (standing c) (sym h.stands) (subst (λ (n : ℕ). ended n c ≡ fine plant) (sym h.lines_are) is)

-- what is found where a text ends is what is found of the text
ended_is_checked : (text : ModelText) (c : Checking) → standing c ≡ all_added empty text.statements → ended text.lines c ≡ checked text
unfolding checked
ended_is_checked text c stands = ap (λ (e : Checked Draft). after e (finished text.lines)) stands

pub accepted_at_end : (bytes : List ℕ) (text : ModelText) (reads : ReadsAs bytes text) (c : Checking) → standing c ≡ all_added empty text.statements
    → (plant : Plant) → ended text.lines c ≡ fine plant → IsVerdict bytes (accepted plant)
accepted_at_end bytes text reads c stands plant e = text_accepted bytes text plant reads (sym (ended_is_checked text c stands) ∙ e)

pub refused_at_end : (bytes : List ℕ) (text : ModelText) (reads : ReadsAs bytes text) (c : Checking) → standing c ≡ all_added empty text.statements
    → (fault : ModelFault) → Finds fault (ended text.lines c) → Tells fault bytes
refused_at_end bytes text reads c stands fault told =
    checking_tells bytes text reads fault (subst (λ (e : Checked Plant). Finds fault e) (ended_is_checked text c stands) told)

module _ {S : Type 0} (takes : S → NumberedStatement → S → Type 0) (checking : S → Checking) (step : (s t : S) (x : NumberedStatement) → takes s x t → AddsOne x (checking s) (checking t))
    (bytes : List ℕ) (start end : S) (lines : ℕ) (t : TakesText takes bytes start end lines) (nothing : standing (checking start) ≡ fine empty) where
  -- all statements of the text are added
  pub stands_at_end : standing (checking end) ≡ all_added empty t.statements
  stands_at_end = all_are_added takes checking step start end t.statements t.taken ∙ ap (λ (c : Checked Draft). after c (λ d. all_added d t.statements)) nothing

  pub has_read : HasRead lines (checking end)
  has_read = record {
    text = record { statements = t.statements; lines = lines };
    read = record { bytes = bytes; reads = t.reads };
    lines_are = refl;
    stands = stands_at_end;
  }
