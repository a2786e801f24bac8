-- what is asked is asked of the steps
use Rattle.std.proofs.Common.{◌≤◌, List, All, length, subst, sym, ◌∙◌}
use Rattle.lv_compile.specs.declared.windows.TheConstants.{WINDOW}
use Rattle.lv_meaning.specs.declared.facts.Facts.{Facts}
use Rattle.lv_window.specs.Known.{StepFits}
use Rattle.lv_window.specs.Trial.{TellsWindow}
use Rattle.lv_window.proofs.trial.WindowTrial.new.Goals as goal

pub asking_of-requires-clause-some : goal.asking_of-requires-clause-some
asking_of-requires-clause-some c = subst (λ (fs : List Facts). 1 ≤ length fs) (sym c.as_slice-known.ensures.value) c.requires.some

pub asking_of-requires-clause-fits : goal.asking_of-requires-clause-fits
asking_of-requires-clause-fits c = subst (λ (fs : List Facts). All (StepFits c.args.model.now) fs) (sym c.as_slice-known.ensures.value) c.requires.fits

pub invariant_of-result : goal.invariant_of-result
invariant_of-result c = (
  subst (λ (fs : List Facts). length fs ≤ WINDOW) (sym c.from_vec.ensures) c.requires.few,
  subst (λ (fs : List Facts). TellsWindow c.args.model.now fs c.in_ok-asking.asking) (c.as_slice-known.ensures.value ∙ sym c.from_vec.ensures) c.in_ok-asking.ensures,
)
