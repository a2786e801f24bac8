-- a state that isn't found is kept, and one that is found leaves what is kept as it is
use Rattle.std.proofs.Common.{◌≡◌, Bool, true, false, cond, List, [], ◌∷◌, ◌++◌, filter, refl, sym, ◌∙◌, ap}
use Rattle.std.specs.List.{list_any}
use Rattle.lv_model.specs.declared.state.TrackedState.{TrackedState}
use Rattle.lv_tracker.specs.Distinct.{has_modes, first_of_each, with_new}
use Rattle.lv_tracker.specs.Sets.{states_of}
use Rattle.lv_tracker.proofs.KeptLemmas.{is_new, keeps_new, leaves_found, none_found}
use Rattle.lv_tracker.proofs.distinct.first_of_each.Goals as goal

-- with what is left, the kept states are these
abbrev all_of : List TrackedState → List TrackedState → List TrackedState
all_of kept items = kept ++ filter (is_new kept) (first_of_each items)

one_more : (kept : List TrackedState) (s : TrackedState) (rest : List TrackedState) → all_of (with_new kept s) rest ≡ all_of kept (s ∷ rest)
one_more kept s rest = by (list_any (has_modes s.state.modes) kept) refl
  where
    by : (b : Bool) → list_any (has_modes s.state.modes) kept ≡ b → all_of (cond b kept (kept ++ (s ∷ []))) rest ≡ all_of kept (s ∷ rest)
    by true old = leaves_found kept s rest old
    by false new = keeps_new kept s rest new

goes_on : (kept new : List TrackedState) (s : TrackedState) (items rest whole : List TrackedState) → new ≡ with_new kept s → items ≡ s ∷ rest
    → all_of kept items ≡ whole → all_of new rest ≡ whole
goes_on kept new s items rest whole is steps so_far =
    ap (λ ys. all_of ys rest) is ∙ one_more kept s rest ∙ ap (all_of kept) (sym steps) ∙ so_far

started : (kept items whole : List TrackedState) → kept ≡ [] → items ≡ whole → all_of kept items ≡ first_of_each whole
started kept items whole empty same = ap (λ ys. all_of ys items) empty ∙ none_found (first_of_each items) ∙ ap first_of_each same

pub loop-tracked-init : goal.loop-tracked-init
loop-tracked-init c = started _ _ _ (ap states_of c.new-found.ensures.empty) c.into_iter-tracked-iterator.ensures.into_iter_gives.0

pub loop-tracked-preserved : goal.loop-tracked-preserved
loop-tracked-preserved c = goes_on (states_of c.loop-tracked.found.keys) _ c.in-Some.tracked _ _ _ c.in_ok-add.ensures c.in-Some.ensures.steps.0 c.loop-tracked.invariant
