-- What a refutation says from the state that is looked at.
use Rattle.std.proofs.Common.{◌≡◌, ◌<◌, ◌≤◌, ℕ, zero, suc, arith, false, List, [], ◌∷◌, length, get_or, Option, Some, None, slice_get, refl, sym, ap, ◌∙◌}
use Rattle.std.specs.Option.{option_map_or}
use Rattle.lv_base.specs.declared.search.Pair.{Pair}
use Rattle.lv_clauses.specs.Marks.{Marks}
use Rattle.lv_model.specs.declared.state.TrackedState.{TrackedState}
use Rattle.lv_meaning.specs.Recovers.{meets_goals, reaches}
use Rattle.lv_asking.specs.Reducing.{RefutesPairs}
use Rattle.lv_reconf.specs.Assuming.{marked_controls}
use Rattle.lv_reconf.specs.Refuting.{RefutesSteps, needs}
use Rattle.lv_reconf.specs.Trying.{ReachingValue, reaches_at}

-- what stands at a place of a list, and that nothing does
pub found_there : {X : Type 0} (xs : List X) (k : ℕ) (x : X) → k < length xs → x ≡ get_or xs k x → slice_get xs k ≡ Some x
found_there [] k x below is = absurd (omega (arith, below))
found_there (y ∷ ys) zero x below is = ap Some (sym is)
found_there (y ∷ ys) (suc k) x below is = found_there ys k x (omega (arith, below)) is

pub none_there : {X : Type 0} (xs : List X) (k : ℕ) → length xs ≤ k → slice_get xs k ≡ None
none_there [] k past = refl
none_there (y ∷ ys) zero past = absurd (omega (arith, past))
none_there (y ∷ ys) (suc k) past = none_there ys k (omega (arith, past))

-- what a refutation says from the state that is looked at
pub refuted_there : (r : ReachingValue) (s : TrackedState) → slice_get r.aim.tracked r.at ≡ Some s → (pairs : List Pair) (core : Option Marks)
    → RefutesSteps r.plant r.aim.present (meets_goals r.aim.goals) s.state pairs core → RefutesPairs (reaches_at r) (needs r.plant) pairs core
refuted_there r s there pairs None told = ap (λ (o : Option TrackedState). option_map_or (λ (t : TrackedState). reaches r.plant r.aim t.state pairs) o false) there ∙ told
refuted_there r s there pairs (Some marks) told =
    ap (λ (o : Option TrackedState). option_map_or (λ (t : TrackedState). reaches r.plant r.aim t.state (marked_controls r.plant marks pairs)) o false) there ∙ told

pub refuted_nowhere : (r : ReachingValue) → slice_get r.aim.tracked r.at ≡ None → (pairs : List Pair) (marks : Marks) → RefutesPairs (reaches_at r) (needs r.plant) pairs (Some marks)
refuted_nowhere r there pairs marks =
    ap (λ (o : Option TrackedState). option_map_or (λ (t : TrackedState). reaches r.plant r.aim t.state (marked_controls r.plant marks pairs)) o false) there
