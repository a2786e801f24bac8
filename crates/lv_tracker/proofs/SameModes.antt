-- Having the same modes is having equal lists of modes.
use Rattle.std.proofs.Common.{◌≡◌, true, List, [], ◌∷◌, refl, sym, ◌∙◌, ap}
use Rattle.std.specs.Cmp.Lexicographic.{pointwise}
use Rattle.std.proofs.lemmas.Bool.{and_parts, and_from, eqb-true, eq-eqb}
use Rattle.lv_base.specs.declared.ids.ValId.{ValId}
use Rattle.lv_model.specs.declared.state.TrackedState.{TrackedState}
use Rattle.lv_tracker.specs.Distinct.{is_same_mode, has_modes}
use Rattle.lv_tracker.specs.Sets.{modes_equiv}

equal_modes : (xs ys : List ValId) → pointwise is_same_mode xs ys ≡ true → xs ≡ ys
equal_modes [] [] h = refl
equal_modes [] (y ∷ ys) h = absurd (cc h)
equal_modes (x ∷ xs) [] h = absurd (cc h)
equal_modes (x ∷ xs) (y ∷ ys) h =
    let parts = and_parts (is_same_mode x y) (pointwise is_same_mode xs ys) h in
    let number : x.0 ≡ y.0 = eqb-true x.0 y.0 parts.0 in
    let rest : xs ≡ ys = equal_modes xs ys parts.1 in
    λ i. record { 0 = number i } ∷ rest i

own_modes : (xs : List ValId) → pointwise is_same_mode xs xs ≡ true
own_modes [] = refl
own_modes (x ∷ xs) = and_from (is_same_mode x x) (pointwise is_same_mode xs xs) (eq-eqb x.0 x.0 refl) (own_modes xs)

pub same_modes : (s t : TrackedState) → has_modes s.state.modes t ≡ true → t.state.modes ≡ s.state.modes
same_modes s t h = equal_modes t.state.modes s.state.modes h

pub has_own_modes : (s : TrackedState) → has_modes s.state.modes s ≡ true
has_own_modes s = own_modes s.state.modes

pub has_equal_modes : (s t : TrackedState) → t.state.modes ≡ s.state.modes → has_modes s.state.modes t ≡ true
has_equal_modes s t e = ap (λ (modes : List ValId). has_modes modes t) (sym e) ∙ has_own_modes t

-- it is the same read either way
pub turned : (s t : TrackedState) → has_modes s.state.modes t ≡ has_modes t.state.modes s
turned s t = modes_equiv.symm t.state.modes s.state.modes
