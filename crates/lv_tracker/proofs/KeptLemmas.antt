-- Keeping one more state, or none, as the states are gone through.
use Rattle.std.proofs.Common.{◌≡◌, Bool, true, false, not, ◌&&◌, ◌||◌, cond, List, [], ◌∷◌, ◌++◌, filter, refl, sym, ◌∙◌, ap, append_assoc}
use Rattle.std.specs.List.{list_any}
use Rattle.std.proofs.lemmas.List.Elements.{filter_agree}
use Rattle.std.proofs.lemmas.List.Folds.{list_any-append}
use Rattle.lv_base.specs.declared.ids.ValId.{ValId}
use Rattle.lv_model.specs.declared.state.TrackedState.{TrackedState}
use Rattle.lv_tracker.specs.Distinct.{has_modes, differs, first_of_each}
use Rattle.lv_tracker.proofs.SameModes.{same_modes, turned}

-- none of those that were found has the state's modes
abbrev pub is_new : List TrackedState → TrackedState → Bool
is_new found t = not (list_any (has_modes t.state.modes) found)

filter_both : {X : Type 0} (p q : X → Bool) (xs : List X) → filter p (filter q xs) ≡ filter (λ x. q x && p x) xs
filter_both p q [] = refl
filter_both p q (x ∷ xs) = by (q x) (filter_both p q xs)
  where
    by : (b : Bool) → filter p (filter q xs) ≡ filter (λ y. q y && p y) xs
        → filter p (cond b (x ∷ filter q xs) (filter q xs)) ≡ cond (b && p x) (x ∷ filter (λ y. q y && p y) xs) (filter (λ y. q y && p y) xs)
    by true ih = ap (λ ys. cond (p x) (x ∷ ys) ys) ih
    by false ih = ih

new_of_more : (found : List TrackedState) (s x : TrackedState) → is_new (found ++ (s ∷ [])) x ≡ (differs s x && is_new found x)
new_of_more found s x =
    ap not (list_any-append (has_modes x.state.modes) found (s ∷ [])) ∙ by (list_any (has_modes x.state.modes) found) (has_modes x.state.modes s) (has_modes s.state.modes x) (turned x s)
  where
    by : (a b c : Bool) → b ≡ c → not (a || (b || false)) ≡ (not c && not a)
    by true true c e = ap (λ (t : Bool). not t && false) e
    by true false c e = ap (λ (t : Bool). not t && false) e
    by false true c e = ap (λ (t : Bool). not t && true) e
    by false false c e = ap (λ (t : Bool). not t && true) e

filter_more_found : (found : List TrackedState) (s : TrackedState) (xs : List TrackedState) → filter (is_new (found ++ (s ∷ []))) xs ≡ filter (is_new found) (filter (differs s) xs)
filter_more_found found s xs =
    filter_agree (is_new (found ++ (s ∷ []))) (λ x. differs s x && is_new found x) (new_of_more found s) xs ∙ sym (filter_both (is_new found) (differs s) xs)

-- a state that isn't found is kept
pub keeps_new : (found : List TrackedState) (s : TrackedState) (rest : List TrackedState) → list_any (has_modes s.state.modes) found ≡ false
    → (found ++ (s ∷ [])) ++ filter (is_new (found ++ (s ∷ []))) (first_of_each rest) ≡ found ++ filter (is_new found) (first_of_each (s ∷ rest))
keeps_new found s rest new =
    append_assoc found (s ∷ []) (filter (is_new (found ++ (s ∷ []))) (first_of_each rest))
    ∙ ap (λ ys. found ++ (s ∷ ys)) (filter_more_found found s (first_of_each rest))
    ∙ ap (λ b. found ++ cond (not b) (s ∷ filter (is_new found) (filter (differs s) (first_of_each rest))) (filter (is_new found) (filter (differs s) (first_of_each rest)))) (sym new)

-- one that has a found one's modes is not new
found_by_modes : (found : List TrackedState) (s x : TrackedState) → list_any (has_modes s.state.modes) found ≡ true → is_new found x ≡ (differs s x && is_new found x)
found_by_modes found s x old = by (has_modes s.state.modes x) refl
  where
    by : (b : Bool) → has_modes s.state.modes x ≡ b → is_new found x ≡ (not b && is_new found x)
    by true e = ap (λ (modes : List ValId). not (list_any (has_modes modes) found)) (same_modes s x e) ∙ ap not old
    by false e = refl

-- one whose modes are found is not
pub leaves_found : (found : List TrackedState) (s : TrackedState) (rest : List TrackedState) → list_any (has_modes s.state.modes) found ≡ true
    → found ++ filter (is_new found) (first_of_each rest) ≡ found ++ filter (is_new found) (first_of_each (s ∷ rest))
leaves_found found s rest old =
    ap (λ ys. found ++ ys)
    (filter_agree (is_new found) (λ x. differs s x && is_new found x) (λ x. found_by_modes found s x old) (first_of_each rest)
    ∙ sym (filter_both (is_new found) (differs s) (first_of_each rest))
    ∙ ap (λ b. cond (not b) (s ∷ filter (is_new found) (filter (differs s) (first_of_each rest))) (filter (is_new found) (filter (differs s) (first_of_each rest)))) (sym old))

pub none_found : (xs : List TrackedState) → filter (is_new []) xs ≡ xs
none_found [] = refl
none_found (x ∷ xs) = ap (λ ys. x ∷ ys) (none_found xs)
