-- The first state of each modes, in the words of the states that were listed.
use Rattle.std.proofs.Common.{◌≡◌, zero, suc, Bool, true, false, not, ◌&&◌, ◌||◌, cond, List, [], ◌∷◌, filter, Contains, ◌⊎◌, inl, inr, ⊎_elim, Some, refl, sym, ◌∙◌, ap, arith}
use Rattle.std.specs.List.{list_all, list_any, find}
use Rattle.std.proofs.lemmas.Bool.{and_parts, and_from, not-true, or_left, or_right, or_cases}
use Rattle.lv_base.specs.declared.ids.ValId.{ValId}
use Rattle.lv_model.specs.declared.state.TrackedState.{TrackedState}
use Rattle.lv_tracker.specs.Distinct.{has_modes, differs, are_distinct, first_of_each}
use Rattle.lv_tracker.specs.Laws.{appears_before, in_order_of, AreFirsts}
use Rattle.lv_tracker.proofs.SameModes.{same_modes, has_own_modes, turned}

abbrev pub Among : {X : Type 0} → X → List X → Type 0
Among x [] = ⊥
Among x (y ∷ ys) = (x ≡ y) ⊎ Among x ys

pub among : {X : Type 0} (xs : List X) (x : X) → Contains xs x → Among x xs
among [] x (k, lt, e) = absurd (omega arith)
among (y ∷ ys) x (zero, lt, e) = inl (sym e)
among (y ∷ ys) x (suc k, lt, e) = inr (among ys x (k, omega arith, e))

-- what stands in a filtered list passes, and stands in the list
among_filter : {X : Type 0} (p : X → Bool) (xs : List X) (x : X) → Among x (filter p xs) → (p x ≡ true) × Among x xs
among_filter p [] x h = absurd h
among_filter p (y ∷ ys) x h = by (p y) refl (λ a. among_filter p ys x a) h
  where
    by : (b : Bool) → p y ≡ b → (Among x (filter p ys) → (p x ≡ true) × Among x ys) → Among x (cond b (y ∷ filter p ys) (filter p ys)) → (p x ≡ true) × Among x (y ∷ ys)
    by true e ih (inl is) = (ap p is ∙ e, inl is)
    by true e ih (inr a) = let rest = ih a in (rest.0, inr rest.1)
    by false e ih a = let rest = ih a in (rest.0, inr rest.1)

-- what holds of each pair holds of each pair of those that pass
abbrev pub each_pair : {X : Type 0} → (X → X → Bool) → List X → Bool
each_pair r [] = true
each_pair r (x ∷ xs) = list_all (r x) xs && each_pair r xs

all_filter : {X : Type 0} (p f g : X → Bool) → ((x : X) → p x ≡ true → f x ≡ true → g x ≡ true) → (xs : List X) → list_all f xs ≡ true → list_all g (filter p xs) ≡ true
all_filter p f g so [] all = refl
all_filter p f g so (x ∷ xs) all =
    let parts = and_parts (f x) (list_all f xs) all in by (p x) refl parts.0 (all_filter p f g so xs parts.1)
  where
    by : (b : Bool) → p x ≡ b → f x ≡ true → list_all g (filter p xs) ≡ true → list_all g (cond b (x ∷ filter p xs) (filter p xs)) ≡ true
    by true e here rest = and_from (g x) (list_all g (filter p xs)) (so x e here) rest
    by false e here rest = rest

pairs_filter : {X : Type 0} (p : X → Bool) (r q : X → X → Bool) → ((x y : X) → p x ≡ true → p y ≡ true → r x y ≡ true → q x y ≡ true) → (xs : List X)
    → each_pair r xs ≡ true → each_pair q (filter p xs) ≡ true
pairs_filter p r q so [] all = refl
pairs_filter p r q so (x ∷ xs) all =
    let parts = and_parts (list_all (r x) xs) (each_pair r xs) all in by (p x) refl parts.0 (pairs_filter p r q so xs parts.1)
  where
    by : (b : Bool) → p x ≡ b → list_all (r x) xs ≡ true → each_pair q (filter p xs) ≡ true → each_pair q (cond b (x ∷ filter p xs) (filter p xs)) ≡ true
    by true e here rest = and_from (list_all (q x) (filter p xs)) (each_pair q (filter p xs)) (all_filter p (r x) (q x) (λ y py h. so x y e py h) xs here) rest
    by false e here rest = rest

all_pass : {X : Type 0} (p f : X → Bool) → ((x : X) → p x ≡ true → f x ≡ true) → (xs : List X) → list_all f (filter p xs) ≡ true
all_pass p f so [] = refl
all_pass p f so (x ∷ xs) = by (p x) refl (all_pass p f so xs)
  where
    by : (b : Bool) → p x ≡ b → list_all f (filter p xs) ≡ true → list_all f (cond b (x ∷ filter p xs) (filter p xs)) ≡ true
    by true e rest = and_from (f x) (list_all f (filter p xs)) (so x e) rest
    by false e rest = rest

distinct_by_pairs : (ss : List TrackedState) → are_distinct ss ≡ each_pair differs ss
distinct_by_pairs [] = refl
distinct_by_pairs (s ∷ ss) = ap (λ b. list_all (differs s) ss && b) (distinct_by_pairs ss)

pub order_by_pairs : (listed ss : List TrackedState) → in_order_of listed ss ≡ each_pair (appears_before listed) ss
order_by_pairs listed [] = refl
order_by_pairs listed (s ∷ ss) = ap (λ b. list_all (appears_before listed s) ss && b) (order_by_pairs listed ss)

first_differ : (ss : List TrackedState) → each_pair differs (first_of_each ss) ≡ true
first_differ [] = refl
first_differ (s ∷ ss) =
    and_from (list_all (differs s) (filter (differs s) (first_of_each ss))) (each_pair differs (filter (differs s) (first_of_each ss)))
    (all_pass (differs s) (differs s) (λ x h. h) (first_of_each ss))
    (pairs_filter (differs s) differs differs (λ x y px py h. h) (first_of_each ss) (first_differ ss))

pub first_are_distinct : (ss : List TrackedState) → are_distinct (first_of_each ss) ≡ true
first_are_distinct ss = distinct_by_pairs (first_of_each ss) ∙ first_differ ss

-- a state is listed before each that differs from it
head_before : (s : TrackedState) (ss : List TrackedState) (x : TrackedState) → differs s x ≡ true → appears_before (s ∷ ss) s x ≡ true
head_before s ss x h =
    and_from (not (has_modes x.state.modes s)) (has_modes s.state.modes s || appears_before ss s x) (ap not (turned x s) ∙ h)
    (or_left (has_modes s.state.modes s) (appears_before ss s x) (has_own_modes s))

later_before : (s : TrackedState) (ss : List TrackedState) (x y : TrackedState) → differs s y ≡ true → appears_before ss x y ≡ true → appears_before (s ∷ ss) x y ≡ true
later_before s ss x y h before =
    and_from (not (has_modes y.state.modes s)) (has_modes x.state.modes s || appears_before ss x y) (ap not (turned y s) ∙ h)
    (or_right (has_modes x.state.modes s) (appears_before ss x y) before)

first_appear : (ss : List TrackedState) → each_pair (appears_before ss) (first_of_each ss) ≡ true
first_appear [] = refl
first_appear (s ∷ ss) =
    and_from (list_all (appears_before (s ∷ ss) s) (filter (differs s) (first_of_each ss))) (each_pair (appears_before (s ∷ ss)) (filter (differs s) (first_of_each ss)))
    (all_pass (differs s) (appears_before (s ∷ ss) s) (head_before s ss) (first_of_each ss))
    (pairs_filter (differs s) (appears_before ss) (appears_before (s ∷ ss)) (λ x y px py h. later_before s ss x y py h) (first_of_each ss) (first_appear ss))

pub first_in_order : (ss : List TrackedState) → in_order_of ss (first_of_each ss) ≡ true
first_in_order ss = order_by_pairs ss (first_of_each ss) ∙ first_appear ss

-- what is kept is the first that is listed with its modes
found_first : (ss : List TrackedState) (x : TrackedState) → Among x (first_of_each ss) → find (has_modes x.state.modes) ss ≡ Some x
found_first [] x h = absurd h
found_first (s ∷ ss) x (inl e) =
    ap (λ b. cond b (Some s) (find (has_modes x.state.modes) ss)) (ap (λ (t : TrackedState). has_modes t.state.modes s) e ∙ has_own_modes s) ∙ ap Some (sym e)
found_first (s ∷ ss) x (inr h) =
    let parts = among_filter (differs s) (first_of_each ss) x h in
    ap (λ b. cond b (Some s) (find (has_modes x.state.modes) ss)) (turned x s ∙ not-true (has_modes s.state.modes x) parts.0) ∙ found_first ss x parts.1

-- one with modes that the state hasn't is left by the filter
some_left : (s x : TrackedState) (ys : List TrackedState) → has_modes s.state.modes x ≡ false → list_any (has_modes x.state.modes) ys ≡ true
    → list_any (has_modes x.state.modes) (filter (differs s) ys) ≡ true
some_left s x [] other some = some
some_left s x (y ∷ ys) other some =
    ⊎_elim (λ here. by_here (has_modes s.state.modes y) refl here)
    (λ rest. by_rest (has_modes s.state.modes y) (some_left s x ys other rest))
    (or_cases (has_modes x.state.modes y) (list_any (has_modes x.state.modes) ys) some)
  where
    by_here : (b : Bool) → has_modes s.state.modes y ≡ b → has_modes x.state.modes y ≡ true
        → list_any (has_modes x.state.modes) (cond (not b) (y ∷ filter (differs s) ys) (filter (differs s) ys)) ≡ true
    by_here true e here = absurd (cc (sym other ∙ turned s x ∙ ap (λ (modes : List ValId). has_modes modes s) (sym (same_modes x y here)) ∙ turned y s ∙ e))
    by_here false e here = or_left (has_modes x.state.modes y) (list_any (has_modes x.state.modes) (filter (differs s) ys)) here

    by_rest : (b : Bool) → list_any (has_modes x.state.modes) (filter (differs s) ys) ≡ true
        → list_any (has_modes x.state.modes) (cond (not b) (y ∷ filter (differs s) ys) (filter (differs s) ys)) ≡ true
    by_rest true rest = rest
    by_rest false rest = or_right (has_modes x.state.modes y) (list_any (has_modes x.state.modes) (filter (differs s) ys)) rest

covers : (ss : List TrackedState) (x : TrackedState) → Among x ss → list_any (has_modes x.state.modes) (first_of_each ss) ≡ true
covers [] x h = absurd h
covers (s ∷ ss) x h = by (has_modes s.state.modes x) refl (λ a. covers ss x a) h
  where
    by : (b : Bool) → has_modes s.state.modes x ≡ b → (Among x ss → list_any (has_modes x.state.modes) (first_of_each ss) ≡ true) → Among x (s ∷ ss)
        → (has_modes x.state.modes s || list_any (has_modes x.state.modes) (filter (differs s) (first_of_each ss))) ≡ true
    by true e ih h = or_left (has_modes x.state.modes s) (list_any (has_modes x.state.modes) (filter (differs s) (first_of_each ss))) (turned x s ∙ e)
    by false e ih (inl is) = absurd (cc (sym e ∙ ap (has_modes s.state.modes) is ∙ has_own_modes s))
    by false e ih (inr a) =
        or_right (has_modes x.state.modes s) (list_any (has_modes x.state.modes) (filter (differs s) (first_of_each ss)))
        (some_left s x (first_of_each ss) e (ih a))

pub first_of_each_law : (listed : List TrackedState) → AreFirsts listed (first_of_each listed)
first_of_each_law listed =
    record {
      covered = λ s h. covers listed s (among listed s h);
      firsts = λ s h. found_first listed s (among (first_of_each listed) s h);
      distinct = first_are_distinct listed;
      in_order = first_in_order listed;
    }
