-- Members of a box are the members of its two parts, put together; what they cost, how they are ordered and what they contain is
-- told part by part.
use Rattle.std.proofs.Common.{◌≡◌, ℕ, zero, suc, ◌+◌, ◌<◌, Bool, true, false, not, ◌&&◌, ◌||◌, nat_lt, nat_eq, List, [], ◌∷◌, length, map, ◌⊎◌, inl, inr, refl, sym, ◌∙◌, ap, arith}
use Rattle.std.specs.Prelude.{slice_index}
use Rattle.std.proofs.lemmas.Bool.{and_from, and_parts, or_left, or_right, lt-ltb, ltb-true, eq-eqb, false_from_ne_true}
use Rattle.lv_base.specs.declared.ids.Cost.{Cost}
use Rattle.lv_base.specs.declared.search.Pair.{Pair}
use Rattle.lv_base.specs.Choices.{picks, contains_all}
use Rattle.lv_base.specs.Order.{comes_before}
use Rattle.lv_base.proofs.OrderLemmas.{irreflexive}
use Rattle.lv_boxes.specs.Masks.{has_choice}
use Rattle.lv_boxes.specs.Members.{is_left, are_left, choices_cost}
use Rattle.lv_search_bans.proofs.NarrowLemmas.{lt_suc}
use Rattle.lv_search_parts.specs.Slots.{only, put_in, is_marked, place_of, pair_in, is_inside, is_outside}

clash : (b : Bool) → b ≡ true → b ≡ false → ⊥
clash b p q = cc

-- the part of a member is a member of the part
pub left_only : (marks : List Bool) (slots : List (List Cost)) (masks xs : List ℕ) → length marks ≡ length slots → are_left slots masks xs ≡ true → are_left (only marks slots) (only marks masks) (only marks xs) ≡ true
left_only [] slots masks xs same h = refl
left_only (mark ∷ marks) [] masks xs same h = absurd (omega (arith, same))
left_only (mark ∷ marks) (row ∷ slots) [] [] same h = absurd (cc h)
left_only (mark ∷ marks) (row ∷ slots) [] (x ∷ xs) same h = absurd (cc h)
left_only (mark ∷ marks) (row ∷ slots) (mask ∷ masks) [] same h = absurd (cc h)
left_only (true ∷ marks) (row ∷ slots) (mask ∷ masks) (x ∷ xs) same h =
    let parts = and_parts (is_left row mask x) (are_left slots masks xs) h in
    and_from (is_left row mask x) (are_left (only marks slots) (only marks masks) (only marks xs)) parts.0 (left_only marks slots masks xs (omega (arith, same)) parts.1)
left_only (false ∷ marks) (row ∷ slots) (mask ∷ masks) (x ∷ xs) same h =
    left_only marks slots masks xs (omega (arith, same)) (and_parts (is_left row mask x) (are_left slots masks xs) h).1

-- of each slot that isn't marked the box has the choice
abbrev pub kept_outside : List Bool → List ℕ → List ℕ → Bool
kept_outside [] masks xs = true
kept_outside (mark ∷ marks) [] xs = true
kept_outside (mark ∷ marks) (mask ∷ masks) [] = true
kept_outside (mark ∷ marks) (mask ∷ masks) (x ∷ xs) = (mark || has_choice mask x) && kept_outside marks masks xs

pub kept_if_left : (marks : List Bool) (slots : List (List Cost)) (masks xs : List ℕ) → are_left slots masks xs ≡ true → kept_outside marks masks xs ≡ true
kept_if_left [] slots masks xs h = refl
kept_if_left (mark ∷ marks) slots [] xs h = refl
kept_if_left (mark ∷ marks) slots (mask ∷ masks) [] h = refl
kept_if_left (mark ∷ marks) [] (mask ∷ masks) (x ∷ xs) h = absurd (cc h)
kept_if_left (mark ∷ marks) (row ∷ slots) (mask ∷ masks) (x ∷ xs) h =
    let parts = and_parts (is_left row mask x) (are_left slots masks xs) h in
    let has = and_parts (nat_lt x (length row)) (has_choice mask x) parts.0 in
    and_from (mark || has_choice mask x) (kept_outside marks masks xs) (or_right mark (has_choice mask x) has.1) (kept_if_left marks slots masks xs parts.1)

-- a member of the part, put into choices that the box has at the other slots, is a member
pub left_put : (marks : List Bool) (slots : List (List Cost)) (masks wide ys xs : List ℕ) → length marks ≡ length slots → length masks ≡ length slots → length xs ≡ length slots → are_left slots wide xs ≡ true
    → kept_outside marks masks xs ≡ true → are_left (only marks slots) (only marks masks) ys ≡ true → are_left slots masks (put_in marks ys xs) ≡ true
left_put [] [] [] wide ys [] same long each h kept k = refl
left_put [] [] [] wide ys (x ∷ xs) same long each h kept k = absurd (omega (arith, each))
left_put [] [] (mask ∷ masks) wide ys xs same long each h kept k = absurd (omega (arith, long))
left_put [] (row ∷ slots) masks wide ys xs same long each h kept k = absurd (omega (arith, same))
left_put (mark ∷ marks) [] masks wide ys xs same long each h kept k = absurd (omega (arith, same))
left_put (mark ∷ marks) (row ∷ slots) [] wide ys xs same long each h kept k = absurd (omega (arith, long))
left_put (mark ∷ marks) (row ∷ slots) (mask ∷ masks) wide ys [] same long each h kept k = absurd (omega (arith, each))
left_put (mark ∷ marks) (row ∷ slots) (mask ∷ masks) [] ys (x ∷ xs) same long each h kept k = absurd (cc h)
left_put (true ∷ marks) (row ∷ slots) (mask ∷ masks) (w ∷ wide) [] (x ∷ xs) same long each h kept k = absurd (cc k)
left_put (true ∷ marks) (row ∷ slots) (mask ∷ masks) (w ∷ wide) (y ∷ ys) (x ∷ xs) same long each h kept k =
    let outer = and_parts (is_left row w x) (are_left slots wide xs) h in
    let inner = and_parts (is_left row mask y) (are_left (only marks slots) (only marks masks) ys) k in
    and_from (is_left row mask y) (are_left slots masks (put_in marks ys xs)) inner.0
    (left_put marks slots masks wide ys xs (omega (arith, same)) (omega (arith, long)) (omega (arith, each)) outer.1 kept inner.1)
left_put (false ∷ marks) (row ∷ slots) (mask ∷ masks) (w ∷ wide) ys (x ∷ xs) same long each h kept k =
    let outer = and_parts (is_left row w x) (are_left slots wide xs) h in
    let within = and_parts (nat_lt x (length row)) (has_choice w x) outer.0 in
    let keeps = and_parts (has_choice mask x) (kept_outside marks masks xs) kept in
    and_from (is_left row mask x) (are_left slots masks (put_in marks ys xs)) (and_from (nat_lt x (length row)) (has_choice mask x) within.0 keeps.0)
    (left_put marks slots masks wide ys xs (omega (arith, same)) (omega (arith, long)) (omega (arith, each)) outer.1 keeps.1 k)

-- what it costs
pub cost_put : (marks : List Bool) (slots : List (List Cost)) (masks ys xs : List ℕ) → length marks ≡ length slots → are_left slots masks xs ≡ true → are_left (only marks slots) (only marks masks) ys ≡ true
    → choices_cost slots (put_in marks ys xs) + choices_cost (only marks slots) (only marks xs) ≡ choices_cost slots xs + choices_cost (only marks slots) ys
cost_put [] slots masks ys xs same h k = refl
cost_put (mark ∷ marks) [] masks ys xs same h k = absurd (omega (arith, same))
cost_put (mark ∷ marks) (row ∷ slots) [] ys [] same h k = absurd (cc h)
cost_put (mark ∷ marks) (row ∷ slots) [] ys (x ∷ xs) same h k = absurd (cc h)
cost_put (mark ∷ marks) (row ∷ slots) (mask ∷ masks) ys [] same h k = absurd (cc h)
cost_put (true ∷ marks) (row ∷ slots) (mask ∷ masks) [] (x ∷ xs) same h k = absurd (cc k)
cost_put (true ∷ marks) (row ∷ slots) (mask ∷ masks) (y ∷ ys) (x ∷ xs) same h k =
    let outer = and_parts (is_left row mask x) (are_left slots masks xs) h in
    let inner = and_parts (is_left row mask y) (are_left (only marks slots) (only marks masks) ys) k in
    let rest = cost_put marks slots masks ys xs (omega (arith, same)) outer.1 inner.1 in
    omega (arith, rest)
cost_put (false ∷ marks) (row ∷ slots) (mask ∷ masks) ys (x ∷ xs) same h k =
    let outer = and_parts (is_left row mask x) (are_left slots masks xs) h in
    let rest = cost_put marks slots masks ys xs (omega (arith, same)) outer.1 k in
    omega (arith, rest)

-- which choices it has, slot by slot
abbrev picks_at : List ℕ → ℕ → ℕ → Bool
picks_at [] s c = false
picks_at (x ∷ xs) zero c = nat_eq x c
picks_at (x ∷ xs) (suc s) c = picks_at xs s c

picks_is : (xs : List ℕ) (s c : ℕ) → (nat_lt s (length xs) && nat_eq (slice_index xs s) c) ≡ picks_at xs s c
picks_is [] s c = ap (λ b. b && nat_eq (slice_index [] s) c) (false_from_ne_true (nat_lt s 0) (λ h. let below : s < 0 = ltb-true s 0 h in absurd (omega (arith, below))))
picks_is (x ∷ xs) zero c = ap (λ b. b && nat_eq x c) (lt-ltb 0 (suc (length xs)) (omega arith))
picks_is (x ∷ xs) (suc s) c = ap (λ b. b && nat_eq (slice_index xs s) c) (lt_suc s (length xs)) ∙ picks_is xs s c

at_inside : (marks : List Bool) (ys xs : List ℕ) (s c : ℕ) → length marks ≡ length xs → length ys ≡ length (only marks xs) → is_marked marks s ≡ true → picks_at (put_in marks ys xs) s c ≡ picks_at ys (place_of marks s) c
at_inside [] ys xs s c same long marked = absurd (cc marked)
at_inside (mark ∷ marks) ys [] s c same long marked = absurd (omega (arith, same))
at_inside (true ∷ marks) [] (x ∷ xs) s c same long marked = absurd (omega (arith, long))
at_inside (true ∷ marks) (y ∷ ys) (x ∷ xs) zero c same long marked = refl
at_inside (true ∷ marks) (y ∷ ys) (x ∷ xs) (suc s) c same long marked =
    let next_place : 1 + place_of marks s ≡ suc (place_of marks s) = omega arith in
    at_inside marks ys xs s c (omega (arith, same)) (omega (arith, long)) marked ∙ ap (λ n. picks_at (y ∷ ys) n c) (sym next_place)
at_inside (false ∷ marks) ys (x ∷ xs) zero c same long marked = absurd (cc marked)
at_inside (false ∷ marks) ys (x ∷ xs) (suc s) c same long marked =
    let same_place : 0 + place_of marks s ≡ place_of marks s = omega arith in
    at_inside marks ys xs s c (omega (arith, same)) long marked ∙ ap (λ n. picks_at ys n c) (sym same_place)

at_outside : (marks : List Bool) (ys xs : List ℕ) (s c : ℕ) → length marks ≡ length xs → length ys ≡ length (only marks xs) → is_marked marks s ≡ false → picks_at (put_in marks ys xs) s c ≡ picks_at xs s c
at_outside [] ys xs s c same long out = refl
at_outside (mark ∷ marks) ys [] s c same long out = absurd (omega (arith, same))
at_outside (true ∷ marks) [] (x ∷ xs) s c same long out = absurd (omega (arith, long))
at_outside (true ∷ marks) (y ∷ ys) (x ∷ xs) zero c same long out = absurd (cc out)
at_outside (true ∷ marks) (y ∷ ys) (x ∷ xs) (suc s) c same long out = at_outside marks ys xs s c (omega (arith, same)) (omega (arith, long)) out
at_outside (false ∷ marks) ys (x ∷ xs) zero c same long out = refl
at_outside (false ∷ marks) ys (x ∷ xs) (suc s) c same long out = at_outside marks ys xs s c (omega (arith, same)) long out

pub picks_inside : (marks : List Bool) (ys xs : List ℕ) (p : Pair) → length marks ≡ length xs → length ys ≡ length (only marks xs) → is_marked marks p.slot ≡ true → picks (put_in marks ys xs) p ≡ picks ys (pair_in marks p)
picks_inside marks ys xs p same long marked =
    picks_is (put_in marks ys xs) p.slot p.choice ∙ at_inside marks ys xs p.slot p.choice same long marked ∙ sym (picks_is ys (place_of marks p.slot) p.choice)

pub picks_outside : (marks : List Bool) (ys xs : List ℕ) (p : Pair) → length marks ≡ length xs → length ys ≡ length (only marks xs) → is_marked marks p.slot ≡ false → picks (put_in marks ys xs) p ≡ picks xs p
picks_outside marks ys xs p same long out =
    picks_is (put_in marks ys xs) p.slot p.choice ∙ at_outside marks ys xs p.slot p.choice same long out ∙ sym (picks_is xs p.slot p.choice)

-- which conflicts it contains
pub contains_inside : (marks : List Bool) (ys xs : List ℕ) (pairs : List Pair) → length marks ≡ length xs → length ys ≡ length (only marks xs) → is_inside marks pairs ≡ true
    → contains_all (put_in marks ys xs) pairs ≡ contains_all ys (map (pair_in marks) pairs)
contains_inside marks ys xs [] same long inside = refl
contains_inside marks ys xs (p ∷ ps) same long inside =
    let parts = and_parts (is_marked marks p.slot) (is_inside marks ps) inside in
    (λ i. picks_inside marks ys xs p same long parts.0 i && contains_inside marks ys xs ps same long parts.1 i)

pub contains_outside : (marks : List Bool) (ys xs : List ℕ) (pairs : List Pair) → length marks ≡ length xs → length ys ≡ length (only marks xs) → is_outside marks pairs ≡ true
    → contains_all (put_in marks ys xs) pairs ≡ contains_all xs pairs
contains_outside marks ys xs [] same long outside = refl
contains_outside marks ys xs (p ∷ ps) same long outside =
    let parts = and_parts (not (is_marked marks p.slot)) (is_outside marks ps) outside in
    (λ i. picks_outside marks ys xs p same long (unmarked (is_marked marks p.slot) parts.0) i && contains_outside marks ys xs ps same long parts.1 i)
  where
    unmarked : (b : Bool) → not b ≡ true → b ≡ false
    unmarked true h = absurd (cc h)
    unmarked false h = refl

-- two that differ in the part alone are ordered as the parts are
pub order_put : (marks : List Bool) (ys zs xs : List ℕ) → length marks ≡ length xs → length ys ≡ length (only marks xs) → length zs ≡ length (only marks xs)
    → comes_before (put_in marks ys xs) (put_in marks zs xs) ≡ true → comes_before ys zs ≡ true
order_put [] ys zs xs same long too h = absurd (clash (comes_before xs xs) h (irreflexive xs))
order_put (mark ∷ marks) ys zs [] same long too h = absurd (omega (arith, same))
order_put (true ∷ marks) [] zs (x ∷ xs) same long too h = absurd (omega (arith, long))
order_put (true ∷ marks) (y ∷ ys) [] (x ∷ xs) same long too h = absurd (omega (arith, too))
order_put (true ∷ marks) (y ∷ ys) (z ∷ zs) (x ∷ xs) same long too h =
    by (nat_lt y z) (nat_eq y z) (comes_before (put_in marks ys xs) (put_in marks zs xs)) (comes_before ys zs) h (order_put marks ys zs xs (omega (arith, same)) (omega (arith, long)) (omega (arith, too)))
  where
    by : (a b c d : Bool) → (a || (b && c)) ≡ true → (c ≡ true → d ≡ true) → (a || (b && d)) ≡ true
    by true b c d h f = refl
    by false true c d h f = f h
    by false false c d h f = absurd (cc h)
order_put (false ∷ marks) ys zs (x ∷ xs) same long too h =
    order_put marks ys zs xs (omega (arith, same)) long too
    (by (nat_lt x x) (nat_eq x x) (comes_before (put_in marks ys xs) (put_in marks zs xs)) (false_from_ne_true (nat_lt x x) (λ less. let below : x < x = ltb-true x x less in absurd (omega (arith, below)))) h)
  where
    by : (a b c : Bool) → a ≡ false → (a || (b && c)) ≡ true → c ≡ true
    by true b c out h = absurd (cc out)
    by false true c out h = h
    by false false c out h = absurd (cc h)

pub before_put : (marks : List Bool) (ys xs : List ℕ) → length marks ≡ length xs → length ys ≡ length (only marks xs) → comes_before ys (only marks xs) ≡ true → comes_before (put_in marks ys xs) xs ≡ true
before_put [] [] xs same long h = absurd (cc h)
before_put [] (y ∷ ys) xs same long h = absurd (omega (arith, long))
before_put (mark ∷ marks) ys [] same long h = absurd (omega (arith, same))
before_put (true ∷ marks) [] (x ∷ xs) same long h = absurd (omega (arith, long))
before_put (true ∷ marks) (y ∷ ys) (x ∷ xs) same long h =
    by (nat_lt y x) (nat_eq y x) (comes_before ys (only marks xs)) (comes_before (put_in marks ys xs) xs) h (before_put marks ys xs (omega (arith, same)) (omega (arith, long)))
  where
    by : (a b c d : Bool) → (a || (b && c)) ≡ true → (c ≡ true → d ≡ true) → (a || (b && d)) ≡ true
    by true b c d h f = refl
    by false true c d h f = f h
    by false false c d h f = absurd (cc h)
before_put (false ∷ marks) ys (x ∷ xs) same long h =
    or_right (nat_lt x x) (nat_eq x x && comes_before (put_in marks ys xs) xs)
    (and_from (nat_eq x x) (comes_before (put_in marks ys xs) xs) (eq-eqb x x refl) (before_put marks ys xs (omega (arith, same)) long h))

-- a list and its own part put in
pub put_own : (marks : List Bool) (xs : List ℕ) → length marks ≡ length xs → put_in marks (only marks xs) xs ≡ xs
put_own [] xs same = refl
put_own (mark ∷ marks) [] same = absurd (omega (arith, same))
put_own (true ∷ marks) (x ∷ xs) same = ap (λ ys. x ∷ ys) (put_own marks xs (omega (arith, same)))
put_own (false ∷ marks) (x ∷ xs) same = ap (λ ys. x ∷ ys) (put_own marks xs (omega (arith, same)))

pub length-put_in : (marks : List Bool) (ys xs : List ℕ) → length (put_in marks ys xs) ≡ length xs
length-put_in [] ys xs = refl
length-put_in (true ∷ marks) [] xs = refl
length-put_in (true ∷ marks) (y ∷ ys) [] = refl
length-put_in (true ∷ marks) (y ∷ ys) (x ∷ xs) = let rest = length-put_in marks ys xs in omega (arith, rest)
length-put_in (false ∷ marks) ys [] = refl
length-put_in (false ∷ marks) ys (x ∷ xs) = let rest = length-put_in marks ys xs in omega (arith, rest)

pub only_put : (marks : List Bool) (ys xs : List ℕ) → length marks ≡ length xs → length ys ≡ length (only marks xs) → only marks (put_in marks ys xs) ≡ ys
only_put [] [] xs same long = refl
only_put [] (y ∷ ys) xs same long = absurd (omega (arith, long))
only_put (mark ∷ marks) ys [] same long = absurd (omega (arith, same))
only_put (true ∷ marks) [] (x ∷ xs) same long = absurd (omega (arith, long))
only_put (true ∷ marks) (y ∷ ys) (x ∷ xs) same long = ap (λ zs. y ∷ zs) (only_put marks ys xs (omega (arith, same)) (omega (arith, long)))
only_put (false ∷ marks) ys (x ∷ xs) same long = only_put marks ys xs (omega (arith, same)) long

-- what comes before two parts put together comes before one of them
pub order_both : (marks : List Bool) (ws ys zs : List ℕ) → length marks ≡ length ws → length ws ≡ length zs → length ys ≡ length (only marks zs) → comes_before ws (put_in marks ys zs) ≡ true
    → (comes_before (only marks ws) ys ≡ true) ⊎ (comes_before (put_in marks (only marks zs) ws) zs ≡ true)
order_both [] ws ys zs same too long h = inr h
order_both (mark ∷ marks) [] ys zs same too long h = absurd (omega (arith, same))
order_both (mark ∷ marks) (w ∷ ws) ys [] same too long h = absurd (omega (arith, too))
order_both (true ∷ marks) (w ∷ ws) [] (z ∷ zs) same too long h = absurd (omega (arith, long))
order_both (true ∷ marks) (w ∷ ws) (y ∷ ys) (z ∷ zs) same too long h =
    by (nat_lt w y) refl (nat_eq w y) refl (comes_before ws (put_in marks ys zs)) refl h (order_both marks ws ys zs (omega (arith, same)) (omega (arith, too)) (omega (arith, long)))
  where
    later : (comes_before (only marks ws) ys ≡ true) ⊎ (comes_before (put_in marks (only marks zs) ws) zs ≡ true) → nat_eq w y ≡ true
        → (comes_before (w ∷ only marks ws) (y ∷ ys) ≡ true) ⊎ (comes_before (z ∷ put_in marks (only marks zs) ws) (z ∷ zs) ≡ true)
    later (inl before) e = inl (or_right (nat_lt w y) (nat_eq w y && comes_before (only marks ws) ys) (and_from (nat_eq w y) (comes_before (only marks ws) ys) e before))
    later (inr before) e = inr (or_right (nat_lt z z) (nat_eq z z && comes_before (put_in marks (only marks zs) ws) zs) (and_from (nat_eq z z) (comes_before (put_in marks (only marks zs) ws) zs) (eq-eqb z z refl) before))

    by : (a : Bool) → nat_lt w y ≡ a → (b : Bool) → nat_eq w y ≡ b → (c : Bool) → comes_before ws (put_in marks ys zs) ≡ c → (a || (b && c)) ≡ true
        → (comes_before ws (put_in marks ys zs) ≡ true → (comes_before (only marks ws) ys ≡ true) ⊎ (comes_before (put_in marks (only marks zs) ws) zs ≡ true))
        → (comes_before (w ∷ only marks ws) (y ∷ ys) ≡ true) ⊎ (comes_before (z ∷ put_in marks (only marks zs) ws) (z ∷ zs) ≡ true)
    by true p b q c r k f = inl (or_left (nat_lt w y) (nat_eq w y && comes_before (only marks ws) ys) p)
    by false p true q true r k f = later (f r) q
    by false p true q false r k f = absurd (cc k)
    by false p false q c r k f = absurd (cc k)
order_both (false ∷ marks) (w ∷ ws) ys (z ∷ zs) same too long h =
    by (nat_lt w z) refl (nat_eq w z) refl (comes_before ws (put_in marks ys zs)) refl h (order_both marks ws ys zs (omega (arith, same)) (omega (arith, too)) long)
  where
    later : (comes_before (only marks ws) ys ≡ true) ⊎ (comes_before (put_in marks (only marks zs) ws) zs ≡ true) → nat_eq w z ≡ true
        → (comes_before (only marks ws) ys ≡ true) ⊎ (comes_before (w ∷ put_in marks (only marks zs) ws) (z ∷ zs) ≡ true)
    later (inl before) e = inl before
    later (inr before) e = inr (or_right (nat_lt w z) (nat_eq w z && comes_before (put_in marks (only marks zs) ws) zs) (and_from (nat_eq w z) (comes_before (put_in marks (only marks zs) ws) zs) e before))

    by : (a : Bool) → nat_lt w z ≡ a → (b : Bool) → nat_eq w z ≡ b → (c : Bool) → comes_before ws (put_in marks ys zs) ≡ c → (a || (b && c)) ≡ true
        → (comes_before ws (put_in marks ys zs) ≡ true → (comes_before (only marks ws) ys ≡ true) ⊎ (comes_before (put_in marks (only marks zs) ws) zs ≡ true))
        → (comes_before (only marks ws) ys ≡ true) ⊎ (comes_before (w ∷ put_in marks (only marks zs) ws) (z ∷ zs) ≡ true)
    by true p b q c r k f = inr (or_left (nat_lt w z) (nat_eq w z && comes_before (put_in marks (only marks zs) ws) zs) p)
    by false p true q true r k f = later (f r) q
    by false p true q false r k f = absurd (cc k)
    by false p false q c r k f = absurd (cc k)
