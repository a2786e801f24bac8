-- The part of a box at the slots that are marked, made slot by slot and conflict by conflict.
use Rattle.std.proofs.Common.{◌≡◌, ℕ, zero, suc, ◌+◌, ◌<◌, ◌≤◌, Bool, true, false, nat_lt, List, [], ◌∷◌, ◌++◌, length, map, drop, drop-cons, get_or, Option, None, cond, ◌⊎◌, inl, inr, refl, sym, ◌∙◌, ap, ap₂, subst, add-one, arith}
use Rattle.std.specs.Prelude.{slice_index, slice_get}
use Rattle.std.specs.Option.{option_map_or, unwrap_or}
use Rattle.std.proofs.lemmas.Bool.{and_from, and_parts, lt-ltb, ltb-true, false_from_ne_true, cases_lt}
use Rattle.std.proofs.lemmas.List.{append_assoc}
use Rattle.lv_base.specs.declared.search.Pair.{Pair}
use Rattle.lv_base.specs.Choices.{slots_rise, slots_rise_from}
use Rattle.lv_boxes.specs.Masks.{only_choice}
use Rattle.lv_search_parts.specs.Slots.{only, put_in, is_marked, place_of, pair_in, is_inside}
use Rattle.lv_search_parts.specs.Parts.{inner_of, ArePlaces, fixed}

-- one item more of a list made
one_more : {X : Type 0} (made : List X) (x : X) (rest whole : List X) → made ++ x ∷ rest ≡ whole → (made ++ x ∷ []) ++ rest ≡ whole
one_more made x rest whole e = append_assoc made (x ∷ []) rest ∙ e

longer : {X : Type 0} (xs : List X) (y : X) (zs : List X) → length xs < length ((xs ++ y ∷ []) ++ zs)
longer [] y zs = omega arith
longer (x ∷ xs) y zs = let rest = longer xs y zs in omega (arith, rest)

length_more : {X : Type 0} (xs : List X) (x : X) → length (xs ++ x ∷ []) ≡ length xs + 1
length_more [] x = omega arith
length_more (y ∷ ys) x = let rest = length_more ys x in omega (arith, rest)

-- the items at the slots that are marked
pub length-only_le : {X : Type 0} (marks : List Bool) (xs : List X) → length (only marks xs) ≤ length xs
length-only_le [] xs = omega arith
length-only_le (true ∷ marks) [] = omega arith
length-only_le (false ∷ marks) [] = omega arith
length-only_le (true ∷ marks) (x ∷ xs) = let rest = length-only_le marks xs in omega (arith, rest)
length-only_le (false ∷ marks) (x ∷ xs) = let rest = length-only_le marks xs in omega (arith, rest)

only_at : {X : Type 0} (marks : List Bool) (xs : List X) (i : ℕ) (m : Bool) (d : X) → i < length marks → i < length xs
    → only (drop i marks) (drop i xs) ≡ only (get_or marks i m ∷ drop (suc i) marks) (get_or xs i d ∷ drop (suc i) xs)
only_at marks xs i m d within within_too = ap₂ only (drop-cons marks i m within) (drop-cons xs i d within_too)

pub only_yes : {X : Type 0} (made : List X) (marks : List Bool) (xs whole : List X) (i : ℕ) (m : Bool) (d : X) → i < length marks → i < length xs → get_or marks i m ≡ true
    → made ++ only (drop i marks) (drop i xs) ≡ whole → (made ++ get_or xs i d ∷ []) ++ only (drop (i + 1) marks) (drop (i + 1) xs) ≡ whole
only_yes made marks xs whole i m d within within_too is e =
    ap (λ n. (made ++ get_or xs i d ∷ []) ++ only (drop n marks) (drop n xs)) (add-one i)
    ∙ one_more made (get_or xs i d) (only (drop (suc i) marks) (drop (suc i) xs)) whole
    (sym (ap (λ rest. made ++ rest) (only_at marks xs i m d within within_too ∙ ap (λ b. only (b ∷ drop (suc i) marks) (get_or xs i d ∷ drop (suc i) xs)) is)) ∙ e)

pub only_no : {X : Type 0} (made : List X) (marks : List Bool) (xs whole : List X) (i : ℕ) (m : Bool) (d : X) → i < length marks → i < length xs → get_or marks i m ≡ false
    → made ++ only (drop i marks) (drop i xs) ≡ whole → made ++ only (drop (i + 1) marks) (drop (i + 1) xs) ≡ whole
only_no made marks xs whole i m d within within_too is e =
    ap (λ n. made ++ only (drop n marks) (drop n xs)) (add-one i)
    ∙ (sym (ap (λ rest. made ++ rest) (only_at marks xs i m d within within_too ∙ ap (λ b. only (b ∷ drop (suc i) marks) (get_or xs i d ∷ drop (suc i) xs)) is)) ∙ e)

pub only_room : {X : Type 0} (made : List X) (marks : List Bool) (xs : List X) (i most : ℕ) (m : Bool) (d : X) → i < length marks → length marks ≡ length xs → length xs ≤ most → get_or marks i m ≡ true
    → made ++ only (drop i marks) (drop i xs) ≡ only marks xs → length made < most
only_room made marks xs i most m d within same most_too is e =
    let within_too : i < length xs = omega (arith, within, same) in
    let whole : (made ++ get_or xs i d ∷ []) ++ only (drop (i + 1) marks) (drop (i + 1) xs) ≡ only marks xs = only_yes made marks xs (only marks xs) i m d within within_too is e in
    let long : length ((made ++ get_or xs i d ∷ []) ++ only (drop (i + 1) marks) (drop (i + 1) xs)) ≡ length (only marks xs) = ap length whole in
    let few : length (only marks xs) ≤ length xs = length-only_le marks xs in
    let one : length made < length ((made ++ get_or xs i d ∷ []) ++ only (drop (i + 1) marks) (drop (i + 1) xs)) = longer made (get_or xs i d) (only (drop (i + 1) marks) (drop (i + 1) xs)) in
    omega (arith, long, few, one, most_too)

-- one slot more, marked or not
pub only_next : {X : Type 0} (made new : List X) (marks : List Bool) (xs whole : List X) (i : ℕ) (m : Bool) (x : X) → i < length marks → length marks ≡ length xs → get_or xs i x ≡ x
    → new ≡ cond (get_or marks i m) (made ++ x ∷ []) made → made ++ only (drop i marks) (drop i xs) ≡ whole → new ++ only (drop (i + 1) marks) (drop (i + 1) xs) ≡ whole
only_next made new marks xs whole i m x within same x_is is e = by (get_or marks i m) refl is
  where
    within_too : i < length xs
    within_too = omega (arith, within, same)

    by : (b : Bool) → get_or marks i m ≡ b → new ≡ cond b (made ++ x ∷ []) made → new ++ only (drop (i + 1) marks) (drop (i + 1) xs) ≡ whole
    by true marked made_is =
        ap (λ ns. ns ++ only (drop (i + 1) marks) (drop (i + 1) xs)) (made_is ∙ ap (λ y. made ++ y ∷ []) (sym x_is)) ∙ only_yes made marks xs whole i m x within within_too marked e
    by false out made_is = ap (λ ns. ns ++ only (drop (i + 1) marks) (drop (i + 1) xs)) made_is ∙ only_no made marks xs whole i m x within within_too out e

-- the conflicts inside
pub inner_in : (marks : List Bool) (k : List Pair) (ks : List (List Pair)) → is_inside marks k ≡ true → inner_of marks (k ∷ ks) ≡ map (pair_in marks) k ∷ inner_of marks ks
inner_in marks k ks inside = rw inside refl

pub inner_out : (marks : List Bool) (k : List Pair) (ks : List (List Pair)) → is_inside marks k ≡ false → inner_of marks (k ∷ ks) ≡ inner_of marks ks
inner_out marks k ks outside = rw outside refl

-- how many marked slots come before each
pub place_more : (marks : List Bool) (i : ℕ) (m : Bool) → i < length marks → place_of marks (i + 1) ≡ place_of marks i + cond (get_or marks i m) 1 0
place_more [] i m within = absurd (omega (arith, within))
place_more (mark ∷ marks) zero m within = by marks mark
  where
    by : (marks : List Bool) (b : Bool) → place_of (b ∷ marks) (0 + 1) ≡ 0 + cond b 1 0
    by [] true = refl
    by [] false = refl
    by (m ∷ ms) true = refl
    by (m ∷ ms) false = refl
place_more (mark ∷ marks) (suc i) m within =
    let rest = place_more marks i m (omega (arith, within)) in
    let next_slot : suc i + 1 ≡ suc (i + 1) = omega arith in
    let here : place_of (mark ∷ marks) (suc (i + 1)) ≡ place_of (mark ∷ marks) (suc i) + cond (get_or marks i m) 1 0 = omega (arith, rest) in
    ap (place_of (mark ∷ marks)) next_slot ∙ here

pub places_begin : (marks : List Bool) → ArePlaces marks 0 []
places_begin marks = record { long = refl; each = λ slot within. absurd (omega (arith, within)) }

at_before : (xs : List ℕ) (x i : ℕ) → i < length xs → slice_index (xs ++ x ∷ []) i ≡ slice_index xs i
at_before [] x i within = absurd (omega (arith, within))
at_before (y ∷ ys) x zero within = refl
at_before (y ∷ ys) x (suc i) within = at_before ys x i (omega (arith, within))

at_end : (xs : List ℕ) (x i : ℕ) → i ≡ length xs → slice_index (xs ++ x ∷ []) i ≡ x
at_end [] x zero is = refl
at_end [] x (suc i) is = absurd (omega (arith, is))
at_end (y ∷ ys) x zero is = absurd (omega (arith, is))
at_end (y ∷ ys) x (suc i) is = at_end ys x i (omega (arith, is))

pub places_more : (marks : List Bool) (i : ℕ) (places : List ℕ) (place : ℕ) → place ≡ place_of marks i → ArePlaces marks i places → ArePlaces marks (i + 1) (places ++ place ∷ [])
places_more marks i places place is a = record { long = let long = a.long in let more = length_more places place in omega (arith, long, more); each = each }
  where
    each : (slot : ℕ) → slot < i + 1 → slice_index (places ++ place ∷ []) slot ≡ place_of marks slot
    each slot within = by (cases_lt slot i)
      where
        by : (slot < i) ⊎ (i ≤ slot) → slice_index (places ++ place ∷ []) slot ≡ place_of marks slot
        by (inl less) = at_before places place slot (subst (λ n. slot < n) (sym a.long) less) ∙ a.each slot less
        by (inr more) =
            let same : slot ≡ i = omega (arith, within, more) in
            let long = a.long in
            at_end places place slot (omega (arith, same, long)) ∙ is ∙ ap (place_of marks) (sym same)

pub few_more : (mark : Bool) (place slot step : ℕ) → step ≡ cond mark 1 0 → place ≤ slot → place + step ≤ slot + 1
few_more true place slot step is few = let one : step ≡ 1 = is in omega (arith, one, few)
few_more false place slot step is few = let none : step ≡ 0 = is in omega (arith, none, few)

pub place_next : (marks : List Bool) (i place step : ℕ) (m : Bool) → i < length marks → place ≡ place_of marks i → step ≡ cond (get_or marks i m) 1 0 → place + step ≡ place_of marks (i + 1)
place_next marks i place step m within is step_is = let more = place_more marks i m within in omega (arith, more, is, step_is)

-- pairs inside, with the numbers that their slots have in the part
pub marked_within : (marks : List Bool) (slot : ℕ) → is_marked marks slot ≡ true → slot < length marks
marked_within [] slot h = absurd (cc h)
marked_within (mark ∷ marks) zero h = omega arith
marked_within (mark ∷ marks) (suc slot) h = let rest = marked_within marks slot h in omega (arith, rest)

place_rises : (marks : List Bool) (low slot : ℕ) → low ≤ slot → place_of marks low ≤ place_of marks slot
place_rises [] low slot less = omega arith
place_rises (mark ∷ marks) zero slot less = by slot
  where
    by : (slot : ℕ) → place_of (mark ∷ marks) 0 ≤ place_of (mark ∷ marks) slot
    by slot = omega arith
place_rises (mark ∷ marks) (suc low) zero less = absurd (omega (arith, less))
place_rises (mark ∷ marks) (suc low) (suc slot) less = let rest = place_rises marks low slot (omega (arith, less)) in omega (arith, rest)

place_after : (marks : List Bool) (slot : ℕ) → is_marked marks slot ≡ true → place_of marks (slot + 1) ≡ place_of marks slot + 1
place_after [] slot h = absurd (cc h)
place_after (true ∷ marks) zero h = by marks
  where
    by : (marks : List Bool) → place_of (true ∷ marks) (0 + 1) ≡ 0 + 1
    by [] = refl
    by (m ∷ ms) = refl
place_after (false ∷ marks) zero h = absurd (cc h)
place_after (mark ∷ marks) (suc slot) h =
    let rest = place_after marks slot h in
    let next_slot : suc slot + 1 ≡ suc (slot + 1) = omega arith in
    let here : place_of (mark ∷ marks) (suc (slot + 1)) ≡ place_of (mark ∷ marks) (suc slot) + 1 = omega (arith, rest) in
    ap (place_of (mark ∷ marks)) next_slot ∙ here

placed_rise_from : (marks : List Bool) (low : ℕ) (pairs : List Pair) → is_inside marks pairs ≡ true → slots_rise_from low pairs ≡ true → slots_rise_from (place_of marks low) (map (pair_in marks) pairs) ≡ true
placed_rise_from marks low [] inside h = refl
placed_rise_from marks low (p ∷ ps) inside h =
    let ins = and_parts (is_marked marks p.slot) (is_inside marks ps) inside in
    let parts = and_parts (nat_lt low (p.slot + 1)) (slots_rise_from (p.slot + 1) ps) h in
    let far : low < p.slot + 1 = ltb-true low (p.slot + 1) parts.0 in
    let up : place_of marks low ≤ place_of marks p.slot = place_rises marks low p.slot (omega (arith, far)) in
    and_from (nat_lt (place_of marks low) (place_of marks p.slot + 1)) (slots_rise_from (place_of marks p.slot + 1) (map (pair_in marks) ps))
    (lt-ltb (place_of marks low) (place_of marks p.slot + 1) (omega (arith, up)))
    (subst (λ n. slots_rise_from n (map (pair_in marks) ps) ≡ true) (place_after marks p.slot ins.0) (placed_rise_from marks (p.slot + 1) ps ins.1 parts.1))

pub place_zero : (marks : List Bool) → place_of marks 0 ≡ 0
place_zero [] = refl
place_zero (mark ∷ marks) = refl

pub placed_rise : (marks : List Bool) (pairs : List Pair) → is_inside marks pairs ≡ true → slots_rise pairs ≡ true → slots_rise (map (pair_in marks) pairs) ≡ true
placed_rise marks pairs inside h = subst (λ n. slots_rise_from n (map (pair_in marks) pairs) ≡ true) (place_zero marks) (placed_rise_from marks 0 pairs inside h)

-- of each slot that is marked something by one of the choices, of the others what there was
fixed_none : (marks : List Bool) (masks : List ℕ) → fixed marks [] masks ≡ masks
fixed_none [] masks = refl
fixed_none (true ∷ marks) masks = refl
fixed_none (false ∷ marks) [] = refl
fixed_none (false ∷ marks) (mask ∷ masks) = ap (λ ms. mask ∷ ms) (fixed_none marks masks)

pub fixed_cons : (mark : Bool) (marks : List Bool) (choices : List ℕ) (mask : ℕ) (masks : List ℕ)
    → fixed (mark ∷ marks) choices (mask ∷ masks) ≡ option_map_or (only_choice mask) (cond mark (slice_get choices 0) None) mask ∷ fixed marks (cond mark (drop 1 choices) choices) masks
fixed_cons true marks [] mask masks = ap (λ ms. mask ∷ ms) (sym (fixed_none marks masks))
fixed_cons true marks (choice ∷ choices) mask masks = refl
fixed_cons false marks choices mask masks = refl

put_none : (marks : List Bool) (outer : List ℕ) → put_in marks [] outer ≡ outer
put_none [] outer = refl
put_none (true ∷ marks) outer = refl
put_none (false ∷ marks) [] = refl
put_none (false ∷ marks) (x ∷ outer) = ap (λ xs. x ∷ xs) (put_none marks outer)

pub put_cons : (mark : Bool) (marks : List Bool) (inner : List ℕ) (x : ℕ) (outer : List ℕ)
    → put_in (mark ∷ marks) inner (x ∷ outer) ≡ unwrap_or (cond mark (slice_get inner 0) None) x ∷ put_in marks (cond mark (drop 1 inner) inner) outer
put_cons true marks [] x outer = ap (λ xs. x ∷ xs) (sym (put_none marks outer))
put_cons true marks (choice ∷ inner) x outer = refl
put_cons false marks inner x outer = refl

pub taken_more : (put : List Bool → List ℕ → List ℕ → List ℕ) (word_of : Option ℕ → ℕ → ℕ)
    → ((mark : Bool) (marks : List Bool) (choices : List ℕ) (x : ℕ) (xs : List ℕ) → put (mark ∷ marks) choices (x ∷ xs) ≡ word_of (cond mark (slice_get choices 0) None) x ∷ put marks (cond mark (drop 1 choices) choices) xs)
    → (made new : List ℕ) (marks : List Bool) (choices more xs whole : List ℕ) (i word : ℕ) (first : Option ℕ) (m : Bool) (d : ℕ) → i < length marks → length marks ≡ length xs
    → first ≡ cond (get_or marks i m) (slice_get choices 0) None → more ≡ cond (get_or marks i m) (drop 1 choices) choices → word ≡ word_of first (get_or xs i d) → new ≡ made ++ word ∷ []
    → made ++ put (drop i marks) choices (drop i xs) ≡ whole → new ++ put (drop (i + 1) marks) more (drop (i + 1) xs) ≡ whole
taken_more put word_of cons made new marks choices more xs whole i word first m d within same first_is more_is word_is new_is e =
    ap₂ (λ (ns : List ℕ) (n : ℕ). ns ++ put (drop n marks) more (drop n xs)) new_is (add-one i)
    ∙ one_more made word (put (drop (suc i) marks) more (drop (suc i) xs)) whole (ap (λ ms. made ++ ms) (sym here) ∙ e)
  where
    here : put (drop i marks) choices (drop i xs) ≡ word ∷ put (drop (suc i) marks) more (drop (suc i) xs)
    here =
        ap₂ (λ (bs : List Bool) (ws : List ℕ). put bs choices ws) (drop-cons marks i m within) (drop-cons xs i d (omega (arith, within, same)))
        ∙ cons (get_or marks i m) (drop (suc i) marks) choices (get_or xs i d) (drop (suc i) xs)
        ∙ ap₂ (λ (w : ℕ) (cs : List ℕ). w ∷ put (drop (suc i) marks) cs (drop (suc i) xs)) (sym (word_is ∙ ap (λ o. word_of o (get_or xs i d)) first_is)) (sym more_is)

-- a mark as the code reads it
pub mark_at : (marks : List Bool) (slot : ℕ) → get_or marks slot false ≡ is_marked marks slot
mark_at [] zero = refl
mark_at [] (suc slot) = refl
mark_at (mark ∷ marks) zero = refl
mark_at (mark ∷ marks) (suc slot) = mark_at marks slot

pub not_marked_past : (marks : List Bool) (slot : ℕ) → length marks ≤ slot → is_marked marks slot ≡ false
not_marked_past marks slot past = false_from_ne_true (is_marked marks slot) (λ has. let below : slot < length marks = marked_within marks slot has in absurd (omega (arith, below, past)))

pub mark_past : (marks : List Bool) (slot : ℕ) → length marks ≤ slot → nat_lt slot (length marks) ≡ is_marked marks slot
mark_past marks slot past =
    false_from_ne_true (nat_lt slot (length marks)) (λ less. let below : slot < length marks = ltb-true slot (length marks) less in absurd (omega (arith, below, past))) ∙ sym (not_marked_past marks slot past)

-- items as the code reads them
pub same_at : (xs : List ℕ) (i d : ℕ) → get_or xs i (get_or xs i d) ≡ get_or xs i d
same_at [] i d = refl
same_at (x ∷ xs) zero d = refl
same_at (x ∷ xs) (suc i) d = same_at xs i d

item_at : {X : Type 0} (xs : List X) (i : ℕ) (d e : X) → i < length xs → get_or xs i d ≡ get_or xs i e
item_at [] i d e within = absurd (omega (arith, within))
item_at (x ∷ xs) zero d e within = refl
item_at (x ∷ xs) (suc i) d e within = item_at xs i d e (omega (arith, within))

pub same_by : {X : Type 0} (read xs : List (List X)) (i : ℕ) (item now : List X) → read ≡ xs → item ≡ get_or read i item → now ≡ item → i < length xs → get_or xs i now ≡ now
same_by read xs i item now read_is item_is now_is within =
    item_at xs i now item within ∙ ap (λ ys. get_or ys i item) (sym read_is) ∙ sym item_is ∙ sym now_is
