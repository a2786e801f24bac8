-- A conflict's pairs as those of the part, one after the other.
use Rattle.std.proofs.Common.{◌≡◌, ℕ, suc, ◌+◌, ◌<◌, ◌≤◌, Bool, true, false, ◌&&◌, cond, List, [], ◌∷◌, ◌++◌, Some, None, length, map, drop, drop-cons, get_or, refl, sym, ◌∙◌, ap, subst, add-one}
use Rattle.std.specs.Prelude.{slice_index}
use Rattle.std.specs.List.{list_all}
use Rattle.std.proofs.Math.ListN.{drop_of_length-le}
use Rattle.std.proofs.lemmas.Bool.{and_parts}
use Rattle.std.proofs.lemmas.List.{append-nil, length-map, get_or-map, drop-map}
use Rattle.lv_base.specs.declared.search.Pair.{Pair}
use Rattle.lv_base.specs.Choices.{slots_rise}
use Rattle.lv_search_parts.specs.Slots.{is_marked, is_inside, pair_in, place_of}
use Rattle.lv_search_parts.specs.Parts.{is_there, is_held, ArePlaces, IsOpenOf}
use Rattle.lv_search_parts.proofs.PartLemmas.{marked_within, placed_rise}
use Rattle.lv_search_parts.proofs.LiveLemmas.{open_begins, open_next}

-- pairs held are all inside, and all there
and_both : (a b c d : Bool) → ((a && b) && (c && d)) ≡ ((a && c) && (b && d))
and_both false b c d = refl
and_both true true c d = refl
and_both true false true d = refl
and_both true false false d = refl

pub all_held : (marks : List Bool) (masks : List ℕ) (pairs : List Pair) → list_all (is_held marks masks) pairs ≡ (is_inside marks pairs && list_all (is_there masks) (map (pair_in marks) pairs))
all_held marks masks [] = refl
all_held marks masks (p ∷ ps) =
    ap (λ b. is_held marks masks p && b) (all_held marks masks ps)
    ∙ and_both (is_marked marks p.slot) (is_there masks (pair_in marks p)) (is_inside marks ps) (list_all (is_there masks) (map (pair_in marks) ps))

pub held_inside : (marks : List Bool) (masks : List ℕ) (pairs : List Pair) → list_all (is_held marks masks) pairs ≡ true → is_inside marks pairs ≡ true
held_inside marks masks pairs all = (and_parts (is_inside marks pairs) (list_all (is_there masks) (map (pair_in marks) pairs)) (sym (all_held marks masks pairs) ∙ all)).0

-- one pair more of those held
pub held_out : (marks : List Bool) (masks : List ℕ) (p : Pair) → is_marked marks p.slot ≡ false → None ≡ cond (is_held marks masks p) (Some (pair_in marks p)) None
held_out marks masks p out = rw out refl

pub held_here : (marks : List Bool) (places masks : List ℕ) (p : Pair) → ArePlaces marks (length marks) places → is_marked marks p.slot ≡ true → is_there masks (record { slot = slice_index places p.slot; choice = p.choice }) ≡ true
    → Some (record { slot = slice_index places p.slot; choice = p.choice }) ≡ cond (is_held marks masks p) (Some (pair_in marks p)) None
held_here marks places masks p are marked there =
    let place : slice_index places p.slot ≡ place_of marks p.slot = are.each p.slot (marked_within marks p.slot marked) in
    let here : is_there masks (pair_in marks p) ≡ true = subst (λ n. is_there masks (record { slot = n; choice = p.choice }) ≡ true) place there in
    ap (λ n. Some (record { slot = n; choice = p.choice })) place ∙ rw (marked, here) refl

was_held : (b : Bool) (p placed : Pair) → Some placed ≡ cond b (Some p) None → (b ≡ true) × (placed ≡ p)
was_held true p placed is = (refl, cc is)
was_held false p placed is = absurd (cc is)

pub held_rest : (marks : List Bool) (masks : List ℕ) (pairs : List Pair) (i : ℕ) (d placed : Pair) (all : Bool) → i < length pairs → Some placed ≡ cond (is_held marks masks (get_or pairs i d)) (Some (pair_in marks (get_or pairs i d))) None
    → list_all (is_held marks masks) (drop i pairs) ≡ all → list_all (is_held marks masks) (drop (i + 1) pairs) ≡ all
held_rest marks masks pairs i d placed all within is e =
    ap (λ n. list_all (is_held marks masks) (drop n pairs)) (add-one i)
    ∙ sym (ap (list_all (is_held marks masks)) (drop-cons pairs i d within) ∙ ap (λ b. b && list_all (is_held marks masks) (drop (suc i) pairs)) (was_held (is_held marks masks (get_or pairs i d)) (pair_in marks (get_or pairs i d)) placed is).0)
    ∙ e

pub held_left : (marks : List Bool) (masks : List ℕ) (pairs left new : List Pair) (i : ℕ) (d placed : Pair) → i < length pairs → Some placed ≡ cond (is_held marks masks (get_or pairs i d)) (Some (pair_in marks (get_or pairs i d))) None
    → ((all rest : List Pair) → IsOpenOf masks all (left ++ placed ∷ rest) → IsOpenOf masks all (new ++ rest))
    → (is_inside marks pairs ≡ true → IsOpenOf masks (map (pair_in marks) pairs) (left ++ drop i (map (pair_in marks) pairs)))
    → is_inside marks pairs ≡ true → IsOpenOf masks (map (pair_in marks) pairs) (new ++ drop (i + 1) (map (pair_in marks) pairs))
held_left marks masks pairs left new i d placed within is step o inside =
    open_next masks (map (pair_in marks) pairs) left new i (pair_in marks d) placed (subst (λ n. i < n) (sym (length-map pairs (pair_in marks))) within)
    ((was_held (is_held marks masks (get_or pairs i d)) (pair_in marks (get_or pairs i d)) placed is).1 ∙ sym (get_or-map (pair_in marks) pairs i d (pair_in marks d) within)) step (o inside)

pub held_begins : (marks : List Bool) (masks : List ℕ) (pairs left : List Pair) → slots_rise pairs ≡ true → left ≡ [] → is_inside marks pairs ≡ true → IsOpenOf masks (map (pair_in marks) pairs) (left ++ map (pair_in marks) pairs)
held_begins marks masks pairs left rising none inside =
    subst (λ (ps : List Pair). IsOpenOf masks (map (pair_in marks) pairs) (ps ++ map (pair_in marks) pairs)) (sym none) (open_begins masks (map (pair_in marks) pairs) (placed_rise marks pairs inside rising))

pub held_ends : (marks : List Bool) (masks : List ℕ) (pairs left : List Pair) (i : ℕ) → length pairs ≤ i → list_all (is_held marks masks) (drop i pairs) ≡ list_all (is_held marks masks) pairs
    → (is_inside marks pairs ≡ true → IsOpenOf masks (map (pair_in marks) pairs) (left ++ drop i (map (pair_in marks) pairs))) → IsOpenOf masks (map (pair_in marks) pairs) left
held_ends marks masks pairs left i past all o =
    subst (λ (ps : List Pair). IsOpenOf masks (map (pair_in marks) pairs) ps)
    (ap (λ (ps : List Pair). left ++ ps) (drop-map (pair_in marks) i pairs ∙ ap (map (pair_in marks)) none) ∙ append-nil left)
    (o (held_inside marks masks pairs (sym all ∙ ap (list_all (is_held marks masks)) none)))
  where
    none : drop i pairs ≡ []
    none = drop_of_length-le pairs past
