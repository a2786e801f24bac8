-- What a part leaves of the conflicts inside, one after the other.
use Rattle.std.proofs.Common.{◌≡◌, ℕ, ◌+◌, ◌<◌, ◌≤◌, Bool, true, false, ◌&&◌, List, [], ◌∷◌, ◌++◌, length, map, take, get_or, refl, sym, ◌∙◌, ap, subst, add-one}
use Rattle.std.specs.List.{list_all}
use Rattle.std.proofs.Math.Seq.{take-suc}
use Rattle.std.proofs.lemmas.List.{take_all}
use Rattle.lv_base.specs.declared.search.Pair.{Pair}
use Rattle.lv_search_parts.specs.Slots.{pair_in, is_inside}
use Rattle.lv_search_parts.specs.Parts.{inner_of, is_there, is_held, IsOpenOf, IsLiveOf}
use Rattle.lv_search_parts.proofs.PartLemmas.{inner_in, inner_out}
use Rattle.lv_search_parts.proofs.LiveLemmas.{live_out, live_more}
use Rattle.lv_search_parts.proofs.HeldLemmas.{all_held, held_inside}

-- one conflict more, inside or not
inner_more : (marks : List Bool) (ks : List (List Pair)) (k : List Pair) → is_inside marks k ≡ true → inner_of marks (ks ++ k ∷ []) ≡ inner_of marks ks ++ map (pair_in marks) k ∷ []
inner_more marks [] k inside = inner_in marks k [] inside
inner_more marks (j ∷ js) k inside = by (is_inside marks j) refl (inner_more marks js k inside)
  where
    by : (b : Bool) → is_inside marks j ≡ b → inner_of marks (js ++ k ∷ []) ≡ inner_of marks js ++ map (pair_in marks) k ∷ []
        → inner_of marks (j ∷ (js ++ k ∷ [])) ≡ inner_of marks (j ∷ js) ++ map (pair_in marks) k ∷ []
    by true here rest = inner_in marks j (js ++ k ∷ []) here ∙ ap (λ ps. map (pair_in marks) j ∷ ps) rest ∙ ap (λ ps. ps ++ map (pair_in marks) k ∷ []) (sym (inner_in marks j js here))
    by false out rest = inner_out marks j (js ++ k ∷ []) out ∙ rest ∙ ap (λ ps. ps ++ map (pair_in marks) k ∷ []) (sym (inner_out marks j js out))

inner_same : (marks : List Bool) (ks : List (List Pair)) (k : List Pair) → is_inside marks k ≡ false → inner_of marks (ks ++ k ∷ []) ≡ inner_of marks ks
inner_same marks [] k outside = inner_out marks k [] outside
inner_same marks (j ∷ js) k outside = by (is_inside marks j) refl (inner_same marks js k outside)
  where
    by : (b : Bool) → is_inside marks j ≡ b → inner_of marks (js ++ k ∷ []) ≡ inner_of marks js → inner_of marks (j ∷ (js ++ k ∷ [])) ≡ inner_of marks (j ∷ js)
    by true here rest = inner_in marks j (js ++ k ∷ []) here ∙ ap (λ ps. map (pair_in marks) j ∷ ps) rest ∙ sym (inner_in marks j js here)
    by false out rest = inner_out marks j (js ++ k ∷ []) out ∙ rest ∙ sym (inner_out marks j js out)

took : (conflicts : List (List Pair)) (i : ℕ) (d pairs : List Pair) → i < length conflicts → pairs ≡ get_or conflicts i d → take (i + 1) conflicts ≡ take i conflicts ++ pairs ∷ []
took conflicts i d pairs within is = ap (λ n. take n conflicts) (add-one i) ∙ take-suc conflicts i d within ∙ ap (λ ps. take i conflicts ++ ps ∷ []) (sym is)

inner_live_more : (marks : List Bool) (conflicts : List (List Pair)) (i : ℕ) (d pairs : List Pair) (masks : List ℕ) (old new : List (List Pair)) → i < length conflicts → pairs ≡ get_or conflicts i d → is_inside marks pairs ≡ true
    → ((ks : List (List Pair)) → IsLiveOf ks masks old → IsLiveOf (ks ++ map (pair_in marks) pairs ∷ []) masks new)
    → IsLiveOf (inner_of marks (take i conflicts)) masks old → IsLiveOf (inner_of marks (take (i + 1) conflicts)) masks new
inner_live_more marks conflicts i d pairs masks old new within is inside step l =
    subst (λ (ks : List (List Pair)). IsLiveOf ks masks new) (sym (ap (inner_of marks) (took conflicts i d pairs within is) ∙ inner_more marks (take i conflicts) pairs inside)) (step (inner_of marks (take i conflicts)) l)

inner_live_same : (marks : List Bool) (conflicts : List (List Pair)) (i : ℕ) (d pairs : List Pair) (masks : List ℕ) (live : List (List Pair)) → i < length conflicts → pairs ≡ get_or conflicts i d → is_inside marks pairs ≡ false
    → IsLiveOf (inner_of marks (take i conflicts)) masks live → IsLiveOf (inner_of marks (take (i + 1) conflicts)) masks live
inner_live_same marks conflicts i d pairs masks live within is outside l =
    subst (λ (ks : List (List Pair)). IsLiveOf ks masks live) (sym (ap (inner_of marks) (took conflicts i d pairs within is) ∙ inner_same marks (take i conflicts) pairs outside)) l

pub inner_live_ends : (marks : List Bool) (conflicts : List (List Pair)) (i : ℕ) (masks : List ℕ) (live : List (List Pair)) → length conflicts ≤ i → IsLiveOf (inner_of marks (take i conflicts)) masks live
    → IsLiveOf (inner_of marks conflicts) masks live
inner_live_ends marks conflicts i masks live past l = subst (λ (ks : List (List Pair)). IsLiveOf (inner_of marks ks) masks live) (take_all i conflicts past) l

-- one conflict more, held or not
pub inner_held : (marks : List Bool) (masks : List ℕ) (conflicts : List (List Pair)) (i : ℕ) (d pairs left : List Pair) (old new : List (List Pair)) → i < length conflicts → pairs ≡ get_or conflicts i d
    → list_all (is_held marks masks) pairs ≡ true → IsOpenOf masks (map (pair_in marks) pairs) left → new ≡ old ++ left ∷ []
    → IsLiveOf (inner_of marks (take i conflicts)) masks old → IsLiveOf (inner_of marks (take (i + 1) conflicts)) masks new
inner_held marks masks conflicts i d pairs left old new within is all o new_is =
    inner_live_more marks conflicts i d pairs masks old new within is (held_inside marks masks pairs all)
    (λ ks l. subst (λ (live : List (List Pair)). IsLiveOf (ks ++ map (pair_in marks) pairs ∷ []) masks live) (sym new_is) (live_more ks masks old (map (pair_in marks) pairs) left o l))

pub inner_not_held : (marks : List Bool) (masks : List ℕ) (conflicts : List (List Pair)) (i : ℕ) (d pairs : List Pair) (live : List (List Pair)) → i < length conflicts → pairs ≡ get_or conflicts i d
    → list_all (is_held marks masks) pairs ≡ false → IsLiveOf (inner_of marks (take i conflicts)) masks live → IsLiveOf (inner_of marks (take (i + 1) conflicts)) masks live
inner_not_held marks masks conflicts i d pairs live within is lacks = by (is_inside marks pairs) refl
  where
    by : (b : Bool) → is_inside marks pairs ≡ b → IsLiveOf (inner_of marks (take i conflicts)) masks live → IsLiveOf (inner_of marks (take (i + 1) conflicts)) masks live
    by true inside =
        inner_live_more marks conflicts i d pairs masks live live within is inside
        (λ ks. live_out ks masks live (map (pair_in marks) pairs) (sym (all_held marks masks pairs ∙ ap (λ b. b && list_all (is_there masks) (map (pair_in marks) pairs)) inside) ∙ lacks))
    by false outside = inner_live_same marks conflicts i d pairs masks live within is outside
