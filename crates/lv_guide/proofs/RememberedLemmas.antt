-- What was found of a part by the conflicts known then is so by all that are known now, where it contains none of those between.
use Rattle.std.proofs.Common.{◌≡◌, ℕ, ◌≤◌, Bool, true, false, not, ◌||◌, List, [], ◌∷◌, ◌++◌, map, filter, length, take, drop, arith, refl, sym, ◌∙◌, ap, ap₂, subst}
use Rattle.std.specs.Prelude.{Option, Some, None, IfSome, is_none}
use Rattle.std.specs.List.{list_all}
use Rattle.std.proofs.lemmas.Bool.{and_from, and_parts, not-true, false_from_ne_true}
use Rattle.std.proofs.lemmas.List.{map-append, length-append, take-append-drop, take-append-le}
use Rattle.std.proofs.lemmas.List.Elements.{filter-append, All-nil, All-cons, All-weaker}
use Rattle.std.proofs.lemmas.List.Folds.{list_any-append}
use Rattle.lv_base.specs.declared.ids.Cost.{Cost}
use Rattle.lv_base.specs.declared.search.Pair.{Pair}
use Rattle.lv_base.specs.Choices.{contains_all}
use Rattle.lv_boxes.specs.Members.{are_left}
use Rattle.lv_boxes.specs.Walk.{is_ruled_out}
use Rattle.lv_search_parts.specs.Slots.{is_inside, pair_in}
use Rattle.lv_search_parts.specs.Parts.{inner_of}
use Rattle.lv_search_guide.specs.declared.look.Member.{Member}
use Rattle.lv_guide.specs.declared.remembered.Part.{Part}
use Rattle.lv_guide.specs.declared.remembered.Found.{Found}
use Rattle.lv_search_bans.specs.Boxes.{is_free}
use Rattle.lv_search_guide.specs.Lowest.{LowestTells}
use Rattle.lv_guide.specs.Remembered.{IsTrueBy, AreTrueBy, IsFoundOf, HoldsBy}
use Rattle.lv_search_bans.proofs.BoxLemmas.{free_is_left, free_from}

clash : (b : Bool) → b ≡ true → b ≡ false → ⊥
clash b p q = cc

-- the choices contain one of all these conflicts where they contain one of the first, or one of the others
ruled_apart : (marks : List Bool) (conflicts : List (List Pair)) (n : ℕ) (xs : List ℕ)
    → is_ruled_out (inner_of marks conflicts) xs ≡ (is_ruled_out (inner_of marks (take n conflicts)) xs || is_ruled_out (inner_of marks (drop n conflicts)) xs)
ruled_apart marks conflicts n xs =
    ap (λ (ks : List (List Pair)). is_ruled_out (inner_of marks ks) xs) (sym (take-append-drop n conflicts))
    ∙ ap (λ (ks : List (List Pair)). is_ruled_out (map inside ks) xs) (filter-append (is_inside marks) (take n conflicts) (drop n conflicts))
    ∙ ap (λ (ks : List (List Pair)). is_ruled_out ks xs) (map-append inside (filter (is_inside marks) (take n conflicts)) (filter (is_inside marks) (drop n conflicts)))
    ∙ list_any-append (contains_all xs) (inner_of marks (take n conflicts)) (inner_of marks (drop n conflicts))
  where
    inside : List Pair → List Pair
    inside pairs = map (pair_in marks) pairs

unruled_first : (all old new : Bool) → all ≡ (old || new) → all ≡ false → old ≡ false
unruled_first all true new is out = absurd (cc (is, out))
unruled_first all false new is out = refl

unruled_both : (all old new : Bool) → all ≡ (old || new) → old ≡ false → new ≡ false → all ≡ false
unruled_both all old new is first rest = is ∙ ap₂ (λ (a b : Bool). a || b) first rest

free_by_first : (slots : List (List Cost)) (marks : List Bool) (conflicts : List (List Pair)) (n : ℕ) (masks xs : List ℕ) → is_free slots (inner_of marks conflicts) masks xs ≡ true
    → is_free slots (inner_of marks (take n conflicts)) masks xs ≡ true
free_by_first slots marks conflicts n masks xs free =
    let parts = and_parts (are_left slots masks xs) (not (is_ruled_out (inner_of marks conflicts) xs)) free in
    and_from (are_left slots masks xs) (not (is_ruled_out (inner_of marks (take n conflicts)) xs)) parts.0
    (ap not (unruled_first _ _ _ (ruled_apart marks conflicts n xs) (not-true (is_ruled_out (inner_of marks conflicts) xs) parts.1)))

still_lowest : (slots : List (List Cost)) (marks : List Bool) (conflicts : List (List Pair)) (n : ℕ) (masks : List ℕ) (first : Option Member) → LowestTells slots (inner_of marks (take n conflicts)) masks first
    → IfSome first (λ (member : Member). are_left slots masks member.choices ≡ true → is_ruled_out (inner_of marks (drop n conflicts)) member.choices ≡ false)
    → LowestTells slots (inner_of marks conflicts) masks first
still_lowest slots marks conflicts n masks None t clear =
    record { none = λ xs. false_from_ne_true (is_free slots (inner_of marks conflicts) masks xs) (λ free. clash _ (free_by_first slots marks conflicts n masks xs free) (t.none xs)) }
still_lowest slots marks conflicts n masks (Some member) t clear =
    record {
      cheapest = record {
        free = free;
        costs = t.cheapest.costs;
        least = record { least = λ xs h. t.cheapest.least.least xs (free_by_first slots marks conflicts n masks xs h) };
      };
      first = λ xs h even. t.first xs (free_by_first slots marks conflicts n masks xs h) even;
    }
  where
    left : are_left slots masks member.choices ≡ true
    left = free_is_left slots (inner_of marks (take n conflicts)) masks member.choices t.cheapest.free

    out : is_ruled_out (inner_of marks (take n conflicts)) member.choices ≡ false
    out = not-true _ (and_parts (are_left slots masks member.choices) (not (is_ruled_out (inner_of marks (take n conflicts)) member.choices)) t.cheapest.free).1

    free : is_free slots (inner_of marks conflicts) masks member.choices ≡ true
    free = free_from slots (inner_of marks conflicts) masks member.choices left (unruled_both _ _ _ (ruled_apart marks conflicts n member.choices) out (clear left))

-- what is remembered of a part, where it still holds
pub recalled_is : (conflicts : List (List Pair)) (part : Part) (found : Found) (first : Option Member) → IsFoundOf conflicts part found → HoldsBy (drop found.known conflicts) part found.first → first ≡ found.first
    → LowestTells part.grid (inner_of part.marks conflicts) part.masks first
recalled_is conflicts part found first of holds first_is =
    subst (λ (answer : Option Member). LowestTells part.grid (inner_of part.marks conflicts) part.masks answer) (sym first_is)
    (still_lowest part.grid part.marks conflicts found.known part.masks found.first
    (subst (λ (p : Part). LowestTells p.grid (inner_of p.marks (take found.known conflicts)) p.masks found.first) of.same of.so.first)
    holds.clear)

-- what is true by some conflicts is so with one more
still_true : (conflicts : List (List Pair)) (more : List (List Pair)) (found : Found) → IsTrueBy conflicts found → IsTrueBy (conflicts ++ more) found
still_true conflicts more found t =
    record {
      known = longer;
      first = subst (λ (ks : List (List Pair)). LowestTells found.part.grid (inner_of found.part.marks ks) found.part.masks found.first) (sym (take-append-le found.known conflicts more t.known)) t.first;
    }
  where
    longer : found.known ≤ length (conflicts ++ more)
    longer = let k = t.known in let l = length-append conflicts more in omega (arith, k, l)

pub still_all_true : (conflicts more : List (List Pair)) (rows : List (Option Found)) → AreTrueBy conflicts rows → AreTrueBy (conflicts ++ more) rows
still_all_true conflicts more rows t = All-weaker (λ (row : Option Found). IfSome row (IsTrueBy conflicts)) (λ (row : Option Found). IfSome row (IsTrueBy (conflicts ++ more))) by rows t
  where
    by : (row : Option Found) → IfSome row (IsTrueBy conflicts) → IfSome row (IsTrueBy (conflicts ++ more))
    by None u = u
    by (Some found) u = still_true conflicts more found u

-- rows in which nothing is kept
pub none_true : (conflicts : List (List Pair)) (rows : List (Option Found)) → list_all is_none rows ≡ true → AreTrueBy conflicts rows
none_true conflicts [] none = All-nil (λ (row : Option Found). IfSome row (IsTrueBy conflicts))
none_true conflicts (None ∷ rows) none = All-cons (λ (row : Option Found). IfSome row (IsTrueBy conflicts)) None rows (tt {0}) (none_true conflicts rows none)
none_true conflicts (Some found ∷ rows) none = absurd (cc none)
