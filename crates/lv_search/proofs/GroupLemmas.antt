-- Having the same groups: each candidate has its own, and it passes on.
use Rattle.std.proofs.Common.{◌≡◌, ℕ, ◌||◌, Bool, true, false, nat_eq, List, [], ◌∷◌, ◌++◌, ⊎_elim, refl, ◌∙◌}
use Rattle.std.specs.Prelude.{Option, Some, None}
use Rattle.std.specs.List.{list_any}
use Rattle.std.specs.Cmp.Lexicographic.{pointwise}
use Rattle.std.proofs.lemmas.Bool.{and_from, and_parts, or_left, or_right, or_cases, eqb-true, eq-eqb}
use Rattle.std.proofs.lemmas.List.Folds.{list_any-append}
use Rattle.lv_base.specs.declared.rank.Rank.{Rank}
use Rattle.lv_boxes.specs.WalkLaws.{IsTransitive}
use Rattle.lv_boxes.specs.Walk.{none_alike}
use Rattle.lv_boxes.specs.Groups.{groups_of, have_same_groups, alike_by}

same_numbers : (xs : List ℕ) → pointwise nat_eq xs xs ≡ true
same_numbers [] = refl
same_numbers (x ∷ xs) = and_from (nat_eq x x) (pointwise nat_eq xs xs) (eq-eqb x x refl) (same_numbers xs)

joined : (xs ys zs : List ℕ) → pointwise nat_eq xs ys ≡ true → pointwise nat_eq ys zs ≡ true → pointwise nat_eq xs zs ≡ true
joined [] [] [] h k = refl
joined [] [] (z ∷ zs) h k = absurd (cc k)
joined [] (y ∷ ys) zs h k = absurd (cc h)
joined (x ∷ xs) [] zs h k = absurd (cc h)
joined (x ∷ xs) (y ∷ ys) [] h k = absurd (cc k)
joined (x ∷ xs) (y ∷ ys) (z ∷ zs) h k =
    let one = and_parts (nat_eq x y) (pointwise nat_eq xs ys) h in
    let two = and_parts (nat_eq y z) (pointwise nat_eq ys zs) k in
    and_from (nat_eq x z) (pointwise nat_eq xs zs) (eq-eqb x z (eqb-true x y one.0 ∙ eqb-true y z two.0)) (joined xs ys zs one.1 two.1)

pub has_own_groups : (groups : List (List ℕ)) (choices : List ℕ) → have_same_groups groups choices choices ≡ true
has_own_groups groups choices = same_numbers (groups_of groups choices)

pub groups_join : (groups : Option (List (List ℕ))) → IsTransitive (alike_by groups)
groups_join None r q p h k = h
groups_join (Some groups) r q p h k = joined (groups_of groups r.choices) (groups_of groups q.choices) (groups_of groups p.choices) h k

-- without groups none is alike a listed one
pub none_listed : (r : Rank) (listed : List Rank) → list_any (none_alike r) listed ≡ false
none_listed r [] = refl
none_listed r (q ∷ qs) = none_listed r qs

module _ (alike : Rank → Rank → Bool) where
  -- what is alike an entry is alike the listed one that the entry is alike
  pub alike_listed : IsTransitive alike → (q r : Rank) (listed : List Rank) → alike q r ≡ true → list_any (alike r) listed ≡ true → list_any (alike q) listed ≡ true
  alike_listed join q r [] e some = absurd (cc some)
  alike_listed join q r (p ∷ ps) e some =
      ⊎_elim (λ h. or_left (alike q p) (list_any (alike q) ps) (join q r p e h))
      (λ h. or_right (alike q p) (list_any (alike q) ps) (alike_listed join q r ps e h))
      (or_cases (alike r p) (list_any (alike r) ps) some)

  pub alike_last : (q r : Rank) (listed : List Rank) → alike q r ≡ true → list_any (alike q) (listed ++ (r ∷ [])) ≡ true
  alike_last q r listed e = list_any-append (alike q) listed (r ∷ []) ∙ or_right (list_any (alike q) listed) (alike q r || false) (or_left (alike q r) false e)
