-- The cheapest choices of a zone: there are none where there isn't one mask for each slot.
use Rattle.std.proofs.Common.{◌≡◌, ◌≢◌, ◌<◌, ℕ, zero, suc, Bool, true, false, List, [], ◌∷◌, length, Option, Some, None, refl, arith, subst, ◌⊎◌, inl, inr, nat_lt, ◌&&◌, if◌then◌else◌}
use Rattle.std.proofs.lemmas.Bool.{cases_eq, ltb-true}
use Rattle.lv_base.specs.declared.ids.Cost.{Cost}
use Rattle.lv_boxes.specs.Masks.{has_choice}
use Rattle.lv_boxes.specs.Members.{choice_cost}
use Rattle.lv_boxes.specs.Least.{costs_more, cheapest_below, cheapest, put_before, cheapest_choices}

put_before-none : (choice : Option ℕ) → put_before choice None ≡ None
put_before-none None = refl
put_before-none (Some choice) = refl

pub cheapest_choices-unequal : (slots : List (List Cost)) (masks : List ℕ) → length masks ≢ length slots → cheapest_choices slots masks ≡ None
cheapest_choices-unequal [] [] unequal = absurd (unequal refl)
cheapest_choices-unequal [] (mask ∷ masks) unequal = refl
cheapest_choices-unequal (costs ∷ slots) [] unequal = refl
cheapest_choices-unequal (costs ∷ slots) (mask ∷ masks) unequal =
    let rest : length masks ≢ length slots = λ e. unequal (omega (arith, e)) in
    rw (cheapest_choices-unequal slots masks rest) (put_before-none (cheapest costs mask))

-- behind a choice that costs nothing none is cheaper
pub free_stays : (costs : List Cost) (mask n m : ℕ) → choice_cost costs n ≡ 0 → has_choice mask n ≡ true → costs_more costs n (cheapest_below costs mask n) ≡ true
    → n < m → cheapest_below costs mask m ≡ Some n
free_stays costs mask n zero free has more below = absurd (omega (arith, below))
free_stays costs mask n (suc m) free has more below = by (cases_eq n m) (λ past. free_stays costs mask n m free has more past)
  where
    by : (n ≡ m) ⊎ (n ≡ m → ⊥) → (n < m → cheapest_below costs mask m ≡ Some n) → cheapest_below costs mask (suc m) ≡ Some n
    by (inl same) before = subst (λ k. cheapest_below costs mask (suc k) ≡ Some n) same (rw (has, more) refl)
    by (inr other) before = rw (before (omega (arith, below, other)), free) (none_less (has_choice mask m) (nat_lt (choice_cost costs m) 0) (choice_cost costs m) refl)
      where
        none_less : (b less : Bool) (cost : ℕ) → nat_lt cost 0 ≡ less → (if b && less then Some m else Some n) ≡ Some n
        none_less true true cost is = let less : cost < 0 = ltb-true cost 0 is in absurd (omega (arith, less))
        none_less true false cost is = refl
        none_less false less cost is = refl
