-- The first cheapest choice of each slot together are the member that ranks first.
use Rattle.std.proofs.Common.{◌≡◌, ◌⊎◌, inl, inr, ℕ, zero, suc, ◌+◌, ◌<◌, ◌≤◌, Bool, true, false, not, nat_lt, ◌&&◌, ◌||◌, if◌then◌else◌, List, [], ◌∷◌, length, Option, Some, None, refl, arith}
use Rattle.std.specs.Option.{option_map}
use Rattle.std.proofs.lemmas.Bool.{cases_eq, cases_lt}
use Rattle.lv_base.specs.declared.ids.Cost.{Cost}
use Rattle.lv_base.specs.declared.search.Candidate.{Candidate}
use Rattle.lv_base.specs.Order.{comes_before}
use Rattle.lv_base.specs.Rank.{ranks_before}
use Rattle.lv_boxes.specs.Masks.{has_choice}
use Rattle.lv_boxes.specs.Members.{ZoneValue, is_left, are_left, is_member, choice_cost, choices_cost, rank_in}
use Rattle.lv_boxes.specs.Least.{has_left_from, lacks_choice, IsLeastMember, IsLeastCost, costs_more, cheapest_below, cheapest, put_before, cheapest_choices}

-- of the choices below n that the mask has none is cheaper, and none before it is as cheap
record IsFirst (costs : List Cost) (mask n choice : ℕ) : Type 0 where
  has : has_choice mask choice ≡ true
  below : choice < n
  cheap : (other : ℕ) → other < n → has_choice mask other ≡ true → choice_cost costs choice ≤ choice_cost costs other
  first : (other : ℕ) → other < choice → has_choice mask other ≡ true → choice_cost costs choice < choice_cost costs other

abbrev FirstTells : List Cost → ℕ → ℕ → Option ℕ → Type 0
FirstTells costs mask n None = (other : ℕ) → other < n → has_choice mask other ≡ false
FirstTells costs mask n (Some choice) = IsFirst costs mask n choice

contradiction : (b : Bool) → b ≡ true → b ≡ false → ⊥
contradiction b p q = cc

step_none : (costs : List Cost) (mask n : ℕ) (has : Bool) → has_choice mask n ≡ has → FirstTells costs mask n None
    → FirstTells costs mask (suc n) (if has && true then Some n else None)
step_none costs mask n true here t =
    record {
      has = here;
      below = omega arith;
      cheap = λ other h k. by other h k (cases_lt other n);
      first = λ other h k. absurd (contradiction _ k (t other h));
    }
  where
    by : (other : ℕ) → other < suc n → has_choice mask other ≡ true → (other < n) ⊎ (n ≤ other) → choice_cost costs n ≤ choice_cost costs other
    by other h k (inl l) = absurd (contradiction _ k (t other l))
    by other h k (inr l) = let same : other ≡ n = omega arith in rw same (omega arith)
step_none costs mask n false here t = λ other h. by other h (cases_lt other n)
  where
    by : (other : ℕ) → other < suc n → (other < n) ⊎ (n ≤ other) → has_choice mask other ≡ false
    by other h (inl l) = t other l
    by other h (inr l) = let same : other ≡ n = omega arith in rw same here

step_some : (costs : List Cost) (mask n choice : ℕ) (has less : Bool) → has_choice mask n ≡ has → nat_lt (choice_cost costs n) (choice_cost costs choice) ≡ less
    → IsFirst costs mask n choice → FirstTells costs mask (suc n) (if has && less then Some n else Some choice)
step_some costs mask n choice true true here less t =
    record {
      has = here;
      below = omega arith;
      cheap = λ other h k. by other h k (cases_lt other n);
      first = λ other h k. let far : choice_cost costs choice ≤ choice_cost costs other = t.cheap other h k in grind arith;
    }
  where
    by : (other : ℕ) → other < suc n → has_choice mask other ≡ true → (other < n) ⊎ (n ≤ other) → choice_cost costs n ≤ choice_cost costs other
    by other h k (inl l) = let far : choice_cost costs choice ≤ choice_cost costs other = t.cheap other l k in grind arith
    by other h k (inr l) = let same : other ≡ n = omega arith in rw same (omega arith)
step_some costs mask n choice true false here less t =
    record {
      has = t.has;
      below = let l : choice < n = t.below in omega arith;
      cheap = λ other h k. by other h k (cases_lt other n);
      first = t.first;
    }
  where
    by : (other : ℕ) → other < suc n → has_choice mask other ≡ true → (other < n) ⊎ (n ≤ other) → choice_cost costs choice ≤ choice_cost costs other
    by other h k (inl l) = t.cheap other l k
    by other h k (inr l) = let same : other ≡ n = omega arith in rw same (grind arith)
step_some costs mask n choice false less here _ t =
    record {
      has = t.has;
      below = let l : choice < n = t.below in omega arith;
      cheap = λ other h k. by other h k (cases_lt other n);
      first = t.first;
    }
  where
    by : (other : ℕ) → other < suc n → has_choice mask other ≡ true → (other < n) ⊎ (n ≤ other) → choice_cost costs choice ≤ choice_cost costs other
    by other h k (inl l) = t.cheap other l k
    by other h k (inr l) = let same : other ≡ n = omega arith in absurd (contradiction _ k (rw same here))

step : (costs : List Cost) (mask n : ℕ) (before : Option ℕ) → FirstTells costs mask n before
    → FirstTells costs mask (suc n) (if has_choice mask n && costs_more costs n before then Some n else before)
step costs mask n None t = step_none costs mask n (has_choice mask n) refl t
step costs mask n (Some choice) t = step_some costs mask n choice (has_choice mask n) (nat_lt (choice_cost costs n) (choice_cost costs choice)) refl refl t

first_told : (costs : List Cost) (mask n : ℕ) → FirstTells costs mask n (cheapest_below costs mask n)
first_told costs mask zero = λ other h. absurd (omega arith)
first_told costs mask (suc n) = step costs mask n (cheapest_below costs mask n) (first_told costs mask n)

has_left_none : (n : ℕ) (costs : List Cost) (mask : ℕ) → ((choice : ℕ) → choice < n + length costs → has_choice mask choice ≡ false) → has_left_from n costs mask ≡ false
has_left_none n [] mask none = refl
has_left_none n (cost ∷ costs) mask none =
    rw (none n (omega arith), has_left_none (n + 1) costs mask (λ choice h. none choice (omega arith))) refl

or_true : (b : Bool) → (b || true) ≡ true
or_true true = refl
or_true false = refl

has_left_some : (n : ℕ) (costs : List Cost) (mask choice : ℕ) → n ≤ choice → choice < n + length costs → has_choice mask choice ≡ true → has_left_from n costs mask ≡ true
has_left_some n [] mask choice from below has = absurd (omega arith)
has_left_some n (cost ∷ costs) mask choice from below has =
    by (cases_eq choice n) (λ past. has_left_some (n + 1) costs mask choice past (omega arith) has)
  where
    by : (choice ≡ n) ⊎ (choice ≡ n → ⊥) → (n + 1 ≤ choice → has_left_from (n + 1) costs mask ≡ true) → (has_choice mask n || has_left_from (n + 1) costs mask) ≡ true
    by (inl same) later = let here : has_choice mask n ≡ true = rw same at has in rw here refl
    by (inr other) later = let there : has_left_from (n + 1) costs mask ≡ true = later (omega arith) in rw there (or_true (has_choice mask n))

-- choices that are left, and of all that are left none are cheaper together, nor as cheap and before them
record IsLeast (slots : List (List Cost)) (masks choices : List ℕ) : Type 0 where
  left : are_left slots masks choices ≡ true
  cheap : (others : List ℕ) → are_left slots masks others ≡ true → choices_cost slots choices ≤ choices_cost slots others
  first : (others : List ℕ) → are_left slots masks others ≡ true → choices_cost slots others ≡ choices_cost slots choices → comes_before others choices ≡ false

abbrev LeastTells : List (List Cost) → List ℕ → Option (List ℕ) → Type 0
LeastTells slots masks None = lacks_choice slots masks ≡ true
LeastTells slots masks (Some choices) = (lacks_choice slots masks ≡ false) × IsLeast slots masks choices

nil_least : IsLeast [] [] []
nil_least = record { left = refl; cheap = λ others h. omega arith; first = first }
  where
    first : (others : List ℕ) → are_left [] [] others ≡ true → choices_cost [] others ≡ choices_cost [] [] → comes_before others [] ≡ false
    first [] h e = refl
    first (other ∷ others) h e = refl

cons_least : (costs : List Cost) (mask choice : ℕ) (slots : List (List Cost)) (masks choices : List ℕ)
    → IsFirst costs mask (length costs) choice → IsLeast slots masks choices → IsLeast (costs ∷ slots) (mask ∷ masks) (choice ∷ choices)
cons_least costs mask choice slots masks choices t l = record { left = left; cheap = cheap; first = first }
  where
    left : are_left (costs ∷ slots) (mask ∷ masks) (choice ∷ choices) ≡ true
    left = let below : choice < length costs = t.below in rw (t.has, l.left) (grind arith)

    cheap : (others : List ℕ) → are_left (costs ∷ slots) (mask ∷ masks) others ≡ true → choices_cost (costs ∷ slots) (choice ∷ choices) ≤ choices_cost (costs ∷ slots) others
    cheap [] h = absurd (cc)
    cheap (other ∷ others) h =
        let within : other < length costs = grind arith in
        let here : has_choice mask other ≡ true = grind arith in
        let rest : are_left slots masks others ≡ true = grind arith in
        let one : choice_cost costs choice ≤ choice_cost costs other = t.cheap other within here in
        let all : choices_cost slots choices ≤ choices_cost slots others = l.cheap others rest in
        omega arith

    first : (others : List ℕ) → are_left (costs ∷ slots) (mask ∷ masks) others ≡ true → choices_cost (costs ∷ slots) others ≡ choices_cost (costs ∷ slots) (choice ∷ choices) → comes_before others (choice ∷ choices) ≡ false
    first [] h e = absurd (cc)
    first (other ∷ others) h e =
        let within : other < length costs = grind arith in
        let here : has_choice mask other ≡ true = grind arith in
        let rest : are_left slots masks others ≡ true = grind arith in
        let one : choice_cost costs choice ≤ choice_cost costs other = t.cheap other within here in
        let all : choices_cost slots choices ≤ choices_cost slots others = l.cheap others rest in
        let same : choices_cost slots others ≡ choices_cost slots choices = omega arith in
        let later : comes_before others choices ≡ false = l.first others rest same in
        let alike : choice_cost costs other ≡ choice_cost costs choice = omega arith in
        by other (cases_lt other choice) alike (λ before. t.first other before here) later
      where
        by : (other : ℕ) → (other < choice) ⊎ (choice ≤ other) → choice_cost costs other ≡ choice_cost costs choice
            → (other < choice → choice_cost costs choice < choice_cost costs other) → comes_before others choices ≡ false → comes_before (other ∷ others) (choice ∷ choices) ≡ false
        by other (inl before) alike dearer later =
            let far : choice_cost costs choice < choice_cost costs other = dearer before in
            absurd (omega arith)
        by other (inr past) alike dearer later = rw later (grind arith)

joined : (costs : List Cost) (mask : ℕ) (slots : List (List Cost)) (masks : List ℕ) (choice : Option ℕ) (choices : Option (List ℕ))
    → FirstTells costs mask (length costs) choice → LeastTells slots masks choices → LeastTells (costs ∷ slots) (mask ∷ masks) (put_before choice choices)
joined costs mask slots masks None choices t l =
    let none : has_left_from 0 costs mask ≡ false = has_left_none 0 costs mask (λ other h. t other (omega arith)) in
    rw none refl
joined costs mask slots masks (Some choice) None t l = rw l (or_true (not (has_left_from 0 costs mask)))
joined costs mask slots masks (Some choice) (Some choices) t l =
    let below : choice < length costs = t.below in
    let some : has_left_from 0 costs mask ≡ true = has_left_some 0 costs mask choice (omega arith) (omega arith) t.has in
    (rw (some, l.0) refl, cons_least costs mask choice slots masks choices t l.1)

least_told : (slots : List (List Cost)) (masks : List ℕ) → LeastTells slots masks (cheapest_choices slots masks)
least_told [] [] = (refl, nil_least)
least_told [] (mask ∷ masks) = refl
least_told (costs ∷ slots) [] = refl
least_told (costs ∷ slots) (mask ∷ masks) =
    joined costs mask slots masks (cheapest costs mask) (cheapest_choices slots masks) (first_told costs mask (length costs)) (least_told slots masks)

-- no member of the zone ranks before its least
least_member : (slots : List (List Cost)) (zone : ZoneValue) (choices : List ℕ) → IsLeast slots zone.masks choices → IsLeastMember slots zone choices
least_member slots zone choices l = record { member = rw l.left (grind arith); first = first }
  where
    first : (other : Candidate) → is_member slots zone other ≡ true → ranks_before (rank_in slots zone other.choices) (rank_in slots zone choices) ≡ false
    first other h =
        let left : are_left slots zone.masks other.choices ≡ true = grind arith in
        let cheap : choices_cost slots choices ≤ choices_cost slots other.choices = l.cheap other.choices left in
        let last : choices_cost slots other.choices ≡ choices_cost slots choices → comes_before other.choices choices ≡ false = l.first other.choices left in
        by (cases_eq (choices_cost slots other.choices) (choices_cost slots choices)) cheap last
      where
        by : (choices_cost slots other.choices ≡ choices_cost slots choices) ⊎ (choices_cost slots other.choices ≡ choices_cost slots choices → ⊥)
            → choices_cost slots choices ≤ choices_cost slots other.choices
            → (choices_cost slots other.choices ≡ choices_cost slots choices → comes_before other.choices choices ≡ false)
            → ranks_before (rank_in slots zone other.choices) (rank_in slots zone choices) ≡ false
        by (inl same) cheap last = rw (last same) (grind arith)
        by (inr apart) cheap last = grind arith

-- what the sum of the cheapest choices tells of a zone
pub sum_none : (slots : List (List Cost)) (masks : List ℕ) → None ≡ option_map (choices_cost slots) (cheapest_choices slots masks) → lacks_choice slots masks ≡ true
sum_none slots masks e = by (cheapest_choices slots masks) (least_told slots masks) e
  where
    by : (choices : Option (List ℕ)) → LeastTells slots masks choices → None ≡ option_map (choices_cost slots) choices → lacks_choice slots masks ≡ true
    by None t e = t
    by (Some choices) t e = absurd (cc)

pub sum_some : (slots : List (List Cost)) (masks : List ℕ) (cost : ℕ) → Some cost ≡ option_map (choices_cost slots) (cheapest_choices slots masks) → lacks_choice slots masks ≡ false
sum_some slots masks cost e = by (cheapest_choices slots masks) (least_told slots masks) e
  where
    by : (choices : Option (List ℕ)) → LeastTells slots masks choices → Some cost ≡ option_map (choices_cost slots) choices → lacks_choice slots masks ≡ false
    by None t e = absurd (cc)
    by (Some choices) t e = t.0

pub sum_is_least_cost : (slots : List (List Cost)) (zone : ZoneValue) (cost : ℕ) → Some cost ≡ option_map (choices_cost slots) (cheapest_choices slots zone.masks)
    → IsLeastCost slots zone (record { 0 = zone.base.0 + cost })
sum_is_least_cost slots zone cost e = by (cheapest_choices slots zone.masks) (least_told slots zone.masks) e
  where
    by : (choices : Option (List ℕ)) → LeastTells slots zone.masks choices → Some cost ≡ option_map (choices_cost slots) choices → IsLeastCost slots zone (record { 0 = zone.base.0 + cost })
    by None t e = absurd (cc)
    by (Some choices) t e =
        let same : choices_cost slots choices ≡ cost = cc in
        record { choices = choices; least = least_member slots zone choices t.1; costs = rw same refl }

pub written_is_least : (slots : List (List Cost)) (zone : ZoneValue) (out : List ℕ) → Some out ≡ cheapest_choices slots zone.masks → IsLeastMember slots zone out
written_is_least slots zone out e = least_member slots zone out (rw (← e) at (least_told slots zone.masks)).1

pub written_costs : (slots : List (List Cost)) (masks : List ℕ) (cost : ℕ) (out : List ℕ) → Some cost ≡ option_map (choices_cost slots) (cheapest_choices slots masks)
    → Some out ≡ cheapest_choices slots masks → cost ≡ choices_cost slots out
written_costs slots masks cost out e w = let sum : Some cost ≡ option_map (choices_cost slots) (Some out) = rw (← w) at e in cc

-- without a choice at some slot no choices are left
pub lacks_choice-none : (slots : List (List Cost)) (masks choices : List ℕ) → lacks_choice slots masks ≡ true → are_left slots masks choices ≡ false
lacks_choice-none [] [] choices h = absurd (cc h)
lacks_choice-none [] (mask ∷ masks) [] h = refl
lacks_choice-none [] (mask ∷ masks) (choice ∷ choices) h = refl
lacks_choice-none (costs ∷ slots) [] [] h = refl
lacks_choice-none (costs ∷ slots) [] (choice ∷ choices) h = refl
lacks_choice-none (costs ∷ slots) (mask ∷ masks) [] h = refl
lacks_choice-none (costs ∷ slots) (mask ∷ masks) (choice ∷ choices) h =
    by (has_left_from 0 costs mask) (lacks_choice slots masks) (is_left costs mask choice) (are_left slots masks choices) h some (lacks_choice-none slots masks choices)
  where
    some : is_left costs mask choice ≡ true → has_left_from 0 costs mask ≡ true
    some l =
        let below : choice < length costs = grind arith in
        let has : has_choice mask choice ≡ true = grind arith in
        has_left_some 0 costs mask choice (omega arith) (omega arith) has

    by : (has lacks here rest : Bool) → (not has || lacks) ≡ true → (here ≡ true → has ≡ true) → (lacks ≡ true → rest ≡ false) → (here && rest) ≡ false
    by has lacks false rest h p q = refl
    by has lacks true rest h p q = let there : has ≡ true = p refl in let l : lacks ≡ true = rw there at h in q l

pub has_least : (slots : List (List Cost)) (zone : ZoneValue) → lacks_choice slots zone.masks ≡ false → (choices : List ℕ) × IsLeastMember slots zone choices
has_least slots zone h = by (cheapest_choices slots zone.masks) (least_told slots zone.masks)
  where
    by : (choices : Option (List ℕ)) → LeastTells slots zone.masks choices → (choices : List ℕ) × IsLeastMember slots zone choices
    by None t = absurd (contradiction _ t h)
    by (Some choices) t = (choices, least_member slots zone choices t.1)
