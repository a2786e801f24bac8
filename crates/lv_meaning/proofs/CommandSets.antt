-- Exactly the command sets are listed.
use Rattle.std.proofs.Common.{◌≡◌, ℕ, zero, suc, Bool, true, false, nat_lt, List, [], ◌∷◌, map, Contains, inl, inr, ⊎_elim, refl, sym, subst, ◌∙◌, ap, arith}
use Rattle.std.proofs.lemmas.Bool.{and_parts, and_from}
use Rattle.std.specs.Cmp.Lexicographic.{pointwise}
use Rattle.lv_base.specs.declared.rank.Rank.{Rank}
use Rattle.lv_model.specs.declared.plant.Plant.{Plant}
use Rattle.lv_model.specs.Lists.{controls}
use Rattle.lv_boxes.specs.Ranked.{rises}
use Rattle.lv_boxes.proofs.RankedLemmas.{rises_ranked}
use Rattle.lv_meaning.proofs.Among.{Among, among, contained, FromNumber, from_number, among_flat}
use Rattle.lv_meaning.proofs.Listing.{same_rank, put_has, put_adds}
use Rattle.lv_meaning.specs.Commands.{control_sizes, is_command_set, numbers_below, lists_below, commands_cost, command_rank, command_sets}
use Rattle.lv_meaning.specs.RecoveryLaws.{IsCommandSet}

listed_number : (n k : ℕ) → nat_lt k n ≡ true → Among k (numbers_below n)
listed_number zero k below = absurd (grind (arith, below))
listed_number (suc n) k below = by (nat_lt k n) refl (listed_number n k)
  where
    by : (b : Bool) → nat_lt k n ≡ b → (nat_lt k n ≡ true → Among k (numbers_below n)) → Among k (n ∷ numbers_below n)
    by true e rest = inr (rest e)
    by false e rest = inl (grind (arith, e, below))

number_is_below : (n k : ℕ) → Among k (numbers_below n) → nat_lt k n ≡ true
number_is_below zero k h = absurd h
number_is_below (suc n) k (inl e) = grind (arith, e)
number_is_below (suc n) k (inr h) = let below : nat_lt k n ≡ true = number_is_below n k h in grind (arith, below)

module _ {X Y : Type 0} (f : X → Y) where
  pub among_map : (xs : List X) (x : X) → Among x xs → Among (f x) (map f xs)
  among_map [] x h = absurd h
  among_map (z ∷ xs) x (inl e) = inl (ap f e)
  among_map (z ∷ xs) x (inr h) = inr (among_map xs x h)

  -- an item of the list of what the items give
  pub record FromItem (xs : List X) (y : Y) : Type 0 where
    pub item : X
    pub listed : Among item xs
    pub is : y ≡ f item

  pub from_item : (xs : List X) (y : Y) → Among y (map f xs) → FromItem xs y
  from_item [] y h = absurd h
  from_item (x ∷ xs) y (inl e) = record { item = x; listed = inl refl; is = e }
  from_item (x ∷ xs) y (inr h) = let r : FromItem xs y = from_item xs y h in record { item = r.item; listed = inr r.listed; is = r.is }

abbrev with_rest : List ℕ → ℕ → List (List ℕ)
with_rest ns v = map (λ vs. v ∷ vs) (lists_below ns)

pub list_listed : (ns vs : List ℕ) → pointwise nat_lt vs ns ≡ true → Among vs (lists_below ns)
list_listed [] [] h = inl refl
list_listed [] (v ∷ vs) h = absurd (cc h)
list_listed (n ∷ ns) [] h = absurd (cc h)
list_listed (n ∷ ns) (v ∷ vs) h =
    among_flat (with_rest ns) (numbers_below n) v (v ∷ vs) (listed_number n v ((and_parts (nat_lt v n) (pointwise nat_lt vs ns) h).0))
    (among_map (λ (xs : List ℕ). v ∷ xs) (lists_below ns) vs (list_listed ns vs ((and_parts (nat_lt v n) (pointwise nat_lt vs ns) h).1)))

pub list_is_below : (ns vs : List ℕ) → Among vs (lists_below ns) → pointwise nat_lt vs ns ≡ true
list_is_below [] vs (inl e) = ap (λ (xs : List ℕ). pointwise nat_lt xs []) e
list_is_below [] vs (inr h) = absurd h
list_is_below (n ∷ ns) vs h =
    let from : FromNumber (with_rest ns) (numbers_below n) vs = from_number (with_rest ns) (numbers_below n) vs h in
    let v : ℕ = from.number in
    let rest : FromItem (λ (xs : List ℕ). v ∷ xs) (lists_below ns) vs = from_item (λ (xs : List ℕ). v ∷ xs) (lists_below ns) vs from.item in
    ap (λ (xs : List ℕ). pointwise nat_lt xs (n ∷ ns)) rest.is
    ∙ and_from (nat_lt v n) (pointwise nat_lt rest.item ns) (number_is_below n v from.listed) (list_is_below ns rest.item rest.listed)

module _ (plant : Plant) where
  pub sets_rise : rises (command_sets plant) ≡ true
  sets_rise = rises_ranked (map (command_rank plant) (lists_below (control_sizes plant)))

  pub set_among : (r : Rank) → IsCommandSet plant r → Among r (command_sets plant)
  set_among r is =
      let same : r ≡ command_rank plant r.choices = same_rank r (command_rank plant r.choices) is.cost is.source refl in
      put_has (map (command_rank plant) (lists_below (control_sizes plant))) [] r
      (subst (λ (x : Rank). Among x (map (command_rank plant) (lists_below (control_sizes plant)))) (sym same)
      (among_map (command_rank plant) (lists_below (control_sizes plant)) r.choices (list_listed (control_sizes plant) r.choices is.values)))

  pub among_is_set : (r : Rank) → Among r (command_sets plant) → IsCommandSet plant r
  among_is_set r h =
      let all : List (List ℕ) = lists_below (control_sizes plant) in
      let from : FromItem (command_rank plant) all r = from_item (command_rank plant) all r (⊎_elim (λ none. absurd none) (λ a. a) (put_adds (map (command_rank plant) all) [] r h)) in
      let choices : r.choices ≡ from.item = ap (λ (x : Rank). x.choices) from.is in
      record {
        values = ap (λ (xs : List ℕ). is_command_set plant xs) choices ∙ list_is_below (control_sizes plant) from.item from.listed;
        cost = ap (λ (x : Rank). x.cost.0) from.is ∙ ap (λ (xs : List ℕ). commands_cost plant (controls plant) xs) (sym choices);
        source = ap (λ (x : Rank). x.source) from.is;
      }

  pub set_is_listed : (r : Rank) → IsCommandSet plant r → Contains (command_sets plant) r
  set_is_listed r is = contained (command_sets plant) r (set_among r is)

  pub listed_is_set : (r : Rank) → Contains (command_sets plant) r → IsCommandSet plant r
  listed_is_set r h = among_is_set r (among (command_sets plant) r h)
