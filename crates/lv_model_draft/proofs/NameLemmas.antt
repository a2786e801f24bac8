-- Items of lists, found by their names.
use Rattle.std.proofs.Common.{◌≡◌, ◌<◌, ◌-◌, ◌^◌, ℕ, Bool, true, false, cond, nat_lt, List, [], ◌∷◌, ◌++◌, map, length, get_or, position, slice_get, Option, None, Some, IfSome, Result, Ok, OnOk, refl, sym, ◌∙◌, ap, subst, arith}
use Rattle.std.specs.Option.{option_and_then, option_map}
use Rattle.std.specs.List.{position_or_len}
use Rattle.std.proofs.lemmas.List.{map-append}
use Rattle.std.proofs.lemmas.Option.{slice_get-map, slice_get-get_or}
use Rattle.lv_base.specs.Names.{is_named}
use Rattle.lv_model.specs.declared.plant.ComponentType.{ComponentType}
use Rattle.lv_model.specs.declared.plant.Variable.{Variable}
use Rattle.lv_model.specs.Names.{variable_named}
use Rattle.lv_model_draft.specs.Places.{place_of, noted, first_places}
use Rattle.lv_model_draft.proofs.PlaceLemmas.{noted_item, place_of_item}
use Rattle.lv_model_draft.specs.Names.{variable_places, variable_at}

-- what holds where a result is one, of a result that is
pub where_ok : {A E : Type 0} (P : Type 0) (r : Result A E) (x : A) → r ≡ Ok x → OnOk r P → P
where_ok P r x is h = subst (λ (q : Result _ _). OnOk q P) is h

-- a place is before the end of a list whose length fits
pub short_place : {X : Type 0} (p : X → Bool) (xs : List X) (r : Option ℕ) (count : ℕ) → r ≡ position p xs → count ≡ length xs → count < 2 ^ 64 → IfSome r (λ n. n < 2 ^ 64 - 1)
short_place p xs None count is counts fits = tt
short_place p xs (Some n) count is counts fits = by (nat_lt (position_or_len p xs) (length xs)) (position_or_len p xs) refl is
  where
    by : (b : Bool) (m : ℕ) → nat_lt m (length xs) ≡ b → Some n ≡ cond b (Some m) None → n < 2 ^ 64 - 1
    by true m below e = let same : n ≡ m = cc e in grind arith
    by false m below e = absurd (cc e)

module _ {T : Type 0} (name : T → List ℕ) where
  pub place_found : (word : List ℕ) (names : List (List ℕ × ℕ)) (xs ys : List T) (r : Option ℕ) → r ≡ place_of word names → names ≡ first_places (map name xs) → xs ≡ ys
      → r ≡ position (λ (x : T). is_named word (name x)) ys
  place_found word names xs ys r is held same = is ∙ ap (place_of word) (held ∙ ap (λ items. first_places (map name items)) same) ∙ place_of_item name word ys

  -- the names of one item more
  pub named_last : (old new : List (List ℕ × ℕ)) (xs ys : List T) (x : T) (word : List ℕ) (place : ℕ) → new ≡ noted old word place → old ≡ first_places (map name xs)
      → word ≡ name x → place ≡ length xs → ys ≡ xs ++ x ∷ [] → new ≡ first_places (map name ys)
  named_last old new xs ys x word place is held same at more =
      is ∙ (λ i. noted (held i) (same i) (at i)) ∙ noted_item name xs x ∙ ap (λ items. first_places (map name items)) (sym more)

-- the tables of one type more
pub tables_last : (old new : List (List (List ℕ × ℕ))) (xs ys : List ComponentType) (t : ComponentType) (table : List (List ℕ × ℕ)) → old ≡ map (λ (t : ComponentType). variable_places t.variables) xs
    → table ≡ variable_places t.variables → new ≡ old ++ table ∷ [] → ys ≡ xs ++ t ∷ [] → new ≡ map (λ (t : ComponentType). variable_places t.variables) ys
tables_last old new xs ys t table held is added more =
    added ∙ (λ i. held i ++ is i ∷ []) ∙ sym (map-append (λ (t : ComponentType). variable_places t.variables) xs (t ∷ [])) ∙ ap (map (λ (t : ComponentType). variable_places t.variables)) (sym more)

-- what is found in the table of the type at a place
pub variable_found : (kind : ℕ) (word : List ℕ) (table : List (List ℕ × ℕ)) (slice tables : List (List (List ℕ × ℕ))) (xs ys : List ComponentType) (r : Option ℕ)
    → kind < length slice → table ≡ get_or slice kind table → slice ≡ tables → tables ≡ map (λ (t : ComponentType). variable_places t.variables) xs → xs ≡ ys
    → r ≡ place_of word table → r ≡ variable_at ys kind word
variable_found kind word table slice tables xs ys r within at seen held same is =
    by (slice_get ys kind)
    (ap Some at ∙ sym (slice_get-get_or slice kind table within) ∙ ap (λ zs. slice_get zs kind) (seen ∙ held ∙ ap (map (λ (t : ComponentType). variable_places t.variables)) same)
    ∙ slice_get-map (λ (t : ComponentType). variable_places t.variables) ys kind)
  where
    by : (o : Option ComponentType) → Some table ≡ option_map (λ (t : ComponentType). variable_places t.variables) o
        → r ≡ option_and_then (λ (t : ComponentType). position (variable_named word) t.variables) o
    by None e = absurd (cc e)
    by (Some t) e =
        let names : table ≡ variable_places t.variables = cc e in
        place_found (λ (v : Variable). v.name) word table t.variables t.variables r is names refl

-- its place is one before the end of that type's variables
pub short_variable : (kind : ℕ) (word : List ℕ) (t : ComponentType) (slice xs ys : List ComponentType) (r : Option ℕ) (count : ℕ)
    → kind < length slice → t ≡ get_or slice kind t → slice ≡ xs → xs ≡ ys → r ≡ variable_at ys kind word → count ≡ length t.variables → count < 2 ^ 64 → IfSome r (λ n. n < 2 ^ 64 - 1)
short_variable kind word t slice xs ys r count within at seen same is counts fits =
    short_place (variable_named word) t.variables r count
    (is ∙ ap (option_and_then (λ (t : ComponentType). position (variable_named word) t.variables))
    (ap (λ zs. slice_get zs kind) (sym (seen ∙ same)) ∙ slice_get-get_or slice kind t within ∙ ap Some (sym at))) counts fits
