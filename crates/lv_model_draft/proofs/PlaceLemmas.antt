-- The first places of a list's names.
use Rattle.std.proofs.Common.{◌≡◌, ◌+◌, ℕ, zero, suc, Bool, true, false, cond, not, nat_lt, nat_eq, List, [], ◌∷◌, ◌++◌, map, length, position, Option, None, Some, is_some, refl, sym, ap, ap₂, ◌∙◌, if◌then◌else◌, arith}
use Rattle.std.proofs.lemmas.List.{length-map, map-append}
use Rattle.std.specs.Cmp.Lexicographic.{pointwise, same_text}
use Rattle.std.specs.List.{position_or_len}
use Rattle.std.specs.Map.{lookup}
use Rattle.std.specs.Option.{option_map}
use Rattle.lv_base.specs.Names.{is_named}
use Rattle.lv_model_draft.specs.Places.{place_of, noted, all_noted, first_places}

-- the first that is there
abbrev or_else : Option ℕ → Option ℕ → Option ℕ
or_else None o = o
or_else (Some n) o = Some n

or_else-nothing : (o : Option ℕ) → or_else o None ≡ o
or_else-nothing None = refl
or_else-nothing (Some n) = refl

or_else-again : (a b c : Option ℕ) → or_else (or_else a b) c ≡ or_else a (or_else b c)
or_else-again None b c = refl
or_else-again (Some n) b c = refl

lookup-last : (p : List ℕ → Bool) (table : List (List ℕ × ℕ)) (name : List ℕ) (place : ℕ) → lookup p (table ++ (name, place) ∷ []) ≡ or_else (lookup p table) (cond (p name) (Some place) None)
lookup-last p [] name place = refl
lookup-last p (e ∷ es) name place = by (p e.0) (lookup-last p es name place)
  where
    by : (b : Bool) → lookup p (es ++ (name, place) ∷ []) ≡ or_else (lookup p es) (cond (p name) (Some place) None)
        → cond b (Some e.1) (lookup p (es ++ (name, place) ∷ [])) ≡ or_else (cond b (Some e.1) (lookup p es)) (cond (p name) (Some place) None)
    by true h = refl
    by false h = h

-- what is found once a name is noted
place-noted : (word : List ℕ) (table : List (List ℕ × ℕ)) (name : List ℕ) (place : ℕ)
    → place_of word (noted table name place) ≡ or_else (place_of word table) (cond (is_named word name) (Some place) None)
place-noted word table name place = by (place_of name table) refl (is_named word name) refl
  where
    -- a name that is there is found before a later place
    by : (o : Option ℕ) → place_of name table ≡ o → (b : Bool) → is_named word name ≡ b
        → place_of word (if is_some o then table else table ++ (name, place) ∷ []) ≡ or_else (place_of word table) (cond b (Some place) None)
    by None e b f = lookup-last (is_named word) table name place ∙ ap (λ c. or_else (place_of word table) (cond c (Some place) None)) f
    by (Some n) e false f = sym (or_else-nothing (place_of word table))
    by (Some n) e true f =
        let found : place_of word table ≡ Some n = ap (λ w. place_of w table) (sym (same_text name word (sym f))) ∙ e in
        found ∙ ap (λ o. or_else o (Some place)) (sym found)

abbrev at : (p : List ℕ → Bool) (place : ℕ) → List (List ℕ) → Option ℕ
at p place names = option_map (λ n. n + place) (position p names)

at-next : (p : List ℕ → Bool) (place : ℕ) (name : List ℕ) (names : List (List ℕ)) → at p place (name ∷ names) ≡ or_else (cond (p name) (Some place) None) (at p (1 + place) names)
at-next p place name names = by (p name) (position_or_len p names) (length names)
  where
    short : (c : Bool) (n : ℕ) → option_map (λ k. k + place) (cond c (Some (1 + n)) None) ≡ option_map (λ k. k + (1 + place)) (cond c (Some n) None)
    short true n = ap Some (let e : 1 + n + place ≡ n + (1 + place) = omega arith in e)
    short false n = refl

    below : (n l : ℕ) → nat_lt (1 + n) (suc l) ≡ nat_lt n l
    below n l = grind arith

    first : (l : ℕ) → nat_lt 0 (suc l) ≡ true
    first l = grind arith

    by : (b : Bool) (n l : ℕ)
        → option_map (λ k. k + place) (cond (nat_lt (cond (not b) (1 + n) 0) (suc l)) (Some (cond (not b) (1 + n) 0)) None)
        ≡ or_else (cond b (Some place) None) (option_map (λ k. k + (1 + place)) (cond (nat_lt n l) (Some n) None))
    by true n l = ap (λ c. option_map (λ k. k + place) (cond c (Some 0) None)) (first l) ∙ ap Some (let e : 0 + place ≡ place = omega arith in e)
    by false n l = ap (λ c. option_map (λ k. k + place) (cond c (Some (1 + n)) None)) (below n l) ∙ short (nat_lt n l) n

place-all : (word : List ℕ) (names : List (List ℕ)) (table : List (List ℕ × ℕ)) (place : ℕ)
    → place_of word (all_noted table place names) ≡ or_else (place_of word table) (at (is_named word) place names)
place-all word [] table place = sym (or_else-nothing (place_of word table))
place-all word (name ∷ names) table place =
    place-all word names (noted table name place) (1 + place)
    ∙ ap (λ o. or_else o (at (is_named word) (1 + place) names)) (place-noted word table name place)
    ∙ or_else-again (place_of word table) (cond (is_named word name) (Some place) None) (at (is_named word) (1 + place) names)
    ∙ ap (or_else (place_of word table)) (sym (at-next (is_named word) place name names))

-- a name's place is its first in the list
pub place_is_first : (word : List ℕ) (names : List (List ℕ)) → place_of word (first_places names) ≡ position (is_named word) names
place_is_first word names = place-all word names [] 0 ∙ plain (position (is_named word) names)
  where
    plain : (o : Option ℕ) → option_map (λ n. n + 0) o ≡ o
    plain None = refl
    plain (Some n) = ap Some (omega arith)

noted_last : (table : List (List ℕ × ℕ)) (place : ℕ) (names : List (List ℕ)) (name : List ℕ) (last : ℕ) → last ≡ place + length names
    → noted (all_noted table place names) name last ≡ all_noted table place (names ++ name ∷ [])
noted_last table place [] name last e = ap (noted table name) (e ∙ omega arith)
noted_last table place (x ∷ xs) name last e = noted_last (noted table x place) (1 + place) xs name last (e ∙ omega arith)

module _ {T : Type 0} (name : T → List ℕ) where
  -- noting the name of an item that goes last
  pub noted_item : (items : List T) (item : T) → noted (first_places (map name items)) (name item) (length items) ≡ first_places (map name (items ++ item ∷ []))
  noted_item items item =
      noted_last [] 0 (map name items) (name item) (length items) (sym (length-map items name) ∙ omega arith)
      ∙ ap first_places (sym (map-append name items (item ∷ [])))

  position_or_len-map : (p : List ℕ → Bool) (items : List T) → position_or_len p (map name items) ≡ position_or_len (λ (x : T). p (name x)) items
  position_or_len-map p [] = refl
  position_or_len-map p (x ∷ xs) = ap (λ n. cond (not (p (name x))) (1 + n) 0) (position_or_len-map p xs)

  -- what is found among the items' names
  pub place_of_item : (word : List ℕ) (items : List T) → place_of word (first_places (map name items)) ≡ position (λ (x : T). is_named word (name x)) items
  place_of_item word items = place_is_first word (map name items) ∙ ap₂ (λ (n l : ℕ). cond (nat_lt n l) (Some n) None) (position_or_len-map (is_named word) items) (length-map items name)
