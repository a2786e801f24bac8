-- A map's entries as a list of what is held, each seen with the key under which it stands.
use Rattle.std.proofs.Common.{◌≡◌, ℕ, Bool, true, false, cond, not, ◌||◌, List, [], ◌∷◌, ◌++◌, map, filter, Option, None, Some, is_some, refl, sym, ap, ap₂, ◌∙◌}
use Rattle.std.proofs.lemmas.List.{map-append}
use Rattle.std.specs.List.{list_any, IsDistinct, AllByRecursion}
use Rattle.std.specs.Map.{keys_of, values_of, lookup, remove_entry}
use Rattle.indexmap.specs.IndexMap.{insert_entry}
use Rattle.indexmap.proofs.MapLemmas.{absent_from_lookup, insert_entry-absent}
use Rattle.lv_meaning.specs.declared.facts.Observation.{Observation}
use Rattle.lv_session_request.specs.Held.{observation_of, sighting_of}

nothing : {X : Type 0} (o : Option X) → is_some o ≡ false → o ≡ None
nothing None h = refl
nothing (Some x) h = absurd (cc)

-- the entries whose keys pass the test are those that pass p as seen
module _ {K X Y : Type 0} (f : K × X → Y) (t : K → Bool) (p : Y → Bool) (same : (e : K × X) → p (f e) ≡ t e.0) where
  pub lookup_any : (es : List (K × X)) → is_some (lookup t es) ≡ list_any p (map f es)
  lookup_any [] = refl
  lookup_any (e ∷ es) = by (t e.0) (lookup_any es) ∙ ap (λ b. b || list_any p (map f es)) (sym (same e))
    where
      by : (b : Bool) → is_some (lookup t es) ≡ list_any p (map f es) → is_some (cond b (Some e.1) (lookup t es)) ≡ (b || list_any p (map f es))
      by true h = refl
      by false h = h

  abbrev keep : Y → Bool
  keep y = not (p y)

  -- an entry that doesn't pass stays
  stays : (e : K × X) (ys zs : List Y) → t e.0 ≡ false → filter keep ys ≡ zs → filter keep (f e ∷ ys) ≡ f e ∷ zs
  stays e ys zs h rest = ap₂ (λ (b : Bool) (l : List Y). cond (not b) (f e ∷ l) l) (same e ∙ h) rest

  goes : (e : K × X) (ys zs : List Y) → t e.0 ≡ true → filter keep ys ≡ zs → filter keep (f e ∷ ys) ≡ zs
  goes e ys zs h rest = ap₂ (λ (b : Bool) (l : List Y). cond (not b) (f e ∷ l) l) (same e ∙ h) rest

  all_stay : (es : List (K × X)) → AllByRecursion (λ k. t k ≡ false) (keys_of es) → filter keep (map f es) ≡ map f es
  all_stay [] h = refl
  all_stay (e ∷ es) h = stays e (map f es) (map f es) h.0 (all_stay es h.1)

  module _ (eq : K → K → Bool) (one : (j k : K) → t j ≡ true → t k ≡ eq j k) where
    others : (k : K) (ks : List K) → t k ≡ true → AllByRecursion (λ j. eq k j ≡ false) ks → AllByRecursion (λ j. t j ≡ false) ks
    others k [] h d = tt
    others k (j ∷ ks) h d = (one k j h ∙ d.0, others k ks h d.1)

    -- of keys that are told apart one passes at most, so without it none is left that does
    pub one_out : (es : List (K × X)) → IsDistinct eq (keys_of es) → map f (remove_entry t es) ≡ filter (λ y. not (p y)) (map f es)
    unfolding IsDistinct
    one_out [] d = refl
    one_out (e ∷ es) d = by (t e.0) refl (one_out es d.1)
      where
        by : (b : Bool) → t e.0 ≡ b → map f (remove_entry t es) ≡ filter (λ y. not (p y)) (map f es) → map f (cond b es (e ∷ remove_entry t es)) ≡ filter (λ y. not (p y)) (map f (e ∷ es))
        by true h rest = sym (goes e (map f es) (map f es) h (all_stay es (others e.0 (keys_of es) h d.0)))
        by false h rest = sym (stays e (map f es) (map f (remove_entry t es)) h (sym rest))

module _ {K X Y : Type 0} (f : K × X → Y) where
  -- a key that is new goes last
  pub put_last : (eq : K → K → Bool) (p : Y → Bool) (k : K) (x : X) (y : Y) (old new : List (K × X)) (held : List Y)
      → ((e : K × X) → p (f e) ≡ eq k e.0) → f (k, x) ≡ y → map f old ≡ held → new ≡ insert_entry eq old k x → list_any p held ≡ false
      → map f new ≡ held ++ y ∷ []
  put_last eq p k x y old new held same seen view is absent =
      let none : lookup (eq k) old ≡ None = nothing (lookup (eq k) old) (lookup_any f (eq k) p same old ∙ ap (list_any p) view ∙ absent) in
      ap (map f) (is ∙ insert_entry-absent eq k x old (absent_from_lookup (eq k) old none))
      ∙ map-append f old ((k, x) ∷ [])
      ∙ ap₂ (λ (ys : List Y) (z : Y). ys ++ z ∷ []) view seen

-- without the names, what was observed is what the entries hold
pub without_names : {K : Type 0} (name : K → List ℕ) (es : List (K × Observation)) → values_of es ≡ map observation_of (map (λ e. sighting_of (name e.0) e.1) es)
without_names name [] = refl
without_names name (e ∷ es) = ap (λ os. e.1 ∷ os) (without_names name es)
