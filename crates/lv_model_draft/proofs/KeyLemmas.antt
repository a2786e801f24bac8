-- A map's entries, seen through what their keys hold.
use Rattle.std.proofs.Common.{◌≡◌, ℕ, Bool, true, false, cond, List, [], ◌∷◌, ◌++◌, map, Option, None, Some, is_some, refl, sym, ap, ap₂, ◌∙◌, if◌then◌else◌}
use Rattle.std.proofs.lemmas.List.{map-append}
use Rattle.std.specs.Map.{lookup}
use Rattle.indexmap.specs.IndexMap.{insert_entry}
use Rattle.indexmap.proofs.MapLemmas.{absent_from_lookup, insert_entry-absent}

nothing : {X : Type 0} (o : Option X) → is_some o ≡ false → o ≡ None
nothing None h = refl
nothing (Some x) h = absurd (cc)

module _ {K V X : Type 0} (f : K → V) where
  pub lookup-seen : (q : K → Bool) (p : V → Bool) → ((k : K) → q k ≡ p (f k)) → (es : List (K × X)) → lookup q es ≡ lookup p (map (λ e. (f e.0, e.1)) es)
  lookup-seen q p same [] = refl
  lookup-seen q p same (e ∷ es) = ap₂ (λ (b : Bool) (o : Option X). cond b (Some e.1) o) (same e.0) (lookup-seen q p same es)

  -- a key that is new goes last
  pub inserted : (eq : K → K → Bool) (p : V → Bool) (k : K) (v : V) (x : X) (old new : List (K × X)) (table : List (V × X))
      → ((j : K) → eq k j ≡ p (f j)) → f k ≡ v → map (λ e. (f e.0, e.1)) old ≡ table → new ≡ insert_entry eq old k x → is_some (lookup p table) ≡ false
      → map (λ e. (f e.0, e.1)) new ≡ table ++ (v, x) ∷ []
  inserted eq p k v x old new table test holds view is absent =
      let none : lookup (eq k) old ≡ None = lookup-seen (eq k) p test old ∙ ap (lookup p) view ∙ nothing (lookup p table) absent in
      ap (map (λ e. (f e.0, e.1))) (is ∙ insert_entry-absent eq k x old (absent_from_lookup (eq k) old none))
      ∙ map-append (λ e. (f e.0, e.1)) old ((k, x) ∷ [])
      ∙ ap₂ (λ (es : List (V × X)) (w : V). es ++ (w, x) ∷ []) view holds
