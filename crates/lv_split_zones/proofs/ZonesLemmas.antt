-- Zones by their places, with what was split.
use Rattle.std.proofs.Common.{◌≡◌, ℕ, zero, suc, ◌<◌, ◌≤◌, Bool, true, false, nat_eq, if◌then◌else◌, List, [], ◌∷◌, ◌++◌, length, map, Option, Some, None, refl, sym, ◌∙◌, ap, subst, arith}
use Rattle.std.specs.Prelude.{slice_get, slice_set}
use Rattle.std.specs.Option.{option_and_then}
use Rattle.std.specs.List.{list_any}
use Rattle.std.specs.Ordering.{nat_cmp}
use Rattle.std.specs.BTreeMap.{is_at}
use Rattle.std.specs.BTreeSet.{BTreeSet}
use Rattle.std.proofs.lemmas.Bool.{eqb-true}
use Rattle.std.proofs.lemmas.Option.{slice_get_within}
use Rattle.lv_boxes.specs.Members.{ZoneValue}
use Rattle.lv_split_zones.specs.declared.made.Made.{Made}
use Rattle.lv_split_zones.specs.Made.{zones_made}
use Rattle.lv_split_zones.specs.declared.split.Split.{Split}
use Rattle.lv_split_zones.specs.Splits.{CausesValue, made, without_split}
use Rattle.lv_split_zones.specs.Zones.{open_at, is_in, AreZones}
use Rattle.lv_split_zones.proofs.SplitLemmas.{marked, parts_unmarked, open_is, as_many, none_split}

-- none was split yet
pub none_yet : (split : BTreeSet ℕ) → split.keys ≡ [] → (causes : CausesValue) (zones : List ZoneValue) (splits : List Split) → splits ≡ [] → without_split (is_in split) 0 (made causes zones splits) ≡ map Some zones
none_yet split empty causes zones splits none =
    ap (λ ss. without_split (is_in split) 0 (made causes zones ss)) none ∙ none_split (is_in split) zones (λ i. ap (λ (keys : List ℕ). list_any (is_at (nat_cmp i)) keys) empty)

-- with a split more
pub split_more : (old new : ℕ → Bool) (place : ℕ) (zones parts : List ZoneValue) → ((i : ℕ) → new i ≡ (if nat_eq i place then true else old i)) → ((i : ℕ) → old i ≡ true → i < length zones) → place < length zones
    → without_split new 0 (zones ++ parts) ≡ slice_set (without_split old 0 zones) place None ++ map Some parts
split_more old new place zones parts others few here =
    parts_unmarked new zones parts (λ i there. by i (nat_eq i place) refl (sym (others i) ∙ there)) ∙ ap (λ front. front ++ map Some parts) (marked old new place others zones)
  where
    by : (i : ℕ) (b : Bool) → nat_eq i place ≡ b → (if b then true else old i) ≡ true → i < length zones
    by i true e h = let same : i ≡ place = eqb-true i place e in subst (λ k. k < length zones) (sym same) here
    by i false e h = few i h

-- what is open at a place was made
pub open_made : (is_split : ℕ → Bool) (zones : List ZoneValue) (i : ℕ) (zone : ZoneValue) → slice_get (without_split is_split 0 zones) i ≡ Some (Some zone) → slice_get zones i ≡ Some zone
open_made is_split zones i zone e = by (is_split i) (sym (open_is is_split zones i) ∙ ap (option_and_then (λ (z : Option ZoneValue). z)) e)
  where
    by : (b : Bool) → (if b then None else slice_get zones i) ≡ Some zone → slice_get zones i ≡ Some zone
    by true h = absurd (cc h)
    by false h = h

-- the zone at a place, where it was split, and where it wasn't
pub none_open : (is_split : ℕ → Bool) (zones : List ZoneValue) (i : ℕ) → is_split i ≡ true → open_at (without_split is_split 0 zones) i ≡ None
none_open is_split zones i e = open_is is_split zones i ∙ ap (λ b. if b then None else slice_get zones i) e

pub zone_open : (is_split : ℕ → Bool) (zones : List ZoneValue) (i : ℕ) → is_split i ≡ false → open_at (without_split is_split 0 zones) i ≡ slice_get zones i
zone_open is_split zones i e = open_is is_split zones i ∙ ap (λ b. if b then None else slice_get zones i) e

-- behind the last there is nothing

none_past : (zones : List ZoneValue) (i : ℕ) → length zones ≤ i → slice_get zones i ≡ None
none_past [] i h = refl
none_past (z ∷ zs) zero h = absurd (omega arith)
none_past (z ∷ zs) (suc i) h = none_past zs i (omega arith)

pub past_open : (is_split : ℕ → Bool) (zones : List ZoneValue) (i : ℕ) → length zones ≤ i → open_at (without_split is_split 0 zones) i ≡ None
past_open is_split zones i h = open_is is_split zones i ∙ by (is_split i) (slice_get zones i) (none_past zones i h)
  where
    by : (b : Bool) (o : Option ZoneValue) → o ≡ None → (if b then None else o) ≡ None
    by true o e = refl
    by false o e = e

pub none_there : (is_split : ℕ → Bool) (zones : List ZoneValue) (i : ℕ) (zone : Option ZoneValue) → length zones ≤ i → slice_get (without_split is_split 0 zones) i ≡ Some zone → ⊥
none_there is_split zones i zone h e =
    let within : i < length (without_split is_split 0 zones) = slice_get_within (without_split is_split 0 zones) i zone e in
    let many : length (without_split is_split 0 zones) ≡ length zones = as_many is_split zones in
    omega (arith, within, many, h)

-- a split of one that is open
pub split_zones : (old new : BTreeSet ℕ) (m : Made) (zones parts : List ZoneValue) (whole : List (Option ZoneValue)) (place : ℕ) → AreZones m old → without_split (is_in old) 0 (zones_made m) ≡ whole → zones ≡ zones_made m ++ parts
    → place < m.count → ((i : ℕ) → is_in new i ≡ (if nat_eq i place then true else is_in old i)) → without_split (is_in new) 0 zones ≡ slice_set whole place None ++ map Some parts
split_zones old new m zones parts whole place are view made_so here others =
    ap (without_split (is_in new) 0) made_so
    ∙ split_more (is_in old) (is_in new) place (zones_made m) parts others (λ i there. subst (λ n. i < n) are.made.count (are.few i there)) (subst (λ n. place < n) are.made.count here)
    ∙ ap (λ front. slice_set front place None ++ map Some parts) view
