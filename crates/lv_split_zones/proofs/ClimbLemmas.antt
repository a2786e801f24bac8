-- The way from a zone up to the first that it comes from, and down again.
use Rattle.std.proofs.Common.{◌≡◌, ℕ, ◌-◌, ◌<◌, ◌≤◌, List, [], ◌∷◌, ◌++◌, Option, Some, None, option_map, refl, sym, ◌∙◌, ap, subst, arith}
use Rattle.std.specs.Prelude.{slice_get}
use Rattle.lv_boxes.specs.Members.{ZoneValue}
use Rattle.lv_split_zones.specs.declared.made.Made.{Made}
use Rattle.lv_split_zones.specs.declared.split.Split.{Split}
use Rattle.lv_split_zones.specs.declared.split.Step.{Step}
use Rattle.lv_split_zones.specs.Made.{IsMade, zones_made}
use Rattle.lv_split_zones.specs.Searches.{IsLastBefore, IsSplitOf}
use Rattle.lv_split_zones.specs.Splits.{CausesValue, masks_by, masks_after, zone_after}
use Rattle.lv_split_zones.proofs.SplitLemmas.{is_part, is_before, is_first}

-- the part that a step leads to
abbrev pub zone_by : CausesValue → Step → ZoneValue → ZoneValue
zone_by causes s zone = record zone { masks = masks_by causes s.part zone.masks s.by }

-- a step more at the upper end
after_more : (causes : CausesValue) (path : List Step) (s : Step) (masks : List ℕ) → masks_after causes path (masks_by causes s.part masks s.by) ≡ masks_after causes (path ++ s ∷ []) masks
after_more causes [] s masks = refl
after_more causes (t ∷ ts) s masks = ap (λ ms. masks_by causes t.part ms t.by) (after_more causes ts s masks)

module _ (m : Made) (made : IsMade m) (at : ℕ) (here : at < m.count) (s : Split) (last : IsLastBefore m.splits.items at s) where
  -- the zone is that part of the one that was split
  pub part_is : slice_get (zones_made m) at ≡ option_map (zone_by m.causes (record { by = s.by; part = at - s.first })) (slice_get (zones_made m) s.zone)
  part_is = is_part m.causes m.first.items m.splits.items last.at s at made.splits last.is last.begun last.ahead (subst (λ n. at < n) made.count here)

  pub zone_before : s.zone < at
  zone_before = let before : s.zone < s.first = is_before m.causes m.first.items m.splits.items last.at s made.splits last.is in let begun : s.first ≤ at = last.begun in omega (arith, before, begun)

  pub zone_there : s.zone < m.count
  zone_there = let before : s.zone < at = zone_before in omega (arith, before, here)

  pub climbs : (place : ℕ) (path : List Step) → slice_get (zones_made m) place ≡ option_map (zone_after m.causes path) (slice_get (zones_made m) at)
      → slice_get (zones_made m) place ≡ option_map (zone_after m.causes (path ++ record { by = s.by; part = at - s.first } ∷ [])) (slice_get (zones_made m) s.zone)
  climbs place path behind = behind ∙ ap (option_map (zone_after m.causes path)) part_is ∙ by (slice_get (zones_made m) s.zone)
    where
      by : (o : Option ZoneValue) → option_map (zone_after m.causes path) (option_map (zone_by m.causes (record { by = s.by; part = at - s.first })) o)
          ≡ option_map (zone_after m.causes (path ++ record { by = s.by; part = at - s.first } ∷ [])) o
      by None = refl
      by (Some zone) = ap (λ (masks : List ℕ). Some (record zone { masks = masks })) (after_more m.causes path (record { by = s.by; part = at - s.first }) zone.masks)

  pub source_above : option_map (λ (zone : ZoneValue). zone.source) (slice_get (zones_made m) at) ≡ option_map (λ (zone : ZoneValue). zone.source) (slice_get (zones_made m) s.zone)
  source_above = ap (option_map (λ (zone : ZoneValue). zone.source)) part_is ∙ by (slice_get (zones_made m) s.zone)
    where
      by : (o : Option ZoneValue) → option_map (λ (zone : ZoneValue). zone.source) (option_map (zone_by m.causes (record { by = s.by; part = at - s.first })) o) ≡ option_map (λ (zone : ZoneValue). zone.source) o
      by None = refl
      by (Some zone) = refl

-- the part made of what was split is the zone
pub beside : (m : Made) (made : IsMade m) (at : ℕ) (here : at < m.count) (s : Split) (last : IsLastBefore m.splits.items at s) (whole part : ZoneValue) → slice_get (zones_made m) s.zone ≡ Some whole
    → part ≡ zone_by m.causes (record { by = s.by; part = at - s.first }) whole → Some part ≡ slice_get (zones_made m) at
beside m made at here s last whole part is made_so =
    ap Some made_so ∙ sym (part_is m made at here s last ∙ ap (option_map (zone_by m.causes (record { by = s.by; part = at - s.first }))) is)

pub none_beside : (m : Made) (made : IsMade m) (at : ℕ) (here : at < m.count) (s : Split) (last : IsLastBefore m.splits.items at s) → slice_get (zones_made m) s.zone ≡ None → None ≡ slice_get (zones_made m) at
none_beside m made at here s last none = sym (part_is m made at here s last ∙ ap (option_map (zone_by m.causes (record { by = s.by; part = at - s.first }))) none)

-- one that no split made is one of the first
pub first_is : (m : Made) (at : ℕ) → IsMade m → IsSplitOf m.splits.items at None → slice_get (zones_made m) at ≡ slice_get m.first.items at
first_is m at made none = is_first m.causes m.first.items m.splits.items at made.splits none

-- no step yet
pub no_step : (causes : CausesValue) (o : Option ZoneValue) → o ≡ option_map (zone_after causes []) o
no_step causes None = refl
no_step causes (Some zone) = refl
