-- What a split more makes, and what comes of keeping more that splits may be by.
use Rattle.std.proofs.Common.{◌≡◌, ℕ, ◌+◌, ◌<◌, List, [], ◌∷◌, ◌++◌, length, Ok, Err, sym, ◌∙◌, ap, ap₂, subst, arith}
use Rattle.std.specs.Prelude.{IfOk, OnOk}
use Rattle.std.specs.declared.result.Result.{Result}
use Rattle.std.proofs.lemmas.List.{length-append}
use Rattle.lv_boxes.specs.Members.{ZoneValue}
use Rattle.lv_split_zones.specs.declared.made.Made.{Made}
use Rattle.lv_split_zones.specs.declared.split.By.{By}
use Rattle.lv_split_zones.specs.declared.split.Split.{Split}
use Rattle.lv_split_zones.specs.Made.{IsMade, zones_made}
use Rattle.lv_split_zones.specs.Splits.{parts_at, made, IsKept, IsKnown, IsNext, AreSplits}
use Rattle.lv_split_zones.proofs.SplitLemmas.{made_more, splits_more, made_same, splits_still}

-- with one split more
module _ (m new : Made) (parts : ℕ) (s : Split) (same_first : new.first.items ≡ m.first.items) (same_causes : new.causes ≡ m.causes) (with_one : new.splits.items ≡ m.splits.items ++ s ∷ []) (is : IsMade m) where
  pub pushed_zones : zones_made new ≡ zones_made m ++ parts_at m.causes (zones_made m) s
  pushed_zones =
      ap (λ cs. made cs new.first.items new.splits.items) same_causes ∙ ap (λ zs. made m.causes zs new.splits.items) same_first ∙ ap (made m.causes m.first.items) with_one
      ∙ made_more m.causes m.first.items m.splits.items s

  pub pushed_made : new.count ≡ m.count + parts → IsNext m.causes (zones_made m) s → parts ≡ length (parts_at m.causes (zones_made m) s) → IsMade new
  pushed_made counted next many =
      record {
        splits =
            subst (λ cs. AreSplits cs new.first.items new.splits.items) (sym same_causes)
            (subst (λ zs. AreSplits m.causes zs new.splits.items) (sym same_first)
            (subst (AreSplits m.causes m.first.items) (sym with_one) (splits_more m.causes m.first.items m.splits.items s is.splits next)));
        count =
            let before : m.count ≡ length (zones_made m) = is.count in
            let long : length (zones_made new) ≡ length (zones_made m) + length (parts_at m.causes (zones_made m) s) = ap length pushed_zones ∙ length-append (zones_made m) (parts_at m.causes (zones_made m) s) in
            omega (arith, counted, before, many, long);
      }

-- with more that splits may be by
module _ (m new : Made) (kept : IsKept m.causes new.causes) (same_first : new.first.items ≡ m.first.items) (same_splits : new.splits.items ≡ m.splits.items) (same_count : new.count ≡ m.count) (is : IsMade m) where
  pub caused_zones : zones_made new ≡ zones_made m
  caused_zones =
      ap (λ zs. made new.causes zs new.splits.items) same_first ∙ ap (made new.causes m.first.items) same_splits ∙ sym (made_same m.causes new.causes kept m.first.items m.splits.items is.splits)

  pub caused : IsMade new
  caused =
      record {
        splits =
            subst (λ zs. AreSplits new.causes zs new.splits.items) (sym same_first)
            (subst (AreSplits new.causes m.first.items) (sym same_splits) (splits_still m.causes new.causes kept m.first.items m.splits.items is.splits));
        count = same_count ∙ is.count ∙ sym (ap length caused_zones);
      }

  -- a split of one of the zones
  pub next_is : (place : ℕ) (b : By) → place < m.count → IsKnown new.causes b → IsNext new.causes (zones_made new) (record { zone = place; first = m.count; by = b })
  next_is place b here known =
      let as_many : m.count ≡ length (zones_made new) = is.count ∙ sym (ap length caused_zones) in
      record { zone = subst (λ n. place < n) as_many here; first = as_many; known = known }

  pub zone_there : (place : ℕ) → place < m.count → place < length (zones_made new)
  zone_there place here = subst (λ n. place < n) (is.count ∙ sym (ap length caused_zones)) here

-- what holds where there is no want of memory gives what follows from it
pub on_ok : {X E : Type 0} {P Q : Type 0} (r : Result X E) → (P → Q) → OnOk r P → OnOk r Q
on_ok (Ok x) gives p = gives p
on_ok (Err e) gives p = tt

pub if_ok : {X E : Type 0} {P Q : X → Type 0} (r : Result X E) → ((x : X) → P x → Q x) → IfOk r P → IfOk r Q
if_ok (Ok x) gives p = gives x p
if_ok (Err e) gives p = tt

-- the zones with parts more, in the words of what was split by
pub parts_are : (zones others result parts own : List ZoneValue) → others ≡ zones → parts ≡ own → result ≡ others ++ parts → result ≡ zones ++ own
parts_are zones others result parts own same is made = made ∙ ap₂ (λ (front back : List ZoneValue). front ++ back) same is
