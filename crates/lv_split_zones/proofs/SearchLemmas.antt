-- Which split a zone is a part of, found by halving.
use Rattle.std.proofs.Common.{◌≡◌, ℕ, ◌+◌, ◌-◌, ◌<◌, ◌≤◌, List, length, get_or, Some, None, sym, ◌∙◌, ap, subst, arith}
use Rattle.std.specs.Prelude.{slice_get}
use Rattle.std.proofs.lemmas.Option.{slice_get-get_or, slice_get_within}
use Rattle.lv_split_zones.specs.declared.split.Split.{Split}
use Rattle.lv_split_zones.specs.Searches.{IsSplitOf}

abbrev pub IsBegun : List Split → ℕ → ℕ → Type 0
IsBegun splits place low = (i : ℕ) (t : Split) → i + 1 ≡ low → slice_get splits i ≡ Some t → t.first ≤ place

abbrev pub IsAhead : List Split → ℕ → ℕ → Type 0
IsAhead splits place high = (t : Split) → slice_get splits high ≡ Some t → place < t.first

some_is_one : (x y : Split) → Some x ≡ Some y → x ≡ y
some_is_one x y e = cc e

pub begun_first : (splits : List Split) (place low : ℕ) → low ≡ 0 → IsBegun splits place low
begun_first splits place low e i t f is = absurd (omega (arith, e, f))

pub ahead_last : (splits : List Split) (place high : ℕ) → high ≡ length splits → IsAhead splits place high
ahead_last splits place high e t is = let within = slice_get_within splits high t is in absurd (omega (arith, e, within))

pub begun_more : (splits : List Split) (place middle : ℕ) (d : Split) → middle < length splits → (get_or splits middle d).first ≤ place → IsBegun splits place (middle + 1)
begun_more splits place middle d within before i t e is =
    let same : i ≡ middle = omega (arith, e) in
    let found : Some (get_or splits middle d) ≡ Some t = sym (slice_get-get_or splits middle d within) ∙ ap (slice_get splits) (sym same) ∙ is in
    subst (λ (x : Split). x.first ≤ place) (some_is_one (get_or splits middle d) t found) before

pub ahead_more : (splits : List Split) (place middle : ℕ) (d : Split) → middle < length splits → place < (get_or splits middle d).first → IsAhead splits place middle
ahead_more splits place middle d within before t is =
    let found : Some (get_or splits middle d) ≡ Some t = sym (slice_get-get_or splits middle d within) ∙ is in
    subst (λ (x : Split). place < x.first) (some_is_one (get_or splits middle d) t found) before

pub found_last : (splits : List Split) (place low high : ℕ) (d : Split) → low ≤ high → high ≤ low → high ≤ length splits → 0 < low → IsBegun splits place low → IsAhead splits place high
    → IsSplitOf splits place (Some (get_or splits (low - 1) d))
found_last splits place low high d ends past within some begun ahead =
    let here : low - 1 < length splits = omega (arith, ends, past, within, some) in
    let is : slice_get splits (low - 1) ≡ Some (get_or splits (low - 1) d) = slice_get-get_or splits (low - 1) d here in
    record {
      at = low - 1;
      is = is;
      begun = begun (low - 1) (get_or splits (low - 1) d) (omega (arith, some)) is;
      ahead = λ i t e h. ahead t (subst (λ n. slice_get splits n ≡ Some t) (omega (arith, e, ends, past, some)) h);
    }

pub found_none : (splits : List Split) (place low high : ℕ) → low ≤ high → high ≤ low → low ≡ 0 → IsAhead splits place high → IsSplitOf splits place None
found_none splits place low high ends past none ahead = λ t h. ahead t (subst (λ n. slice_get splits n ≡ Some t) (omega (arith, ends, past, none)) h)
