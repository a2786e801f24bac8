-- Rising lists of ranks that lose some, and how many zones have a rank.
use Rattle.std.proofs.Common.{◌≡◌, ℕ, zero, ◌+◌, ◌<◌, ◌≤◌, Bool, true, false, not, ◌&&◌, ◌||◌, List, [], ◌∷◌, length, filter, refl, sym, ◌∙◌, ap, subst, cond, nat_eq, nat_lt, arith}
use Rattle.std.specs.Prelude.{slice_get, Some}
use Rattle.std.specs.List.{list_all, list_any}
use Rattle.std.proofs.Math.ListN.{length-set}
use Rattle.std.proofs.lemmas.Bool.{and_from, and_parts, or_left, or_right, or_parts, ltb-true, lt-ltb, eq-eqb, both_ways, false_from_ne_true, not-true}
use Rattle.lv_base.specs.declared.ids.Cost.{Cost}
use Rattle.lv_base.specs.declared.rank.Rank.{Rank}
use Rattle.lv_base.specs.declared.search.Pair.{Pair}
use Rattle.lv_base.specs.Rank.{rank_key, ranks_before}
use Rattle.lv_base.specs.Choices.{picks, contains_all}
use Rattle.lv_base.proofs.OrderLemmas.{transitive}
use Rattle.lv_boxes.specs.Members.{ZoneValue, are_left, is_member, choices_cost}
use Rattle.lv_boxes.specs.Parts.{masks_with, masks_without, parts_of}
use Rattle.lv_boxes.proofs.PartsLemmas.{is_member-with, is_member-without}
use Rattle.lv_boxes.specs.Ranked.{rises, is_rank, is_among}
use Rattle.lv_boxes.specs.Walk.{candidate_of}
use Rattle.lv_boxes.proofs.RankedLemmas.{neither_is_same, same_rank, is_itself, before_each, not_among_later}
use Rattle.lv_boxes.specs.RankedMembers.{ranks_in, times_in, sources_differ}
use Rattle.lv_boxes.proofs.RankedMemberLemmas.{rank_of_member}

-- of a rising list what none ranks before is the first
pub first_of_rising : (rs : List Rank) (m : Rank) → is_among m rs ≡ true → rises rs ≡ true → ((r : Rank) → is_among r rs ≡ true → ranks_before r m ≡ false) → slice_get rs 0 ≡ Some m
first_of_rising [] m is up least = absurd (cc is)
first_of_rising (r ∷ rs) m is up least = by (is_rank m r) refl
  where
    by : (b : Bool) → is_rank m r ≡ b → slice_get (r ∷ rs) 0 ≡ Some m
    by true e = ap Some (sym (same_rank m r e))
    by false e =
        let later : is_among m rs ≡ true = sym (ap (λ b. b || is_among m rs) e) ∙ is in
        let before : ranks_before r m ≡ true = before_each r m rs (and_parts (list_all (ranks_before r) rs) (rises rs) up).0 later in
        let never : ranks_before r m ≡ false = least r (or_left (is_rank r r) (is_among r rs) (is_itself r)) in
        absurd (both_ways (ranks_before r m) never before)

-- neither comes before the one behind it
pub none_before_on : (r e m : Rank) → ranks_before r e ≡ false → ranks_before e m ≡ false → ranks_before r m ≡ false
none_before_on r e m p q = false_from_ne_true (ranks_before r m) (λ h. by (ranks_before e r) refl h)
  where
    by : (b : Bool) → ranks_before e r ≡ b → ranks_before r m ≡ true → ⊥
    by true s h = both_ways (ranks_before e m) q (transitive (rank_key e) (rank_key r) (rank_key m) s h)
    by false s h = both_ways (ranks_before e m) q (subst (λ (t : Rank). ranks_before t m ≡ true) (neither_is_same r e p s) h)

pub filter_among : (keeps : Rank → Bool) (r : Rank) (xs : List Rank) → is_among r (filter keeps xs) ≡ (keeps r && is_among r xs)
filter_among keeps r [] = sym (never (keeps r))
  where
    never : (b : Bool) → (b && false) ≡ false
    never true = refl
    never false = refl
filter_among keeps r (x ∷ xs) = by (keeps x) refl (is_rank r x) refl (keeps r) refl (filter_among keeps r xs)
  where
    by : (a : Bool) → keeps x ≡ a → (s : Bool) → is_rank r x ≡ s → (b : Bool) → keeps r ≡ b → is_among r (filter keeps xs) ≡ (b && is_among r xs)
        → is_among r (cond a (x ∷ filter keeps xs) (filter keeps xs)) ≡ (b && (s || is_among r xs))
    by true p true q true w rest = ap (λ t. t || is_among r (filter keeps xs)) q
    by true p true q false w rest = let clash : true ≡ false = sym p ∙ ap keeps (sym (same_rank r x q)) ∙ w in absurd (cc clash)
    by true p false q b w rest = ap (λ t. t || is_among r (filter keeps xs)) q ∙ rest
    by false p true q true w rest = let clash : true ≡ false = sym w ∙ ap keeps (same_rank r x q) ∙ p in absurd (cc clash)
    by false p true q false w rest = rest
    by false p false q b w rest = rest

pub all_filtered : (p keeps : Rank → Bool) (rs : List Rank) → list_all p rs ≡ true → list_all p (filter keeps rs) ≡ true
all_filtered p keeps [] h = refl
all_filtered p keeps (r ∷ rs) h = by (keeps r) (all_filtered p keeps rs (and_parts (p r) (list_all p rs) h).1)
  where
    by : (b : Bool) → list_all p (filter keeps rs) ≡ true → list_all p (cond b (r ∷ filter keeps rs) (filter keeps rs)) ≡ true
    by true rest = and_from (p r) (list_all p (filter keeps rs)) (and_parts (p r) (list_all p rs) h).0 rest
    by false rest = rest

pub rises_filtered : (keeps : Rank → Bool) (rs : List Rank) → rises rs ≡ true → rises (filter keeps rs) ≡ true
rises_filtered keeps [] h = refl
rises_filtered keeps (r ∷ rs) h = by (keeps r) (rises_filtered keeps rs parts.1)
  where
    parts : (list_all (ranks_before r) rs ≡ true) × (rises rs ≡ true)
    parts = and_parts (list_all (ranks_before r) rs) (rises rs) h

    by : (b : Bool) → rises (filter keeps rs) ≡ true → rises (cond b (r ∷ filter keeps rs) (filter keeps rs)) ≡ true
    by true rest = and_from (list_all (ranks_before r) (filter keeps rs)) (rises (filter keeps rs)) (all_filtered (ranks_before r) keeps rs (and_parts (list_all (ranks_before r) rs) (rises rs) h).0) rest
    by false rest = rest

-- behind the first the others are left
pub among_behind : (h r : Rank) (rs : List Rank) → list_all (ranks_before h) rs ≡ true → is_among r rs ≡ (not (is_rank r h) && is_among r (h ∷ rs))
among_behind h r rs before = by (is_rank r h) refl
  where
    by : (b : Bool) → is_rank r h ≡ b → is_among r rs ≡ (not b && (b || is_among r rs))
    by true e = ap (λ (q : Rank). is_among q rs) (same_rank r h e) ∙ not_among_later h rs before
    by false e = refl

module _ (slots : List (List Cost)) where
  pub times_none : (r : Rank) (zone : ZoneValue) (zones : List ZoneValue) → ranks_in slots r zone ≡ false → times_in slots r (zone ∷ zones) ≡ times_in slots r zones
  times_none r zone zones e = let same : 0 + times_in slots r zones ≡ times_in slots r zones = omega arith in ap (λ b. cond b 1 0 + times_in slots r zones) e ∙ same

  pub times_one : (r : Rank) (zone : ZoneValue) (zones : List ZoneValue) → ranks_in slots r zone ≡ true → times_in slots r (zone ∷ zones) ≡ 1 + times_in slots r zones
  times_one r zone zones e = ap (λ b. cond b 1 0 + times_in slots r zones) e

  -- how many parts have a rank
  abbrev pub stays : Rank → ZoneValue → List Pair → Bool
  stays r zone pairs = ranks_in slots r zone && not (contains_all r.choices pairs)

  pub parts_times : (r : Rank) (n : ℕ) (zone : ZoneValue) (pairs : List Pair) → length zone.masks ≡ n → list_all (λ (p : Pair). nat_lt p.slot n) pairs ≡ true
      → times_in slots r (parts_of zone pairs) ≡ cond (stays r zone pairs) 1 0
  parts_times r n zone [] len below = by (ranks_in slots r zone)
    where
      by : (b : Bool) → zero ≡ cond (b && not true) 1 0
      by true = refl
      by false = refl
  parts_times r n zone (p ∷ ps) len below =
      let parts = and_parts (nat_lt p.slot n) (list_all (λ (q : Pair). nat_lt q.slot n) ps) below in
      let slot : p.slot < n = ltb-true p.slot n parts.0 in
      let here : p.slot < length zone.masks = subst (λ m. p.slot < m) (sym len) slot in
      let same : length (masks_with zone.masks p) ≡ n = rw (length-set) len in
      let rest = parts_times r n (record zone { masks = masks_with zone.masks p }) ps same parts.1 in
      let without = is_member-without slots zone p (candidate_of r) here in
      let with_it = is_member-with slots zone p (candidate_of r) here in
      ap (λ t. cond (ranks_in slots r (record zone { masks = masks_without zone.masks p })) 1 0 + t) rest
      ∙ (λ i. cond (without i && costs) 1 0 + cond ((with_it i && costs) && not (contains_all r.choices ps)) 1 0)
      ∙ by (is_member slots zone (candidate_of r)) (picks r.choices p) costs (contains_all r.choices ps)
    where
      costs : Bool
      costs = nat_eq r.cost.0 (zone.base.0 + choices_cost slots r.choices)

      by : (m p k c : Bool) → cond ((m && not p) && k) 1 0 + cond (((m && p) && k) && not c) 1 0 ≡ cond ((m && k) && not (p && c)) 1 0
      by true true true true = refl
      by true true true false = refl
      by true true false c = refl
      by true false true c = refl
      by true false false c = refl
      by false p k c = refl

  pub choices_per_slot : (costs : List (List Cost)) (masks choices : List ℕ) → are_left costs masks choices ≡ true → length choices ≡ length costs
  choices_per_slot [] [] [] h = refl
  choices_per_slot [] [] (choice ∷ choices) h = absurd (cc h)
  choices_per_slot [] (mask ∷ masks) [] h = absurd (cc h)
  choices_per_slot [] (mask ∷ masks) (choice ∷ choices) h = absurd (cc h)
  choices_per_slot (costs ∷ rest) [] [] h = absurd (cc h)
  choices_per_slot (costs ∷ rest) [] (choice ∷ choices) h = absurd (cc h)
  choices_per_slot (costs ∷ rest) (mask ∷ masks) [] h = absurd (cc h)
  choices_per_slot (costs ∷ rest) (mask ∷ masks) (choice ∷ choices) h =
      let behind : are_left rest masks choices ≡ true = grind arith in
      let same : length choices ≡ length rest = choices_per_slot rest masks choices behind in
      omega (arith, same)

  pub some_with : (n : ℕ) (b : Bool) → nat_lt 0 (n + cond b 1 0) ≡ (nat_lt 0 n || b)
  some_with n true = lt-ltb 0 (n + 1) (omega arith) ∙ sym (or_right (nat_lt 0 n) true refl)
  some_with n false = let same : n + 0 ≡ n = omega arith in ap (nat_lt 0) same ∙ sym (or_false (nat_lt 0 n))
    where
      or_false : (b : Bool) → (b || false) ≡ b
      or_false true = refl
      or_false false = refl

  -- zones whose sources differ share no member
  none_of_source : (r : Rank) (source : ℕ) (zones : List ZoneValue) → r.source ≡ source → list_any (λ (other : ZoneValue). nat_eq other.source source) zones ≡ false → times_in slots r zones ≡ 0
  none_of_source r source [] from none = refl
  none_of_source r source (zone ∷ zones) from none = by (ranks_in slots r zone) refl (none_of_source r source zones from parts.1)
    where
      parts : (nat_eq zone.source source ≡ false) × (list_any (λ (other : ZoneValue). nat_eq other.source source) zones ≡ false)
      parts = or_parts (nat_eq zone.source source) (list_any (λ (other : ZoneValue). nat_eq other.source source) zones) none

      by : (b : Bool) → ranks_in slots r zone ≡ b → times_in slots r zones ≡ 0 → cond b 1 0 + times_in slots r zones ≡ 0
      by true here later =
          let same : r.source ≡ zone.source = ap (λ (q : Rank). q.source) (rank_of_member slots r zone here) in
          absurd (both_ways (nat_eq zone.source source) parts.0 (eq-eqb zone.source source (sym same ∙ from)))
      by false here later = omega (arith, later)

  pub sources_apart : (r : Rank) (zones : List ZoneValue) → sources_differ zones ≡ true → times_in slots r zones ≤ 1
  sources_apart r [] differ = omega arith
  sources_apart r (zone ∷ zones) differ = by (ranks_in slots r zone) refl (sources_apart r zones parts.1)
    where
      parts : (not (list_any (λ (other : ZoneValue). nat_eq other.source zone.source) zones) ≡ true) × (sources_differ zones ≡ true)
      parts = and_parts (not (list_any (λ (other : ZoneValue). nat_eq other.source zone.source) zones)) (sources_differ zones) differ

      by : (b : Bool) → ranks_in slots r zone ≡ b → times_in slots r zones ≤ 1 → cond b 1 0 + times_in slots r zones ≤ 1
      by true here later =
          let same : r.source ≡ zone.source = ap (λ (q : Rank). q.source) (rank_of_member slots r zone here) in
          let none : times_in slots r zones ≡ 0 = none_of_source r zone.source zones same (not-true (list_any (λ (other : ZoneValue). nat_eq other.source zone.source) zones) parts.0) in
          omega (arith, none)
      by false here later = omega (arith, later)
