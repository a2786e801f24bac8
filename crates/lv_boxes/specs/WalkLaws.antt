-- What ranked lists, reasons and walks promise.
use Rattle.std.specs.Prelude.{◌≡◌, ℕ, ◌+◌, ◌≤◌, Bool, true, false, not, nat_eq, List, [], ◌∷◌, ◌++◌, ◌&&◌, length, take, filter, if◌then◌else◌}
use Rattle.std.specs.List.{list_all, list_any}
use Rattle.lv_base.specs.declared.rank.Rank.{Rank}
use Rattle.lv_base.specs.declared.search.Pair.{Pair}
use Rattle.lv_base.specs.declared.search.Candidate.{Candidate}
use Rattle.lv_base.specs.Choices.{contains_all, slots_rise}
use Rattle.lv_boxes.specs.declared.outcome.Outcome.TheVariants.{Settled, Unsettled}
use Rattle.lv_boxes.specs.Ranked.{rises, is_among, ranked}
use Rattle.lv_boxes.specs.Walk.{Walked, candidate_of, is_ruled_out, walk, distinct_walk, first_of_each}
use Rattle.lv_boxes.specs.Reason.{reduced}

-- ranks put in order rise, and are the same ranks
pub record RankedIsInOrder : Type 0 where
  pub rising : (rs : List Rank) → rises (ranked rs) ≡ true
  pub same : (r : Rank) (rs : List Rank) → is_among r (ranked rs) ≡ is_among r rs

-- rising lists in which the same ranks stand are one
abbrev pub RankedListIsOne : Type 0
RankedListIsOne = (rs ss : List Rank) → rises rs ≡ true → rises ss ≡ true → ((r : Rank) → is_among r rs ≡ is_among r ss) → rs ≡ ss

-- what is left of impossible pairs is not possible; what each of them passes each that is left passes; its slots rise as theirs do
pub record ReducedIsImpossiblePart : Type 0 where
  pub impossible : (possible : List Pair → Bool) (pairs : List Pair) → possible pairs ≡ false → possible (reduced possible [] pairs) ≡ false
  pub part : (possible : List Pair → Bool) (passes : Pair → Bool) (pairs : List Pair) → list_all passes pairs ≡ true → list_all passes (reduced possible [] pairs) ≡ true
  pub rising : (possible : List Pair → Bool) (pairs : List Pair) → slots_rise pairs ≡ true → slots_rise (reduced possible [] pairs) ≡ true

-- what is possible stays so where a pair is left out
pub record IsMonotone (possible : List Pair → Bool) : Type 0 where
  pub without : (front : List Pair) (p : Pair) (back : List Pair) → possible (front ++ (p ∷ back)) ≡ true → possible (front ++ back) ≡ true

-- each pair behind the front is needed: without it the others are possible
abbrev pub each_is_needed : (List Pair → Bool) → List Pair → List Pair → Bool
each_is_needed possible front [] = true
each_is_needed possible front (p ∷ back) = possible (front ++ back) && each_is_needed possible (front ++ (p ∷ [])) back

-- no pair can be left out of what is left
abbrev pub ReducedIsMinimal : Type 0
ReducedIsMinimal = (possible : List Pair → Bool) → IsMonotone possible → (pairs : List Pair) → each_is_needed possible [] (reduced possible [] pairs) ≡ true

-- a walk lists at most k and no two that are alike, what it lists fits, and its trials are within the budget, which is used up where it is unsettled
pub record WalkListsFitting : Type 0 where
  pub most : (alike : Rank → Rank → Bool) (fits : Candidate → Bool) (reason : Candidate → List Pair) (k budget : ℕ) (entries : List Rank) → length (distinct_walk alike fits reason k budget entries).listed ≤ k
  pub fitting : (alike : Rank → Rank → Bool) (fits : Candidate → Bool) (reason : Candidate → List Pair) (k budget : ℕ) (entries : List Rank)
      → list_all (λ r. fits (candidate_of r)) (distinct_walk alike fits reason k budget entries).listed ≡ true
  pub trials : (alike : Rank → Rank → Bool) (fits : Candidate → Bool) (reason : Candidate → List Pair) (k budget : ℕ) (entries : List Rank)
      → length (distinct_walk alike fits reason k budget entries).listed + length (distinct_walk alike fits reason k budget entries).kept ≤ budget
  pub used_up : (alike : Rank → Rank → Bool) (fits : Candidate → Bool) (reason : Candidate → List Pair) (k budget : ℕ) (entries : List Rank)
      → (distinct_walk alike fits reason k budget entries).outcome ≡ Unsettled
      → length (distinct_walk alike fits reason k budget entries).listed + length (distinct_walk alike fits reason k budget entries).kept ≡ budget
  pub apart : (alike : Rank → Rank → Bool) (fits : Candidate → Bool) (reason : Candidate → List Pair) (k budget : ℕ) (entries : List Rank)
      → first_of_each alike (distinct_walk alike fits reason k budget entries).listed ≡ (distinct_walk alike fits reason k budget entries).listed

-- the walk in which no entry is passed over but for a kept conflict: it ends settled where k are listed; it passes over what a kept
-- conflict rules out; it ends unsettled where the budget of trials is used up; else the next is tried. At the end it is settled
abbrev pub plain_walk_from : (Candidate → Bool) → (Candidate → List Pair) → ℕ → ℕ → List Rank → List (List Pair) → List Rank → Walked
plain_walk_from fits reason k budget listed kept [] = record { outcome = Settled; listed = listed; kept = kept }
plain_walk_from fits reason k budget listed kept (r ∷ rs) =
    (if nat_eq (length listed) k then record { outcome = Settled; listed = listed; kept = kept } else
    (if is_ruled_out kept r.choices then plain_walk_from fits reason k budget listed kept rs else
    (if nat_eq (length listed + length kept) budget then record { outcome = Unsettled; listed = listed; kept = kept } else
    (if fits (candidate_of r) then plain_walk_from fits reason k budget (listed ++ (r ∷ [])) kept rs else
    plain_walk_from fits reason k budget listed (kept ++ (reason (candidate_of r) ∷ [])) rs))))

-- where no entry is alike another, the walk is the plain one
abbrev pub WalkIsPlain : Type 0
WalkIsPlain = (fits : Candidate → Bool) (reason : Candidate → List Pair) (k budget : ℕ) (entries : List Rank) → walk fits reason k budget entries ≡ plain_walk_from fits reason k budget [] [] entries

-- of the candidates that suit: the reason of one that doesn't fit is in none that fits
pub record IsSound (suits fits : Candidate → Bool) (reason : Candidate → List Pair) : Type 0 where
  pub apart : (c d : Candidate) → suits c ≡ true → suits d ≡ true → fits c ≡ false → fits d ≡ true → contains_all d.choices (reason c) ≡ false

-- what is alike an entry is alike all that this one is alike
abbrev pub IsTransitive : (Rank → Rank → Bool) → Type 0
IsTransitive alike = (r q p : Rank) → alike r q ≡ true → alike q p ≡ true → alike r p ≡ true

-- with sound reasons a settled walk along entries that suit lists the first k that fit, or all if fewer do; one that lists no two
-- which are alike lists the first k of those that fit and are alike none before them that fits; with a trial for each entry it is settled
pub record SettledWalkIsExact : Type 0 where
  pub exact : (suits fits : Candidate → Bool) (reason : Candidate → List Pair) → IsSound suits fits reason → (k budget : ℕ) (entries : List Rank)
      → list_all (λ r. suits (candidate_of r)) entries ≡ true
      → (walk fits reason k budget entries).outcome ≡ Settled → (walk fits reason k budget entries).listed ≡ take k (filter (λ r. fits (candidate_of r)) entries)
  pub distinct : (alike : Rank → Rank → Bool) → IsTransitive alike → (suits fits : Candidate → Bool) (reason : Candidate → List Pair) → IsSound suits fits reason → (k budget : ℕ) (entries : List Rank)
      → list_all (λ r. suits (candidate_of r)) entries ≡ true → (distinct_walk alike fits reason k budget entries).outcome ≡ Settled
      → (distinct_walk alike fits reason k budget entries).listed ≡ take k (first_of_each alike (filter (λ r. fits (candidate_of r)) entries))
  pub ample : (alike : Rank → Rank → Bool) (fits : Candidate → Bool) (reason : Candidate → List Pair) (k budget : ℕ) (entries : List Rank)
      → length entries ≤ budget → (distinct_walk alike fits reason k budget entries).outcome ≡ Settled

-- with a larger budget a settled walk comes to the same, and another one to what it had listed and kept and more
pub record WalkIsTakenUp : Type 0 where
  pub settled : (alike : Rank → Rank → Bool) (fits : Candidate → Bool) (reason : Candidate → List Pair) (k budget more : ℕ) (entries : List Rank)
      → (distinct_walk alike fits reason k budget entries).outcome ≡ Settled → distinct_walk alike fits reason k (budget + more) entries ≡ distinct_walk alike fits reason k budget entries
  pub listed : (alike : Rank → Rank → Bool) (fits : Candidate → Bool) (reason : Candidate → List Pair) (k budget more : ℕ) (entries : List Rank)
      → take (length (distinct_walk alike fits reason k budget entries).listed) (distinct_walk alike fits reason k (budget + more) entries).listed ≡ (distinct_walk alike fits reason k budget entries).listed
  pub kept : (alike : Rank → Rank → Bool) (fits : Candidate → Bool) (reason : Candidate → List Pair) (k budget more : ℕ) (entries : List Rank)
      → take (length (distinct_walk alike fits reason k budget entries).kept) (distinct_walk alike fits reason k (budget + more) entries).kept ≡ (distinct_walk alike fits reason k budget entries).kept

-- the pairs are one
abbrev pub is_pair : Pair → Pair → Bool
is_pair p q = nat_eq p.slot q.slot && nat_eq p.choice q.choice

-- the list has all pairs of the other
abbrev pub has_pairs : List Pair → List Pair → Bool
has_pairs whole part = list_all (λ p. list_any (is_pair p) whole) part

-- none of the lists has all pairs of another
abbrev pub none_in_another : List (List Pair) → Bool
none_in_another [] = true
none_in_another (c ∷ cs) = list_all (λ d. not (has_pairs c d) && not (has_pairs d c)) cs && none_in_another cs

-- of the candidates that suit and don't fit: each contains its reason, and no reason is another's proper part
pub record AreMinimal (suits fits : Candidate → Bool) (reason : Candidate → List Pair) : Type 0 where
  pub inside : (c : Candidate) → suits c ≡ true → fits c ≡ false → contains_all c.choices (reason c) ≡ true
  pub whole : (c d : Candidate) → suits c ≡ true → suits d ≡ true → fits c ≡ false → fits d ≡ false → has_pairs (reason c) (reason d) ≡ true → has_pairs (reason d) (reason c) ≡ true

-- with minimal reasons no kept conflict of a walk along entries that suit is in another
abbrev pub KeptAreApart : Type 0
KeptAreApart = (alike : Rank → Rank → Bool) (suits fits : Candidate → Bool) (reason : Candidate → List Pair) → AreMinimal suits fits reason → (k budget : ℕ) (entries : List Rank)
    → list_all (λ r. suits (candidate_of r)) entries ≡ true → none_in_another (distinct_walk alike fits reason k budget entries).kept ≡ true
