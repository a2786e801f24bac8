-- A listed candidate that a pair of lines shows is possible.
use Rattle.std.proofs.Common.{◌≡◌, ℕ, ◌-◌, ◌<◌, true, nat_eq, nat_lt, List, [], ◌∷◌, length, get_or, slice_index_or, refl, ◌∙◌, ap}
use Rattle.std.specs.Prelude.{map}
use Rattle.std.proofs.lemmas.Bool.{and_parts, and_from, ltb-true, lt-ltb}
use Rattle.std.proofs.lemmas.List.{length-map, get_or-map}
use Rattle.lv_cert_meaning.specs.lv_base.declared.rank.Rank.{Rank}
use Rattle.lv_cert_meaning.specs.lv_base.declared.search.Pair.{Pair}
use Rattle.lv_cert_meaning.specs.lv_base.Choices.{picks, contains_all, pairs_of}
use Rattle.lv_cert_meaning.specs.lv_model.declared.plant.Plant.{Plant}
use Rattle.lv_cert_meaning.specs.lv_model.declared.state.TrackedState.{TrackedState}
use Rattle.lv_cert_meaning.specs.lv_model.Lists.{sizes, move_counts}
use Rattle.lv_cert_meaning.specs.lv_boxes.Walk.{candidate_of}
use Rattle.lv_cert_meaning.specs.lv_meaning.declared.facts.Facts.{Facts}
use Rattle.lv_cert_meaning.specs.lv_meaning.Possible.{move_number, gives, extends}
use Rattle.lv_cert_meaning.specs.lv_meaning.Candidates.{candidates, is_possible_rank}
use Rattle.lv_cert_meaning.specs.lv_meaning.PossibleLaws.{are_below}
use Rattle.lv_cert_meaning.specs.lv_meaning.CandidateLaws.{IsCandidate}
use Rattle.lv_cert_meaning.proofs.lv_meaning.Among.{all_among, among}
use Rattle.lv_cert_meaning.proofs.lv_meaning.Listing.{is_listed}
use Rattle.lv_cert_meaning.proofs.lv_meaning.Possibility.{possible}
use Rattle.lv_cert_meaning.proofs.lv_meaning.Reasons.{own_pairs}
use Rattle.lv_cert_meaning.specs.lv_search_zones.Moves.{is_full_choice}
use Rattle.lv_cert_meaning.proofs.lv_search_zones.ZoneLemmas.{candidates_are_full}
use Rattle.lv_cert_meaning.specs.Counting.{is_one_of, are_of, places_of, values_of}
use Rattle.lv_cert_meaning.specs.Judging.{is_step_of}
use Rattle.lv_cert_laws.proofs.Saying.{one_below}

-- numbers of so many things each have places below these counts
pub places_below : (counts ns : List ℕ) → are_of counts ns ≡ true → are_below counts (places_of ns) ≡ true
places_below [] [] h = refl
places_below [] (n ∷ ns) h = absurd (cc h)
places_below (count ∷ counts) [] h = absurd (cc h)
places_below (count ∷ counts) (n ∷ ns) h =
    let two = and_parts (is_one_of count n) (are_of counts ns) h in
    and_from (nat_lt (n - 1) count) (are_below counts (places_of ns)) (lt-ltb (n - 1) count (one_below count n two.0)) (places_below counts ns two.1)

-- moves extend what picks among their numbers
picked_given : (cs : List ℕ) (p : Pair) → picks cs p ≡ true → gives (map move_number cs) p ≡ true
picked_given cs p h =
    let two = and_parts (nat_lt p.slot (length cs)) (nat_eq (get_or cs p.slot 0) p.choice) h in
    let within : p.slot < length cs = ltb-true p.slot (length cs) two.0 in
    and_from (nat_lt p.slot (length (map move_number cs))) (nat_eq (slice_index_or (map move_number cs) p.slot (record { 0 = 0 })).0 p.choice)
    (ap (nat_lt p.slot) (length-map cs move_number) ∙ two.0)
    (ap (λ m. nat_eq m.0 p.choice) (get_or-map move_number cs p.slot 0 (record { 0 = 0 }) within) ∙ two.1)

contained_extended : (cs : List ℕ) (pairs : List Pair) → contains_all cs pairs ≡ true → extends (map move_number cs) pairs ≡ true
contained_extended cs [] h = refl
contained_extended cs (p ∷ ps) h =
    let two = and_parts (picks cs p) (contains_all cs ps) h in
    and_from (gives (map move_number cs) p) (extends (map move_number cs) ps) (picked_given cs p two.0) (contained_extended cs ps two.1)

pub own_extended : (cs : List ℕ) → extends (map move_number cs) (pairs_of cs) ≡ true
own_extended cs = contained_extended cs (pairs_of cs) (own_pairs [] cs)

-- a candidate has a move for each part
pub candidate_is_full : (plant : Plant) (tracked : List TrackedState) (r : Rank) → IsCandidate plant tracked r → are_below (move_counts plant) r.choices ≡ true
candidate_is_full plant tracked r is =
    all_among (λ (q : Rank). is_full_choice plant (candidate_of q)) (candidates plant tracked) r (candidates_are_full plant tracked) (among (candidates plant tracked) r (is_listed plant tracked r is))

pub shown_is_possible : (plant : Plant) (facts : Facts) (tracked : List TrackedState) (r : Rank) → IsCandidate plant tracked r → (before after : List ℕ)
    → are_of (sizes plant) before ≡ true → are_of (sizes plant) after ≡ true → is_step_of plant facts (values_of before) (values_of after) r ≡ true → is_possible_rank plant facts r ≡ true
shown_is_possible plant facts tracked r is before after b a shown =
    possible plant facts (pairs_of r.choices)
    (record {
      before = places_of before;
      after = places_of after;
      moves = r.choices;
      before_below = places_below (sizes plant) before b;
      after_below = places_below (sizes plant) after a;
      moves_below = candidate_is_full plant tracked r is;
      step = and_from (extends (map move_number r.choices) (pairs_of r.choices)) (is_step_of plant facts (values_of before) (values_of after) r) (own_extended r.choices) shown;
    })
