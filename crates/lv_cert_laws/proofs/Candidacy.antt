-- The possible candidates as what a diagnosis seeks, and the listed candidates as numbers.
use Rattle.std.proofs.Common.{◌≡◌, ℕ, ◌+◌, ◌-◌, Bool, true, false, ◌&&◌, nat_lt, List, [], ◌∷◌, length, Some, slice_get, refl, sym, subst, ◌∙◌, ap}
use Rattle.std.specs.List.{list_all}
use Rattle.std.proofs.lemmas.Bool.{and_parts}
use Rattle.std.proofs.lemmas.Option.{cond_some}
use Rattle.std.proofs.lemmas.List.{length-map}
use Rattle.lv_cert_meaning.specs.lv_base.declared.rank.Rank.{Rank}
use Rattle.lv_cert_meaning.specs.lv_base.declared.search.Pair.{Pair}
use Rattle.lv_cert_meaning.specs.lv_base.Choices.{contains_all, pairs_of}
use Rattle.lv_cert_meaning.specs.lv_model.declared.plant.Plant.{Plant}
use Rattle.lv_cert_meaning.specs.lv_model.declared.state.TrackedState.{TrackedState}
use Rattle.lv_cert_meaning.specs.lv_model.Lists.{move_counts}
use Rattle.lv_cert_meaning.specs.lv_meaning.Possible.{move_number, gives, is_possible}
use Rattle.lv_cert_meaning.specs.lv_meaning.Candidates.{candidates, is_possible_rank}
use Rattle.lv_cert_meaning.specs.lv_meaning.CandidateLaws.{are_moves, moves_cost, IsCandidate}
use Rattle.lv_cert_meaning.specs.lv_meaning.Targets.{have_one_target, are_alike}
use Rattle.lv_cert_meaning.proofs.lv_meaning.Among.{Among, among}
use Rattle.lv_cert_meaning.proofs.lv_meaning.Listing.{same_rank, is_listed}
use Rattle.lv_cert_meaning.proofs.lv_meaning.Possibility.{possible_less}
use Rattle.lv_cert_meaning.proofs.lv_meaning.TargetLemmas.{targets_are_groups}
use Rattle.lv_cert_meaning.proofs.lv_meaning.Reasons.{at_pairs, apart_by}
use Rattle.lv_cert_meaning.specs.lv_boxes.RankedMembers.{ranked_members}
use Rattle.lv_cert_meaning.proofs.lv_system.RangeLemmas.{full_choice_from}
use Rattle.lv_cert_meaning.specs.lv_search_zones.Moves.{move_slots, zones_from}
use Rattle.lv_cert_meaning.proofs.lv_search_zones.ZoneLemmas.{zones_have_candidates}
use Rattle.lv_cert_meaning.specs.Counting.{places_of, at_number}
use Rattle.lv_cert_meaning.specs.Stated.{Stated, rank_from, candidate_of_numbers}
use Rattle.lv_cert_laws.proofs.Options.{anded, numbered_at}
use Rattle.lv_cert_laws.proofs.Shown.{candidate_is_full}
use Rattle.lv_cert_laws.proofs.Sound.{AreApart, TargetsAreAlike}
use Rattle.lv_cert_laws.proofs.Targets.{moves_are_grouped}

-- a candidate for what is stated, and possible by it
pub record IsPossible (plant : Plant) (s : Stated) (r : Rank) : Type 0 where
  pub candidate : IsCandidate plant s.tracked r
  pub possible : is_possible_rank plant s.facts r ≡ true

candidate_length : (plant : Plant) (tracked : List TrackedState) (r : Rank) → IsCandidate plant tracked r → length r.choices ≡ length (move_counts plant)
candidate_length plant tracked r is = sym (length-map r.choices move_number) ∙ (full_choice_from (move_counts plant) r.choices (candidate_is_full plant tracked r is)).whole

same_candidate : (plant : Plant) (tracked : List TrackedState) (q r : Rank) → IsCandidate plant tracked q → IsCandidate plant tracked r → q.source ≡ r.source → q.choices ≡ r.choices → q ≡ r
same_candidate plant tracked q r a b source choices =
    let states : Some a.state ≡ Some b.state = sym a.source ∙ ap (slice_get tracked) source ∙ b.source in
    let state : a.state ≡ b.state = cc states in
    same_rank q r
    (a.cost ∙ ap (λ (s : TrackedState). s.cost.0 + moves_cost plant.types plant.parts q.choices) state ∙ ap (λ cs. b.state.cost.0 + moves_cost plant.types plant.parts cs) choices ∙ sym b.cost) source
    choices

pub possible_apart : (plant : Plant) (s : Stated) → AreApart (IsPossible plant s)
possible_apart plant s =
    record {
      one = λ q r a b source choices. same_candidate plant s.tracked q r a.candidate b.candidate source choices;
      even = λ q r a b. candidate_length plant s.tracked q a.candidate ∙ sym (candidate_length plant s.tracked r b.candidate);
    }

-- candidates whose moves have the same targets lead to one state
pub targets_alike : (plant : Plant) (s : Stated) → TargetsAreAlike (IsPossible plant s) (are_alike s.distinct plant) (move_slots plant) s plant (possible_apart plant s)
targets_alike plant s =
    record {
      alike_by_targets = λ flag q r a b same. alike_with s.distinct flag q r (targets_are_groups plant r q ∙ same);
      grouped = λ r is. moves_are_grouped plant r.choices (candidate_is_full plant s.tracked r is.candidate);
    }
  where
    alike_with : (d : Bool) → d ≡ true → (q r : Rank) → have_one_target plant r q ≡ true → are_alike d plant r q ≡ true
    alike_with true e q r one = one
    alike_with false e q r one = absurd (cc e)

-- choices that aren't possible are in no possible candidate
pub impossible_in_none : (plant : Plant) (s : Stated) (pairs : List Pair) → is_possible plant s.facts pairs ≡ false → (r : Rank) → IsPossible plant s r → contains_all r.choices pairs ≡ false
impossible_in_none plant s pairs never r is =
    apart_by (contains_all r.choices pairs) (is_possible plant s.facts pairs) never
    (λ inside. possible_less plant s.facts (pairs_of r.choices) pairs (λ moves given. at_pairs (gives moves) r.choices pairs given inside) is.possible)

-- the zones of the states have each possible candidate
pub possible_in_zones : (plant : Plant) (s : Stated) (r : Rank) → IsPossible plant s r → Among r (ranked_members (move_slots plant) (zones_from plant 0 s.tracked))
possible_in_zones plant s r is =
    subst (λ (rs : List Rank). Among r rs) (sym (zones_have_candidates plant s.tracked)) (among (candidates plant s.tracked) r (is_listed plant s.tracked r is.candidate))

-- the numbers of a state and of moves from its modes are a candidate
pub numbers_are_candidate : (plant : Plant) (tracked : List TrackedState) (ns : List ℕ) (r : Rank) → candidate_of_numbers plant tracked ns ≡ Some r → IsCandidate plant tracked r
numbers_are_candidate plant tracked [] r h = absurd (cc h)
numbers_are_candidate plant tracked (n ∷ moves) r h =
    let found = anded (rank_from plant (n - 1) moves) (at_number tracked n) r h in
    let both = cond_some (list_all (nat_lt 0) moves && are_moves plant.types plant.parts found.0.state.modes (places_of moves))
    (record { cost = record { 0 = found.0.cost.0 + moves_cost plant.types plant.parts (places_of moves) }; source = n - 1; choices = places_of moves }) r found.2 in
    let fits = and_parts (list_all (nat_lt 0) moves) (are_moves plant.types plant.parts found.0.state.modes (places_of moves)) both.0 in
    subst (λ (q : Rank). IsCandidate plant tracked q) both.1 (record { state = found.0; source = numbered_at tracked n found.0 found.1; moves = fits.1; cost = refl })
