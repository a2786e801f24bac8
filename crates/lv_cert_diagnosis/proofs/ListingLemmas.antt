-- The lines of listed candidates are good where each is shown and they rise.
use Rattle.std.proofs.Common.{◌≡◌, ℕ, zero, suc, ◌+◌, ◌-◌, ◌<◌, ◌≤◌, Bool, true, false, not, ◌&&◌, nat_lt, nat_le, List, [], ◌∷◌, ◌++◌, length, map, slice_get, Option, Some, None, cond, refl, sym, subst, ◌∙◌, ap, ap₂, arith, All}
use Rattle.std.specs.List.{list_all, list_any, flat_map}
use Rattle.std.specs.Option.{option_map_or, option_and_then}
use Rattle.std.proofs.lemmas.Bool.{and_from, and_parts, le-leb, lt-ltb, ltb-true}
use Rattle.std.proofs.lemmas.List.{append_assoc}
use Rattle.std.proofs.lemmas.List.Elements.{All-head, All-tail}
use Rattle.lv_base.specs.declared.ids.ValId.{ValId}
use Rattle.lv_base.specs.declared.rank.Rank.{Rank}
use Rattle.lv_base.specs.Rank.{ranks_before}
use Rattle.lv_model.specs.declared.plant.Plant.{Plant}
use Rattle.lv_model.specs.declared.state.TrackedState.{TrackedState}
use Rattle.lv_model.specs.Lists.{sizes, move_counts, IsFew}
use Rattle.lv_model.specs.WellFormed.{is_well_formed}
use Rattle.lv_model.proofs.Sizes.{few-sizes, few-move_counts}
use Rattle.lv_meaning.specs.declared.facts.Facts.{Facts}
use Rattle.lv_meaning.specs.PossibleLaws.{are_below}
use Rattle.lv_meaning.specs.Targets.{are_alike}
use Rattle.lv_meaning.specs.CandidateLaws.{are_moves, moves_cost, IsCandidate}
use Rattle.lv_cert.specs.declared.line.Question.TheVariants.{Diagnosis}
use Rattle.lv_cert.specs.declared.line.Head.TheVariants as head
use Rattle.lv_cert.specs.declared.line.Line.{Line}
use Rattle.lv_cert.specs.declared.line.Line.TheVariants as line
use Rattle.lv_cert.specs.declared.order.Listing.{Listing}
use Rattle.lv_cert.specs.declared.order.Witness.TheVariants.{OfListed}
use Rattle.lv_cert.specs.declared.order.Place.{Place}
use Rattle.lv_cert.specs.declared.order.Place.TheVariants as place
use Rattle.lv_cert.specs.Order.{after_listing, place_after}
use Rattle.lv_cert.specs.Form.{is_formed, is_within_limit}
use Rattle.lv_cert_laws.specs.lv_cert_meaning.Counting.{are_of, values_of, places_of, at_number}
use Rattle.lv_cert_laws.specs.lv_cert_meaning.Stated.{rank_from, candidate_of_numbers}
use Rattle.lv_cert_laws.specs.lv_cert_meaning.Judging.{Judged, last_of, is_next, has_old_target, with_listed, is_step_of, shows_listed}
use Rattle.lv_cert_laws.proofs.Sound.{last_added}
use Rattle.lv_cert_laws.proofs.Shown.{candidate_is_full}
use Rattle.lv_cert_writing.specs.Lines.{numbers_of, value_numbers, values_line}
use Rattle.lv_cert_writing.specs.Ending.{Ends}
use Rattle.lv_cert_writing.proofs.Ending.{line_first}
use Rattle.lv_cert_writing.proofs.Numbers.{places_back, values_back, back_again, within, formed_of}
use Rattle.lv_cert_diagnosis.specs.Showing.{Shown, listed_lines, IsShown}

all_positive : (ns : List ℕ) → list_all (nat_lt 0) (numbers_of ns) ≡ true
all_positive [] = refl
all_positive (n ∷ ns) = and_from (nat_lt 0 (n + 1)) (list_all (nat_lt 0) (numbers_of ns)) (lt-ltb 0 (n + 1) (omega arith)) (all_positive ns)

-- the numbers of a candidate are read as it
pub candidate_read : (plant : Plant) (tracked : List TrackedState) (r : Rank) → IsCandidate plant tracked r → candidate_of_numbers plant tracked (numbers_of (r.source ∷ r.choices)) ≡ Some r
candidate_read plant tracked r is =
    let positive : nat_lt 0 (r.source + 1) ≡ true = lt-ltb 0 (r.source + 1) (omega arith) in
    let there : at_number tracked (r.source + 1) ≡ Some is.state = ap (λ b. cond b (slice_get tracked (r.source + 1 - 1)) None) positive ∙ ap (slice_get tracked) (back_again r.source) ∙ is.source in
    let moves : are_moves plant.types plant.parts is.state.state.modes (places_of (numbers_of r.choices)) ≡ true = ap (are_moves plant.types plant.parts is.state.state.modes) (places_back r.choices) ∙ is.moves in
    ap (option_and_then (rank_from plant (r.source + 1 - 1) (numbers_of r.choices))) there
    ∙ ap (λ b. cond b (Some (record { cost = record { 0 = is.state.cost.0 + moves_cost plant.types plant.parts (places_of (numbers_of r.choices)) }; source = r.source + 1 - 1; choices = places_of (numbers_of r.choices) })) None)
    (and_from (list_all (nat_lt 0) (numbers_of r.choices)) (are_moves plant.types plant.parts is.state.state.modes (places_of (numbers_of r.choices))) (all_positive r.choices) moves)
    ∙ ap (λ (cs : List ℕ). Some (record { cost = record { 0 = is.state.cost.0 + moves_cost plant.types plant.parts cs }; source = r.source + 1 - 1; choices = cs })) (places_back r.choices)
    ∙ ap₂ (λ (c s : ℕ). Some (record { cost = record { 0 = c }; source = s; choices = r.choices })) (sym is.cost) (back_again r.source)

-- choices below few counts have numbers within the limit
choices_formed : (counts cs : List ℕ) → All IsFew counts → are_below counts cs ≡ true → list_all is_within_limit (numbers_of cs) ≡ true
choices_formed [] [] few h = refl
choices_formed [] (c ∷ cs) few h = absurd (cc h)
choices_formed (n ∷ ns) [] few h = absurd (cc h)
choices_formed (n ∷ ns) (c ∷ cs) few h =
    let two = and_parts (nat_lt c n) (are_below ns cs) h in
    let less : c < n = ltb-true c n two.0 in
    let small = (few 0 0 (omega arith)).few in
    and_from (is_within_limit (c + 1)) (list_all is_within_limit (numbers_of cs)) (within (c + 1) 65 (omega (arith, less, small)) (omega arith)) (choices_formed ns cs (All-tail IsFew n ns few) two.1)

-- each ranks behind the one before, the first behind this one
abbrev pub rise_after : Option Rank → List Rank → Bool
rise_after last [] = true
rise_after last (r ∷ rs) = option_map_or (λ (q : Rank). ranks_before q r) last true && rise_after (Some r) rs

-- each is alike none before it, and none of those before the first
abbrev pub are_new : (Rank → Rank → Bool) → List Rank → List Rank → Bool
are_new alike before [] = true
are_new alike before (r ∷ rs) = not (list_any (alike r) before) && are_new alike (before ++ r ∷ []) rs

-- where so many are listed, and a listed candidate may come
pub record TakesListed (p : Place) (l : Listing) : Type 0 where
  pub listed : (ns : List ℕ) → place_after p (line.Numbers head.Listed ns) ≡ after_listing l (line.Numbers head.Listed ns)

-- what was listed and shown comes to
abbrev pub with_shown : Judged → List Shown → Judged
with_shown j [] = j
with_shown j (w ∷ ws) = with_shown (record j { listed = j.listed ++ w.rank ∷ []; before = Some w.before }) ws

-- where this is listed, more may be
abbrev pub place_with : ℕ → Place → ℕ → List Shown → Place
place_with most p n [] = p
place_with most p n (w ∷ ws) = place_with most (place.Listings (record { most = most; listed = n + 1 })) (n + 1) ws

module _ (plant : Plant) (h : is_well_formed plant ≡ true) (tracked : List TrackedState) (few_tracked : length tracked ≤ 64) (facts : Facts) (distinct : Bool) (final : Judged) (rest : List Line) where
  -- the three lines of a candidate
  one_first : (w : Shown) → IsShown plant tracked facts w → (most n : ℕ) (p : Place) → TakesListed p (record { most = most; listed = n }) → n < most → (j : Judged) → j.stated.tracked ≡ tracked → j.stated.facts ≡ facts
      → is_next j.listed w.rank ≡ true → not (has_old_target plant j w.rank) ≡ true → (more : List Line)
      → Ends Diagnosis plant (place.Listings (record { most = most; listed = n + 1 })) (record j { listed = j.listed ++ w.rank ∷ []; before = Some w.before }) more final
      → Ends Diagnosis plant p j (listed_lines w ++ more) final
  one_first w is most n p takes less j tracked_is facts_is behind new more ends =
      let l : Listing = record { most = most; listed = n + 1 } in
      let listed : Judged = record j { listed = j.listed ++ w.rank ∷ [] } in
      let before : Judged = record listed { before = Some (values_of (value_numbers w.before)) } in
      let room = ap (λ b. cond b (Some (place.Now (OfListed l))) None) (lt-ltb n most less) in
      line_first Diagnosis plant final p (place.Now (OfListed l)) j listed (line.Numbers head.Listed (numbers_of (w.rank.source ∷ w.rank.choices))) (values_line head.Now w.before ∷ values_line head.Next w.after ∷ more)
      (ap (λ (ts : List TrackedState). option_and_then (with_listed plant j) (candidate_of_numbers plant ts (numbers_of (w.rank.source ∷ w.rank.choices)))) tracked_is
      ∙ ap (option_and_then (with_listed plant j)) (candidate_read plant tracked w.rank is.candidate)
      ∙ ap (λ b. cond b (Some listed) None) (and_from (is_next j.listed w.rank) (not (has_old_target plant j w.rank)) behind new))
      (takes.listed (numbers_of (w.rank.source ∷ w.rank.choices)) ∙ room)
      (λ word. listed_formed)
      (line_first Diagnosis plant final (place.Now (OfListed l)) (place.Next (OfListed l)) listed before (values_line head.Now w.before) (values_line head.Next w.after ∷ more)
      (ap (λ b. cond b (Some before) None) is.before) refl (λ word. formed_of (sizes plant) (value_numbers w.before) (few-sizes plant h) is.before)
      (line_first Diagnosis plant final (place.Next (OfListed l)) (place.Listings l) before before (values_line head.Next w.after) more
      (ap (λ b. cond b (Some before) None)
      (and_from (are_of (sizes plant) (value_numbers w.after)) (shows_listed plant before (values_of (value_numbers w.before)) (values_of (value_numbers w.after))) is.after
      (ap (λ o. option_map_or (is_step_of plant j.stated.facts (values_of (value_numbers w.before)) (values_of (value_numbers w.after))) o false) (last_added j.listed w.rank)
      ∙ ap (λ (f : Facts). is_step_of plant f (values_of (value_numbers w.before)) (values_of (value_numbers w.after)) w.rank) facts_is
      ∙ (λ i. is_step_of plant facts (values_back w.before i) (values_back w.after i) w.rank)
      ∙ is.step)))
      refl (λ word. formed_of (sizes plant) (value_numbers w.after) (few-sizes plant h) is.after)
      (subst (λ (vs : List ValId). Ends Diagnosis plant (place.Listings l) (record listed { before = Some vs }) more final) (sym (values_back w.before)) ends)))
    where
      source_there : (xs : List TrackedState) (k : ℕ) (s : TrackedState) → slice_get xs k ≡ Some s → k < length xs
      source_there [] k s e = absurd (cc e)
      source_there (x ∷ xs) zero s e = omega arith
      source_there (x ∷ xs) (suc k) s e = let later = source_there xs k s e in omega (arith, later)

      listed_formed : is_formed (line.Numbers head.Listed (numbers_of (w.rank.source ∷ w.rank.choices))) ≡ true
      listed_formed =
          let inside = source_there tracked w.rank.source is.candidate.state is.candidate.source in
          and_from (nat_le 1 (suc (length (numbers_of w.rank.choices)))) (list_all is_within_limit (numbers_of (w.rank.source ∷ w.rank.choices))) (le-leb 1 (suc (length (numbers_of w.rank.choices))) (omega arith))
          (and_from (is_within_limit (w.rank.source + 1)) (list_all is_within_limit (numbers_of w.rank.choices)) (within (w.rank.source + 1) 64 (omega (arith, inside, few_tracked)) (omega arith))
          (choices_formed (move_counts plant) w.rank.choices (few-move_counts plant h) (candidate_is_full plant tracked w.rank is.candidate)))

  pub listed_first : (ws : List Shown) → All (IsShown plant tracked facts) ws → (most n : ℕ) (p : Place) → TakesListed p (record { most = most; listed = n }) → n + length ws ≤ most
      → (j : Judged) → j.stated.tracked ≡ tracked → j.stated.facts ≡ facts → j.stated.distinct ≡ distinct → rise_after (last_of j.listed) (map (λ (w : Shown). w.rank) ws) ≡ true
      → are_new (are_alike distinct plant) j.listed (map (λ (w : Shown). w.rank) ws) ≡ true
      → Ends Diagnosis plant (place_with most p n ws) (with_shown j ws) rest final → Ends Diagnosis plant p j (flat_map listed_lines ws ++ rest) final
  listed_first [] shown most n p takes few j tracked_is facts_is distinct_is rise new ends = ends
  listed_first (w ∷ ws) shown most n p takes few j tracked_is facts_is distinct_is rise new ends =
      let two = and_parts (option_map_or (λ (q : Rank). ranks_before q w.rank) (last_of j.listed) true) (rise_after (Some w.rank) (map (λ (x : Shown). x.rank) ws)) rise in
      let other = and_parts (not (list_any (are_alike distinct plant w.rank) j.listed)) (are_new (are_alike distinct plant) (j.listed ++ w.rank ∷ []) (map (λ (x : Shown). x.rank) ws)) new in
      let fresh : not (has_old_target plant j w.rank) ≡ true = ap (λ d. not (list_any (are_alike d plant w.rank) j.listed)) distinct_is ∙ other.0 in
      let next : Judged = record j { listed = j.listed ++ w.rank ∷ []; before = Some w.before } in
      let last : rise_after (last_of next.listed) (map (λ (x : Shown). x.rank) ws) ≡ true = ap (λ o. rise_after o (map (λ (x : Shown). x.rank) ws)) (last_added j.listed w.rank) ∙ two.1 in
      subst (λ ls. Ends Diagnosis plant p j ls final) (sym (append_assoc (listed_lines w) (flat_map listed_lines ws) rest))
      (one_first w (All-head (IsShown plant tracked facts) w ws shown) most n p takes (omega (arith, few)) j tracked_is facts_is two.0 fresh (flat_map listed_lines ws ++ rest)
      (listed_first ws (All-tail (IsShown plant tracked facts) w ws shown) most (n + 1) (place.Listings (record { most = most; listed = n + 1 })) (record { listed = λ ns. refl }) (omega (arith, few)) next tracked_is facts_is distinct_is last other.1 ends))
