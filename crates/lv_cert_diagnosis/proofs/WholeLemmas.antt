-- All lines together are a certificate of the answer.
use Rattle.std.proofs.Common.{◌≡◌, ℕ, ◌+◌, ◌^◌, ◌≤◌, Bool, true, List, [], ◌∷◌, ◌++◌, length, map, Some, None, refl, sym, subst, ◌∙◌, ap, arith, All}
use Rattle.std.specs.List.{flat_map}
use Rattle.std.proofs.lemmas.List.{append_assoc, append-nil, length-map}
use Rattle.lv_base.specs.declared.rank.Rank.{Rank}
use Rattle.lv_base.specs.declared.search.Pair.{Pair}
use Rattle.lv_model.specs.declared.plant.Plant.{Plant}
use Rattle.lv_model.specs.declared.state.TrackedState.{TrackedState}
use Rattle.lv_model.specs.Lists.{move_counts}
use Rattle.lv_meaning.specs.declared.facts.Facts.{Facts}
use Rattle.lv_meaning.specs.Targets.{are_alike}
use Rattle.lv_search_zones.specs.lv_compile.Booleans.{bool_count}
use Rattle.lv_search_zones.specs.lv_compile.ModelClauses.{model_clauses}
use Rattle.lv_search_zones.specs.Moves.{move_slots, zones_from}
use Rattle.lv_cert.specs.declared.line.Question.TheVariants.{Diagnosis}
use Rattle.lv_cert.specs.declared.line.Line.{Line}
use Rattle.lv_cert.specs.declared.line.Line.TheVariants as line
use Rattle.lv_cert.specs.declared.order.Place.{Place}
use Rattle.lv_cert.specs.declared.order.Place.TheVariants as place
use Rattle.lv_cert_laws.specs.lv_cert_meaning.Stated.{Stated}
use Rattle.lv_cert_laws.specs.lv_cert_meaning.Space.{Space, all_passed}
use Rattle.lv_cert_laws.specs.lv_cert_meaning.Judging.{Judged, unjudged, full_to}
use Rattle.lv_cert_writing.specs.Ending.{Ends, BeginApart}
use Rattle.lv_cert_writing.specs.Splitting.{AreSplits, none, one_more}
use Rattle.lv_cert_writing.proofs.Splits.{TakesSplits, splits_end}
use Rattle.lv_cert_laws.specs.lv_cert_meaning.Certifying.{CertifiesDiagnosis, AreFormed}
use Rattle.lv_cert_diagnosis.specs.Showing.{Shown, Block, head_lines, listed_lines, block_lines, IsShown, IsRefuted}
use Rattle.lv_cert_diagnosis.proofs.HeadingLemmas.{IsAskedOf, headed, head_first}
use Rattle.lv_cert_diagnosis.proofs.ListingLemmas.{with_shown, place_with, rise_after, are_new, listed_first}
use Rattle.lv_cert_diagnosis.proofs.RefutingLemmas.{TakesConflicts, behind_block, with_blocks, place_behind_blocks, blocks_first}

-- what listing and refuting leave and add
record Grown (from to : Judged) (listed : List Rank) (excluded : List (List Pair)) : Type 0 where
  pub stated : to.stated ≡ from.stated
  pub space : to.space ≡ from.space
  pub listed_are : to.listed ≡ from.listed ++ listed
  pub excluded_are : to.excluded ≡ from.excluded ++ excluded

shown_grown : (j : Judged) (ws : List Shown) → Grown j (with_shown j ws) (map (λ (w : Shown). w.rank) ws) []
shown_grown j [] = record { stated = refl; space = refl; listed_are = sym (append-nil j.listed); excluded_are = sym (append-nil j.excluded) }
shown_grown j (w ∷ ws) =
    let next : Judged = record j { listed = j.listed ++ w.rank ∷ []; before = Some w.before } in
    let g : Grown next (with_shown next ws) (map (λ (x : Shown). x.rank) ws) [] = shown_grown next ws in
    record { stated = g.stated; space = g.space; listed_are = g.listed_are ∙ append_assoc j.listed (w.rank ∷ []) (map (λ (x : Shown). x.rank) ws); excluded_are = g.excluded_are }

blocks_grown : (plant : Plant) (facts : Facts) (j : Judged) (bs : List Block) → Grown j (with_blocks plant facts j bs) [] (map (λ (b : Block). b.pairs) bs)
blocks_grown plant facts j [] = record { stated = refl; space = refl; listed_are = sym (append-nil j.listed); excluded_are = sym (append-nil j.excluded) }
blocks_grown plant facts j (b ∷ bs) =
    let next : Judged = behind_block plant facts j b in
    let g : Grown next (with_blocks plant facts next bs) [] (map (λ (x : Block). x.pairs) bs) = blocks_grown plant facts next bs in
    record { stated = g.stated; space = g.space; listed_are = g.listed_are; excluded_are = g.excluded_are ∙ append_assoc j.excluded (b.pairs ∷ []) (map (λ (x : Block). x.pairs) bs) }

-- a place from which lists, conflicts and splits may come, as far as each may
record TakesAll (p : Place) : Type 0 where
  pub conflicts : TakesConflicts p
  pub splits : TakesSplits Diagnosis p

all_with : (most n : ℕ) (p : Place) (ws : List Shown) → TakesAll p → TakesAll (place_with most p n ws)
all_with most n p [] takes = takes
all_with most n p (w ∷ ws) takes =
    all_with most (n + 1) (place.Listings (record { most = most; listed = n + 1 })) ws
    (record { conflicts = record { conflict = λ ns. refl }; splits = record { split = λ m by. refl; end = refl } })

splits_behind : (p : Place) (bs : List Block) → TakesSplits Diagnosis p → TakesSplits Diagnosis (place_behind_blocks p bs)
splits_behind p [] takes = takes
splits_behind p (b ∷ bs) takes = record { split = λ m by. refl; end = refl }

splits_apart : {plant : Plant} {j to : Judged} {ls : List Line} → AreSplits Diagnosis plant j ls to → BeginApart (ls ++ line.End ∷ [])
splits_apart none = record { same = λ is_empty. refl }
splits_apart (one_more n by good fits formed rest) = record { same = λ is_empty. refl }

-- what the whole is made of
pub record IsMade (plant : Plant) (tracked : List TrackedState) (facts : Facts) (k : ℕ) (distinct : Bool) (listed : List Rank) (kept : List (List Pair)) (ws : List Shown) (bs : List Block) (splits : List Line) : Type 0 where
  pub asked : IsAskedOf plant tracked facts k
  pub few_parts : length (move_counts plant) ≤ 4096
  pub few_bools : bool_count plant ≤ 10 ^ 30
  pub few_clauses : length (model_clauses plant) ≤ 10 ^ 20
  pub shown : All (IsShown plant tracked facts) ws
  pub ranks : map (λ (w : Shown). w.rank) ws ≡ listed
  pub few_listed : length listed ≤ k
  pub rising : rise_after None listed ≡ true
  pub new : are_new (are_alike distinct plant) [] listed ≡ true
  pub refuted : All (IsRefuted plant facts) bs
  pub pairs : map (λ (b : Block). b.pairs) bs ≡ kept
  pub space : Space
  pub split : (j : Judged) → j.stated.distinct ≡ distinct → j.space ≡ record { slots = move_slots plant; zones = map Some (zones_from plant 0 tracked) } → j.listed ≡ listed → j.excluded ≡ kept
      → AreSplits Diagnosis plant j splits (record j { space = space })
  pub passed : (j : Judged) → j.stated.k ≡ k → j.listed ≡ listed → all_passed space (full_to j) ≡ true

abbrev pub whole_lines : Plant → List TrackedState → Facts → ℕ → Bool → List Shown → List Block → List Line → List Line
whole_lines plant tracked facts k distinct ws bs splits = head_lines plant tracked facts k distinct (flat_map listed_lines ws ++ (flat_map block_lines bs ++ (splits ++ line.End ∷ [])))

module _ (plant : Plant) (tracked : List TrackedState) (facts : Facts) (k : ℕ) (distinct : Bool) (listed : List Rank) (kept : List (List Pair)) (ws : List Shown) (bs : List Block) (splits : List Line)
    (is : IsMade plant tracked facts k distinct listed kept ws bs splits) where
  abbrev head_is : Judged
  head_is = headed plant tracked facts k distinct

  abbrev listed_is : Judged
  listed_is = with_shown head_is ws

  abbrev refuted_is : Judged
  refuted_is = with_blocks plant facts listed_is bs

  abbrev pub ended_is : Judged
  ended_is = record refuted_is { space = is.space }

  first_grown : Grown head_is listed_is (map (λ (w : Shown). w.rank) ws) []
  first_grown = shown_grown head_is ws

  then_grown : Grown listed_is refuted_is [] (map (λ (b : Block). b.pairs) bs)
  then_grown = blocks_grown plant facts listed_is bs

  stated_are : refuted_is.stated ≡ head_is.stated
  stated_are = then_grown.stated ∙ first_grown.stated

  listed_are : refuted_is.listed ≡ listed
  listed_are = then_grown.listed_are ∙ append-nil listed_is.listed ∙ first_grown.listed_are ∙ is.ranks

  excluded_are : refuted_is.excluded ≡ kept
  excluded_are = then_grown.excluded_are ∙ ap (λ (cs : List (List Pair)). cs ++ map (λ (b : Block). b.pairs) bs) first_grown.excluded_are ∙ is.pairs

  pub whole_ends : Ends Diagnosis plant place.Start (unjudged plant Diagnosis) (whole_lines plant tracked facts k distinct ws bs splits) ended_is
  whole_ends =
      let many : ℕ = length facts.present + length facts.next in
      let start : Place = place.Facts k many in
      let made = is.split refuted_is (ap (λ (s : Stated). s.distinct) stated_are) (then_grown.space ∙ first_grown.space) listed_are excluded_are in
      let last : all_passed is.space (full_to ended_is) ≡ true = is.passed ended_is (ap (λ (s : Stated). s.k) stated_are) listed_are in
      let takes : TakesAll start = record { conflicts = record { conflict = λ ns. refl }; splits = record { split = λ m by. refl; end = refl } } in
      let all = all_with k 0 start ws takes in
      let many_listed : length ws ≤ k = subst (λ n. n ≤ k) (sym (ap length is.ranks) ∙ length-map ws (λ (w : Shown). w.rank)) is.few_listed in
      let few : 0 + length ws ≤ k = omega (arith, many_listed) in
      head_first plant tracked facts k distinct is.asked ended_is (flat_map listed_lines ws ++ (flat_map block_lines bs ++ (splits ++ line.End ∷ [])))
      (listed_first plant is.asked.well_formed tracked is.asked.few facts distinct ended_is (flat_map block_lines bs ++ (splits ++ line.End ∷ [])) ws is.shown k 0 start (record { listed = λ ns. refl }) few head_is refl refl refl
      (ap (rise_after None) is.ranks ∙ is.rising) (ap (are_new (are_alike distinct plant) []) is.ranks ∙ is.new)
      (blocks_first plant is.asked.well_formed is.few_parts is.few_bools is.few_clauses facts ended_is (splits ++ line.End ∷ []) (splits_apart made) bs is.refuted (place_with k start 0 ws) all.conflicts listed_is
      (ap (λ (s : Stated). s.literals) first_grown.stated)
      (splits_end Diagnosis plant (place_behind_blocks (place_with k start 0 ws) bs) (splits_behind (place_with k start 0 ws) bs all.splits) made last)))

  pub whole_certifies : CertifiesDiagnosis plant tracked facts k distinct listed (whole_lines plant tracked facts k distinct ws bs splits)
  whole_certifies = record {
    judged = ended_is;
    question = refl;
    valid = record { order = whole_ends.ordered; good = whole_ends.judged 1 };
    limit = ap (λ (s : Stated). s.k) stated_are;
    distinct_is = ap (λ (s : Stated). s.distinct) stated_are;
    tracked_are = ap (λ (s : Stated). s.tracked) stated_are;
    facts_are = ap (λ (s : Stated). s.facts) stated_are;
    listed_are = listed_are;
  }

  pub whole_formed : AreFormed plant (whole_lines plant tracked facts k distinct ws bs splits)
  whole_formed = whole_ends.formed
