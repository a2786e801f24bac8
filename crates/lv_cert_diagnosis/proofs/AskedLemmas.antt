-- What a session holds is what a certificate may state.
use Rattle.std.proofs.Common.{◌≡◌, ℕ, suc, ◌≤◌, Bool, true, false, List, [], ◌∷◌, ◌++◌, length, map, None, refl, sym, subst, ◌∙◌, ap, arith, nat_eq, Option, All, if◌then◌else◌}
use Rattle.std.specs.List.{flat_map}
use Rattle.std.proofs.lemmas.List.{append_assoc, length-map}
use Rattle.std.proofs.lemmas.List.Elements.{All-head, All-tail, All-cons, All-nil}
use Rattle.lv_base.specs.declared.limits.TheConstants.{TRACKED, VARIABLES, PARTS}
use Rattle.lv_base.specs.declared.rank.Rank.{Rank}
use Rattle.lv_base.specs.declared.search.Pair.{Pair}
use Rattle.lv_model.specs.declared.plant.Plant.{Plant}
use Rattle.lv_model.specs.declared.state.TrackedState.{TrackedState}
use Rattle.lv_model.specs.Lists.{sizes, controls, variable_count, part_moves}
use Rattle.lv_model.specs.Ranges.{plant_ranges}
use Rattle.lv_model.specs.WellFormed.{is_well_formed}
use Rattle.lv_model.specs.declared.plant.Part.{Part}
use Rattle.lv_model.specs.lv_base.declared.range.Range.{Range}
use Rattle.lv_model.specs.lv_base.Fits.{has_value}
use Rattle.lv_base.specs.declared.ids.ValId.{ValId}
use Rattle.std.proofs.lemmas.Bool.{and_parts}
use Rattle.lv_meaning.specs.declared.facts.Facts.{Facts}
use Rattle.lv_meaning.specs.Facts.{commanded, HasValue}
use Rattle.lv_meaning.specs.Candidates.{IsTracked}
use Rattle.lv_meaning.specs.Ranges.{modes_fit}
use Rattle.lv_meaning.specs.CandidateLaws.{IsCandidate}
use Rattle.lv_meaning.specs.Targets.{are_alike}
use Rattle.lv_system.specs.System.{SystemValue, IsSystemOf}
use Rattle.lv_search_zones.specs.lv_boxes.Members.{ZoneValue}
use Rattle.lv_search_zones.specs.Moves.{move_slots, zones_from}
use Rattle.lv_cert.specs.declared.line.Question.TheVariants.{Diagnosis}
use Rattle.lv_cert.specs.declared.line.Line.{Line}
use Rattle.lv_cert.specs.declared.line.Line.TheVariants as line
use Rattle.lv_cert_laws.specs.lv_cert_meaning.Judging.{last_of}
use Rattle.lv_cert_laws.specs.lv_cert_meaning.Space.{all_passed}
use Rattle.lv_base.specs.declared.ids.Cost.{Cost}
use Rattle.lv_cert_writing.specs.Explained.{AreExplained, last_if_full}
use Rattle.lv_cert_writing.specs.Closing.{MayHaveTargets}
use Rattle.lv_cert_writing.specs.declared.closing.Split.{Split}
use Rattle.lv_cert.specs.declared.line.Moment.TheVariants.{Now, Next}
use Rattle.lv_cert.specs.declared.line.Head.TheVariants as head
use Rattle.lv_cert_writing.specs.Lines.{state_lines, fact_lines, values_line, split_lines}
use Rattle.lv_cert_writing.proofs.ClosedLemmas.{are_splits}
use Rattle.lv_cert_laws.specs.lv_cert_meaning.Certifying.{AreStates, AreFacts, IsSettledDiagnosis, CertifiesDiagnosis, AreFormed}
use Rattle.lv_cert_diagnosis.specs.Showing.{Shown, limit_line, head_lines, targets_for, listed_lines, block_lines, IsShown, StepIsShown, HoldsAnswer, HoldsSplits}
use Rattle.lv_cert_diagnosis.proofs.HeadingLemmas.{IsAskedOf}
use Rattle.lv_cert_diagnosis.proofs.AnswerLemmas.{listing, listed_are_candidates, rising_after, new_after}
use Rattle.lv_cert_diagnosis.proofs.Telling.{few_bools, few_model}
use Rattle.lv_cert_diagnosis.proofs.WholeLemmas.{IsMade, whole_lines, whole_certifies, whole_formed}

module _ {X : Type 0} (P : X → Type 0) where
  front_all : (xs ys : List X) → All P (xs ++ ys) → All P xs
  front_all [] ys all = All-nil P
  front_all (x ∷ xs) ys all = All-cons P x xs (All-head P x (xs ++ ys) all) (front_all xs ys (All-tail P x (xs ++ ys) all))

  back_all : (xs ys : List X) → All P (xs ++ ys) → All P ys
  back_all [] ys all = all
  back_all (x ∷ xs) ys all = back_all xs ys (All-tail P x (xs ++ ys) all)

modes_long : (rs : List Range) (ps : List Part) (vs : List ValId) → modes_fit rs ps vs ≡ true → length vs ≡ length ps
modes_long rs [] [] h = refl
modes_long rs [] (v ∷ vs) h = absurd (cc h)
modes_long rs (p ∷ ps) [] h = absurd (cc h)
modes_long rs (p ∷ ps) (v ∷ vs) h = ap suc (modes_long rs ps vs ((and_parts (has_value rs p.first.0 v.0) (modes_fit rs ps vs) h).1))

module _ (plant : Plant) (tracked : List TrackedState) where
  -- the states as a search takes them
  pub are_tracked : AreStates plant tracked → All (IsTracked (length plant.parts)) tracked
  are_tracked states = λ n d inside.
      let one = states.stand n d inside in
      record { modes = modes_long (plant_ranges plant) plant.parts _ one.fits.modes; cost = one.cost }

  pub asked_of : (facts : Facts) (k : ℕ) → is_well_formed plant ≡ true → variable_count plant ≤ VARIABLES → AreStates plant tracked → AreFacts plant facts → 1 ≤ k → k ≤ TRACKED → IsAskedOf plant tracked facts k
  asked_of facts k h variables states held some few =
      let range = held.in_range in
      let present = back_all (HasValue (sizes plant)) (commanded (controls plant) facts.controls) facts.present range.now in
      record {
        well_formed = h;
        variables = variables;
        some = states.some;
        few = states.few;
        stand = λ n d inside. record { fits = (states.stand n d inside).fits; cost = (states.stand n d inside).cost };
        whole = held.fit.controls;
        controls = λ n d inside. record { below = (front_all (HasValue (sizes plant)) (commanded (controls plant) facts.controls) facts.present range.now n d inside).below };
        present = λ n d inside. record { value = (present n d inside).below; observable = (held.present n d inside).observable };
        next = λ n d inside. record { value = (range.next n d inside).below; observable = (held.next n d inside).observable };
        observed = held.few;
        limit = some;
        most = few;
      }

-- targets are given where they are sought
may_have : (distinct : Bool) (plant : Plant) (stated : Bool) → stated ≡ distinct → MayHaveTargets plant stated (targets_for distinct plant)
may_have false plant stated is = tt
may_have true plant stated is = record { distinct_is = is; targets_are = refl }

-- the same of what is equal
pub explained_same : (groups likewise : Option (List (List ℕ))) → groups ≡ likewise → (slots others : List (List Cost)) → slots ≡ others → (zones more : List ZoneValue) → zones ≡ more → (last end : Option Rank) → last ≡ end → (listed : List Rank) (kept : List (List Pair))
    → AreExplained likewise others more end listed kept → AreExplained groups slots zones last listed kept
explained_same groups likewise four slots others one zones more two last end three listed kept h =
    subst (λ (gs : Option (List (List ℕ))). AreExplained gs slots zones last listed kept) (sym four)
    (subst (λ (l : Option Rank). AreExplained likewise slots zones l listed kept) (sym three)
    (subst (λ (zs : List ZoneValue). AreExplained likewise slots zs end listed kept) (sym two) (subst (λ (ss : List (List Cost)). AreExplained likewise ss more end listed kept) (sym one) h)))

-- where steps are shown and the candidates are candidates, these are shown
all_shown : (plant : Plant) (tracked : List TrackedState) (facts : Facts) (ws : List Shown) → All (StepIsShown plant facts) ws → All (IsCandidate plant tracked) (map (λ (w : Shown). w.rank) ws) → All (IsShown plant tracked facts) ws
all_shown plant tracked facts [] steps are = All-nil (IsShown plant tracked facts)
all_shown plant tracked facts (w ∷ ws) steps are =
    let one = (All-head (StepIsShown plant facts) w ws steps).shows in
    All-cons (IsShown plant tracked facts) w ws
    (record { candidate = All-head (IsCandidate plant tracked) w.rank (map (λ (x : Shown). x.rank) ws) are; before = one.before_of; after = one.after_of; step = one.step })
    (all_shown plant tracked facts ws (All-tail (StepIsShown plant facts) w ws steps) (All-tail (IsCandidate plant tracked) w.rank (map (λ (x : Shown). x.rank) ws) are))

-- lines behind the head
head_with : (plant : Plant) (tracked : List TrackedState) (facts : Facts) (k : ℕ) (distinct : Bool) (rest : List Line) → head_lines plant tracked facts k distinct [] ++ rest ≡ head_lines plant tracked facts k distinct rest
head_with plant tracked facts k distinct rest =
    let control : Line = values_line head.Control facts.controls in
    let now : List Line = fact_lines Now facts.present in
    let next : List Line = fact_lines Next facts.next in
    ap (λ (ls : List Line). line.Certificate Diagnosis ∷ line.Model plant.name ∷ limit_line k distinct ∷ ls)
    (append_assoc (state_lines tracked) (control ∷ (now ++ (next ++ []))) rest
    ∙ ap (λ (ls : List Line). state_lines tracked ++ (control ∷ ls)) (append_assoc now (next ++ []) rest ∙ ap (λ (ls : List Line). now ++ ls) (append_assoc next [] rest)))

-- what is told of the whole
pub record IsDone (plant : Plant) (tracked : List TrackedState) (facts : Facts) (k : ℕ) (distinct : Bool) (listed : List Rank) (lines : List Line) : Type 0 where
  pub certifies : CertifiesDiagnosis plant tracked facts k distinct listed lines
  pub formed : AreFormed plant lines

module _ (plant : Plant) (h : is_well_formed plant ≡ true) (variables : variable_count plant ≤ VARIABLES) (parts : length plant.parts ≤ PARTS) (system : SystemValue) (of_plant : IsSystemOf plant system)
    (tracked : List TrackedState) (facts : Facts) (k : ℕ) (distinct : Bool) (listed : List Rank) (kept : List (List Pair)) (states : AreStates plant tracked) (held : AreFacts plant facts) (some : 1 ≤ k) (few : k ≤ TRACKED)
    (settled : IsSettledDiagnosis plant tracked facts k distinct listed kept) where
  made_of : (old new : List Line) (made : List Split) → (holds : HoldsAnswer plant facts listed kept old new)
      → HoldsSplits (targets_for distinct plant) Diagnosis (move_slots plant) (zones_from plant 0 tracked) (last_if_full k listed) listed kept made
      → IsMade plant tracked facts k distinct listed kept holds.shown.shown holds.refuted.blocks (split_lines made)
  made_of old new made holds splits =
      let first = listing plant tracked facts k distinct listed kept settled in
      let parts_long = length-map plant.parts (part_moves plant.types) in
      let clauses = few_model plant h system of_plant in
      record {
        asked = asked_of plant tracked facts k h variables states held some few;
        few_parts = omega (arith, parts_long, parts);
        few_bools = few_bools plant h;
        few_clauses = omega (arith, clauses);
        shown = all_shown plant tracked facts holds.shown.shown holds.shown.are (subst (All (IsCandidate plant tracked)) (sym holds.shown.ranks) (listed_are_candidates plant tracked facts k distinct listed kept settled));
        ranks = holds.shown.ranks;
        few_listed = first.few;
        rising = rising_after listed first.rising;
        new = new_after (are_alike distinct plant) [] listed first.rising (λ r q a none. absurd none) first.apart;
        refuted = holds.refuted.are;
        pairs = holds.refuted.pairs;
        space = splits.closes.space;
        split = λ j distinct_is space_is listed_is excluded_is.
            are_splits Diagnosis plant made j (record j { space = splits.closes.space })
            (splits.closes.judged plant j (may_have distinct plant j.stated.distinct distinct_is) space_is listed_is excluded_is) splits.closes.fitting splits.small;
        passed = λ j k_is listed_is.
            ap (λ o. all_passed splits.closes.space o) ((λ i. if nat_eq (length (listed_is i)) (k_is i) then last_of (listed_is i) else None)) ∙ splits.closes.passed;
      }

  pub done : (old new : List Line) (made : List Split) → old ≡ head_lines plant tracked facts k distinct [] → (holds : HoldsAnswer plant facts listed kept old new)
      → HoldsSplits (targets_for distinct plant) Diagnosis (move_slots plant) (zones_from plant 0 tracked) (last_if_full k listed) listed kept made → (lines : List Line) → lines ≡ (new ++ split_lines made) ++ line.End ∷ []
      → IsDone plant tracked facts k distinct listed lines
  done old new made old_is holds splits lines lines_are =
      let is = made_of old new made holds splits in
      let ws = holds.shown.shown in
      let bs = holds.refuted.blocks in
      subst (IsDone plant tracked facts k distinct listed) (sym (lines_are ∙ all_lines))
      (record {
        certifies = whole_certifies plant tracked facts k distinct listed kept ws bs (split_lines made) is;
        formed = whole_formed plant tracked facts k distinct listed kept ws bs (split_lines made) is;
      })
    where
      shown : List Line
      shown = flat_map listed_lines holds.shown.shown

      refuted : List Line
      refuted = flat_map block_lines holds.refuted.blocks

      last : List Line
      last = split_lines made ++ line.End ∷ []

      all_lines : (new ++ split_lines made) ++ line.End ∷ [] ≡ whole_lines plant tracked facts k distinct holds.shown.shown holds.refuted.blocks (split_lines made)
      all_lines =
          append_assoc new (split_lines made) (line.End ∷ [])
          ∙ ap (λ ls. ls ++ last) holds.refuted.lines ∙ append_assoc holds.between refuted last
          ∙ ap (λ ls. ls ++ (refuted ++ last)) holds.shown.lines ∙ append_assoc old shown (refuted ++ last)
          ∙ ap (λ ls. ls ++ (shown ++ (refuted ++ last))) old_is ∙ head_with plant tracked facts k distinct (shown ++ (refuted ++ last))
