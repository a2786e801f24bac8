-- What a certificate of a diagnosis shows, and by which lines.
use Rattle.std.specs.Prelude.{◌≡◌, ◌<◌, ◌^◌, ℕ, Bool, true, false, List, [], ◌∷◌, ◌++◌, length, map, Option, Some, None, All}
use Rattle.std.specs.List.{flat_map}
use Rattle.lv_base.specs.declared.ids.Cost.{Cost}
use Rattle.lv_base.specs.declared.ids.Lit.{Lit}
use Rattle.lv_base.specs.declared.ids.ValId.{ValId}
use Rattle.lv_base.specs.declared.rank.Rank.{Rank}
use Rattle.lv_base.specs.declared.search.Pair.{Pair}
use Rattle.lv_base.specs.Choices.{slots_rise}
use Rattle.lv_model.specs.declared.plant.Plant.{Plant}
use Rattle.lv_model.specs.declared.state.TrackedState.{TrackedState}
use Rattle.lv_model.specs.Lists.{sizes, move_counts, controls}
use Rattle.lv_meaning.specs.declared.facts.Facts.{Facts}
use Rattle.lv_meaning.specs.Facts.{commanded}
use Rattle.lv_meaning.specs.Possible.{is_possible}
use Rattle.lv_meaning.specs.Targets.{targets_of_moves}
use Rattle.lv_meaning.specs.Candidates.{is_possible_rank}
use Rattle.lv_meaning.specs.PossibleLaws.{are_below}
use Rattle.lv_meaning.specs.CandidateLaws.{IsCandidate}
use Rattle.lv_ident.specs.Literals.{HasMove}
use Rattle.lv_search_zones.specs.lv_compile.Booleans.{booleans_now, booleans_next, bool_count}
use Rattle.lv_search_zones.specs.lv_compile.FormulaClauses.{Clauses}
use Rattle.lv_search_zones.specs.lv_compile.ModelClauses.{model_clauses}
use Rattle.lv_system.specs.System.{SystemValue}
use Rattle.lv_cert_laws.specs.lv_cert_meaning.Deriving.{Derived, refutes}
use Rattle.lv_cert_writing.specs.declared.refuter.Refuted.{Refuted}
use Rattle.lv_cert_writing.specs.declared.refuter.Refuted.TheVariants.{Values, Lines}
use Rattle.lv_cert_writing.specs.BlockLines.{derived_of}
use Rattle.lv_cert_writing.specs.Refuting.{MakeTrue}
use Rattle.lv_search_zones.specs.lv_boxes.Members.{ZoneValue}
use Rattle.lv_cert_writing.specs.declared.closing.Split.{Split}
use Rattle.lv_cert_writing.specs.Closing.{Closes, SplitIsSmall}
use Rattle.lv_cert.specs.declared.line.Question.{Question}
use Rattle.lv_cert.specs.declared.line.Question.TheVariants.{Diagnosis}
use Rattle.lv_cert.specs.declared.line.Moment.TheVariants.{Now, Next}
use Rattle.lv_cert.specs.declared.line.Head.TheVariants as head
use Rattle.lv_cert.specs.declared.line.Line.{Line}
use Rattle.lv_cert.specs.declared.line.Line.TheVariants as line
use Rattle.lv_cert_laws.specs.lv_cert_meaning.Counting.{are_of}
use Rattle.lv_cert_laws.specs.lv_cert_meaning.Stated.{observed_literal}
use Rattle.lv_cert_laws.specs.lv_cert_meaning.Units.{units, choice_literal}
use Rattle.lv_cert_laws.specs.lv_cert_meaning.Judging.{is_step_of}
use Rattle.lv_cert_writing.specs.Lines.{numbers_of, value_numbers, state_lines, fact_lines, values_line, pair_numbers, clause_lines}
use Rattle.lv_cert_writing.specs.Pairs.{HasChoice}

-- a candidate, and values before and after its step
pub record Shown : Type 0 where
  pub rank : Rank
  pub before : List ValId
  pub after : List ValId

-- a conflict, and the lines that refute it
pub record Block : Type 0 where
  pub pairs : List Pair
  pub lines : List Derived

-- how many candidates are sought, with distinct targets or not
abbrev pub limit_line : ℕ → Bool → Line
limit_line k false = line.Numbers head.Limit (k ∷ [])
limit_line k true = line.Distinct k

-- the lines that state the question, and these behind them
abbrev pub head_lines : Plant → List TrackedState → Facts → ℕ → Bool → List Line → List Line
head_lines plant tracked facts k distinct rest =
    line.Certificate Diagnosis ∷ line.Model plant.name ∷ limit_line k distinct
    ∷ (state_lines tracked ++ (values_line head.Control facts.controls ∷ (fact_lines Now facts.present ++ (fact_lines Next facts.next ++ rest))))

abbrev pub listed_lines : Shown → List Line
listed_lines w = line.Numbers head.Listed (numbers_of (w.rank.source ∷ w.rank.choices)) ∷ values_line head.Now w.before ∷ values_line head.Next w.after ∷ []

abbrev pub block_lines : Block → List Line
block_lines b = line.Numbers head.Conflict (pair_numbers b.pairs) ∷ clause_lines b.lines

-- the values are of a step by the candidate's moves that meets the facts
pub record IsShown (plant : Plant) (tracked : List TrackedState) (facts : Facts) (w : Shown) : Type 0 where
  pub candidate : IsCandidate plant tracked w.rank
  pub before : are_of (sizes plant) (value_numbers w.before) ≡ true
  pub after : are_of (sizes plant) (value_numbers w.after) ≡ true
  pub step : is_step_of plant facts w.before w.after w.rank ≡ true

-- the facts as literals, in the order of their lines
abbrev pub stated_literals : Plant → Facts → List Lit
stated_literals plant facts =
    (map (observed_literal (booleans_now plant)) (commanded (controls plant) facts.controls) ++ map (observed_literal (booleans_now plant)) facts.present)
    ++ map (observed_literal (booleans_next plant)) facts.next

-- the clauses that the block of a conflict states
abbrev pub own_clauses : Plant → Facts → List Pair → Clauses
own_clauses plant facts pairs = units (stated_literals plant facts ++ map (choice_literal plant) pairs)

-- the lines refute that the choices stand together under the facts
pub record IsRefuted (plant : Plant) (facts : Facts) (b : Block) : Type 0 where
  pub choices : All (HasChoice (move_counts plant)) b.pairs
  pub rising : slots_rise b.pairs ≡ true
  pub refuted : refutes (bool_count plant) (model_clauses plant ++ own_clauses plant facts b.pairs) b.lines ≡ true
  pub few_own : length (own_clauses plant facts b.pairs) < 2 ^ 64
  pub few_lines : length b.lines < 2 ^ 64

-- values of a step by the candidate's moves that meets the facts
pub record ShowsStep (plant : Plant) (facts : Facts) (r : Rank) (before after : List ValId) : Type 0 where
  pub before_of : are_of (sizes plant) (value_numbers before) ≡ true
  pub after_of : are_of (sizes plant) (value_numbers after) ≡ true
  pub step : is_step_of plant facts before after r ≡ true

-- what a refuter is asked about: under which facts, over the system of the plant
pub record Asked : Type 0 where
  pub plant : Plant
  pub facts : Facts
  pub system : SystemValue

-- a candidate that is possible, with a move of each part
pub record CanBeShown (plant : Plant) (facts : Facts) (r : Rank) : Type 0 where
  pub full : are_below (move_counts plant) r.choices ≡ true
  pub possible : is_possible_rank plant facts r ≡ true

-- moves of parts that aren't possible together
pub record CanBeRefuted (plant : Plant) (facts : Facts) (pairs : List Pair) : Type 0 where
  pub moves : All (HasMove (move_counts plant)) pairs
  pub impossible : is_possible plant facts pairs ≡ false

-- so the values of a candidate that is shown
pub record StepIsShown (plant : Plant) (facts : Facts) (w : Shown) : Type 0 where
  pub shows : ShowsStep plant facts w.rank w.before w.after

-- what is told of choices under the facts: values, and they are possible together; or lines that refute them, and they are not
abbrev pub TellsOf : Asked → List Pair → Refuted → Type 0
TellsOf v pairs (Values values) = MakeTrue v.system.set (own_clauses v.plant v.facts pairs) values × (is_possible v.plant v.facts pairs ≡ true)
TellsOf v pairs (Lines lines) =
    (refutes (bool_count v.plant) (model_clauses v.plant ++ own_clauses v.plant v.facts pairs) (map derived_of lines) ≡ true) × (is_possible v.plant v.facts pairs ≡ false)

-- each listed candidate is shown by lines
pub record AddsShown (plant : Plant) (facts : Facts) (listed : List Rank) (old new : List Line) : Type 0 where
  pub shown : List Shown
  pub are : All (StepIsShown plant facts) shown
  pub ranks : map (λ (w : Shown). w.rank) shown ≡ listed
  pub lines : new ≡ old ++ flat_map listed_lines shown

-- each conflict is refuted by a block
pub record AddsBlocks (plant : Plant) (facts : Facts) (kept : List (List Pair)) (old new : List Line) : Type 0 where
  pub blocks : List Block
  pub are : All (IsRefuted plant facts) blocks
  pub pairs : map (λ (b : Block). b.pairs) blocks ≡ kept
  pub lines : new ≡ old ++ flat_map block_lines blocks

-- what is listed is shown, and what was kept refuted
pub record HoldsAnswer (plant : Plant) (facts : Facts) (listed : List Rank) (kept : List (List Pair)) (old new : List Line) : Type 0 where
  pub between : List Line
  pub shown : AddsShown plant facts listed old between
  pub refuted : AddsBlocks plant facts kept between new

-- where distinct targets are sought, the targets of moves say which candidates are alike
abbrev pub targets_for : Bool → Plant → Option (List (List ℕ))
targets_for false plant = None
targets_for true plant = Some (targets_of_moves plant)

-- splits that close the zones, with small numbers
pub record HoldsSplits (groups : Option (List (List ℕ))) (question : Question) (slots : List (List Cost)) (zones : List ZoneValue) (last : Option Rank) (listed : List Rank) (excluded : List (List Pair)) (made : List Split) : Type 0 where
  pub closes : Closes groups question slots zones last listed excluded made
  pub small : All SplitIsSmall made
