-- How far a certificate of a recovery has come, and lines that lead on.
use Rattle.std.specs.Prelude.{◌≡◌, ◌+◌, ℕ, zero, suc, Bool, true, false, not, List, [], ◌∷◌, ◌++◌, length, Option, Some}
use Rattle.std.specs.List.{list_all}
use Rattle.lv_base.specs.declared.ids.ValId.{ValId}
use Rattle.lv_base.specs.declared.rank.Rank.{Rank}
use Rattle.lv_base.specs.declared.search.Pair.{Pair}
use Rattle.lv_model.specs.declared.plant.Plant.{Plant}
use Rattle.lv_model.specs.declared.state.TrackedState.{TrackedState}
use Rattle.lv_meaning.specs.declared.aim.Aim.{Aim}
use Rattle.lv_meaning.specs.Recovers.{reaches, can_miss}
use Rattle.lv_search_zones.specs.lv_compile.FormulaClauses.{Clauses}
use Rattle.lv_search_zones.specs.Commands.{control_slots, command_zone}
use Rattle.lv_cert.specs.declared.line.Question.TheVariants.{Recovery}
use Rattle.lv_cert.specs.declared.line.Evidence.{Evidence}
use Rattle.lv_cert.specs.declared.line.Head.TheVariants as head
use Rattle.lv_cert.specs.declared.line.Line.{Line}
use Rattle.lv_cert.specs.declared.line.Line.TheVariants as line
use Rattle.lv_cert.specs.declared.order.Task.{Task}
use Rattle.lv_cert.specs.declared.order.Stage.{Stage}
use Rattle.lv_cert.specs.declared.order.Place.{Place}
use Rattle.lv_cert.specs.declared.order.Place.TheVariants as place
use Rattle.lv_cert.specs.Order.{after_splits, after_blocks, place_after}
use Rattle.lv_cert_laws.specs.lv_cert_meaning.Judging.{Aimed, Judged}
use Rattle.lv_cert_writing.specs.Ending.{Ends, BeginApart}
use Rattle.lv_cert_recovery.specs.Showing.{stated_by}

-- how many states and goals are stated
abbrev pub task_of : Aim → Task
task_of aim = record { states = length aim.tracked; goals = length aim.goals }

-- the goal of this number is due from the state of this place
abbrev pub stage_of : Aim → ℕ → ℕ → Stage
stage_of aim n goal = record { task = task_of aim; state = n + 1; goal = goal }

-- behind the lines of so many states
abbrev pub good_place : Aim → ℕ → Place
good_place aim zero = place.Good (stage_of aim 0 1)
good_place aim (suc n) = place.Refuting (stage_of aim n (length aim.goals))

-- behind the proofs of so many goals from the state of this place
abbrev pub proved_place : Aim → ℕ → ℕ → Place
proved_place aim n zero = place.Proof (stage_of aim n 1)
proved_place aim n (suc g) = place.Refuting (stage_of aim n (suc g))

-- a place where conflicts, counterexamples and splits may come
pub record TakesBlocks (p : Place) : Type 0 where
  pub conflict : (ns : List ℕ) → place_after p (line.Numbers head.Conflict ns) ≡ after_blocks Recovery (line.Numbers head.Conflict ns)
  pub counter : (ns : List ℕ) → place_after p (line.Numbers head.Counter ns) ≡ after_blocks Recovery (line.Numbers head.Counter ns)
  pub split : (n : ℕ) (by : Evidence) → place_after p (line.Split n by) ≡ after_splits Recovery (line.Split n by)
  pub end : place_after p line.End ≡ Some place.Done

-- behind the goals; behind the lines of so many states; behind the proofs of so many goals from the state of this place; where command
-- sets are excluded
pub data Phase : Type 0 where
  asked : Phase
  good : ℕ → Phase
  proved : ℕ → ℕ → Phase
  excluding : Phase

abbrev pub StandsAt : Aim → Phase → Place → Type 0
StandsAt aim asked p = p ≡ place.Goals (task_of aim)
StandsAt aim (good n) p = p ≡ good_place aim n
StandsAt aim (proved n g) p = p ≡ proved_place aim n g
StandsAt aim excluding p = TakesBlocks p

-- the phase, the recovery that is given, and what is excluded so far
pub record Standing : Type 0 where
  pub phase : Phase
  pub listed : List Rank
  pub excluded : List (List Pair)

abbrev pub standing : Phase → List Rank → List (List Pair) → Standing
standing phase listed excluded = record { phase = phase; listed = listed; excluded = excluded }

-- what lines come to that stand so, with this block open, this step aimed at, and these values before it
abbrev pub judged_at : Plant → Aim → Standing → Clauses → Option Aimed → Option (List ValId) → Judged
judged_at plant aim s own aimed before =
    record {
      stated = stated_by plant aim;
      space = record { slots = control_slots plant; zones = Some (command_zone plant) ∷ [] };
      listed = s.listed;
      excluded = s.excluded;
      own = own;
      aimed = aimed;
      before = before;
    }

-- the lines end a certificate well that has stated the question and gives this answer
pub record Answers (plant : Plant) (aim : Aim) (answer : List Rank) (p : Place) (j : Judged) (lines : List Line) : Type 0 where
  pub final : Judged
  pub ends : Ends Recovery plant p j lines final
  pub stated : final.stated ≡ stated_by plant aim
  pub listed : final.listed ≡ answer

-- they do wherever a certificate stands so
pub record AnswerFrom (plant : Plant) (aim : Aim) (answer : List Rank) (s : Standing) (lines : List Line) : Type 0 where
  pub from : (p : Place) → StandsAt aim s.phase p → (own : Clauses) (aimed : Option Aimed) (before : Option (List ValId)) → Answers plant aim answer p (judged_at plant aim s own aimed before) lines

-- lines that lead from one standing to the other: what answers from there answers with them from here
pub record Lead (plant : Plant) (aim : Aim) (from to : Standing) (lines : List Line) : Type 0 where
  pub before : (answer : List Rank) (rest : List Line) → BeginApart rest → AnswerFrom plant aim answer to rest → AnswerFrom plant aim answer from (lines ++ rest)
  pub apart : (rest : List Line) → BeginApart rest → BeginApart (lines ++ rest)

-- lines to which such were added
pub record LeadsOn (plant : Plant) (aim : Aim) (from to : Standing) (old new : List Line) : Type 0 where
  pub more : List Line
  pub added : new ≡ old ++ more
  pub lead : Lead plant aim from to more

-- lines to which a block was added that excludes these values
pub record Excludes (plant : Plant) (aim : Aim) (pairs : List Pair) (old new : List Line) : Type 0 where
  pub on : (listed : List Rank) (excluded : List (List Pair)) → LeadsOn plant aim (standing excluding listed excluded) (standing excluding listed (excluded ++ pairs ∷ [])) old new

-- lines to which blocks were added that exclude each of these
pub record ExcludesAll (plant : Plant) (aim : Aim) (kept : List (List Pair)) (old new : List Line) : Type 0 where
  pub on : (listed : List Rank) → LeadsOn plant aim (standing excluding listed []) (standing excluding listed kept) old new

-- such a block was added, or nothing, and the values reach the goals from each state
pub record ReachFromAll (plant : Plant) (aim : Aim) (pairs : List Pair) (old new : List Line) : Type 0 where
  pub same : new ≡ old
  pub all : list_all (λ (s : TrackedState). reaches plant aim s.state pairs) aim.tracked ≡ true

abbrev pub AddsConflict : Plant → Aim → List Pair → List Line → List Line → Bool → Type 0
AddsConflict plant aim pairs old new true = Excludes plant aim pairs old new
AddsConflict plant aim pairs old new false = ReachFromAll plant aim pairs old new

-- such a block was added, or from no state the values can miss a goal
pub record MissFromNone (plant : Plant) (aim : Aim) (pairs : List Pair) (old new : List Line) : Type 0 where
  pub same : new ≡ old
  pub all : list_all (λ (s : TrackedState). not (can_miss plant aim s.state pairs)) aim.tracked ≡ true

abbrev pub AddsCounter : Plant → Aim → List Pair → List Line → List Line → Bool → Type 0
AddsCounter plant aim pairs old new true = Excludes plant aim pairs old new
AddsCounter plant aim pairs old new false = MissFromNone plant aim pairs old new
