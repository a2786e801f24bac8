-- What the lines of a certificate, read in order, come to. A line that is bad in what comes before it and behind it comes to nothing.
use Rattle.std.specs.Prelude.{ℕ, ◌+◌, ◌-◌, Bool, true, false, not, nat_eq, nat_lt, ◌&&◌, List, [], ◌∷◌, ◌++◌, length, map, Option, Some, None, option_map, slice_get, if◌then◌else◌}
use Rattle.std.specs.List.{list_all, list_any, flat_map, range_with_len}
use Rattle.std.specs.Option.{option_and_then, option_map_or}
use Rattle.std.specs.Cmp.Lexicographic.{pointwise}
use Rattle.lv_model_names.specs.lv_base.declared.limits.TheConstants.{TRACKED}
use Rattle.lv_model_names.specs.lv_base.declared.ids.ValId.{ValId}
use Rattle.lv_model_names.specs.lv_base.declared.rank.Rank.{Rank}
use Rattle.lv_model_names.specs.lv_base.declared.search.Pair.{Pair}
use Rattle.lv_model_names.specs.lv_base.Choices.{pairs_of}
use Rattle.lv_model_names.specs.lv_base.Rank.{ranks_before}
use Rattle.lv_search_zones.specs.lv_boxes.Members.{ZoneValue}
use Rattle.lv_search_zones.specs.lv_boxes.Parts.{parts_of}
use Rattle.lv_search_zones.specs.lv_boxes.GroupParts.{parts_by_groups}
use Rattle.lv_clauses.specs.Literals.{same_truth}
use Rattle.lv_model_names.specs.lv_base.Tree.{Tree}
use Rattle.lv_model_names.specs.lv_model.declared.plant.Plant.{Plant}
use Rattle.lv_model_names.specs.lv_model.declared.plant.ComponentType.{ComponentType}
use Rattle.lv_model_names.specs.lv_model.declared.plant.Part.{Part}
use Rattle.lv_model_names.specs.lv_model.declared.state.TrackedState.{TrackedState}
use Rattle.lv_model_names.specs.lv_model.Lists.{sizes, move_counts, controls, part_moves}
use Rattle.lv_model_names.specs.lv_model.Meaning.{is_feasible, part_steps, part_is_nominal, is_step}
use Rattle.lv_search_zones.specs.lv_meaning.declared.facts.Facts.{Facts}
use Rattle.lv_search_zones.specs.lv_meaning.Facts.{meets, meets_facts}
use Rattle.lv_search_zones.specs.lv_meaning.Possible.{move_number}
use Rattle.lv_search_zones.specs.lv_meaning.Targets.{are_alike, targets_of_moves}
use Rattle.lv_search_zones.specs.lv_compile.Booleans.{bool_count}
use Rattle.lv_search_zones.specs.lv_compile.FormulaClauses.{Clauses}
use Rattle.lv_search_zones.specs.lv_compile.ModelClauses.{model_clauses}
use Rattle.lv_search_zones.specs.lv_meaning.Recovers.{has_modes, has_controls, meets_goals}
use Rattle.lv_search_zones.specs.lv_meaning.Commands.{control_sizes, is_command_set, command_rank}
use Rattle.lv_search_zones.specs.Moves.{move_slots, zones_from}
use Rattle.lv_search_zones.specs.Commands.{control_slots, command_zone}
use Rattle.lv_cert_meaning.specs.Following.{literal_of, follows}
use Rattle.lv_cert.specs.declared.line.Question.{Question}
use Rattle.lv_cert.specs.declared.line.Question.TheVariants.{Diagnosis, Recovery}
use Rattle.lv_cert.specs.declared.line.Literal.{Literal}
use Rattle.lv_cert.specs.declared.line.Evidence.{Evidence}
use Rattle.lv_cert.specs.declared.line.Evidence.TheVariants as evidence
use Rattle.lv_cert.specs.declared.line.Head.{Head}
use Rattle.lv_cert.specs.declared.line.Head.TheVariants as head
use Rattle.lv_cert.specs.declared.line.Line.{Line}
use Rattle.lv_cert.specs.declared.line.Line.TheVariants as line
use Rattle.lv_cert_meaning.specs.Counting.{is_one_of, are_of, places_of, values_of, at_number, pairs_of_numbers}
use Rattle.lv_cert_meaning.specs.Stated.{Limit, Stated, nothing_stated, with_limit, state_of, with_state, with_controls, observation_of, with_observation, goal_of, with_goal, candidate_of_numbers}
use Rattle.lv_cert_meaning.specs.Space.{Space, open_zone, with_parts, has_before, all_passed}
use Rattle.lv_cert_meaning.specs.Units.{units, choice_literal, goal_clauses, nominal_units}

-- a step of a recovery that is to be shown: from the tracked state of this place, with these values of the controls, and whether all
-- goals are to be true behind it
pub record Aimed : Type 0 where
  pub place : ℕ
  pub values : List ℕ
  pub reaches : Bool

-- what is stated; the zones; the answer, the candidates listed or the recovery; what conflicts and counterexamples exclude; the clauses
-- of the block that is open, behind the model's; the step of a recovery that is to be shown, and the values before it
pub record Judged : Type 0 where
  pub stated : Stated
  pub space : Space
  pub listed : List Rank
  pub excluded : List (List Pair)
  pub own : Clauses
  pub aimed : Option Aimed
  pub before : Option (List ValId)

abbrev pub begun : ℕ → Space → Judged
begun k space = record { stated = nothing_stated k; space = space; listed = []; excluded = []; own = []; aimed = None; before = None }

-- before any line: a diagnosis has no zones yet, and a recovery, which lists one command set at most, has the zone of all of them
abbrev pub unjudged : Plant → Question → Judged
unjudged plant Diagnosis = begun 0 (record { slots = move_slots plant; zones = [] })
unjudged plant Recovery = begun 1 (record { slots = control_slots plant; zones = Some (command_zone plant) ∷ [] })

abbrev pub last_of : List Rank → Option Rank
last_of ranks = slice_get ranks (length ranks - 1)

-- the last of the answer, where it is full
abbrev pub full_to : Judged → Option Rank
full_to j = if nat_eq (length j.listed) j.stated.k then last_of j.listed else None

-- the limit of a diagnosis, with or without distinct targets
abbrev pub limited : Judged → Limit → Option Judged
limited j limit = if is_one_of 64 limit.most then Some (record j { stated = with_limit j.stated limit }) else None

abbrev pub judge_limit : Judged → List ℕ → Option Judged
judge_limit j (k ∷ []) = limited j (record { most = k; distinct = false })
judge_limit j _ = None

abbrev pub judge_state : Plant → Judged → List ℕ → Option Judged
judge_state plant j ns =
    if nat_lt (length j.stated.tracked) TRACKED then option_map (λ (s : TrackedState). record j { stated = with_state j.stated s }) (state_of plant ns) else None

-- a value of each control; the zones of a diagnosis are those of its states, which came before
abbrev pub judge_control : Plant → Judged → List ℕ → Option Judged
judge_control plant j ns =
    if are_of (control_sizes plant) ns
    then Some (record j { stated = with_controls plant j.stated ns; space = record j.space { zones = map Some (zones_from plant 0 j.stated.tracked) } })
    else None

-- it ranks behind the last one listed
abbrev pub is_next : List Rank → Rank → Bool
is_next listed r = option_map_or (λ last. ranks_before last r) (last_of listed) true

-- it leads to the state of one that is listed, where the diagnosis asks for distinct targets
abbrev pub has_old_target : Plant → Judged → Rank → Bool
has_old_target plant j r = list_any (are_alike j.stated.distinct plant r) j.listed

abbrev pub with_listed : Plant → Judged → Rank → Option Judged
with_listed plant j r = if is_next j.listed r && not (has_old_target plant j r) then Some (record j { listed = j.listed ++ r ∷ [] }) else None

-- a candidate of a tracked state, which ranks behind the one before and has a new target, where this is asked for
abbrev pub judge_listed : Plant → Judged → List ℕ → Option Judged
judge_listed plant j ns = option_and_then (with_listed plant j) (candidate_of_numbers plant j.stated.tracked ns)

abbrev pub judge_recovery : Plant → Judged → List ℕ → Option Judged
judge_recovery plant j ns = if are_of (control_sizes plant) ns then Some (record j { listed = j.listed ++ command_rank plant (places_of ns) ∷ [] }) else None

-- the values before a step
abbrev pub judge_now : Plant → Judged → List ℕ → Option Judged
judge_now plant j ns = if are_of (sizes plant) ns then Some (record j { before = Some (values_of ns) }) else None

-- a step by the moves of the candidate that meets the facts
abbrev pub is_step_of : Plant → Facts → List ValId → List ValId → Rank → Bool
is_step_of plant facts a b r = is_step plant a b (map move_number r.choices) && meets_facts plant facts a b

-- of the last candidate
abbrev pub shows_listed : Plant → Judged → List ValId → List ValId → Bool
shows_listed plant j a b = option_map_or (is_step_of plant j.stated.facts a b) (last_of j.listed) false

-- the part steps by some move that is no fault
abbrev pub steps_nominally : List ComponentType → List ValId → List ValId → Part → Bool
steps_nominally types a b p = list_any (λ n. part_steps types a b p n && part_is_nominal types p n) (range_with_len 0 (part_moves types p))

-- a step without faults
abbrev pub is_nominal_pair : Plant → List ValId → List ValId → Bool
is_nominal_pair plant a b = is_feasible plant a && (is_feasible plant b && list_all (steps_nominally plant.types a b) plant.parts)

-- a step without faults from the state, with these values of the controls, that meets what was seen
abbrev pub is_aimed_step : Plant → Judged → List ℕ → List ValId → List ValId → TrackedState → Bool
is_aimed_step plant j values a b s =
    (has_modes plant.parts s.state.modes a && (has_controls (controls plant) a (pairs_of values) && meets a j.stated.facts.present)) && is_nominal_pair plant a b

-- such a step as is aimed at, with the goals all true behind it, or not
abbrev pub is_as_aimed : Plant → Judged → List ValId → List ValId → Aimed → Bool
is_as_aimed plant j a b aimed =
    option_map_or (is_aimed_step plant j aimed.values a b) (slice_get j.stated.tracked aimed.place) false && same_truth (meets_goals j.stated.goals b) aimed.reaches

abbrev pub shows_aimed : Plant → Judged → List ValId → List ValId → Bool
shows_aimed plant j a b = option_map_or (is_as_aimed plant j a b) j.aimed false

abbrev pub shows : Question → Plant → Judged → List ValId → List ValId → Bool
shows Diagnosis plant j b a = shows_listed plant j a b
shows Recovery plant j b a = shows_aimed plant j a b

-- the values behind a step, which show what is to be shown
abbrev pub judge_next : Question → Plant → Judged → List ℕ → Option Judged
judge_next question plant j ns = if are_of (sizes plant) ns && option_map_or (shows question plant j (values_of ns)) j.before false then Some j else None

-- the last of the clauses that come first is empty
abbrev pub ends_empty_after : Bool → List Line → Bool
ends_empty_after is_empty (line.Clause ls hs ∷ rest) = ends_empty_after (nat_eq (length ls) 0) rest
ends_empty_after is_empty _ = is_empty

abbrev pub ends_empty : List Line → Bool
ends_empty rest = ends_empty_after false rest

-- a block of clauses that excludes these choices is opened
abbrev pub with_conflict : Judged → List Pair → Clauses → List Line → Option Judged
with_conflict j pairs own rest = if ends_empty rest then Some (record j { excluded = j.excluded ++ pairs ∷ []; own = own }) else None

abbrev pub clauses_of_choices : Plant → Judged → List Pair → Clauses
clauses_of_choices plant j pairs = units (j.stated.literals ++ map (choice_literal plant) pairs)

-- of a diagnosis: what is stated, and the choices
abbrev pub choices_refuted : Plant → Judged → List ℕ → List Line → Option Judged
choices_refuted plant j ns rest = option_and_then (λ pairs. with_conflict j pairs (clauses_of_choices plant j pairs) rest) (pairs_of_numbers (move_counts plant) ns)

-- that the goals are all true behind a step from the state with these values of controls
abbrev pub clauses_of_goals : Plant → Judged → List Pair → TrackedState → Clauses
clauses_of_goals plant j pairs s = nominal_units plant s.state.modes j.stated.literals pairs ++ flat_map (goal_clauses plant true) j.stated.goals

abbrev pub values_refuted : Plant → Judged → List ℕ → List Line → TrackedState → Option Judged
values_refuted plant j ns rest s = option_and_then (λ pairs. with_conflict j pairs (clauses_of_goals plant j pairs s) rest) (pairs_of_numbers (control_sizes plant) ns)

-- of a recovery: a nominal step from a state with these values of controls that reaches all goals
abbrev pub goals_refuted : Plant → Judged → List ℕ → List Line → Option Judged
goals_refuted plant j [] rest = None
goals_refuted plant j (s ∷ ns) rest = option_and_then (values_refuted plant j ns rest) (at_number j.stated.tracked s)

abbrev pub judge_conflict : Question → Plant → Judged → List ℕ → List Line → Option Judged
judge_conflict Diagnosis plant j ns rest = choices_refuted plant j ns rest
judge_conflict Recovery plant j ns rest = goals_refuted plant j ns rest

-- the choices of the answer's only candidate
abbrev pub answer_values : Judged → List ℕ
answer_values j = option_map_or (λ (r : Rank). r.choices) (slice_get j.listed 0) []

abbrev pub judge_good : Judged → List ℕ → Option Judged
judge_good j (s ∷ []) =
    if is_one_of (length j.stated.tracked) s then Some (record j { aimed = Some (record { place = s - 1; values = answer_values j; reaches = true }) }) else None
judge_good j _ = None

-- that a goal is false behind a step from a state with the recovery's values
abbrev pub clauses_of_miss : Plant → Judged → Tree → TrackedState → Clauses
clauses_of_miss plant j goal s = nominal_units plant s.state.modes j.stated.literals (pairs_of (answer_values j)) ++ goal_clauses plant false goal

abbrev pub with_proof : Plant → Judged → Tree → List Line → TrackedState → Option Judged
with_proof plant j goal rest s = if is_command_set plant (answer_values j) && ends_empty rest then Some (record j { own = clauses_of_miss plant j goal s }) else None

abbrev pub judge_proof : Plant → Judged → List ℕ → List Line → Option Judged
judge_proof plant j (s ∷ (g ∷ [])) rest = option_and_then (λ goal. option_and_then (with_proof plant j goal rest) (at_number j.stated.tracked s)) (at_number j.stated.goals g)
judge_proof plant j _ rest = None

abbrev pub with_counter : Judged → ℕ → List ℕ → Judged
with_counter j place values = record j { aimed = Some (record { place = place; values = values; reaches = false }); excluded = j.excluded ++ pairs_of values ∷ [] }

-- values of all controls that fail from a state
abbrev pub judge_counter : Plant → Judged → List ℕ → Option Judged
judge_counter plant j [] = None
judge_counter plant j (s ∷ ns) =
    if is_one_of (length j.stated.tracked) s && are_of (control_sizes plant) ns then Some (with_counter j (s - 1) (places_of ns)) else None

abbrev pub judge_numbers : Question → Plant → Judged → List Line → List ℕ → Head → Option Judged
judge_numbers question plant j rest ns head.Limit = judge_limit j ns
judge_numbers question plant j rest ns head.State = judge_state plant j ns
judge_numbers question plant j rest ns head.Control = judge_control plant j ns
judge_numbers question plant j rest ns head.Listed = judge_listed plant j ns
judge_numbers question plant j rest ns head.Now = judge_now plant j ns
judge_numbers question plant j rest ns head.Next = judge_next question plant j ns
judge_numbers question plant j rest ns head.Conflict = judge_conflict question plant j ns rest
judge_numbers question plant j rest ns head.Recovery = judge_recovery plant j ns
judge_numbers question plant j rest ns head.Good = judge_good j ns
judge_numbers question plant j rest ns head.Proof = judge_proof plant j ns rest
judge_numbers question plant j rest ns head.Counter = judge_counter plant j ns

-- a clause that follows by its hints from the model's clauses and the block's so far
abbrev pub judge_clause : Plant → Judged → List Literal → List ℕ → Option Judged
judge_clause plant j ls hs =
    if follows (bool_count plant) (model_clauses plant ++ j.own) ls hs then Some (record j { own = j.own ++ map literal_of ls ∷ [] }) else None

-- all choices of the listed candidate of this number, by which zones of its state are split
abbrev pub listed_choices : Judged → ZoneValue → ℕ → Option (List Pair)
listed_choices j zone n = option_and_then (λ (r : Rank). if nat_eq r.source zone.source then Some (pairs_of r.choices) else None) (at_number j.listed n)

-- the parts of the zone with another target than this listed candidate, before which none of its members may rank
abbrev pub parts_by_target : Plant → Judged → ZoneValue → Rank → Option (List ZoneValue)
parts_by_target plant j zone r = if has_before j.space.slots zone r then None else Some (parts_by_groups zone (targets_of_moves plant) r.choices)

-- those by the target of the listed candidate of this number, where the diagnosis asks for distinct targets
abbrev pub target_parts : Plant → Judged → ZoneValue → ℕ → Option (List ZoneValue)
target_parts plant j zone n = if j.stated.distinct then option_and_then (parts_by_target plant j zone) (at_number j.listed n) else None

-- the parts into which a zone is split
abbrev pub split_parts : Plant → Judged → ZoneValue → Evidence → Option (List ZoneValue)
split_parts plant j zone (evidence.Conflict n) = option_map (parts_of zone) (at_number j.excluded n)
split_parts plant j zone (evidence.Listed n) = option_map (parts_of zone) (listed_choices j zone n)
split_parts plant j zone (evidence.Target n) = target_parts plant j zone n
split_parts plant j zone evidence.Recovery = option_map (parts_of zone) (listed_choices j zone 1)

abbrev pub judge_split : Plant → Judged → ℕ → Evidence → Option Judged
judge_split plant j n by =
    option_and_then (λ zone. option_map (λ parts. record j { space = with_parts j.space n parts }) (split_parts plant j zone by)) (open_zone j.space n)

-- what a line comes to, where these lines come behind it
abbrev pub judge_line : Question → Plant → Judged → List Line → Line → Option Judged
judge_line question plant j rest (line.Certificate of) = Some j
judge_line question plant j rest (line.Model name) = if pointwise nat_eq name plant.name then Some j else None
judge_line question plant j rest (line.Goal text) = option_map (λ goal. record j { stated = with_goal j.stated goal }) (goal_of plant text)
judge_line question plant j rest (line.Distinct k) = limited j (record { most = k; distinct = true })
judge_line question plant j rest (line.Fact moment x v) = option_map (λ o. record j { stated = with_observation plant moment j.stated o }) (observation_of plant x v)
judge_line question plant j rest (line.Clause ls hs) = judge_clause plant j ls hs
judge_line question plant j rest (line.Split n by) = judge_split plant j n by
judge_line question plant j rest (line.Numbers head ns) = judge_numbers question plant j rest ns head
judge_line question plant j rest line.End = if all_passed j.space (full_to j) then Some j else None

-- what lines come to from here on, the first of which has this number; or the number of the first bad one
pub data Judgement : Type 0 where
  comes_to : Judged → Judgement
  is_bad_at : ℕ → Judgement

abbrev pub judge_lines : Question → Plant → ℕ → Judged → List Line → Judgement
judge_lines question plant n j [] = comes_to j
judge_lines question plant n j (l ∷ ls) = option_map_or (λ next. judge_lines question plant (n + 1) next ls) (judge_line question plant j ls l) (is_bad_at n)

-- what the first line asks
abbrev pub question_of : List Line → Question
question_of (line.Certificate question ∷ rest) = question
question_of _ = Diagnosis

-- what a certificate comes to
abbrev pub judgement : Plant → List Line → Judgement
judgement plant lines = judge_lines (question_of lines) plant 1 (unjudged plant (question_of lines)) lines
