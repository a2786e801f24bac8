-- What the walk of a window comes to.
use Rattle.std.proofs.Common.{◌≡◌, ℕ, ◌+◌, ◌-◌, Bool, false, List, [], ◌∷◌, length, drop, sym, ◌∙◌, ap, arith}
use Rattle.std.proofs.lemmas.List.{drop_all}
use Rattle.lv_base.specs.declared.rank.Rank.{Rank}
use Rattle.lv_base.specs.declared.search.Candidate.{Candidate}
use Rattle.lv_base.specs.declared.search.Pair.{Pair}
use Rattle.lv_base.specs.Choices.{pairs_of}
use Rattle.lv_model.specs.declared.plant.Plant.{Plant}
use Rattle.lv_boxes.specs.declared.outcome.Outcome.TheVariants.{Settled}
use Rattle.lv_boxes.specs.Reason.{reduced}
use Rattle.lv_boxes.specs.Walk.{walk}
use Rattle.lv_meaning.specs.declared.facts.Facts.{Facts}
use Rattle.lv_meaning.specs.Candidates.{candidates}
use Rattle.lv_meaning.specs.Diagnosis.{diagnosis_walk}
use Rattle.lv_session_history.specs.declared.history.Past.{Past}
use Rattle.lv_session_history.specs.History.{commits_in}
use Rattle.lv_session_history.specs.Steps.{tracked_before, facts_on}
use Rattle.lv_window.specs.Trajectories.{trajectories}
use Rattle.lv_window.specs.Walk.{window_walk, first_trajectories}
use Rattle.lv_window.proofs.PossibleLemmas.{one_step_possible, window_exact}
use Rattle.lv_window.proofs.TrajectoryLemmas.{one_step_entries}
use Rattle.lv_session_state.specs.State.{SessionState, facts_of, window_base, window_facts, walked, tracing}

pub window_settled : (plant : Plant) (state : SessionState) (steps budget : ℕ) → (tracing plant state steps budget).outcome ≡ Settled
    → (tracing plant state steps budget).listed ≡ first_trajectories state.k plant (window_facts state steps) (window_base state steps)
unfolding tracing
window_settled plant state steps budget settled =
    window_exact plant (window_facts state steps) state.k budget (trajectories plant (length (window_facts state steps)) (window_base state steps)) settled

-- over one step the walk is that of a diagnosis
one_step : (plant : Plant) (facts : Facts) (k budget : ℕ) (ranks : List Rank) → window_walk plant (facts ∷ []) k budget ranks ≡ diagnosis_walk plant facts k false budget ranks
one_step plant facts k budget ranks =
    λ i. walk (λ (c : Candidate). one_step_possible plant facts (pairs_of c.choices) i)
    (λ (c : Candidate). reduced (λ (ps : List Pair). one_step_possible plant facts ps i) [] (pairs_of c.choices)) k budget ranks

-- no commit is among the last step
none_committed : (history : List Past) → commits_in history 1 ≡ []
none_committed history = drop_all (length history + 1 - 1) history (omega arith)

pub one_step_walk : (plant : Plant) (state : SessionState) (budget : ℕ) → state.distinct ≡ false → tracing plant state 1 budget ≡ walked plant state budget
unfolding tracing walked
one_step_walk plant state budget repeats =
    ap (λ (ps : List Past). window_walk plant (facts_on ps state.present (facts_of state)) state.k budget
    (trajectories plant (length (facts_on ps state.present (facts_of state))) (tracked_before ps state.tracked))) (none_committed state.history)
    ∙ one_step plant (facts_of state) state.k budget (trajectories plant 1 state.tracked)
    ∙ ap (λ (ranks : List Rank). diagnosis_walk plant (facts_of state) state.k false budget ranks) (one_step_entries plant state.tracked)
    ∙ ap (λ (d : Bool). diagnosis_walk plant (facts_of state) state.k d budget (candidates plant state.tracked)) (sym repeats)
