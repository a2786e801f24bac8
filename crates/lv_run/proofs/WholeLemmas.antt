-- Each text that a session may reply is empty or ends with a line feed.
use Rattle.std.proofs.Common.{◌≡◌, ℕ, ◌+◌, ◌-◌, Bool, true, nat_eq, List, [], ◌∷◌, ◌++◌, length, drop, map, refl, ◌∙◌, ap}
use Rattle.std.specs.Prelude.{codes, decimal, flat_map, Option}
use Rattle.lv_base.specs.declared.ids.VarId.{VarId}
use Rattle.lv_base.specs.declared.rank.Rank.{Rank}
use Rattle.lv_base.specs.declared.search.Pair.{Pair}
use Rattle.lv_model.specs.declared.plant.Plant.{Plant}
use Rattle.lv_model.specs.declared.state.TrackedState.{TrackedState}
use Rattle.lv_model.specs.Lists.{controls}
use Rattle.lv_lanes.specs.Bytes.{ends_whole, is_whole}
use Rattle.lv_lanes.proofs.ByteLemmas.{whole_behind}
use Rattle.lv_certcheck.specs.lv_cert.declared.line.Line.{Line}
use Rattle.lv_certcheck.specs.lv_cert.Texts.{words_of, joined as joined_words, text_of}
use Rattle.lv_plant.specs.lv_session.lv_reply.declared.labels.Label.{Label}
use Rattle.lv_plant.specs.lv_session.lv_reply.declared.reply.Reply.{Reply}
use Rattle.lv_plant.specs.lv_session.lv_reply.declared.reply.Reply.TheVariants.{Nothing, Accepted, Refused, Settled, Unsettled, Conflicts, Committed, States, Recovered, NoRecovery, Undecided, CommandConflicts, Labels, Contradiction, Certificate, Probed, Tested, NoTest, SettledWindow, UnsettledWindow, WindowConflicts}
use Rattle.lv_plant.specs.lv_session.lv_reply.Pieces.{joined}
use Rattle.lv_plant.specs.lv_session.lv_reply.Variables.{equation}
use Rattle.lv_plant.specs.lv_session.lv_reply.Diagnosis.{moves_text, later_moves, listed_head, listed_lines, settled_text, unsettled_text}
use Rattle.lv_plant.specs.lv_session.lv_reply.Conflicts.{pair_text, timed_pair_text, command_text, conflict_lines, conflicts_by, conflicts_text, window_conflicts_text, command_conflicts_text}
use Rattle.lv_plant.specs.lv_session.lv_reply.Recovery.{shown_settings, commands_text, undecided_text}
use Rattle.lv_plant.specs.lv_session.lv_reply.declared.probes.Probed.{Probed as ProbedNumbers}
use Rattle.lv_plant.specs.lv_session.lv_reply.Probes.{probed_line, best_text, probe_text}
use Rattle.lv_plant.specs.lv_session.lv_reply.Labels.{moment_word, label_line, labels_text}
use Rattle.lv_plant.specs.lv_session.lv_reply.States.{part_texts, state_lines, committed_text, states_text}
use Rattle.lv_plant.specs.lv_session.lv_reply.Texts.{code_of, reply_text}
use Rattle.lv_plant.specs.lv_session.lv_session_state.declared.query.Query.{Query}
use Rattle.lv_plant.specs.lv_session.lv_session_state.declared.query.Query.TheVariants.{Absent, Diagnosis, Recovery, Test, Window}
use Rattle.lv_plant.specs.lv_session.lv_session_state.State.{SessionState}
use Rattle.lv_plant.specs.lv_session.Session.{stepped}
use Rattle.lv_plant.specs.lv_session.Certificates.{Certifies, IsTextOf}
use Rattle.lv_run.specs.OfLanes.{RepliesAreWhole}

-- ---- texts that end with a line feed, whatever stands before them

ends_behind : (begins : Bool) (front : List ℕ) → ends_whole begins (front ++ codes "\n") ≡ true
ends_behind begins [] = refl
ends_behind begins (b ∷ front) = ends_behind (nat_eq b 10) front

line_whole : (front : List ℕ) → is_whole (front ++ codes "\n") ≡ true
line_whole front = ends_behind true front

-- a line before lines that are whole
line_before : (front lines : List ℕ) → is_whole lines ≡ true → is_whole (front ++ codes "\n" ++ lines) ≡ true
line_before front lines whole = whole_behind true (front ++ codes "\n") lines (line_whole front) whole

-- ---- certificates

pub certificate_whole : (ls : List Line) → is_whole (text_of ls) ≡ true
certificate_whole [] = refl
certificate_whole (l ∷ ls) = line_before (joined_words (words_of l)) (text_of ls) (certificate_whole ls)

-- ---- the other replies

listed_whole : (plant : Plant) (steps n : ℕ) (ranks : List Rank) → is_whole (listed_lines plant steps n ranks) ≡ true
listed_whole plant steps n [] = refl
listed_whole plant steps n (r ∷ rs) =
    line_before
    (listed_head n r ++ moves_text plant r.choices
    ++ later_moves plant (steps - 1) (drop (length plant.parts) r.choices))
    (listed_lines plant steps (n + 1) rs) (listed_whole plant steps (n + 1) rs)

settled_whole : (plant : Plant) (steps : ℕ) (ranks : List Rank) → is_whole (settled_text plant steps ranks) ≡ true
unfolding settled_text
settled_whole plant steps ranks = line_before (codes "settled " ++ decimal (length ranks)) (listed_lines plant steps 1 ranks) (listed_whole plant steps 1 ranks)

unsettled_whole : (plant : Plant) (steps : ℕ) (ranks : List Rank) (trials : ℕ) → is_whole (unsettled_text plant steps ranks trials) ≡ true
unfolding unsettled_text
unsettled_whole plant steps ranks trials =
    line_before (codes "unsettled " ++ decimal (length ranks) ++ codes " trials " ++ decimal trials) (listed_lines plant steps 1 ranks) (listed_whole plant steps 1 ranks)

conflict_lines_whole : (text : Pair → List ℕ) (n : ℕ) (kept : List (List Pair)) → is_whole (conflict_lines text n kept) ≡ true
conflict_lines_whole text n [] = refl
conflict_lines_whole text n (pairs ∷ kept) = line_before (decimal n ++ codes ": " ++ joined (map text pairs)) (conflict_lines text (n + 1) kept) (conflict_lines_whole text (n + 1) kept)

conflicts_whole : (text : Pair → List ℕ) (kept : List (List Pair)) (trials : ℕ) → is_whole (conflicts_by text kept trials) ≡ true
conflicts_whole text kept trials = line_before (codes "conflicts " ++ decimal (length kept) ++ codes " trials " ++ decimal trials) (conflict_lines text 1 kept) (conflict_lines_whole text 1 kept)

conflicts_of_moves : (plant : Plant) (kept : List (List Pair)) (trials : ℕ) → is_whole (conflicts_text plant kept trials) ≡ true
unfolding conflicts_text
conflicts_of_moves plant kept trials = conflicts_whole (pair_text plant) kept trials

conflicts_of_windows : (plant : Plant) (first : ℕ) (kept : List (List Pair)) (trials : ℕ) → is_whole (window_conflicts_text plant first kept trials) ≡ true
unfolding window_conflicts_text
conflicts_of_windows plant first kept trials = conflicts_whole (timed_pair_text plant first) kept trials

conflicts_of_commands : (plant : Plant) (kept : List (List Pair)) (trials : ℕ) → is_whole (command_conflicts_text plant kept trials) ≡ true
unfolding command_conflicts_text
conflicts_of_commands plant kept trials = conflicts_whole (command_text plant (controls plant)) kept trials

state_lines_whole : (plant : Plant) (n : ℕ) (tracked : List TrackedState) → is_whole (state_lines plant n tracked) ≡ true
state_lines_whole plant n [] = refl
state_lines_whole plant n (s ∷ ss) = line_before (decimal n ++ codes " cost " ++ decimal s.cost.0 ++ codes ": " ++ joined (part_texts plant.types plant.parts s.state.modes)) (state_lines plant (n + 1) ss) (state_lines_whole plant (n + 1) ss)

committed_whole : (time tracked : ℕ) → is_whole (committed_text time tracked) ≡ true
unfolding committed_text
committed_whole time tracked = line_whole (codes "time " ++ decimal time ++ codes " tracked " ++ decimal tracked)

states_whole : (plant : Plant) (time : ℕ) (tracked : List TrackedState) → is_whole (states_text plant time tracked) ≡ true
unfolding states_text
states_whole plant time tracked =
    whole_behind true (committed_text time (length tracked)) (state_lines plant 1 tracked) (committed_whole time (length tracked)) (state_lines_whole plant 1 tracked)

commands_whole : (answer : List ℕ) (plant : Plant) (r : Rank) → is_whole (commands_text answer plant r) ≡ true
unfolding commands_text
commands_whole answer plant r =
    line_whole (answer ++ codes " cost " ++ decimal r.cost.0 ++ codes ": " ++ joined (shown_settings plant (controls plant) r.choices))

probe_whole : (plant : Plant) (listed : ℕ) (observables : List ProbedNumbers) (best : Option VarId) → is_whole (probe_text plant listed observables best) ≡ true
unfolding probe_text
probe_whole plant listed observables best =
    line_whole (codes "probe " ++ decimal listed ++ codes "\n" ++ flat_map (probed_line plant) observables ++ codes "best " ++ best_text plant best)

undecided_whole : (trials : ℕ) → is_whole (undecided_text trials) ≡ true
unfolding undecided_text
undecided_whole trials = line_whole (codes "unsettled trials " ++ decimal trials)

label_lines_whole : (plant : Plant) (labels : List Label) → is_whole (flat_map (label_line plant) labels) ≡ true
label_lines_whole plant [] = refl
label_lines_whole plant (l ∷ ls) = line_before (moment_word l.moment ++ codes " " ++ equation plant (codes " = ") l.var.0 l.val.0) (flat_map (label_line plant) ls) (label_lines_whole plant ls)

labels_whole : (plant : Plant) (labels : List Label) → is_whole (labels_text plant labels) ≡ true
unfolding labels_text
labels_whole plant labels = line_before (codes "labels " ++ decimal (length labels)) (flat_map (label_line plant) labels) (label_lines_whole plant labels)

pub reply_whole : (plant : Plant) (reply : Reply) → is_whole (reply_text plant reply) ≡ true
reply_whole plant Nothing = refl
reply_whole plant Accepted = refl
reply_whole plant (Refused refusal) = line_whole (codes "error " ++ code_of refusal)
reply_whole plant (Settled listed) = settled_whole plant 1 listed
reply_whole plant (Unsettled listed trials) = unsettled_whole plant 1 listed trials
reply_whole plant (Conflicts kept trials) = conflicts_of_moves plant kept trials
reply_whole plant (Committed time tracked) = committed_whole time tracked
reply_whole plant (States time tracked) = states_whole plant time tracked
reply_whole plant (Recovered rank) = commands_whole (codes "recovery") plant rank
reply_whole plant NoRecovery = refl
reply_whole plant (Undecided trials) = undecided_whole trials
reply_whole plant (CommandConflicts kept trials) = conflicts_of_commands plant kept trials
reply_whole plant (Labels labels) = labels_whole plant labels
reply_whole plant Contradiction = refl
reply_whole plant Certificate = refl
reply_whole plant (Probed listed observables best) = probe_whole plant listed observables best
reply_whole plant (Tested rank) = commands_whole (codes "test") plant rank
reply_whole plant NoTest = refl
reply_whole plant (SettledWindow steps listed) = settled_whole plant steps listed
reply_whole plant (UnsettledWindow steps listed trials) = unsettled_whole plant steps listed trials
reply_whole plant (WindowConflicts first kept trials) = conflicts_of_windows plant first kept trials

-- ---- whatever a session may reply

other_whole : (plant : Plant) (reply : Reply) (text : List ℕ) → text ≡ reply_text plant reply → is_whole text ≡ true
other_whole plant reply text is = ap is_whole is ∙ reply_whole plant reply

certified_whole : (query : Query) (plant : Plant) (state : SessionState) (text : List ℕ) → Certifies query plant state text → is_whole text ≡ true
certified_whole Absent plant state text is = absurd is
certified_whole (Diagnosis sum) plant state text is = ap is_whole is.is ∙ certificate_whole is.lines
certified_whole (Test x sum) plant state text is = absurd is
certified_whole (Window steps sum) plant state text is = absurd is
certified_whole (Recovery sum) plant state text is = ap is_whole is.is ∙ certificate_whole is.lines

text_whole : (plant : Plant) (state : SessionState) (reply : Reply) (text : List ℕ) → IsTextOf plant state reply text → is_whole text ≡ true
text_whole plant state Nothing text is = other_whole plant Nothing text is
text_whole plant state Accepted text is = other_whole plant Accepted text is
text_whole plant state (Refused refusal) text is = other_whole plant (Refused refusal) text is
text_whole plant state (Settled listed) text is = other_whole plant (Settled listed) text is
text_whole plant state (Unsettled listed trials) text is = other_whole plant (Unsettled listed trials) text is
text_whole plant state (Conflicts kept trials) text is = other_whole plant (Conflicts kept trials) text is
text_whole plant state (Committed time tracked) text is = other_whole plant (Committed time tracked) text is
text_whole plant state (States time tracked) text is = other_whole plant (States time tracked) text is
text_whole plant state (Recovered rank) text is = other_whole plant (Recovered rank) text is
text_whole plant state NoRecovery text is = other_whole plant NoRecovery text is
text_whole plant state (Undecided trials) text is = other_whole plant (Undecided trials) text is
text_whole plant state (CommandConflicts kept trials) text is = other_whole plant (CommandConflicts kept trials) text is
text_whole plant state (Labels labels) text is = other_whole plant (Labels labels) text is
text_whole plant state Contradiction text is = other_whole plant Contradiction text is
text_whole plant state Certificate text is = certified_whole state.query plant state text is
text_whole plant state (Probed listed observables best) text is = other_whole plant (Probed listed observables best) text is
text_whole plant state (Tested rank) text is = other_whole plant (Tested rank) text is
text_whole plant state NoTest text is = other_whole plant NoTest text is
text_whole plant state (SettledWindow steps listed) text is = other_whole plant (SettledWindow steps listed) text is
text_whole plant state (UnsettledWindow steps listed trials) text is = other_whole plant (UnsettledWindow steps listed trials) text is
text_whole plant state (WindowConflicts first kept trials) text is = other_whole plant (WindowConflicts first kept trials) text is

pub replies_are_whole : RepliesAreWhole
replies_are_whole s line text says = text_whole s.plant (stepped s.plant s.state line).state (stepped s.plant s.state line).reply text says
