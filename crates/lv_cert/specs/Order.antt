-- The order of a certificate's lines, as an automaton: a place, and the place behind each line that may come there.
use Rattle.std.specs.Prelude.{ℕ, ◌+◌, ◌%◌, List, [], ◌∷◌, Bool, true, false, length, nat_eq, nat_lt, if◌then◌else◌, Option}
use Rattle.std.specs.declared.option.Option.TheVariants.{Some, None}
use Rattle.std.specs.Option.{option_and_then}
use Rattle.std.specs.Cmp.Lexicographic.{pointwise}
use Rattle.lv_cert.specs.declared.line.Question.{Question}
use Rattle.lv_cert.specs.declared.line.Moment.TheVariants as Moment
use Rattle.lv_cert.specs.declared.line.Evidence.{Evidence}
use Rattle.lv_cert.specs.declared.line.Head.TheVariants as Head
use Rattle.lv_cert.specs.declared.line.Line.{Line}
use Rattle.lv_cert.specs.declared.order.Listing.{Listing}
use Rattle.lv_cert.specs.declared.order.Task.{Task}
use Rattle.lv_cert.specs.declared.order.Stage.{Stage}
use Rattle.lv_cert.specs.declared.order.Witness.{Witness}
use Rattle.lv_cert.specs.declared.order.Place.{Place}

-- the numbers of a conflict are pairs: in a recovery behind the number of a state
abbrev pub has_pairs : Question → ℕ → Bool
has_pairs Question.Diagnosis n = nat_eq (n % 2) 0
has_pairs Question.Recovery n = nat_eq (n % 2) 1

-- zones are split by conflicts, and by what the question's answer is made of
abbrev pub splits : Question → Evidence → Bool
splits question (Evidence.Conflict n) = true
splits Question.Diagnosis (Evidence.Listed n) = true
splits Question.Recovery (Evidence.Listed n) = false
splits Question.Diagnosis (Evidence.Target n) = true
splits Question.Recovery (Evidence.Target n) = false
splits Question.Diagnosis Evidence.Recovery = false
splits Question.Recovery Evidence.Recovery = true

abbrev pub after_splits : Question → Line → Option Place
after_splits question (Line.Split zone evidence) = if splits question evidence then Some (Place.Splits question) else None
after_splits question Line.End = Some Place.Done
after_splits question _ = None

-- behind blocks there may come a conflict, in a recovery a counterexample, or the splits
abbrev pub after_blocks : Question → Line → Option Place
after_blocks question (Line.Numbers Head.Conflict ns) = if has_pairs question (length ns) then Some (Place.Clauses question) else None
after_blocks Question.Diagnosis (Line.Numbers Head.Counter ns) = None
after_blocks Question.Recovery (Line.Numbers Head.Counter ns) = Some (Place.Now Witness.OfCounter)
after_blocks question line = after_splits question line

abbrev pub after_first_clause : Question → Line → Option Place
after_first_clause question (Line.Clause ls hs) = Some (Place.MoreClauses question)
after_first_clause question _ = None

abbrev pub after_clauses : Question → Line → Option Place
after_clauses question (Line.Clause ls hs) = Some (Place.MoreClauses question)
after_clauses question line = after_blocks question line

abbrev pub after_start : Line → Option Place
after_start (Line.Certificate question) = Some (Place.Named question)
after_start _ = None

abbrev pub after_named : Question → Line → Option Place
after_named Question.Diagnosis (Line.Model name) = Some Place.Asked
after_named Question.Recovery (Line.Model name) = Some (Place.Known 0)
after_named question _ = None

abbrev pub after_asked : Line → Option Place
after_asked (Line.Numbers Head.Limit (k ∷ [])) = Some (Place.States k 0)
after_asked (Line.Distinct k) = Some (Place.States k 0)
after_asked _ = None

-- 1 to 64 states, and then the controls
abbrev pub after_states : ℕ → ℕ → Line → Option Place
after_states k n (Line.Numbers Head.State ns) = if nat_lt n 64 then Some (Place.States k (n + 1)) else None
after_states k n (Line.Numbers Head.Control ns) = if nat_lt 0 n then Some (Place.Facts k 0) else None
after_states k n _ = None

-- listed candidates, as many as the limit says at most, and then the blocks
abbrev pub after_listing : Listing → Line → Option Place
after_listing l (Line.Numbers Head.Listed ns) =
    if nat_lt l.listed l.most then Some (Place.Now (Witness.OfListed (record { most = l.most; listed = l.listed + 1 }))) else None
after_listing l line = after_blocks Question.Diagnosis line

-- up to 1,024 facts, and then what is listed
abbrev pub after_facts : ℕ → ℕ → Line → Option Place
after_facts k n (Line.Fact m x v) = if nat_lt n 1024 then Some (Place.Facts k (n + 1)) else None
after_facts k n line = after_listing (record { most = k; listed = 0 }) line

-- up to 1,024 facts of the present, and then a goal
abbrev pub after_known_facts : ℕ → ℕ → Line → Option Place
after_known_facts s n (Line.Fact Moment.Now x v) = if nat_lt n 1024 then Some (Place.KnownFacts s (n + 1)) else None
after_known_facts s n (Line.Goal t) = Some (Place.Goals (record { states = s; goals = 1 }))
after_known_facts s n _ = None

-- 1 to 64 states, and then facts
abbrev pub after_known : ℕ → Line → Option Place
after_known n (Line.Numbers Head.State ns) = if nat_lt n 64 then Some (Place.Known (n + 1)) else None
after_known n line = if nat_lt 0 n then after_known_facts n 0 line else None

-- 1 to 64 goals, and then the recovery, or none and the blocks
abbrev pub after_goals : Task → Line → Option Place
after_goals t (Line.Goal text) = if nat_lt t.goals 64 then Some (Place.Goals (record { states = t.states; goals = t.goals + 1 })) else None
after_goals t (Line.Numbers Head.Recovery ns) = Some (Place.Good (record { task = t; state = 1; goal = 1 }))
after_goals t line = after_blocks Question.Recovery line

abbrev pub after_good : Stage → Line → Option Place
after_good s (Line.Numbers Head.Good ns) = if pointwise nat_eq ns (s.state ∷ []) then Some (Place.Now (Witness.OfGood s)) else None
after_good s _ = None

abbrev pub after_proof : Stage → Line → Option Place
after_proof s (Line.Numbers Head.Proof ns) = if pointwise nat_eq ns (s.state ∷ s.goal ∷ []) then Some (Place.Refuted s) else None
after_proof s _ = None

abbrev pub after_refuted : Stage → Line → Option Place
after_refuted s (Line.Clause ls hs) = Some (Place.Refuting s)
after_refuted s _ = None

-- behind a stage there comes the next goal, or the next state's first, or the blocks
abbrev pub after_stage : Stage → Line → Option Place
after_stage s line =
    if nat_lt s.goal s.task.goals then after_proof (record { task = s.task; state = s.state; goal = s.goal + 1 }) line
    else if nat_lt s.state s.task.states then after_good (record { task = s.task; state = s.state + 1; goal = 1 }) line
    else after_blocks Question.Recovery line

abbrev pub after_refuting : Stage → Line → Option Place
after_refuting s (Line.Clause ls hs) = Some (Place.Refuting s)
after_refuting s line = after_stage s line

abbrev pub after_now : Witness → Line → Option Place
after_now w (Line.Numbers Head.Now ns) = Some (Place.Next w)
after_now w _ = None

abbrev pub after_witness : Witness → Place
after_witness (Witness.OfListed l) = Place.Listings l
after_witness (Witness.OfGood s) = Place.Proof s
after_witness Witness.OfCounter = Place.Blocks Question.Recovery

abbrev pub after_next : Witness → Line → Option Place
after_next w (Line.Numbers Head.Next ns) = Some (after_witness w)
after_next w _ = None

-- the place behind a line, if the line may come at the place
abbrev pub place_after : Place → Line → Option Place
place_after Place.Start line = after_start line
place_after (Place.Named question) line = after_named question line
place_after Place.Asked line = after_asked line
place_after (Place.States k n) line = after_states k n line
place_after (Place.Facts k n) line = after_facts k n line
place_after (Place.Listings l) line = after_listing l line
place_after (Place.Known n) line = after_known n line
place_after (Place.KnownFacts s n) line = after_known_facts s n line
place_after (Place.Goals t) line = after_goals t line
place_after (Place.Good s) line = after_good s line
place_after (Place.Proof s) line = after_proof s line
place_after (Place.Refuted s) line = after_refuted s line
place_after (Place.Refuting s) line = after_refuting s line
place_after (Place.Now w) line = after_now w line
place_after (Place.Next w) line = after_next w line
place_after (Place.Clauses question) line = after_first_clause question line
place_after (Place.MoreClauses question) line = after_clauses question line
place_after (Place.Blocks question) line = after_blocks question line
place_after (Place.Splits question) line = after_splits question line
place_after Place.Done line = None

-- the place that lines lead to from a place, if each of them may come
abbrev pub place_behind : Place → List Line → Option Place
place_behind place [] = Some place
place_behind place (l ∷ ls) = option_and_then (λ next. place_behind next ls) (place_after place l)
