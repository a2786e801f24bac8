-- The line that words are.
use Rattle.std.specs.Prelude.{ℕ, ◌+◌, List, [], ◌∷◌, Bool, true, length, take, drop, map, position, nat_eq, nat_le, ◌&&◌, if◌then◌else◌, Option, codes}
use Rattle.std.specs.declared.option.Option.TheVariants.{Some, None}
use Rattle.std.specs.Option.{option_map, option_and_then}
use Rattle.std.specs.Str.{bytes_eq}
use Rattle.std.specs.List.{list_all}
use Rattle.lv_text.specs.Numbers.{number_value}
use Rattle.lv_cert.specs.declared.line.Question.{Question}
use Rattle.lv_cert.specs.declared.line.Moment.{Moment}
use Rattle.lv_cert.specs.declared.line.Literal.{Literal}
use Rattle.lv_cert.specs.declared.line.Evidence.{Evidence}
use Rattle.lv_cert.specs.declared.line.Head.{Head}
use Rattle.lv_cert.specs.declared.line.Line.{Line}
use Rattle.lv_cert.specs.Numbers.{is_number, is_positive, is_literal, literal_value}
use Rattle.lv_cert.specs.Words.{is_word}

abbrev pub question_of : List ℕ → Option Question
question_of w =
    if bytes_eq w (codes "diagnosis") then Some Question.Diagnosis
    else if bytes_eq w (codes "recovery") then Some Question.Recovery
    else None

abbrev pub moment_of : List ℕ → Option Moment
moment_of w =
    if bytes_eq w (codes "now") then Some Moment.Now
    else if bytes_eq w (codes "next") then Some Moment.Next
    else None

-- the heads of lines that are few in a certificate
abbrev pub rare_head_of : List ℕ → Option Head
rare_head_of w =
    if bytes_eq w (codes "k") then Some Head.Limit
    else if bytes_eq w (codes "state") then Some Head.State
    else if bytes_eq w (codes "control") then Some Head.Control
    else if bytes_eq w (codes "recovery") then Some Head.Recovery
    else if bytes_eq w (codes "good") then Some Head.Good
    else None

-- the first word of a line of numbers
abbrev pub head_of : List ℕ → Option Head
head_of w =
    if bytes_eq w (codes "listed") then Some Head.Listed
    else if bytes_eq w (codes "now") then Some Head.Now
    else if bytes_eq w (codes "next") then Some Head.Next
    else if bytes_eq w (codes "conflict") then Some Head.Conflict
    else if bytes_eq w (codes "proof") then Some Head.Proof
    else if bytes_eq w (codes "counter") then Some Head.Counter
    else rare_head_of w

-- how many numbers stand behind a head
abbrev pub has_fitting_count : Head → ℕ → Bool
has_fitting_count Head.Limit n = nat_eq n 1
has_fitting_count Head.State n = nat_le 1 n
has_fitting_count Head.Control n = true
has_fitting_count Head.Listed n = nat_le 1 n
has_fitting_count Head.Now n = true
has_fitting_count Head.Next n = true
has_fitting_count Head.Conflict n = true
has_fitting_count Head.Recovery n = true
has_fitting_count Head.Good n = nat_eq n 1
has_fitting_count Head.Proof n = nat_eq n 2
has_fitting_count Head.Counter n = nat_le 1 n

-- the numbers that words spell
abbrev pub numbers_of : List (List ℕ) → Option (List ℕ)
numbers_of ws = if list_all is_number ws then Some (map number_value ws) else None

abbrev pub literals_of : List (List ℕ) → Option (List Literal)
literals_of ws = if list_all is_literal ws then Some (map literal_value ws) else None

-- hints: none of them is 0
abbrev pub hints_of : List (List ℕ) → Option (List ℕ)
hints_of ws = if list_all is_positive ws then Some (map number_value ws) else None

abbrev pub row_of : Head → List (List ℕ) → Option Line
row_of head ws = if has_fitting_count head (length ws) then option_map (λ ns. Line.Numbers head ns) (numbers_of ws) else None

-- the one word behind a first
abbrev pub only_word : List (List ℕ) → Option (List ℕ)
only_word [] = None
only_word (w ∷ []) = if is_word w then Some w else None
only_word (w ∷ u ∷ us) = None

abbrev pub certificate_of : List (List ℕ) → Option Line
certificate_of [] = None
certificate_of (w ∷ []) = option_map (λ q. Line.Certificate q) (question_of w)
certificate_of (w ∷ u ∷ us) = None

abbrev pub number_of : List ℕ → Option ℕ
number_of w = if is_number w then Some (number_value w) else None

abbrev pub fact_from : List ℕ → List ℕ → List ℕ → Option Line
fact_from m x v = option_and_then (λ moment. option_and_then (λ a. option_map (λ b. Line.Fact moment a b) (number_of v)) (number_of x)) (moment_of m)

abbrev pub fact_of : List (List ℕ) → Option Line
fact_of [] = None
fact_of (m ∷ []) = None
fact_of (m ∷ x ∷ []) = None
fact_of (m ∷ x ∷ v ∷ []) = fact_from m x v
fact_of (m ∷ x ∷ v ∷ u ∷ us) = None

-- the word for a numbered evidence, with its number
abbrev pub numbered : List ℕ → ℕ → Option Evidence
numbered w n =
    if bytes_eq w (codes "conflict") then Some (Evidence.Conflict n)
    else if bytes_eq w (codes "listed") then Some (Evidence.Listed n)
    else if bytes_eq w (codes "target") then Some (Evidence.Target n)
    else None

abbrev pub evidence_of : List (List ℕ) → Option Evidence
evidence_of [] = None
evidence_of (w ∷ []) = if bytes_eq w (codes "recovery") then Some Evidence.Recovery else None
evidence_of (w ∷ n ∷ []) = option_and_then (numbered w) (number_of n)
evidence_of (w ∷ n ∷ u ∷ us) = None

abbrev pub split_of : List (List ℕ) → Option Line
split_of [] = None
split_of (z ∷ ws) = option_and_then (λ zone. option_map (λ e. Line.Split zone e) (evidence_of ws)) (number_of z)

-- the word that ends the literals of a clause, and its hints
abbrev pub is_zero : List ℕ → Bool
is_zero w = bytes_eq w (codes "0")

-- a clause of words for its literals, and of words of which the last ends its hints
abbrev pub clause_from : List (List ℕ) → List (List ℕ) → Option Line
clause_from ls hs = option_and_then (λ at. if nat_eq (at + 1) (length hs)
    then option_and_then (λ literals. option_map (λ hints. Line.Clause literals hints) (hints_of (take at hs))) (literals_of ls)
    else None) (position is_zero hs)

abbrev pub clause_of : List (List ℕ) → Option Line
clause_of ws = option_and_then (λ at. clause_from (take at ws) (drop (at + 1) ws)) (position is_zero ws)

abbrev pub goal_of : List (List ℕ) → Option Line
goal_of ws = option_map (λ t. Line.Goal t) (only_word ws)

abbrev pub model_of : List (List ℕ) → Option Line
model_of ws = option_map (λ t. Line.Model t) (only_word ws)

abbrev pub end_of : List ℕ → List (List ℕ) → Option Line
end_of w ws = if bytes_eq w (codes "end") && nat_eq (length ws) 0 then Some Line.End else None

-- a line whose first word is not the head of a line of numbers
abbrev pub other_line_of : List ℕ → List (List ℕ) → Option Line
other_line_of w ws =
    if bytes_eq w (codes "clause") then clause_of ws
    else if bytes_eq w (codes "split") then split_of ws
    else if bytes_eq w (codes "fact") then fact_of ws
    else if bytes_eq w (codes "goal") then goal_of ws
    else if bytes_eq w (codes "model") then model_of ws
    else if bytes_eq w (codes "certificate") then certificate_of ws
    else end_of w ws

-- a limit, with a word behind it
abbrev pub distinct_of : List ℕ → List ℕ → Option Line
distinct_of n w = if bytes_eq w (codes "distinct") then option_map (λ k. Line.Distinct k) (number_of n) else None

-- a limit, with or without a word behind it
abbrev pub limit_of : List (List ℕ) → Option Line
limit_of [] = row_of Head.Limit []
limit_of (n ∷ []) = row_of Head.Limit (n ∷ [])
limit_of (n ∷ w ∷ []) = distinct_of n w
limit_of (n ∷ w ∷ u ∷ us) = row_of Head.Limit (n ∷ w ∷ u ∷ us)

-- the line of a first word, which may be a head, and the words behind it
abbrev pub line_from : Option Head → List ℕ → List (List ℕ) → Option Line
line_from None w ws = other_line_of w ws
line_from (Some Head.Limit) w ws = limit_of ws
line_from (Some head) w ws = row_of head ws

-- the line that words are, if they are one
abbrev pub line_of : List (List ℕ) → Option Line
line_of [] = None
line_of (w ∷ ws) = line_from (head_of w) w ws
