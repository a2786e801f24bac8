-- The order of a certificate's lines as the tables of the format tell it, by the lines alone.
use Rattle.std.specs.Prelude.{◌≡◌, ℕ, ◌+◌, Bool, true, false, not, nat_le, ◌&&◌, ◌||◌, List, [], ◌∷◌, Option, Some, None}
use Rattle.lv_cert.specs.declared.line.Line.{Line}
use Rattle.lv_cert.specs.declared.line.Line.TheVariants as line
use Rattle.lv_cert.specs.declared.line.Head.{Head}
use Rattle.lv_cert.specs.declared.line.Head.TheVariants as head
use Rattle.lv_cert.specs.declared.order.Place.TheVariants.{Start, Done}
use Rattle.lv_cert.specs.Order.{place_behind}

abbrev pub is_start : Line → Bool
is_start (line.Certificate question) = true
is_start _ = false

abbrev pub is_end : Line → Bool
is_end line.End = true
is_end _ = false

-- values before a step, and values after it
abbrev pub is_now : Line → Bool
is_now (line.Numbers head.Now ns) = true
is_now _ = false

abbrev pub is_next : Line → Bool
is_next (line.Numbers head.Next ns) = true
is_next _ = false

abbrev pub is_clause : Line → Bool
is_clause (line.Clause literals hints) = true
is_clause _ = false

-- the line shows what the lines before it say, and is of no row of its own
abbrev pub is_values : Line → Bool
is_values l = is_now l || is_next l

abbrev pub is_shown : Line → Bool
is_shown l = is_values l || is_clause l

-- the rows of numbers: limit, states, controls; what is listed, or the recovery; what shows that it is one; what excludes others
abbrev pub row_of_head : Head → Option ℕ
row_of_head head.Limit = Some 2
row_of_head head.State = Some 3
row_of_head head.Control = Some 4
row_of_head head.Listed = Some 7
row_of_head head.Recovery = Some 7
row_of_head head.Good = Some 8
row_of_head head.Proof = Some 8
row_of_head head.Conflict = Some 9
row_of_head head.Counter = Some 9
row_of_head head.Now = None
row_of_head head.Next = None

-- the row of the tables that a line is of
abbrev pub row_of : Line → Option ℕ
row_of (line.Certificate question) = Some 0
row_of (line.Model name) = Some 1
row_of (line.Distinct k) = Some 2
row_of (line.Fact moment x v) = Some 5
row_of (line.Goal text) = Some 6
row_of (line.Split zone evidence) = Some 10
row_of line.End = Some 11
row_of (line.Clause literals hints) = None
row_of (line.Numbers h ns) = row_of_head h

abbrev pub is_single_head : Head → Bool
is_single_head head.Limit = true
is_single_head head.Control = true
is_single_head head.Recovery = true
is_single_head _ = false

-- there is one line of its row at most
abbrev pub is_single : Line → Bool
is_single (line.Certificate question) = true
is_single (line.Model name) = true
is_single (line.Distinct k) = true
is_single line.End = true
is_single (line.Numbers h ns) = is_single_head h
is_single _ = false

-- it comes at this row or behind it
abbrev pub is_from : ℕ → Option ℕ → Bool
is_from row None = true
is_from row (Some at) = nat_le row at

-- the first row that may come behind it
abbrev pub row_behind : ℕ → Bool → Option ℕ → ℕ
row_behind row single None = row
row_behind row true (Some at) = at + 1
row_behind row false (Some at) = at

-- no line is of a row before this one, or before that of a line in front of it
abbrev pub rows_rise : ℕ → List Line → Bool
rows_rise row [] = true
rows_rise row (l ∷ ls) = is_from row (row_of l) && rows_rise (row_behind row (is_single l) (row_of l)) ls

abbrev pub may_follow_head : Head → Line → Bool
may_follow_head head.Listed m = is_now m
may_follow_head head.Good m = is_now m
may_follow_head head.Counter m = is_now m
may_follow_head head.Now m = is_next m
may_follow_head head.Conflict m = is_clause m
may_follow_head head.Proof m = is_clause m
may_follow_head _ m = not (is_shown m)

-- right behind a line there may stand this one: behind a candidate that is listed, a state from which a recovery is good, and a
-- counterexample the values before a step, and behind these the values after it; behind a conflict and a proof a clause, and then more
abbrev pub may_follow : Line → Line → Bool
may_follow (line.Numbers h ns) m = may_follow_head h m
may_follow (line.Clause literals hints) m = not (is_values m)
may_follow _ m = not (is_shown m)

-- each of the lines may stand right behind the one before it, the first behind this one, and the last ends the certificate
abbrev pub are_next : Line → List Line → Bool
are_next l [] = is_end l
are_next l (m ∷ ms) = may_follow l m && are_next m ms

-- the order of the tables
abbrev pub are_in_table_order : List Line → Bool
are_in_table_order [] = false
are_in_table_order (l ∷ ls) = (is_start l && rows_rise 0 (l ∷ ls)) && are_next l ls

-- the lines of a certificate, which lead from the start to the end, are in that order
abbrev pub OrderIsOfTheTables : Type 0
OrderIsOfTheTables = (lines : List Line) → place_behind Start lines ≡ Some Done → are_in_table_order lines ≡ true
