-- The text of a session of rounds, each with draws of its own.
use Rattle.std.specs.Prelude.{ℕ, zero, suc, ◌+◌, List, [], ◌++◌, codes, decimal, nat_eq, if◌then◌else◌}
use Rattle.lv_gen.specs.Draws.{draw_of, state_after}
use Rattle.lv_gen.specs.Series.{valves}

-- `command v1.cmd = open`
abbrev pub order_line : ℕ → List ℕ → List ℕ
order_line v order = codes "command v" ++ decimal v ++ codes ".cmd = " ++ order ++ codes "\n"

-- the command of a valve at what was drawn for it; none at 2 and 3
abbrev pub command_line : ℕ → ℕ → List ℕ
command_line v drawn = if nat_eq drawn 0 then order_line v (codes "open") else if nat_eq drawn 1 then order_line v (codes "close") else []

-- the commands of the first so many valves, where the generator starts with this state
abbrev pub command_lines : ℕ → ℕ → List ℕ
command_lines x zero = []
command_lines x (suc n) = command_lines x n ++ command_line (n + 1) (draw_of 4 (state_after x (n + 1)))

-- `observe o1 v2.out = zero`
abbrev pub observation_line : ℕ → ℕ → ℕ → List ℕ
observation_line valve round drawn =
    codes "observe o" ++ decimal round ++ codes " v" ++ decimal valve ++ codes ".out = " ++ (if nat_eq drawn 0 then codes "zero\n" else codes "some\n")

-- what is asked in a round, and that its observation is taken back
abbrev pub questions : ℕ → List ℕ
questions round = codes "diagnose\nconflicts\ncommit\nretract o" ++ decimal round ++ codes "\n"

-- a round over so many valves, which takes a draw for each of them and one more
abbrev pub round_text : ℕ → ℕ → ℕ → List ℕ
round_text count x round = command_lines x count ++ observation_line count round (draw_of 2 (state_after x (count + 1))) ++ questions round

-- the generator's state behind the first so many rounds
abbrev pub round_start : ℕ → ℕ → ℕ → ℕ
round_start count x zero = x
round_start count x (suc n) = state_after (round_start count x n) (count + 1)

-- the first so many rounds
abbrev pub round_texts : ℕ → ℕ → ℕ → List ℕ
round_texts count x zero = []
round_texts count x (suc n) = round_texts count x n ++ round_text count (round_start count x n) (n + 1)

-- the whole text: twenty rounds, the generator seeded with the number, and a last question
abbrev pub session_text : ℕ → List ℕ
session_text n = round_texts (valves n) n 20 ++ codes "states\n"
