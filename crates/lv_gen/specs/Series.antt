-- The text of the model of valves in a row, in canonical form.
use Rattle.std.specs.Prelude.{ℕ, zero, suc, ◌+◌, ◌-◌, ◌%◌, List, [], ◌++◌, codes, decimal}

-- how many valves a number stands for: 2 to 32
abbrev pub valves : ℕ → ℕ
valves n = 2 + n % 31

-- the domains and the type of a valve
unfoldable pub valve_type : List ℕ
valve_type =
    codes "domain flow zero some\ndomain order none open close\n"
    ++ codes "type valve\ncontrol cmd order\nvariable inn flow\nobservable out flow\n"
    ++ codes "mode closed\nmode open\nmode stuck_closed\nmode stuck_open\n"
    ++ codes "in closed out=zero\nin open out=inn\nin stuck_closed out=zero\nin stuck_open out=inn\n"
    ++ codes "step closed->open when cmd=open\nstep open->closed when cmd=close\n"
    ++ codes "fault closed->stuck_closed cost 3\nfault open->stuck_open cost 5\n"
    ++ codes "fault open->stuck_closed cost 4\nfault closed->stuck_open cost 8\n"
    ++ codes "end\n"

-- `part v1 valve closed`
abbrev pub part_line : ℕ → List ℕ
part_line v = codes "part v" ++ decimal v ++ codes " valve " ++ codes "closed\n"

-- the lines of the first so many valves
abbrev pub part_lines : ℕ → List ℕ
part_lines zero = []
part_lines (suc n) = part_lines n ++ part_line (n + 1)

-- `law v2.inn=v1.out`: what leaves a valve enters the one behind it
abbrev pub link_line : ℕ → List ℕ
link_line v = codes "law v" ++ decimal (v + 1) ++ codes ".inn=v" ++ decimal v ++ codes ".out\n"

-- the laws of the links behind the first so many valves
abbrev pub link_lines : ℕ → List ℕ
link_lines zero = []
link_lines (suc n) = link_lines n ++ link_line (n + 1)

-- the whole text: into the first valve there always flows some
abbrev pub model_text : ℕ → List ℕ
model_text n = codes "model series\n" ++ valve_type ++ part_lines (valves n) ++ codes "law v1.inn=some\n" ++ link_lines (valves n - 1)
