-- Going along clauses that watch a literal which is false, as far as none of them comes to watch another one.
use Rattle.std.specs.Prelude.{◌≡◌, true, ⊤}
use Rattle.lv_base.specs.declared.ids.Lit.{Lit}
use Rattle.lv_base.specs.declared.ids.ClauseId.{ClauseId}
use Rattle.lv_clauses.specs.ClauseMap.{Slots}
use Rattle.lv_clauses.specs.Marks.{Marks, is_marked}
use Rattle.lv_ltms.specs.declared.propagation.Passing.{Passing}
use Rattle.lv_ltms.specs.declared.propagation.Course.{Course}
use Rattle.lv_ltms.specs.Watching.{Rows, lit_at, AllInRow}
use Rattle.lv_ltms.specs.Standing.{IsFalsified}

-- what a clause that watches this literal beside the false one comes to
abbrev pub Passes : Slots → Marks → ClauseId → Lit → Passing → Type 0
Passes slots marks id other Passing.Holds = is_marked marks other ≡ true
Passes slots marks id other Passing.Stops = ⊤
Passes slots marks id other Passing.Fails = IsFalsified slots marks id.0

-- what the clauses that watch the literal come to
abbrev pub Follows : Slots → Rows → Rows → Marks → Lit → Course → Type 0
Follows slots near far marks l Course.Holds = AllInRow near l (λ id. is_marked marks (lit_at far id.0) ≡ true)
Follows slots near far marks l Course.Stops = ⊤
Follows slots near far marks l (Course.Fails id) = IsFalsified slots marks id.0
