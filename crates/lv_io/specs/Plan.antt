-- Which calls on an object in memory fail.
use Rattle.std.specs.Prelude.{ℕ, Bool, List, nat_eq}
use Rattle.std.specs.List.{list_any}
use Rattle.lv_io.specs.Counts.{one_more}

-- the calls made so far, and the numbers of the calls that fail, counted from 1
pub record Plan : Type 0 where
  pub calls : ℕ
  pub fails : List ℕ

-- the plan after one more call
abbrev pub after_call : Plan → Plan
after_call plan = record plan { calls = one_more plan.calls }

-- the next call is among those that fail
abbrev pub next_fails : Plan → Bool
next_fails plan = list_any (λ n. nat_eq n (one_more plan.calls)) plan.fails
