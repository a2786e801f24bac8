-- The booleans of the choices: those of each part stand together, part by part, one for each move.
use Rattle.std.specs.Prelude.{ℕ, ◌+◌, Bool, List, take, slice_index_or}
use Rattle.std.specs.List.{sum}
use Rattle.lv_base.specs.declared.ids.Lit.{Lit}
use Rattle.lv_compile.specs.Booleans.{literal}

-- how many moves each part has, and the boolean of the first part's first move
pub record Choices : Type 0 where
  pub first : ℕ
  pub counts : List ℕ

abbrev pub move_count : Choices → ℕ → ℕ
move_count c part = slice_index_or c.counts part 0

-- the literal that the part makes its n-th move, or that it doesn't
abbrev pub choice_literal : Choices → ℕ → ℕ → Bool → Lit
choice_literal c part n sign = literal (c.first + sum (take part c.counts) + n) sign
