-- What fitting formulas keep to.
use Rattle.std.specs.Prelude.{◌≡◌, ◌+◌, ◌≤◌, ℕ, true, List, [], ◌∷◌, ◌++◌, length, slice_get, slice_set, Some}
use Rattle.lv_base.specs.declared.range.Range.{Range}
use Rattle.lv_base.specs.Tree.{Tree, reads_below}
use Rattle.lv_base.specs.Fits.{fits}

-- a formula that fits ranges reads their variables alone, wherever these are counted from
abbrev pub FitsReads : Type 0
FitsReads = (ranges : List Range) (bound base : ℕ) → base + length ranges ≤ bound → (f : Tree) → fits ranges f ≡ true → reads_below bound base f ≡ true

-- the same values and maybe further ones
pub record Widens (old new : Range) : Type 0 where
  pub sort : old.sort ≡ new.sort
  pub size : old.size ≤ new.size

-- each variable's range widens, and further variables may stand behind them
abbrev pub AllWiden : List Range → List Range → Type 0
AllWiden [] new = Unit {0}
AllWiden (r ∷ old) [] = ⊥
AllWiden (r ∷ old) (s ∷ new) = Widens r s × AllWiden old new

-- what fits ranges fits wider ones
abbrev pub FitsWider : Type 0
FitsWider = (old new : List Range) → AllWiden old new → (f : Tree) → fits old f ≡ true → fits new f ≡ true

-- what fits ranges fits them with further ones behind
abbrev pub FitsFurther : Type 0
FitsFurther = (ranges more : List Range) (f : Tree) → fits ranges f ≡ true → fits (ranges ++ more) f ≡ true

-- what fits ranges fits them where one has more values
abbrev pub FitsGrown : Type 0
FitsGrown = (ranges : List Range) (x size : ℕ) (r : Range) → slice_get ranges x ≡ Some r → r.size ≤ size → (f : Tree) → fits ranges f ≡ true → fits (slice_set ranges x (record r { size = size })) f ≡ true
