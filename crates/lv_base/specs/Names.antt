-- Names as they are written.
use Rattle.std.specs.Prelude.{ℕ, Bool, nat_eq, List}
use Rattle.std.specs.Cmp.Lexicographic.{pointwise}

-- byte by byte
abbrev pub is_named : List ℕ → List ℕ → Bool
is_named text name = pointwise nat_eq name text
