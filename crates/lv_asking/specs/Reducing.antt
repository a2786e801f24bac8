-- What a refutation tells of pairs, which of them it needed, and how far a deletion has come.
use Rattle.std.specs.Prelude.{◌≡◌, ℕ, Bool, true, false, List, [], ◌++◌, drop, filter, Option, Some, None, IfSome}
use Rattle.lv_base.specs.declared.search.Pair.{Pair}
use Rattle.lv_clauses.specs.Marks.{Marks}
use Rattle.lv_boxes.specs.Reason.{reduced}

-- without marks the pairs are possible together; with marks those of them that it needed aren't
abbrev pub RefutesPairs : (List Pair → Bool) → (Marks → Pair → Bool) → List Pair → Option Marks → Type 0
RefutesPairs possible needs pairs None = possible pairs ≡ true
RefutesPairs possible needs pairs (Some marks) = possible (filter (needs marks) pairs) ≡ false

-- the last refutation, if there was one, needed the pair
abbrev pub is_needed : (Marks → Pair → Bool) → Option Marks → Pair → Bool
is_needed needs None p = true
is_needed needs (Some marks) p = needs marks p

-- what is kept and the pairs from this place on come to what all pairs come to; those of them that the last refutation needed aren't
-- possible together
pub record IsReducing (possible : List Pair → Bool) (needs : Marks → Pair → Bool) (pairs : List Pair) (at : ℕ) (kept : List Pair) (core : Option Marks) : Type 0 where
  pub rest : reduced possible kept (drop at pairs) ≡ reduced possible [] pairs
  pub refuted : IfSome core (λ marks. possible (filter (needs marks) (kept ++ drop at pairs)) ≡ false)
