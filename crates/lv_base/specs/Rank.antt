-- The order of ranks: by cost, then the tracked state's place, then the choices slot by slot.
use Rattle.std.specs.Prelude.{◌≡◌, ℕ, Bool, true, false, List, ◌∷◌}
use Rattle.std.specs.declared.cmp.Ordering.{Ordering}
use Rattle.std.specs.declared.cmp.Ordering.TheVariants.{Less, Equal, Greater}
use Rattle.std.specs.Cmp.Lexicographic.{slice_cmp}
use Rattle.std.specs.Ordering.{nat_cmp, on}
use Rattle.lv_base.specs.declared.rank.Rank.{Rank}
use Rattle.lv_base.specs.Order.{comes_before}

-- all that a rank is compared by, as one list of numbers
abbrev pub rank_key : Rank → List ℕ
rank_key r = r.cost.0 ∷ (r.source ∷ r.choices)

abbrev pub ranks_before : Rank → Rank → Bool
ranks_before a b = comes_before (rank_key a) (rank_key b)

-- the same order as sorted collections ask for it
abbrev pub rank_cmp : Rank → Rank → Ordering
rank_cmp = on rank_key (slice_cmp nat_cmp)

pub record RankIsTotalOrder : Type 0 where
  pub irreflexive : (a : Rank) → ranks_before a a ≡ false
  pub transitive : (a b c : Rank) → ranks_before a b ≡ true → ranks_before b c ≡ true → ranks_before a c ≡ true
  pub connected : (a b : Rank) → ranks_before a b ≡ false → ranks_before b a ≡ false → a ≡ b
  pub less : (a b : Rank) → rank_cmp a b ≡ Less → ranks_before a b ≡ true
  pub greater : (a b : Rank) → rank_cmp a b ≡ Greater → ranks_before b a ≡ true
  pub same : (a b : Rank) → rank_cmp a b ≡ Equal → a ≡ b
