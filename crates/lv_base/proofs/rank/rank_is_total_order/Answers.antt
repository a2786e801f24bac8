-- ranks are compared by their keys, which the order of lists compares, and equal keys are those of equal ranks
use Rattle.std.proofs.Common.{◌≡◌}
use Rattle.std.proofs.lemmas.Map.Lookups.{exact_bytes}
use Rattle.lv_base.specs.declared.rank.Rank.{Rank}
use Rattle.lv_base.specs.Rank.{rank_key}
use Rattle.lv_base.proofs.OrderLemmas.{irreflexive, transitive, connected, before_by_cmp, after_by_cmp}
use Rattle.lv_base.proofs.rank.rank_is_total_order.Goals as goal

by_key : (a b : Rank) → rank_key a ≡ rank_key b → a ≡ b
by_key a b e =
    let cost : a.cost.0 ≡ b.cost.0 = cc e in
    let source : a.source ≡ b.source = cc e in
    let choices : a.choices ≡ b.choices = cc e in
    λ i. record { cost = record { 0 = cost i }; source = source i; choices = choices i }

pub returns : goal.returns
returns c =
    record {
      irreflexive = λ a. irreflexive (rank_key a);
      transitive = λ a b d. transitive (rank_key a) (rank_key b) (rank_key d);
      connected = λ a b p q. by_key a b (connected (rank_key a) (rank_key b) p q);
      less = before_by_cmp;
      greater = after_by_cmp;
      same = λ a b e. by_key a b (exact_bytes (rank_key a) (rank_key b) e);
    }
