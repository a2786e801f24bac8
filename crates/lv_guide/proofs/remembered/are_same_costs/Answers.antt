-- no two of them differ
use Rattle.std.proofs.Common.{ℕ, ap, sym, ◌∙◌}
use Rattle.std.specs.Cmp.{unsigned_Decides}
use Rattle.std.specs.Cmp.Lexicographic.{pointwise_decides}
use Rattle.lv_base.specs.declared.ids.Cost.{Cost}
use Rattle.lv_guide.proofs.remembered.are_same_costs.Goals as goal

pub returns : goal.returns
returns c told =
    (pointwise_decides (λ (x y : Cost). ((λ h. ap (λ (n : ℕ). record { 0 = n }) ((unsigned_Decides x.0 y.0).0 h)), (λ e. (unsigned_Decides x.0 y.0).1 (ap (λ (z : Cost). z.0) e)))) c.args.one.now c.args.other.now).0
    (sym c.eq.ensures ∙ told)
