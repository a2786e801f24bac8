-- what breaks the ban is priced at that much
use Rattle.std.proofs.Common.{List, length, ◌∙◌, ap, subst}
use Rattle.std.specs.List.{AllByRecursion}
use Rattle.lv_base.specs.declared.ids.Cost.{Cost}
use Rattle.lv_search_bans.specs.Prices.{FallsBy}
use Rattle.lv_search_bans.proofs.PriceLemmas.{raised, length-lowered_all}
use Rattle.lv_search_bans.proofs.prices.raise.Goals as goal

pub returns-in-Some-clause-raised : goal.returns-in-Some-clause-raised
returns-in-Some-clause-raised c =
    raised c.args.masks.now c.in-Some.by c.args.rows.now.items c.lower_all.new.rows.items c.args.sets.now c.requires.rising
    (subst (λ (rs : List (List Cost)). AllByRecursion (FallsBy c.args.masks.now rs c.in-Some.by) c.args.sets.now) c.as_slice.ensures.value (rw c.in-Some.is at c.least_break.ensures)) c.lower_all.ensures

pub returns-in-Some-clause-long : goal.returns-in-Some-clause-long
returns-in-Some-clause-long c = ap (λ (rs : List (List Cost)). length rs) c.lower_all.ensures ∙ length-lowered_all c.args.masks.now c.in-Some.by c.args.rows.now.items c.args.sets.now
