-- what is taken out of the box leaves it its first member
use Rattle.std.proofs.Common.{List, None, subst}
use Rattle.std.proofs.lemmas.Result.{IfOk-weaker}
use Rattle.lv_base.specs.declared.search.Pair.{Pair}
use Rattle.lv_search_guide.specs.First.{KeepsFirst}
use Rattle.lv_search_guide.specs.Lowest.{LowestTells}
use Rattle.lv_search_guide.proofs.FreeLemmas.{lowest_by_narrowed}
use Rattle.lv_search_guide.proofs.least_free.first_in.Goals as goal

pub returns-then-not-narrow-clause-first : goal.returns-then-not-narrow-clause-first
returns-then-not-narrow-clause-first c = subst (λ (ks : List (List Pair)). LowestTells c.args.grid.now ks c.args.masks None) c.in_ok-conflicts.ensures ((rw c.if-not-narrow.true at c.narrow.ensures).none c.args.grid.now)

pub returns-clause-first : goal.returns-clause-first
returns-clause-first c =
    IfOk-weaker c.first_left.result _ _
    (λ first told. subst (λ (ks : List (List Pair)). LowestTells c.args.grid.now ks c.args.masks first) c.in_ok-conflicts.ensures
    (lowest_by_narrowed c.args.grid.now c.in_ok-conflicts.conflicts c.args.masks c.narrow.new.masks first (rw c.if-not-narrow.false at c.narrow.ensures)
    ((subst (λ (ks : List (List Pair)). KeepsFirst c.args.grid.now ks c.narrow.new.masks c.drop_behind.new.masks) c.as_slice.ensures c.in_ok-drop_behind.ensures).first first
    (subst (λ (ks : List (List Pair)). LowestTells c.args.grid.now ks c.drop_behind.new.masks first) c.as_slice.ensures told))))
    c.first_left.ensures.first
