-- what is left of the box is the zone's box
use Rattle.std.proofs.Common.{List, ℕ, ◌∙◌, sym, subst}
use Rattle.lv_search_bans.specs.Narrow.{HasNoneBy, HasSameFree}
use Rattle.lv_guide.proofs.narrowed.narrowed_by_all.Goals as goal

pub returns-then-not-narrow : goal.returns-then-not-narrow
returns-then-not-narrow c =
    subst (λ (masks : List ℕ). HasNoneBy c.args.conflicts.now masks) (c.in_ok-masks.ensures ∙ c.masks.ensures) (rw c.if-not-narrow.true at c.narrow.ensures)

pub returns : goal.returns
returns c =
    rw c.in_ok-less.ensures
    (record {
      source = c.source.ensures;
      base = c.base.ensures.base;
      masks =
          subst (λ (new : List ℕ). HasSameFree c.args.conflicts.now c.args.zone.now.masks new) (sym c.as_slice.ensures)
          (subst (λ (old : List ℕ). HasSameFree c.args.conflicts.now old c.narrow.new.masks) (c.in_ok-masks.ensures ∙ c.masks.ensures) (rw c.if-not-narrow.false at c.narrow.ensures).free);
    })
