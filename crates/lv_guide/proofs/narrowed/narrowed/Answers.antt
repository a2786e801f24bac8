-- what is left of the box is the zone's box
use Rattle.std.proofs.Common.{List, ℕ, ◌∙◌, sym, subst}
use Rattle.lv_search_bans.specs.Narrow.{HasNoneBy, HasSameFree}
use Rattle.lv_guide.proofs.narrowed.narrowed.Goals as goal

pub returns-then-not-narrow_at : goal.returns-then-not-narrow_at
returns-then-not-narrow_at c =
    subst (λ (masks : List ℕ). HasNoneBy c.args.conflicts.now masks) (c.in_ok-masks.ensures ∙ c.masks.ensures) (rw c.if-not-narrow_at.true at c.narrow_at.ensures)

pub returns : goal.returns
returns c =
    rw c.in_ok-less.ensures
    (record {
      source = c.source.ensures;
      base = c.base.ensures.base;
      masks =
          subst (λ (new : List ℕ). HasSameFree c.args.conflicts.now c.args.zone.now.masks new) (sym c.as_slice.ensures)
          (subst (λ (old : List ℕ). HasSameFree c.args.conflicts.now old c.narrow_at.new.masks) (c.in_ok-masks.ensures ∙ c.masks.ensures) (rw c.if-not-narrow_at.false at c.narrow_at.ensures).free);
    })
