use Rattle.std.proofs.Common.{◌≡◌, ℕ, List, [], ◌∷◌, drop, refl, subst, sym}
use Rattle.std.proofs.lemmas.List.{drop_all, append-nil}
use Rattle.lv_base.specs.declared.ids.VarId.{VarId}
use Rattle.lv_model.specs.declared.plant.Plant.{Plant}
use Rattle.lv_reply.specs.Recovery.{shown_settings}
use Rattle.lv_reply.proofs.recovery.shown_settings.Goals as goal

-- controls without values show nothing
nothing_shown : (plant : Plant) (cs : List VarId) (vs : List ℕ) → vs ≡ [] → shown_settings plant cs vs ≡ []
nothing_shown plant [] vs e = refl
nothing_shown plant (c ∷ cs) vs e = subst (λ ws. shown_settings plant (c ∷ cs) ws ≡ []) (sym e) refl

pub returns-then-i-values : goal.returns-then-i-values
returns-then-i-values c =
    let none = nothing_shown c.args.model.now (drop c.loop-i.i c.args.controls.now) (drop c.loop-i.i c.args.values.now) (drop_all c.loop-i.i c.args.values.now c.if-i-values.true) in
    rw (none, append-nil) at c.loop-i.invariant
