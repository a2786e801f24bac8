-- values without variables are all there
use Rattle.std.proofs.Common.{◌≡◌, ◌∙◌, true, [], ◌∷◌, List, drop, refl, sym, subst}
use Rattle.std.proofs.lemmas.List.{drop_all}
use Rattle.lv_base.specs.declared.ids.ValId.{ValId}
use Rattle.lv_base.specs.declared.ids.VarId.{VarId}
use Rattle.lv_compile.specs.Booleans.{Booleans}
use Rattle.lv_labels.specs.Modes.{are_values}
use Rattle.lv_labels.proofs.modes.are_values.Goals as goal

none_missing : (b : Booleans) (xs : List VarId) (vs : List ValId) → xs ≡ [] → are_values b xs vs ≡ true
none_missing b xs [] e = refl
none_missing b xs (v ∷ vs) e = subst (λ (ys : List VarId). are_values b ys (v ∷ vs) ≡ true) (sym e) refl

pub returns-then-i-variables : goal.returns-then-i-variables
returns-then-i-variables c =
    sym (none_missing c.args.bools.now (drop c.loop-i.i c.args.variables.now) (drop c.loop-i.i c.args.values.now) (drop_all c.loop-i.i c.args.variables.now c.if-i-variables.true)) ∙ c.loop-i.invariant
