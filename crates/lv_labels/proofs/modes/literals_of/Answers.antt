-- values without variables have no literals
use Rattle.std.proofs.Common.{◌≡◌, [], ◌∷◌, List, drop, refl, subst, sym}
use Rattle.std.proofs.lemmas.List.{drop_all, append-nil}
use Rattle.lv_base.specs.declared.ids.ValId.{ValId}
use Rattle.lv_base.specs.declared.ids.VarId.{VarId}
use Rattle.lv_compile.specs.Booleans.{Booleans}
use Rattle.lv_labels.specs.Literals.{literals_of}
use Rattle.lv_labels.proofs.modes.literals_of.Goals as goal

nothing_left : (b : Booleans) (xs : List VarId) (vs : List ValId) → xs ≡ [] → literals_of b xs vs ≡ []
nothing_left b xs [] e = refl
nothing_left b xs (v ∷ vs) e = subst (λ (ys : List VarId). literals_of b ys (v ∷ vs) ≡ []) (sym e) refl

pub returns-then-i-variables : goal.returns-then-i-variables
returns-then-i-variables c =
    let none = nothing_left c.args.bools.now (drop c.loop-i.i c.args.variables.now) (drop c.loop-i.i c.args.values.now) (drop_all c.loop-i.i c.args.variables.now c.if-i-variables.true) in
    rw (none, append-nil) at c.loop-i.invariant.rest
