-- What a label tells.
use Rattle.lv_base.specs.declared.ids.Lit.{Lit}
use Rattle.lv_clauses.specs.Literals.{neg}
use Rattle.lv_ltms.specs.declared.ltms.Label.{Label}
use Rattle.lv_ltms.specs.declared.ltms.Label.TheVariants.{True, False, Unknown}
use Rattle.lv_ltms.specs.System.{System, IsDerived}

-- the literal is derived, its negation is, or neither
abbrev pub TellsLabel : System → Lit → Label → Type 0
TellsLabel s l True = IsDerived s l
TellsLabel s l False = IsDerived s (neg l)
TellsLabel s l Unknown = (¬ IsDerived s l) × (¬ IsDerived s (neg l))
