-- An observation that is stated, with the literal that says it.
use Rattle.std.specs.Prelude.{[], ◌∷◌, ◌++◌}
use Rattle.lv_base.specs.declared.ids.Lit.{Lit}
use Rattle.lv_meaning.specs.declared.facts.Observation.{Observation}
use Rattle.lv_meaning.specs.declared.facts.Facts.{Facts}
use Rattle.lv_cert.specs.declared.line.Moment.{Moment}
use Rattle.lv_cert.specs.declared.line.Moment.TheVariants.{Now, Next}
use Rattle.lv_cert_laws.specs.lv_cert_meaning.Stated.{Stated}

abbrev pub facts_with : Moment → Facts → Observation → Facts
facts_with Now facts o = record facts { present = facts.present ++ o ∷ [] }
facts_with Next facts o = record facts { next = facts.next ++ o ∷ [] }

abbrev pub observed : Moment → Stated → Observation → Lit → Stated
observed moment s o l = record s { facts = facts_with moment s.facts o; literals = s.literals ++ l ∷ [] }
