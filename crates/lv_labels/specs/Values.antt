-- The literals that variables have values, before a step and after it.
use Rattle.std.specs.Prelude.{ℕ, true}
use Rattle.lv_base.specs.declared.ids.Lit.{Lit}
use Rattle.lv_compile.specs.Booleans.{Booleans, value_literal}
use Rattle.lv_reply.specs.declared.labels.Moment.{Moment}
use Rattle.lv_reply.specs.declared.labels.Moment.TheVariants.{Now, Next}
use Rattle.lv_labels.specs.declared.values.Values.{Values}

abbrev pub booleans_at : Values → Moment → Booleans
booleans_at values Now = values.before
booleans_at values Next = values.after

-- the literal that the variable has the value
abbrev pub literal_at : Values → Moment → ℕ → ℕ → Lit
literal_at values moment x v = value_literal (booleans_at values moment) x v true
