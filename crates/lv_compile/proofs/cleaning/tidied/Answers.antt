-- where no literal stands twice, none is left out
use Rattle.std.proofs.Common.{sym, ◌∙◌, ap}
use Rattle.lv_compile.specs.Cleaning.{has_repeats}
use Rattle.lv_compile.proofs.RepeatLemmas.{no_repeats}
use Rattle.lv_compile.proofs.cleaning.tidied.Goals as goal

pub returns : goal.returns
returns c = sym (no_repeats c.args.clause (ap has_repeats (sym c.as_slice.ensures) ∙ sym c.has_repeats.ensures ∙ c.if-has_repeats.false))
