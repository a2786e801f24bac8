use Rattle.std.proofs.Common.{sym, ◌∙◌}
use Rattle.lv_cert.proofs.NumberLemmas.{value_at_end, value_too_wide}
use Rattle.lv_cert.proofs.numbers.value.Goals as goal

pub returns-in_err-value : goal.returns-in_err-value
returns-in_err-value c =
    c.from_residual.ensures
    ∙ sym (value_too_wide c.args.word.now c.loop-digit.digit-index c.loop-digit.value c.loop-digit-test.true c.loop-digit.invariant.whole
    (sym c.with_digit.ensures ∙ c.in_err-value.was))

pub returns : goal.returns
returns c = value_at_end c.args.word.now c.loop-digit.digit-index c.loop-digit.value c.loop-digit-test.false c.loop-digit.invariant.whole c.loop-digit.invariant.small
