use Rattle.std.proofs.Common.{◌≡◌, ◌<◌, ◌^◌, drop, fold}
use Rattle.lv_text.specs.Numbers.{with_digit, number_value}
use Rattle.lv_text.proofs.numbers.number.Given as goal

-- the value so far, and what is left behind it, give the value of the text
abbrev pub invariant-loop-digit : goal.invariant-loop-digit
invariant-loop-digit l = record {
  small : l.value < 2 ^ 128;
  whole : fold with_digit l.value (drop l.digit-index l.text) ≡ number_value l.text;
}
