use Rattle.std.proofs.Common.{◌≡◌, ◌≤◌, ◌^◌, drop, fold}
use Rattle.lv_text.specs.Numbers.{with_digit, number_value}
use Rattle.lv_cert.proofs.numbers.value.Given as goal

-- the value so far, and what is left behind it, give the value of the word
abbrev pub invariant-loop-digit : goal.invariant-loop-digit
invariant-loop-digit l = record {
  small : l.value ≤ 10 ^ 30;
  whole : fold with_digit l.value (drop l.digit-index l.word) ≡ number_value l.word;
}
