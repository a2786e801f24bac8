-- The verdicts on the worked certificate and on a part of it.
use Rattle.std.specs.Prelude.{◌≡◌}
use Rattle.lv_checker.specs.Verdicts.{accepted}
use Rattle.lv_certcheck.specs.declared.check.Verdict.TheVariants.{Valid, Invalid}
use Rattle.lv_certcheck.specs.Verdicts.{verdict}
use Rattle.lv_checker.specs.Reading.{verdict_on}
use Rattle.lv_cert_example.specs.Valve.{valve_text, valve, worked_lines, lines_without}

pub record WorkedCertificateIsValid : Type 0 where
  pub model : verdict_on valve_text ≡ accepted valve
  pub valid : verdict valve worked_lines ≡ Valid
  pub without : verdict valve lines_without ≡ Invalid 19
