-- The verdicts, computed.
use Rattle.std.proofs.Common.{◌≡◌, refl}
use Rattle.lv_formula_text.specs.Descent.{phrase_of}
use Rattle.lv_reader.specs.Keywords.{keyword_of}
use Rattle.lv_checker.specs.Checking.{checked}
use Rattle.lv_checker.specs.lv_model_entries.Entries.{inside_entry, outside_entry}
use Rattle.lv_checker.specs.Faults.{fault_of_entry}
use Rattle.lv_checker.specs.Verdicts.{accepted}
use Rattle.lv_certcheck.specs.declared.check.Verdict.TheVariants.{Valid, Invalid}
use Rattle.lv_certcheck.specs.Verdicts.{verdict}
use Rattle.lv_checker.specs.Forms.{form_by}
use Rattle.lv_checker.specs.Reading.{verdict_on}
use Rattle.lv_cert_example.specs.Valve.{valve_text, valve, worked_lines, lines_without}
use Rattle.lv_cert_example.specs.Laws.{WorkedCertificateIsValid}

model : verdict_on valve_text ≡ accepted valve
unfolding verdict_on checked keyword_of form_by phrase_of inside_entry outside_entry fault_of_entry valve_text
model = refl

valid : verdict valve worked_lines ≡ Valid
unfolding verdict_on checked keyword_of form_by phrase_of inside_entry outside_entry fault_of_entry valve_text
valid = refl

without : verdict valve lines_without ≡ Invalid 19
unfolding verdict_on checked keyword_of form_by phrase_of inside_entry outside_entry fault_of_entry valve_text
without = refl

pub worked : WorkedCertificateIsValid
worked = record { model = model; valid = valid; without = without }
