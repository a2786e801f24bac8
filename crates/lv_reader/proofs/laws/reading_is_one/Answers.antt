use Rattle.lv_reader.proofs.ReadingLemmas.{text_one, fault_code_one, fault_line_one, text_or_fault}
use Rattle.lv_reader.proofs.laws.reading_is_one.Goals as goal

pub returns : goal.returns
returns c = record { text = text_one; code = fault_code_one; line = fault_line_one; either = text_or_fault }
