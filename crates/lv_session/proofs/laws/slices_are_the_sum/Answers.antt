use Rattle.lv_session.proofs.Slices.{diagnosis_slices, recovery_slices, test_slices, window_slices}
use Rattle.lv_session.proofs.laws.slices_are_the_sum.Goals as goal

pub returns : goal.returns
returns c = record { of_diagnosis = diagnosis_slices; of_recovery = recovery_slices; of_test = test_slices; of_window = window_slices }
