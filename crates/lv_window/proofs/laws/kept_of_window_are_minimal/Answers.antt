use Rattle.lv_window.proofs.KeptLemmas.{kept_impossible, kept_needed, kept_apart}
use Rattle.lv_window.proofs.laws.kept_of_window_are_minimal.Goals as goal

pub returns : goal.returns
returns c =
    record {
      impossible = λ plant steps k budget ranks. kept_impossible plant steps k budget ranks;
      needed = λ plant steps k budget ranks. kept_needed plant steps k budget ranks;
      apart = λ plant steps k budget ranks. kept_apart plant steps k budget ranks;
    }
