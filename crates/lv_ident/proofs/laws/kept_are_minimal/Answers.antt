use Rattle.lv_ident.proofs.ReasonLemmas.{kept_impossible_law, kept_needed_law, kept_apart_law}
use Rattle.lv_ident.proofs.laws.kept_are_minimal.Goals as goal

pub returns : goal.returns
returns c = record { impossible = kept_impossible_law; needed = kept_needed_law; apart = kept_apart_law }
