-- a settled walk explains each candidate
use Rattle.std.proofs.Common.{◌∙◌, ap, sym}
use Rattle.std.specs.Option.{option_copied}
use Rattle.lv_cert_writing.specs.Explained.{last_if_full}
use Rattle.certificate_tests.proofs.SmallLemmas.{explained_as_made}
use Rattle.certificate_tests.proofs.closing.three_shown.Goals as goal

pub close-requires-clause-explained : goal.close-requires-clause-explained
close-requires-clause-explained c =
    explained_as_made c.in_ok-grid.grid c.in_ok-zones.zones.items (option_copied c.last_if_full-last.result) c.as_slice-3.result.now c.as_slice-2.result.now
    c.in_ok-grid.ensures c.in_ok-zones.ensures (c.as_slice-3.ensures.value ∙ c.in_ok-listed.ensures) (c.as_slice-2.ensures.value ∙ c.in_ok-excluded.ensures)
    (c.last_if_full-last.ensures ∙ ap (last_if_full 3) (c.as_slice.ensures.value ∙ sym c.as_slice-3.ensures.value))
