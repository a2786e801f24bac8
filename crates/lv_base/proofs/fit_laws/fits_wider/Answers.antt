use Rattle.lv_base.proofs.WidenLemmas.{fits_wider}
use Rattle.lv_base.proofs.fit_laws.fits_wider.Goals as goal

pub returns : goal.returns
returns c = λ old new wide f h. fits_wider old new wide f h
