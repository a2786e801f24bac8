use Rattle.lv_base.proofs.WidenLemmas.{fits_wider, further}
use Rattle.lv_base.proofs.fit_laws.fits_further.Goals as goal

pub returns : goal.returns
returns c = λ ranges behind f h. fits_wider ranges _ (further ranges behind) f h
