use Rattle.lv_base.proofs.WidenLemmas.{fits_wider, grown}
use Rattle.lv_base.proofs.fit_laws.fits_grown.Goals as goal

pub returns : goal.returns
returns c = λ ranges x size r here larger f h. fits_wider ranges _ (grown ranges x size r here larger) f h
