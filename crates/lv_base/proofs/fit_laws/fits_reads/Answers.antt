use Rattle.lv_base.proofs.FitLemmas.{fits_reads}
use Rattle.lv_base.proofs.fit_laws.fits_reads.Goals as goal

pub returns : goal.returns
returns c = λ ranges bound base ends f h. fits_reads ranges bound base ends f h
