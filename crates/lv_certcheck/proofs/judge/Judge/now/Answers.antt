use Rattle.lv_certcheck.specs.Settings.{plant_of}
use Rattle.lv_certcheck.proofs.JudgeLemmas.{whole_of, fits_before}
use Rattle.std.proofs.Common.{sym, subst}
use Rattle.lv_certcheck.specs.Giving.{IsWhole}
use Rattle.lv_certcheck.proofs.judge.Judge.now.Goals as goal

-- src/judge.rt:282:5
pub returns-in-Some-clause-fits : goal.returns-in-Some-clause-fits
returns-in-Some-clause-fits c = λ good.
    fits_before (plant_of c.args.self.now.setting) c.args.self.now.setting.system.now c.args.judged.now c.from_vec.result c.requires.fits
    (subst (IsWhole (plant_of c.args.self.now.setting)) (sym c.from_vec.ensures) (whole_of (plant_of c.args.self.now.setting) c.in-Some.values.items c.as_slice.result.now _ (rw c.in-Some.is at c.in_ok-values.ensures.count) c.as_slice.ensures.value c.requires.setting.counts_are.values_are))
