-- a goal that fits reads variables of the plant alone
use Rattle.std.proofs.Common.{◌≡◌, ◌∙◌, ◌+◌, ◌≤◌, All, length, arith, sym, ap, subst}
use Rattle.std.proofs.lemmas.List.Elements.{All-weaker}
use Rattle.lv_base.proofs.FitLemmas.{fits_reads}
use Rattle.lv_model.specs.Ranges.{plant_ranges}
use Rattle.lv_model.specs.WellFormed.{Reads}
use Rattle.lv_model.proofs.Reading.{length-plant_ranges}
use Rattle.lv_meaning.specs.Ranges.{GoalFits}
use Rattle.lv_certcheck.specs.declared.judged.Judged.{Judged}
use Rattle.lv_certcheck.specs.Settings.{plant_of}
use Rattle.lv_certcheck.proofs.shown.Shown.meets_stated.Goals as goal

pub meets_goals-requires : goal.meets_goals-requires
meets_goals-requires c =
    let plant = plant_of c.args.self.now.setting.now in
    let ranged = length-plant_ranges plant in
    let whole = c.requires.next.len in
    let within : 0 + length (plant_ranges plant) ≤ length c.args.self.now.after.now = omega (arith, ranged, whole) in
    let same : c.as_slice.result.now ≡ c.args.self.now.judged.now.stated.goals = c.as_slice.ensures.value ∙ ap (λ (j : Judged). j.stated.goals) c.judged.view_is in
    subst (All (Reads (length c.args.self.now.after.now) 0)) (sym same)
    (All-weaker (GoalFits plant) (Reads (length c.args.self.now.after.now) 0) (λ f fits. record { below = fits_reads (plant_ranges plant) (length c.args.self.now.after.now) 0 within f fits.equations }) c.args.self.now.judged.now.stated.goals c.requires.fits.goals)
