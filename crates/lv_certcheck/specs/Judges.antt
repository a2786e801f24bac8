-- What a judge asks of what was judged so far, and leaves.
use Rattle.std.specs.Prelude.{Bool, IsTrue}
use Rattle.lv_certcheck.specs.declared.judge.Judge.{Judge}
use Rattle.lv_certcheck.specs.declared.judged.Judged.{Judged}
use Rattle.lv_certcheck.specs.Settings.{IsSetting, plant_of}
use Rattle.lv_certcheck.specs.Giving.{Fits}

-- what is judged by is made of the model, and what was judged so far speaks of its things
pub record Judges (judge : Judge) (j : Judged) : Type 0 where
  pub setting : IsSetting judge.setting
  pub fits : Fits (plant_of judge.setting) judge.setting.system.now j

-- behind a good line it still does
abbrev pub StillFits : Judge → Bool → Judged → Type 0
StillFits judge good j = IsTrue good → Fits (plant_of judge.setting) judge.setting.system.now j
