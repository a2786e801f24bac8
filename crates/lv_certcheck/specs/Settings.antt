-- What a certificate is judged by.
use Rattle.std.specs.Prelude.{◌≡◌}
use Rattle.lv_model.specs.declared.plant.Plant.{Plant}
use Rattle.lv_meaning.specs.Targets.{targets_of_moves}
use Rattle.lv_model_names.specs.Lists.{lists_of}
use Rattle.lv_system.specs.System.{IsSystemOf}
use Rattle.lv_cert_meaning.specs.Counts.{IsCountsOf}
use Rattle.lv_certcheck.specs.declared.setting.Setting.{Setting}

abbrev pub plant_of : Setting → Plant
plant_of s = s.model.now

-- what is kept is made of the model
pub record IsSetting (s : Setting) : Type 0 where
  pub system_is : IsSystemOf s.model.now s.system.now
  pub lists_are : s.lists.now ≡ lists_of s.model.now
  pub counts_are : IsCountsOf s.model.now s.counts.now
  pub targets_are : s.targets.now ≡ targets_of_moves s.model.now
