-- a goal that fits speaks of values that have booleans
use Rattle.std.proofs.Common.{◌∙◌, ap}
use Rattle.lv_search_zones.specs.lv_compile.FormulaClauses.{speaks_of}
use Rattle.lv_system.proofs.GoalLemmas.{goals_exact}
use Rattle.lv_certcheck.specs.Settings.{plant_of}
use Rattle.lv_certcheck.proofs.blocks.give_goal.Goals as goal

pub goal_clauses-requires : goal.goal_clauses-requires
goal_clauses-requires c =
    ap (speaks_of c.args.setting.now.system.now.after 0) c.formula.ensures
    ∙ goals_exact.speaks (plant_of c.args.setting.now) c.args.setting.now.system.now c.requires.setting.system_is c.args.goal.now c.requires.fits.equations
