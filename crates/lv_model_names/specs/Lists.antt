-- What is kept with a plant so that names are looked up and goals judged without making it anew.
use Rattle.lv_model.specs.declared.plant.Plant.{Plant}
use Rattle.lv_model.specs.Lists.{controls}
use Rattle.lv_model.specs.Ranges.{plant_ranges}
use Rattle.lv_model.specs.Counts.{law_sizes}
use Rattle.lv_model_names.specs.declared.lists.Lists.{Lists}
use Rattle.lv_model_names.specs.Names.{classes}

abbrev pub lists_of : Plant → Lists
lists_of plant = record { controls = controls plant; ranges = plant_ranges plant; classes = classes plant; sizes = law_sizes plant }
