-- The text of a reply.
use Rattle.std.specs.Prelude.{ℕ, ◌++◌, Bool, true, false, List, [], codes, decimal, Option, Some, None}
use Rattle.lv_model.specs.declared.plant.Plant.{Plant}
use Rattle.lv_reply.specs.declared.reply.Reply.{Reply}
use Rattle.lv_reply.specs.Pieces.{joined}
use Rattle.lv_reply.specs.States.{part_texts}
use Rattle.lv_reply.specs.Texts.{reply_text}
use Rattle.lv_plant.specs.declared.fault.PlantFault.{PlantFault}
use Rattle.lv_plant.specs.declared.fault.PlantFault.TheVariants.{LineTooLong, ByteNotAllowed, NoForm, NoFault, NoStep, NoMore, NoRecovery}
use Rattle.lv_plant.specs.declared.reply.PlantReply.{PlantReply}
use Rattle.lv_plant.specs.declared.reply.PlantReply.TheVariants.{Silence, Accepted, Refused, Told, Moved}
use Rattle.lv_plant.specs.declared.reply.StepTold.{StepTold}
use Rattle.lv_plant.specs.declared.reply.GoalsTold.{GoalsTold}
use Rattle.lv_plant.specs.declared.reply.GoalsTold.TheVariants.{NoGoals, Met, Open}

abbrev pub fault_code : PlantFault → List ℕ
fault_code LineTooLong = codes "S15"
fault_code ByteNotAllowed = codes "S16"
fault_code NoForm = codes "P01"
fault_code NoFault = codes "P02"
fault_code NoStep = codes "P03"
fault_code NoMore = codes "P04"
fault_code NoRecovery = codes "P05"

abbrev pub held_word : Bool → List ℕ
held_word true = codes "held yes\n"
held_word false = codes "held no\n"

abbrev pub goals_word : GoalsTold → List ℕ
goals_word NoGoals = codes "goals none\n"
goals_word Met = codes "goals met\n"
goals_word Open = codes "goals open\n"

-- the number of the step, and the mode of each part
unfoldable pub front_text : Plant → StepTold → List ℕ
front_text plant told = codes "plant time " ++ decimal told.time ++ codes ": " ++ joined (part_texts plant.types plant.parts told.modes) ++ codes "\n"

-- the reply of the commit, or that the plant is halted
abbrev pub commit_text : Plant → Option Reply → List ℕ
commit_text plant None = codes "halted\n"
commit_text plant (Some reply) = reply_text plant reply

-- whether the modes are tracked, and whether the goals are met
abbrev pub findings_text : StepTold → List ℕ
findings_text told = held_word told.is_held ++ goals_word told.goals

-- of a step: its number and modes, the reply of the diagnosis, that of the commit, and what is found
abbrev pub step_text : Plant → StepTold → List ℕ
step_text plant told = front_text plant told ++ reply_text plant told.diagnosis ++ commit_text plant told.commit ++ findings_text told

abbrev pub plant_text : Plant → PlantReply → List ℕ
plant_text plant Silence = []
plant_text plant Accepted = codes "ok\n"
plant_text plant (Refused fault) = codes "error " ++ fault_code fault ++ codes "\n"
plant_text plant (Told reply) = reply_text plant reply
plant_text plant (Moved told) = step_text plant told
