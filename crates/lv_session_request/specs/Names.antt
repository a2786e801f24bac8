-- What the names in a line stand for: a control, an observable, a value of either.
use Rattle.std.specs.Prelude.{◌≡◌, ℕ, List, position, if◌then◌else◌, Result, Ok, Err, option_map}
use Rattle.std.specs.Option.{ok_or}
use Rattle.lv_base.specs.declared.ids.ValId.{ValId}
use Rattle.lv_base.specs.declared.ids.VarId.{VarId}
use Rattle.lv_model.specs.declared.plant.Plant.{Plant}
use Rattle.lv_model.specs.Lists.{is_variable}
use Rattle.lv_reply.specs.declared.reply.Refusal.{Refusal}
use Rattle.lv_reply.specs.declared.reply.Refusal.TheVariants.{UnknownName, NoControl, NoObservable, NoValue}
use Rattle.lv_model_names.specs.declared.lists.Lists.{Lists}
use Rattle.lv_model_names.specs.Lists.{lists_of}
use Rattle.lv_model_names.specs.Names.{variable_of, value_of, is_observable}
use Rattle.lv_session_request.specs.Chain.{and_then}
use Rattle.lv_session_request.specs.declared.names.Controlled.{Controlled}
use Rattle.lv_session_request.specs.declared.names.Names.{Names}

-- the lists are those of the plant
abbrev pub AreNames : Names → Type 0
AreNames names = names.lists.now ≡ lists_of names.plant.now

-- the part and its variable have to be known
abbrev pub variable_named : Plant → List ℕ → List ℕ → Result VarId Refusal
variable_named plant part name = ok_or (variable_of plant part name) UnknownName

-- the variable has to be a control
abbrev pub control_among : List VarId → VarId → Result Controlled Refusal
control_among controls x = ok_or (option_map (λ place. record { place = place; var = x }) (position (is_variable x.0) controls)) NoControl

-- the variable has to be an observable
abbrev pub observable_among : Lists → VarId → Result VarId Refusal
observable_among lists x = if is_observable lists.classes x.0 then Ok x else Err NoObservable

-- the control of these names
abbrev pub control_of : Plant → Lists → List ℕ → List ℕ → Result Controlled Refusal
control_of plant lists part name = and_then (variable_named plant part name) (control_among lists.controls)

-- the observable of these names
abbrev pub observable_of : Plant → Lists → List ℕ → List ℕ → Result VarId Refusal
observable_of plant lists part name = and_then (variable_named plant part name) (observable_among lists)

-- the variable has to have the value
abbrev pub value_in : Plant → Lists → VarId → List ℕ → Result ValId Refusal
value_in plant lists x name = ok_or (value_of plant lists.ranges x name) NoValue
