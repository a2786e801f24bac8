-- What the program reads and makes: the model that a command speaks of, what becomes of its text, and which opens a call makes.
use Rattle.std.specs.Prelude.{◌≡◌, ◌≢◌, ℕ, List, [], ◌∷◌, ◌++◌, take, Option, None, Some, Result, Err}
use Rattle.std.specs.Option.{option_map_or}
use Rattle.lv_io.specs.Outside.{Opened, Rose}
use Rattle.lv_io.specs.declared.Role.{Role}
use Rattle.lv_io.specs.declared.Role.TheVariants.{Model as OfModel, Second as OfSecond}
use Rattle.lv_model.specs.declared.plant.Plant.{Plant}
use Rattle.lv_checker.specs.Verdicts.{IsVerdict, accepted}
use Rattle.lv_run.specs.Drives.{drive_text}
use Rattle.lv_run.specs.declared.fault.RunFault.{RunFault}
use Rattle.lv_run.specs.declared.fault.RunFault.TheVariants.{ModelUnread, OutOfMemory}
use Rattle.lv_gen.specs.Series.{model_text}
use Rattle.lv_gen.specs.Session.{session_text}
use Rattle.lv_run_words.specs.Words.{Said, runs, checks, prints, generates, drives}
use Rattle.lv_run_words.specs.declared.commands.Kind.{Kind}
use Rattle.lv_run_words.specs.declared.commands.Kind.TheVariants.{Model, Session}

-- the text of the model that a command speaks of, over files by their names: that of a file, or the one made for a number;
-- a text that is made alone speaks of none
abbrev pub model_told : (List ℕ → Option (List ℕ)) → Said → Option (List ℕ)
model_told file (runs service model session) = file model
model_told file (checks model cert) = file model
model_told file (prints model) = file model
model_told file (generates kind n) = None
model_told file (drives n) = Some (model_text n)

-- the text that is made for a number
abbrev pub made_text : Kind → ℕ → List ℕ
made_text Model n = model_text n
made_text Session n = session_text n

-- the open of the model's file, and of the session's or the certificate's
abbrev pub model_open : List ℕ → Opened
model_open name = record { role = OfModel; name = name }

abbrev pub second_open : List ℕ → Opened
second_open name = record { role = OfSecond; name = name }

-- the opens that a command asks for, in order
abbrev pub command_opens : Said → List Opened
command_opens (runs service model session) = model_open model ∷ second_open session ∷ []
command_opens (checks model cert) = model_open model ∷ second_open cert ∷ []
command_opens (prints model) = model_open model ∷ []
command_opens (generates kind n) = []
command_opens (drives n) = []

abbrev pub opens_of : Option Said → List Opened
opens_of said = option_map_or command_opens said []

-- a front of these opens was added
pub record AddsOpens (old listed new : List Opened) : Type 0 where
  pub count : ℕ
  pub added : new ≡ old ++ take count listed

-- the model's file is opened, unless memory is wanting before; it counts a fault more exactly where it couldn't be read
pub record OpensModel {A : Type 0} (name : List ℕ) (result : Result A RunFault) (old new : List Opened) (before after : Role → ℕ) : Type 0 where
  pub front : AddsOpens old (model_open name ∷ []) new
  pub whole : result ≢ Err OutOfMemory → new ≡ old ++ model_open name ∷ []
  pub unread : result ≡ Err ModelUnread → Rose (before OfModel) (after OfModel)
  pub as_before : result ≢ Err ModelUnread → (r : Role) → after r ≡ before r

-- the text made for a number gives a model, and the summary of the number's session over it is this
pub record IsDriven (n : ℕ) (summary : List ℕ) : Type 0 where
  pub plant : Plant
  pub verdict : IsVerdict (model_text n) (accepted plant)
  pub summary_is : summary ≡ drive_text plant n
