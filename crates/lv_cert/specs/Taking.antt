-- What is taken off a text, and what a fault tells.
use Rattle.std.specs.Prelude.{ℕ, ◌<◌, ◌≤◌, ◌≡◌, ◌++◌, ⊤, List, true, length, drop, Option}
use Rattle.std.specs.declared.option.Option.TheVariants.{Some, None}
use Rattle.lv_cert.specs.declared.order.Place.{Place}
use Rattle.lv_cert.specs.declared.whole.Taken.{Taken}
use Rattle.lv_cert.specs.declared.whole.CertFault.{CertFault}
use Rattle.lv_cert.specs.Texts.{line_text}
use Rattle.lv_cert.specs.Order.{place_after}
use Rattle.lv_cert.specs.Form.{is_formed, IsStuck, IsFaultAt}

-- a line that the text begins with, which has its form and may come at the place
pub record IsTaken (place : Place) (text : List ℕ) (t : Taken) : Type 0 where
  pub begins : text ≡ line_text t.line ++ drop t.length text
  pub formed : is_formed t.line ≡ true
  pub order : place_after place t.line ≡ Some t.place
  pub some : 0 < t.length
  pub inside : t.length ≤ length text

abbrev pub Takes : Place → List ℕ → Option Taken → Type 0
Takes place text None = IsStuck place text
Takes place text (Some t) = IsTaken place text t

-- a fault of form tells the first line out of form or order; want of memory tells nothing
abbrev pub Tells : List ℕ → CertFault → Type 0
Tells bytes (CertFault.Form n) = IsFaultAt bytes n
Tells bytes CertFault.Memory = ⊤
