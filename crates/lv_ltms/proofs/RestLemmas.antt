-- From what is told of a network to what holds of it between calls.
use Rattle.std.proofs.Common.{◌≡◌, ℕ, true, length, Option, Some, None, IfSome, is_some, sym, subst}
use Rattle.lv_base.specs.declared.ids.ClauseId.{ClauseId}
use Rattle.lv_clauses.specs.ClauseMap.{Slots}
use Rattle.lv_ltms.specs.Labelled.{Labelled, GoesOn}
use Rattle.lv_ltms.specs.Watching.{Rows}
use Rattle.lv_ltms.specs.Standing.{IsNetwork, IsFalsified, Stops}

pub stops_falsified : (slots : Slots) (labels : Labelled) (done : ℕ) (f : Option ClauseId) → Stops slots labels done f → IfSome f (λ id. IsFalsified slots labels.marks id.0)
stops_falsified slots labels done None h = tt
stops_falsified slots labels done (Some id) h = h

pub falsified_stops : (slots : Slots) (labels : Labelled) (done : ℕ) (f : Option ClauseId) → is_some f ≡ true → IfSome f (λ id. IsFalsified slots labels.marks id.0) → Stops slots labels done f
falsified_stops slots labels done None e h = absurd (cc e)
falsified_stops slots labels done (Some id) e h = h

pub network_sized : (slots : Slots) (near far : Rows) (old new : Labelled) → GoesOn slots old new → IsNetwork (length old.marks) slots near far new → IsNetwork (length new.marks) slots near far new
network_sized slots near far old new goes is = subst (λ (n : ℕ). IsNetwork n slots near far new) (sym goes.grows.marks) is
