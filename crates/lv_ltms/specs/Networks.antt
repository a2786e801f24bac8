-- What holds of a network between its calls.
use Rattle.std.specs.Prelude.{◌≡◌, length, IfSome}
use Rattle.lv_ltms.specs.declared.network.Network.{Network}
use Rattle.lv_ltms.specs.Standing.{IsNetwork, IsLooked, IsFalsified, Stops, TellsEmpty}

-- clauses, what they watch, and labels agree, as far as the trail was looked at; a clause said to be false is, and one
-- without literals is told
pub record IsAlive (n : Network) : Type 0 where
  pub network : IsNetwork (length n.labels.marks) n.arena n.near n.far n.labels
  pub looked : IsLooked n.arena n.near n.far n.labels n.progress.done
  pub falsified : IfSome n.progress.conflict (λ id. IsFalsified n.arena n.labels.marks id.0)
  pub tells_empty : TellsEmpty n.arena n.empty

-- besides, the trail was looked at to its end, or a clause is known that is false
pub record IsRested (n : Network) : Type 0 where
  pub alive : IsAlive n
  pub stops : Stops n.arena n.labels n.progress.done n.progress.conflict

-- clauses, labels and progress are as before
pub record KeepsAll (old new : Network) : Type 0 where
  pub arena : new.arena ≡ old.arena
  pub labels : new.labels ≡ old.labels
  pub progress : new.progress ≡ old.progress
  pub empty : new.empty ≡ old.empty
