-- What a trial's answer tells.
use Rattle.std.specs.Prelude.{◌≡◌, Bool, true, false, List}
use Rattle.lv_base.specs.declared.search.Pair.{Pair}
use Rattle.lv_search.specs.declared.trial.Tried.{Tried}
use Rattle.lv_search.specs.declared.trial.Tried.TheVariants.{Fits, Refused}

-- that the candidate fits, or that it doesn't, and this reason
abbrev pub Tells : Tried → Bool → List Pair → Type 0
Tells Fits fits reason = fits ≡ true
Tells (Refused conflict) fits reason = (fits ≡ false) × (conflict ≡ reason)
