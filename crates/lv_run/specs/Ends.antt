-- What a call whose files are told ends with.
use Rattle.std.specs.Prelude.{◌≡◌, ℕ, ◌⊎◌, List, Option, None, Some}
use Rattle.lv_run_words.specs.Words.{Said, runs, checks, prints, generates, drives}
use Rattle.lv_run.specs.Expected.{Expected, Expects, status_expected}
use Rattle.lv_run.specs.declared.status.Status.{Status}
use Rattle.lv_run.specs.declared.status.Status.TheVariants.{OutOfMemory}

-- the file of this name is told
pub record IsTold (file : List ℕ → Option (List ℕ)) (name : List ℕ) : Type 0 where
  pub text : List ℕ
  pub is : file name ≡ Some text

-- so is each file that the command speaks of
abbrev pub AreTold : (List ℕ → Option (List ℕ)) → Option Said → Type 0
AreTold file None = Unit {0}
AreTold file (Some (runs service model session)) = IsTold file model × IsTold file session
AreTold file (Some (checks model cert)) = IsTold file model × IsTold file cert
AreTold file (Some (prints model)) = IsTold file model
AreTold file (Some (generates kind n)) = Unit {0}
AreTold file (Some (drives n)) = Unit {0}

-- something is expected of the words
pub record IsExpected (file : List ℕ → Option (List ℕ)) (said : Option Said) : Type 0 where
  pub expected : Expected
  pub is : Expects file said expected

-- the call ends with the status of what is expected, or memory was wanting
pub record EndsAsExpected (file : List ℕ → Option (List ℕ)) (said : Option Said) (result : Status) : Type 0 where
  pub expected : Expected
  pub is : Expects file said expected
  pub ends : (result ≡ status_expected expected) ⊎ (result ≡ OutOfMemory)

-- where the files are told, something is
abbrev pub SomethingIsExpected : Type 0
SomethingIsExpected = (file : List ℕ → Option (List ℕ)) (said : Option Said) → AreTold file said → IsExpected file said
