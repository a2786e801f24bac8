-- Faults from each of so many modes, taken one by one.
use Rattle.std.proofs.Common.{◌≡◌, ◌+◌, ℕ, suc, Bool, true, false, nat_eq, [], ◌∷◌, ◌++◌, Option, if◌then◌else◌, ap, ◌∙◌, arith}
use Rattle.std.proofs.lemmas.List.{append-nil}
use Rattle.lv_base.specs.declared.ids.ValId.{ValId}
use Rattle.lv_base.specs.Tree.{Tree}
use Rattle.lv_model_entries.specs.Entries.{fault_of, faults_to}

one_further : (target : ValId) (cost : ℕ) (guard : Option Tree) (line n : ℕ)
    → faults_to target cost guard line (n + 1)
    ≡ faults_to target cost guard line n ++ (if nat_eq n target.0 then [] else fault_of (record { 0 = n }) target cost guard line ∷ [])
one_further target cost guard line n = let e : n + 1 ≡ suc n = omega arith in ap (faults_to target cost guard line) e

-- the target itself gives none
pub mode_passed_over : (target : ValId) (cost : ℕ) (guard : Option Tree) (line n : ℕ) → nat_eq n target.0 ≡ true
    → faults_to target cost guard line (n + 1) ≡ faults_to target cost guard line n
mode_passed_over target cost guard line n e =
    one_further target cost guard line n
    ∙ ap (λ (b : Bool). faults_to target cost guard line n ++ (if b then [] else fault_of (record { 0 = n }) target cost guard line ∷ [])) e
    ∙ append-nil (faults_to target cost guard line n)

-- each other mode gives one
pub mode_gives : (target : ValId) (cost : ℕ) (guard : Option Tree) (line n : ℕ) → nat_eq n target.0 ≡ false
    → faults_to target cost guard line (n + 1) ≡ faults_to target cost guard line n ++ fault_of (record { 0 = n }) target cost guard line ∷ []
mode_gives target cost guard line n e =
    one_further target cost guard line n
    ∙ ap (λ (b : Bool). faults_to target cost guard line n ++ (if b then [] else fault_of (record { 0 = n }) target cost guard line ∷ [])) e
