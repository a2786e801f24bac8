-- What is told of a block: values that make what it states true, or lines that refute it.
use Rattle.std.specs.Prelude.{◌≡◌, Bool, true, List, ◌++◌, length, map}
use Rattle.std.specs.List.{list_all}
use Rattle.lv_base.specs.declared.ids.Lit.{Lit}
use Rattle.lv_clauses.specs.Literals.{clause_holds}
use Rattle.lv_clauses.specs.ClauseMap.{ClauseMap, satisfies}
use Rattle.lv_sat.specs.Answers.{IsModel}
use Rattle.lv_system.specs.System.{SystemValue}
use Rattle.lv_cert_meaning.specs.Blocks.{clauses_of}
use Rattle.lv_cert_meaning.specs.Deriving.{refutes}
use Rattle.lv_cert_writing.specs.declared.refuter.Refuted.{Refuted}
use Rattle.lv_cert_writing.specs.declared.refuter.Refuted.TheVariants.{Values, Lines}
use Rattle.lv_cert_writing.specs.BlockLines.{derived_of}

-- a value for each boolean; they satisfy the set and make the further clauses true
pub record MakeTrue (set : ClauseMap) (own : List (List Lit)) (values : List Bool) : Type 0 where
  pub whole : length values ≡ set.bools
  pub set_holds : satisfies values set.slots ≡ true
  pub own_hold : list_all (clause_holds values) own ≡ true

-- values that make the system's clauses and the stated ones true, or lines that refute them
abbrev pub Tells : SystemValue → List (List Lit) → Refuted → Type 0
Tells s own (Values values) = MakeTrue s.set own values
Tells s own (Lines lines) = refutes s.set.bools (clauses_of s ++ own) (map derived_of lines) ≡ true

-- values that satisfy a set and make the literals assumed true, or lines that refute these clauses
abbrev pub Answers : ClauseMap → List (List Lit) → List Lit → Refuted → Type 0
Answers set clauses assumed (Values values) = IsModel set assumed values
Answers set clauses assumed (Lines lines) = refutes set.bools clauses (map derived_of lines) ≡ true
