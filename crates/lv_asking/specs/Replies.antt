-- What a solver that keeps lemmas replies.
use Rattle.std.specs.Prelude.{◌≡◌, Bool, true, List, length, map}
use Rattle.lv_base.specs.declared.ids.Lit.{Lit}
use Rattle.lv_clauses.specs.Literals.{neg, clause_holds}
use Rattle.lv_clauses.specs.ClauseMap.{ClauseMap, satisfies}
use Rattle.lv_sat.specs.Answers.{IsModel, IsSublist}
use Rattle.lv_asking.specs.declared.lemma_solver.Reply.{Reply}
use Rattle.lv_asking.specs.declared.lemma_solver.Reply.TheVariants.{Values, Core}

-- assumptions of which one is false wherever the clauses are true
pub record IsCore (set : ClauseMap) (assumptions core : List Lit) : Type 0 where
  pub part : IsSublist core assumptions
  pub denied : (values : List Bool) → satisfies values set.slots ≡ true → length values ≡ set.bools → clause_holds values (map neg core) ≡ true

abbrev pub Replies : ClauseMap → List Lit → Reply → Type 0
Replies set assumptions (Values values) = IsModel set assumptions values
Replies set assumptions (Core core) = IsCore set assumptions core
