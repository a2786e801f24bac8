-- Values that satisfy the clauses and make the assumed literals true, and what they say of chosen ones.
use Rattle.std.proofs.Common.{◌≡◌, ◌-◌, Bool, true, false, ◌||◌, List, [], ◌∷◌, ◌++◌, length, refl, sym, ◌∙◌, arith, All, IsPermutation}
use Rattle.std.specs.List.{list_all, list_any}
use Rattle.std.proofs.lemmas.Bool.{and_parts, and_from}
use Rattle.std.proofs.lemmas.List.Elements.{All-tail, All-append, All-drop, All-cons, All-nil}
use Rattle.std.proofs.lemmas.List.Folds.{list_all-append}
use Rattle.lv_base.specs.declared.ids.Lit.{Lit}
use Rattle.lv_clauses.specs.Literals.{lit_holds}
use Rattle.lv_clauses.specs.ClauseMap.{ClauseMap}
use Rattle.lv_sat.specs.Answers.{IsModel}
use Rattle.lv_asking.specs.declared.refutation.TheConstants.{KEPT}
use Rattle.lv_asking.specs.Refutation.{HasModel, latest}
use Rattle.lv_asking.proofs.OrderLemmas.{all_permuted}

-- what is a model of literals in another order is one of them as they stand
pub model_permuted : (set : ClauseMap) (lits out : List Lit) (values : List Bool) → IsPermutation lits out → IsModel set out values → IsModel set lits values
model_permuted set lits out values s m =
    record {
      len = m.len;
      all_clauses = m.all_clauses;
      all_assumptions = all_permuted (lit_holds values) lits out s ∙ m.all_assumptions;
    }

-- a model of both is one of the assumed ones
pub model_of_assumed : (set : ClauseMap) (chosen assumed : List Lit) (values : List Bool) → IsModel set (chosen ++ assumed) values → IsModel set assumed values
model_of_assumed set chosen assumed values m =
    record {
      len = m.len;
      all_clauses = m.all_clauses;
      all_assumptions = (and_parts (list_all (lit_holds values) chosen) (list_all (lit_holds values) assumed) (sym (list_all-append (lit_holds values) chosen assumed) ∙ m.all_assumptions)).1;
    }

-- and the other way round, where it makes the chosen ones true
model_of_both : (set : ClauseMap) (chosen assumed : List Lit) (values : List Bool) → IsModel set assumed values → list_all (lit_holds values) chosen ≡ true → IsModel set (chosen ++ assumed) values
model_of_both set chosen assumed values m holds =
    record {
      len = m.len;
      all_clauses = m.all_clauses;
      all_assumptions = list_all-append (lit_holds values) chosen assumed ∙ and_from (list_all (lit_holds values) chosen) (list_all (lit_holds values) assumed) holds m.all_assumptions;
    }

-- one of the solutions makes the chosen literals true
pub found_again : (set : ClauseMap) (chosen assumed : List Lit) (solutions : List (List Bool)) → All (IsModel set assumed) solutions
    → list_any (λ (values : List Bool). list_all (lit_holds values) chosen) solutions ≡ true → HasModel set (chosen ++ assumed)
found_again set chosen assumed [] all h = absurd (cc h)
found_again set chosen assumed (values ∷ rest) all h = by (list_all (lit_holds values) chosen) refl h (found_again set chosen assumed rest (All-tail (IsModel set assumed) values rest all))
  where
    by : (b : Bool) → list_all (lit_holds values) chosen ≡ b → (b || list_any (λ (vs : List Bool). list_all (lit_holds vs) chosen) rest) ≡ true
        → (list_any (λ (vs : List Bool). list_all (lit_holds vs) chosen) rest ≡ true → HasModel set (chosen ++ assumed)) → HasModel set (chosen ++ assumed)
    by true e one later = record { values = values; model = model_of_both set chosen assumed values (all 0 values (omega arith)) e }
    by false e one later = later one

-- the latest solutions are solutions
pub latest_are : (set : ClauseMap) (assumed : List Lit) (solutions : List (List Bool)) (values : List Bool) → All (IsModel set assumed) solutions → IsModel set assumed values
    → All (IsModel set assumed) (latest (solutions ++ (values ∷ [])))
latest_are set assumed solutions values all one =
    All-drop (IsModel set assumed) (length (solutions ++ (values ∷ [])) - KEPT) (solutions ++ (values ∷ []))
    (All-append (IsModel set assumed) solutions (values ∷ []) all (All-cons (IsModel set assumed) values [] one (All-nil (IsModel set assumed))))
