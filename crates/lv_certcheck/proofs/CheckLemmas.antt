-- What single calls of the checker come to, as the definition has it.
use Rattle.std.proofs.Common.{◌≡◌, ◌≢◌, ℕ, suc, Bool, true, false, ◌&&◌, nat_lt, List, [], ◌∷◌, ◌++◌, length, map, cond, Some, None, refl, ap, ap₂, ◌∙◌}
use Rattle.std.specs.Cmp.Lexicographic.{pointwise}
use Rattle.lv_base.specs.declared.ids.Lit.{Lit}
use Rattle.lv_model.specs.declared.plant.Plant.{Plant}
use Rattle.lv_search_zones.specs.lv_compile.Booleans.{bool_count}
use Rattle.lv_search_zones.specs.lv_compile.ModelClauses.{model_clauses}
use Rattle.lv_system.specs.System.{SystemValue, IsSystemOf}
use Rattle.lv_cert.specs.declared.line.Literal.{Literal}
use Rattle.lv_cert_meaning.specs.Following.{literal_of, follows}
use Rattle.lv_cert_meaning.specs.Blocks.{BlockValue, clauses_of, with_clause, follows_in}
use Rattle.lv_cert_meaning.proofs.ClauseNumberLemmas.{clauses_are}
use Rattle.lv_cert_laws.specs.lv_cert_meaning.Judging.{judge_clause}
use Rattle.lv_certcheck.specs.declared.judged.Judged.{Judged}
use Rattle.lv_certcheck.specs.Verdicts.{judged_of, came}

-- a clause line follows in the block exactly where it follows from the plant's clauses and the block's own
module _ (plant : Plant) (system : SystemValue) (is : IsSystemOf plant system) where
  follows_same : (b : BlockValue) (ls : List Literal) (hs : List ℕ) → b.system ≡ system → follows_in b ls hs ≡ follows (bool_count plant) (model_clauses plant ++ b.own) ls hs
  follows_same b ls hs same =
      ap (λ (s : SystemValue). follows s.set.bools (clauses_of s ++ b.own) ls hs) same
      ∙ ap₂ (λ (n : ℕ) (cs : List (List Lit)). follows n (cs ++ b.own) ls hs) is.bools (clauses_are plant system is)

  pub clause_came : (j : Judged) (new : BlockValue) (good : Bool) (ls : List Literal) (hs : List ℕ) → j.block.system ≡ system → good ≡ follows_in j.block ls hs
      → new ≡ cond good (with_clause j.block (map literal_of ls)) j.block → came good (record j { block = new }) ≡ judge_clause plant (judged_of j) ls hs
  clause_came j new true ls hs same good_is new_is =
      let follows_so : true ≡ follows (bool_count plant) (model_clauses plant ++ j.block.own) ls hs = good_is ∙ follows_same j.block ls hs same in
      ap (λ (b : BlockValue). Some (record (judged_of j) { own = b.own })) new_is
      ∙ ap (λ (b : Bool). cond b (Some (record (judged_of j) { own = j.block.own ++ map literal_of ls ∷ [] })) None) follows_so
  clause_came j new false ls hs same good_is new_is =
      ap (λ (b : Bool). cond b (Some (record (judged_of j) { own = j.block.own ++ map literal_of ls ∷ [] })) None) (good_is ∙ follows_same j.block ls hs same)

-- lists of other lengths are not below
pub unequal_below : (values counts : List ℕ) → length values ≢ length counts → pointwise nat_lt values counts ≡ false
unequal_below [] [] unequal = absurd (unequal refl)
unequal_below [] (n ∷ ns) unequal = refl
unequal_below (v ∷ vs) [] unequal = refl
unequal_below (v ∷ vs) (n ∷ ns) unequal = ap (λ (t : Bool). nat_lt v n && t) (unequal_below vs ns (λ same. unequal (ap suc same))) ∙ never (nat_lt v n)
  where
    never : (b : Bool) → (b && false) ≡ false
    never true = refl
    never false = refl
