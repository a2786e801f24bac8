-- A block whose last clause is empty: nothing makes the clauses true that it begins with.
use Rattle.std.proofs.Common.{◌≡◌, ℕ, suc, ◌+◌, Bool, true, false, nat_eq, List, [], ◌∷◌, ◌++◌, length, Option, Some, None, cond, refl, sym, ◌∙◌, ap, arith}
use Rattle.std.specs.Prelude.{map}
use Rattle.std.specs.Option.{option_map_or}
use Rattle.std.specs.List.{list_all}
use Rattle.std.proofs.lemmas.Bool.{and_from}
use Rattle.std.proofs.lemmas.Bool.Decides.{nat_tests}
use Rattle.std.proofs.lemmas.List.{append_assoc}
use Rattle.std.proofs.lemmas.List.Folds.{list_all-append}
use Rattle.lv_cert_meaning.specs.lv_base.declared.ids.Lit.{Lit}
use Rattle.lv_cert_meaning.specs.lv_clauses.Literals.{clause_holds}
use Rattle.lv_cert_meaning.specs.lv_model.declared.plant.Plant.{Plant}
use Rattle.lv_cert_meaning.specs.lv_compile.Booleans.{bool_count}
use Rattle.lv_cert_meaning.specs.lv_compile.ModelClauses.{model_clauses}
use Rattle.lv_cert_meaning.specs.lv_cert.declared.line.Question.{Question}
use Rattle.lv_cert_meaning.specs.lv_cert.declared.line.Literal.{Literal}
use Rattle.lv_cert_meaning.specs.lv_cert.declared.line.Line.{Line}
use Rattle.lv_cert_meaning.specs.lv_cert.declared.line.Line.TheVariants as line
use Rattle.lv_cert_meaning.specs.Following.{literal_of, follows}
use Rattle.lv_cert_meaning.proofs.LogLemmas.{follows_sound}
use Rattle.lv_cert_meaning.specs.Judging.{Judged, judge_line, judge_clause, judge_lines, comes_to, is_bad_at, ends_empty, ends_empty_after}

-- a line that isn't bad, and what it comes to
pub record IsJudged (question : Question) (plant : Plant) (n : ℕ) (j final : Judged) (l : Line) (rest : List Line) : Type 0 where
  pub behind : Judged
  pub judged : judge_line question plant j rest l ≡ Some behind
  pub later : judge_lines question plant (n + 1) behind rest ≡ comes_to final

pub first_judged : (question : Question) (plant : Plant) (n : ℕ) (j final : Judged) (l : Line) (rest : List Line) → judge_lines question plant n j (l ∷ rest) ≡ comes_to final
    → IsJudged question plant n j final l rest
first_judged question plant n j final l rest h = by (judge_line question plant j rest l) refl h
  where
    by : (o : Option Judged) → judge_line question plant j rest l ≡ o → option_map_or (λ next. judge_lines question plant (n + 1) next rest) o (is_bad_at n) ≡ comes_to final
        → IsJudged question plant n j final l rest
    by None is e = absurd (cc e)
    by (Some k) is e = record { behind = k; judged = is; later = e }

-- a clause that follows stands behind the others
pub record HasFollowed (plant : Plant) (j behind : Judged) (ls : List Literal) (hs : List ℕ) : Type 0 where
  pub follows_by : follows (bool_count plant) (model_clauses plant ++ j.own) ls hs ≡ true
  pub own : behind.own ≡ j.own ++ map literal_of ls ∷ []

has_followed : (plant : Plant) (j behind : Judged) (ls : List Literal) (hs : List ℕ) → judge_clause plant j ls hs ≡ Some behind → HasFollowed plant j behind ls hs
has_followed plant j behind ls hs h = by (follows (bool_count plant) (model_clauses plant ++ j.own) ls hs) refl h
  where
    by : (b : Bool) → follows (bool_count plant) (model_clauses plant ++ j.own) ls hs ≡ b → cond b (Some (record j { own = j.own ++ map literal_of ls ∷ [] })) None ≡ Some behind
        → HasFollowed plant j behind ls hs
    by true e is = let same : record j { own = j.own ++ map literal_of ls ∷ [] } ≡ behind = cc is in record { follows_by = e; own = sym (ap (λ (k : Judged). k.own) same) }
    by false e is = absurd (cc is)

not_none : (n : ℕ) → nat_eq (suc n) 0 ≡ false
not_none n = grind (arith, nat_tests)

module _ (question : Question) (plant : Plant) (values : List Bool) (whole : length values ≡ bool_count plant) where
  pub block_refutes : (n : ℕ) (j final : Judged) (lines : List Line) → judge_lines question plant n j lines ≡ comes_to final → ends_empty lines ≡ true
      → list_all (clause_holds values) (model_clauses plant ++ j.own) ≡ true → ⊥
  block_refutes n j final (line.Clause [] hs ∷ rest) good ends hold =
      let judged : IsJudged question plant n j final (line.Clause [] hs) rest = first_judged question plant n j final (line.Clause [] hs) rest good in
      let followed : HasFollowed plant j judged.behind [] hs = has_followed plant j judged.behind [] hs judged.judged in
      let never : false ≡ true = follows_sound (bool_count plant) (model_clauses plant ++ j.own) [] hs followed.follows_by values whole hold in
      cc never
  block_refutes n j final (line.Clause (l ∷ ls) hs ∷ rest) good ends hold =
      let judged : IsJudged question plant n j final (line.Clause (l ∷ ls) hs) rest = first_judged question plant n j final (line.Clause (l ∷ ls) hs) rest good in
      let followed : HasFollowed plant j judged.behind (l ∷ ls) hs = has_followed plant j judged.behind (l ∷ ls) hs judged.judged in
      let here : clause_holds values (map literal_of (l ∷ ls)) ≡ true = follows_sound (bool_count plant) (model_clauses plant ++ j.own) (l ∷ ls) hs followed.follows_by values whole hold in
      let clauses : List (List Lit) = model_clauses plant ++ j.own in
      let c : List Lit = map literal_of (l ∷ ls) in
      block_refutes (n + 1) judged.behind final rest judged.later (sym (ap (λ b. ends_empty_after b rest) (not_none (length ls))) ∙ ends)
      (ap (λ (own : List (List Lit)). list_all (clause_holds values) (model_clauses plant ++ own)) followed.own
      ∙ sym (ap (list_all (clause_holds values)) (append_assoc (model_clauses plant) j.own (c ∷ [])))
      ∙ list_all-append (clause_holds values) clauses (c ∷ [])
      ∙ and_from (list_all (clause_holds values) clauses) (list_all (clause_holds values) (c ∷ [])) hold (and_from (clause_holds values c) true here refl))
  block_refutes n j final lines good ends hold = cc ends
