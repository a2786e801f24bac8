-- What an answer of the solver says of pairs, of whatever meaning the clauses and what is assumed decide.
use Rattle.std.proofs.Common.{◌≡◌, Bool, true, false, List, [], ◌∷◌, ◌++◌, cond, Option, Some, None, refl, sym, subst, ap, All}
use Rattle.std.proofs.lemmas.List.Elements.{All-filter}
use Rattle.lv_base.specs.declared.ids.Lit.{Lit}
use Rattle.lv_base.specs.declared.search.Pair.{Pair}
use Rattle.lv_clauses.specs.Marks.{Marks, is_marked}
use Rattle.lv_system.specs.Choices.{Choices}
use Rattle.lv_asking.specs.Literals.{pair_literal, pair_literals, HasMove, marked_pairs}
use Rattle.lv_asking.specs.Refutation.{HasModel, marked_literals, Refutes}
use Rattle.lv_asking.specs.Reducing.{RefutesPairs}
use Rattle.lv_asking.specs.Asking.{AskingValue, Decides}

-- the marked ones of what pairs say are what the marked pairs say
literals_of_marked : (c : Choices) (marks : Marks) (ps : List Pair) → marked_literals marks (pair_literals c ps) ≡ pair_literals c (marked_pairs c marks ps)
literals_of_marked c marks [] = refl
literals_of_marked c marks (p ∷ ps) = by (is_marked marks (pair_literal c p)) (literals_of_marked c marks ps)
  where
    by : (b : Bool) → marked_literals marks (pair_literals c ps) ≡ pair_literals c (marked_pairs c marks ps)
        → cond b (pair_literal c p ∷ marked_literals marks (pair_literals c ps)) (marked_literals marks (pair_literals c ps)) ≡ pair_literals c (cond b (p ∷ marked_pairs c marks ps) (marked_pairs c marks ps))
    by true e = ap (λ (ls : List Lit). pair_literal c p ∷ ls) e
    by false e = e

-- what would be absurd is false
pub false_so : (b : Bool) → (b ≡ true → ⊥) → b ≡ false
false_so true never = absurd (never refl)
false_so false never = refl

module _ (a : AskingValue) (possible : List Pair → Bool) (d : Decides a possible) (pairs : List Pair) (have : All (HasMove a.choices.counts) pairs) where
  -- what a refutation says of the pairs
  pub answer : (core : Option Marks) → Refutes a.set (pair_literals a.choices pairs) a.assumed core → RefutesPairs possible (λ (marks : Marks) (p : Pair). is_marked marks (pair_literal a.choices p)) pairs core
  answer None told = d.possible_of pairs have told
  answer (Some marks) told =
      false_so (possible (marked_pairs a.choices marks pairs))
      (λ can.
      let m : HasModel a.set (pair_literals a.choices (marked_pairs a.choices marks pairs) ++ a.assumed) =
      d.model_of (marked_pairs a.choices marks pairs) (All-filter (λ (p : Pair). is_marked marks (pair_literal a.choices p)) (HasMove a.choices.counts) pairs have) can
      in
      let own : HasModel a.set (marked_literals marks (pair_literals a.choices pairs) ++ a.assumed) =
      subst (λ (ls : List Lit). HasModel a.set (ls ++ a.assumed)) (sym (literals_of_marked a.choices marks pairs)) m
      in
      told own.values own.model)
