-- A step that follows by its hints is true under all values that satisfy the set, where the steps before it are: else
-- the values would make all marks true, and each hint's clause, up to one that is false.
use Rattle.std.proofs.Common.{◌≡◌, ℕ, ◌+◌, ◌<◌, ◌≤◌, suc, zero, Bool, true, false, not, ◌||◌, cond, List, [], ◌∷◌, ◌++◌, length, get_or, take, drop, Option, Some, None, option_map, unwrap_or, slice_get, IfSome, refl, sym, ap, ap₂, subst, ◌∙◌, arith, inl, inr, All, if◌then◌else◌, append_assoc}
use Rattle.std.specs.List.{list_any}
use Rattle.std.proofs.lemmas.List.{append-nil, take_all, drop_more, drop_all, take_more, length-take}
use Rattle.std.proofs.lemmas.List.Elements.{All-append}
use Rattle.std.proofs.Math.Seq.{take-append_seam}
use Rattle.std.proofs.lemmas.Option.{slice_get_within, get_or_from_slice_get, slice_get_cases}
use Rattle.lv_base.specs.declared.ids.Lit.{Lit}
use Rattle.lv_clauses.specs.Literals.{neg, same_truth, lit_holds, clause_holds, is_clause}
use Rattle.lv_clauses.specs.ClauseMap.{ClauseMap, satisfies}
use Rattle.lv_clauses.specs.Marks.{Marks, nothing, is_marked, marked, unmet, finding_of}
use Rattle.lv_clauses.proofs.LiteralLemmas.{lit_or_neg, present_holds, and_right}
use Rattle.lv_clauses.proofs.MarkLemmas.{is_marked-marked_cases, is_marked-nothing}
use Rattle.lv_clauses.specs.declared.log.Step.{Step}
use Rattle.lv_clauses.specs.declared.log.Hint.{Hint}
use Rattle.lv_clauses.specs.declared.log.Hint.TheVariants.{Given, Earlier}
use Rattle.lv_clauses.specs.Following.{clause_of, denied, ends_well, goes_on, goes_on_from, is_last, follows_by_hints, first_bad_after, first_bad_step, IsImplied}

-- each literal marked as true is true under the values
record AreTrue (values : List Bool) (marks : Marks) : Type 0 where
  holds : (l : Lit) → is_marked marks l ≡ true → lit_holds values l ≡ true

AreTrue-marked : (values : List Bool) (marks : Marks) (l : Lit) → lit_holds values l ≡ true → AreTrue values marks → AreTrue values (marked marks l)
AreTrue-marked values marks l holds before =
    record {
      holds =
          λ m e. elim (is_marked-marked_cases marks l m e) [
            | inl same ↦ ap (lit_holds values) same ∙ holds
            | inr was ↦ before.holds m was
          ];
    }

AreTrue-nothing : (values : List Bool) (n : ℕ) → AreTrue values (nothing n)
AreTrue-nothing values n = record { holds = λ l e. absurd (cc (is_marked-nothing n l)) }

-- of two opposite literals one is true
other_holds : (values : List Bool) (l : Lit) → lit_holds values l ≡ false → lit_holds values (neg l) ≡ true
other_holds values l e = by_truth _ l.sign e
  where
    by_truth : (a b : Bool) → same_truth a b ≡ false → same_truth a (not b) ≡ true
    by_truth true true e = absurd (cc)
    by_truth true false e = refl
    by_truth false true e = refl
    by_truth false false e = absurd (cc)

-- where a clause is false its denial is true
AreTrue-denied : (values : List Bool) (marks : Marks) (c : List Lit) → clause_holds values c ≡ false → AreTrue values marks → AreTrue values (denied marks c)
AreTrue-denied values marks [] e before = before
AreTrue-denied values marks (l ∷ ls) e before =
    AreTrue-denied values (marked marks (neg l)) ls (rest (lit_holds values l) (list_any (lit_holds values) ls) e)
    (AreTrue-marked values marks (neg l) (other_holds values l (first (lit_holds values l) (list_any (lit_holds values) ls) e)) before)
  where
    first : (a b : Bool) → (a || b) ≡ false → a ≡ false
    first true b e = e
    first false b e = refl

    rest : (a b : Bool) → (a || b) ≡ false → b ≡ false
    rest true b e = absurd (cc)
    rest false b e = e

-- of a true clause a literal that isn't marked as false is true
unmet_holds : (values : List Bool) (marks : Marks) (c : List Lit) → AreTrue values marks → clause_holds values c ≡ true → list_any (lit_holds values) (unmet marks c) ≡ true
unmet_holds values marks [] t e = e
unmet_holds values marks (l ∷ ls) t e = by_mark (is_marked marks (neg l)) refl (λ (more : clause_holds values ls ≡ true). unmet_holds values marks ls t more)
  where
    or_left : (a b : Bool) → a ≡ true → (a || b) ≡ true
    or_left true b p = refl
    or_left false b p = absurd (cc)

    kept : (a : Bool) → lit_holds values l ≡ a → (clause_holds values ls ≡ true → list_any (lit_holds values) (unmet marks ls) ≡ true) → (lit_holds values l || list_any (lit_holds values) (unmet marks ls)) ≡ true
    kept true h ih = or_left (lit_holds values l) (list_any (lit_holds values) (unmet marks ls)) h
    kept false h ih =
        let more : clause_holds values ls ≡ true = sym (ap (λ b. b || clause_holds values ls) h) ∙ e in
        ap (λ b. b || list_any (lit_holds values) (unmet marks ls)) h ∙ ih more

    left : (a : Bool) → lit_holds values l ≡ a → lit_holds values (neg l) ≡ true → clause_holds values ls ≡ true
    left true h n = absurd (lit_or_neg values l h n)
    left false h n = sym (ap (λ b. b || clause_holds values ls) h) ∙ e

    by_mark : (b : Bool) → is_marked marks (neg l) ≡ b → (clause_holds values ls ≡ true → list_any (lit_holds values) (unmet marks ls) ≡ true) → list_any (lit_holds values) (cond (not (is_marked marks (neg l))) (l ∷ unmet marks ls) (unmet marks ls)) ≡ true
    by_mark true h ih = rw h (ih (left (lit_holds values l) refl (t.holds (neg l) h)))
    by_mark false h ih = rw h (kept (lit_holds values l) refl ih)

module _ (set : ClauseMap) (values : List Bool) (sat : satisfies values set.slots ≡ true) (len : length values ≡ set.bools) (earlier : List Step) (implied : All (IsImplied set) earlier) where
  named_holds : (h : Hint) (c : List Lit) → clause_of set.slots earlier h ≡ Some c → clause_holds values c ≡ true
  named_holds (Given id) c e = present_holds values set.slots id.0 c sat e
  named_holds (Earlier place) c e = by_step (slice_get earlier place) refl
    where
      by_step : (o : Option Step) → slice_get earlier place ≡ o → clause_holds values c ≡ true
      by_step None at = absurd (cc (ap (option_map (λ (s : Step). s.clause)) at))
      by_step (Some s) at =
          let same : c ≡ s.clause = cc (ap (option_map (λ (t : Step). t.clause)) at) in
          let here : IsImplied set s = subst (IsImplied set) (get_or_from_slice_get earlier place s s at) (implied place s (slice_get_within earlier place s at)) in
          ap (clause_holds values) same ∙ here.holds values sat len

  cannot_end : (hints : List Hint) (marks : Marks) → AreTrue values marks → ends_well set.slots earlier hints marks ≡ true → ⊥
  cannot_end [] marks t e = absurd (cc)
  cannot_end (h ∷ hs) marks t e = by_clause (clause_of set.slots earlier h) refl (λ (next : Marks) (t2 : AreTrue values next) (more : ends_well set.slots earlier hs next ≡ true). cannot_end hs next t2 more)
    where
      by_unmet : (ls : List Lit) → list_any (lit_holds values) ls ≡ true → goes_on marks (is_last hs) (ends_well set.slots earlier hs) (finding_of ls) ≡ true
          → ((next : Marks) → AreTrue values next → ends_well set.slots earlier hs next ≡ true → ⊥) → ⊥
      by_unmet [] some more ih = absurd (cc)
      by_unmet (l ∷ []) some more ih = ih (marked marks l) (AreTrue-marked values marks l (only (lit_holds values l) some) t) more
        where
          only : (b : Bool) → (b || false) ≡ true → b ≡ true
          only true p = refl
          only false p = p
      by_unmet (l ∷ (m ∷ ms)) some more ih = absurd (cc)

      by_clause : (o : Option (List Lit)) → clause_of set.slots earlier h ≡ o → ((next : Marks) → AreTrue values next → ends_well set.slots earlier hs next ≡ true → ⊥) → ⊥
      by_clause None at ih = absurd (cc)
      by_clause (Some c) at ih = by_unmet (unmet marks c) (unmet_holds values marks c t (named_holds h c at)) (sym (ap (goes_on_from marks (is_last hs) (ends_well set.slots earlier hs)) at) ∙ e) ih

  step_holds : (s : Step) → follows_by_hints set earlier s ≡ true → clause_holds values s.clause ≡ true
  step_holds s e = by_truth (clause_holds values s.clause) refl
    where
      by_truth : (b : Bool) → clause_holds values s.clause ≡ b → clause_holds values s.clause ≡ true
      by_truth true h = h
      by_truth false h = absurd (cannot_end s.hints (denied (nothing set.bools) s.clause) (AreTrue-denied values (nothing set.bools) s.clause h (AreTrue-nothing values set.bools)) (and_right (is_clause set.bools s.clause) (ends_well set.slots earlier s.hints (denied (nothing set.bools) s.clause)) e))

module _ (set : ClauseMap) where
  one_more : (earlier : List Step) (s : Step) → All (IsImplied set) earlier → follows_by_hints set earlier s ≡ true → All (IsImplied set) (earlier ++ s ∷ [])
  one_more earlier s implied e = All-append (IsImplied set) earlier (s ∷ []) implied single
    where
      single : All (IsImplied set) (s ∷ [])
      single zero d within = record { holds = λ values sat len. step_holds set values sat len earlier implied s e }
      single (suc k) d within = absurd (omega arith)

  -- the steps before the first that doesn't follow are true
  pub before_bad : (earlier steps : List Step) → All (IsImplied set) earlier → All (IsImplied set) (take (unwrap_or (first_bad_after set earlier steps) (length (earlier ++ steps))) (earlier ++ steps))
  before_bad earlier [] implied = rw (append-nil earlier, take_all (length earlier) earlier (omega arith)) implied
  before_bad earlier (s ∷ ss) implied = by_step (follows_by_hints set earlier s) refl (λ (next : All (IsImplied set) (earlier ++ s ∷ [])). before_bad (earlier ++ s ∷ []) ss next)
    where
      by_step : (b : Bool) → follows_by_hints set earlier s ≡ b
          → (All (IsImplied set) (earlier ++ s ∷ []) → All (IsImplied set) (take (unwrap_or (first_bad_after set (earlier ++ s ∷ []) ss) (length ((earlier ++ s ∷ []) ++ ss))) ((earlier ++ s ∷ []) ++ ss)))
          → All (IsImplied set) (take (unwrap_or (if follows_by_hints set earlier s then first_bad_after set (earlier ++ s ∷ []) ss else Some (length earlier)) (length (earlier ++ s ∷ ss))) (earlier ++ s ∷ ss))
      by_step true e rest = rw e (rw append_assoc at (rest (one_more earlier s implied e)))
      by_step false e rest = rw (e, take-append_seam earlier (s ∷ ss)) implied

-- one step of the pass
pub first_bad-next : (set : ClauseMap) (log : List Step) (place : ℕ) (s : Step) → slice_get log place ≡ Some s
    → first_bad_after set (take place log) (drop place log) ≡ (if follows_by_hints set (take place log) s then first_bad_after set (take (place + 1) log) (drop (place + 1) log) else Some place)
first_bad-next set log place s at =
    let within : place < length log = slice_get_within log place s at in
    let here : get_or log place s ≡ s = get_or_from_slice_get log place s s at in
    let split : drop place log ≡ s ∷ drop (place + 1) log = drop_more log place s within ∙ ap (λ x. x ∷ drop (place + 1) log) here in
    let grown : take place log ++ s ∷ [] ≡ take (place + 1) log = sym (take_more log place s within ∙ ap (λ x. take place log ++ x ∷ []) here) in
    let size : length (take place log) ≡ place = grind (arith, length-take) in
    ap (first_bad_after set (take place log)) split
    ∙ ap₂ (λ (front : List Step) n. if follows_by_hints set (take place log) s then first_bad_after set front (drop (place + 1) log) else Some n) grown size

pub step_at : (set : ClauseMap) (log : List Step) (place : ℕ) (good : Bool) → place < length log → IfSome (slice_get log place) (λ s. good ≡ follows_by_hints set (take place log) s)
    → first_bad_after set (take place log) (drop place log) ≡ (if good then first_bad_after set (take (place + 1) log) (drop (place + 1) log) else Some place)
step_at set log place good within told = elim (slice_get_cases log place).1 [
  | inl found ↦
      let at : slice_get log place ≡ Some found.0 = found.2 in
      let same : good ≡ follows_by_hints set (take place log) found.0 = subst (λ (o : Option Step). IfSome o (λ s. good ≡ follows_by_hints set (take place log) s)) at told in
      first_bad-next set log place found.0 at ∙ ap (λ b. if b then first_bad_after set (take (place + 1) log) (drop (place + 1) log) else Some place) (sym same)
  | inr past ↦ absurd (omega (arith, past.0))
]

-- the steps of a log before its first bad one are true
pub checked : (set : ClauseMap) (log : List Step) (bad : Option ℕ) → bad ≡ first_bad_step set log → All (IsImplied set) (take (unwrap_or bad (length log)) log)
checked set log bad e =
    let none : All (IsImplied set) [] = λ k d within. absurd (omega arith) in
    subst (λ (o : Option ℕ). All (IsImplied set) (take (unwrap_or o (length log)) log)) (sym e) (before_bad set [] log none)

-- past the last step nothing is bad
pub none_left : (set : ClauseMap) (log : List Step) (place : ℕ) → length log ≤ place → first_bad_after set (take place log) (drop place log) ≡ None
none_left set log place past = ap (first_bad_after set (take place log)) (drop_all place log past)
