-- What was refuted stays so: for more assumptions that hold its core, and with a clause more.
use Rattle.std.proofs.Common.{◌≡◌, ℕ, ◌+◌, ◌-◌, Bool, true, false, List, [], ◌∷◌, ◌++◌, length, drop, append_assoc, map, Option, Some, None, All, IfSome, IfOk, Result, option_map, slice_get, if◌then◌else◌, refl, sym, ap, subst, ◌∙◌, arith, Contains}
use Rattle.std.proofs.lemmas.List.{drop_more, take_all}
use Rattle.std.proofs.lemmas.Result.{IfOk-weaker}
use Rattle.std.proofs.lemmas.Option.{slice_get_within, get_or_from_slice_get}
use Rattle.lv_base.specs.declared.ids.Lit.{Lit}
use Rattle.lv_clauses.specs.declared.marks.Finding.{Finding}
use Rattle.lv_clauses.specs.declared.marks.Finding.TheVariants.{AllFalse, Unit, Open}
use Rattle.lv_clauses.specs.Literals.{neg, lit_holds, is_clause}
use Rattle.lv_clauses.specs.ClauseMap.{ClauseMap, Puts, clause_at}
use Rattle.lv_clauses.specs.Marks.{Marks, nothing, marked, look_at}
use Rattle.lv_clauses.proofs.LiteralLemmas.{and_left, and_right, and_both, any_member, all_member, lit_or_neg}
use Rattle.lv_clauses.specs.declared.log.Hint.{Hint}
use Rattle.lv_clauses.specs.declared.log.Step.{Step}
use Rattle.lv_clauses.specs.Following.{clause_of, denied, ends_well, goes_on, goes_on_from, is_last, follows_by_hints, first_bad_after, first_bad_step, IsImplied}
use Rattle.lv_clauses.proofs.SoundLemmas.{checked}
use Rattle.lv_sat.specs.declared.answer.Answer.{Answer}
use Rattle.lv_sat.specs.declared.answer.Answer.TheVariants.{Unsat}
use Rattle.lv_sat.specs.declared.answer.Refutation.{Refutation}
use Rattle.lv_sat.specs.Answers.{Answers, IsModel, IsRefutation, IsSublist, last_clause}
use Rattle.lv_sat.specs.Solver.{Refutes}
use Rattle.lv_sat.proofs.FrontLemmas.{named_still}
use Rattle.lv_trail.proofs.PartLemmas.{part_passes, part_self}
use Rattle.lv_trail.proofs.SeenLemmas.{from_map}

-- what a valid log ends in is true, so no values make the whole core true
core_refuted : (cs : ClauseMap) (core : List Lit) (log : List Step) → first_bad_step cs log ≡ None → last_clause log ≡ Some (map neg core) → (values : List Bool) → IsModel cs core values → ⊥
core_refuted cs core log valid ends values model = by_step (slice_get log (length log - 1)) refl
  where
    all_implied : All (IsImplied cs) log
    all_implied = subst (All (IsImplied cs)) (take_all (length log) log (omega arith)) (checked cs log None (sym valid))

    by_step : (o : Option Step) → slice_get log (length log - 1) ≡ o → ⊥
    by_step None at = absurd (cc (ap (option_map (λ (s : Step). s.clause)) at, ends))
    by_step (Some s) at =
        let same : s.clause ≡ map neg core = cc (ap (option_map (λ (t : Step). t.clause)) at, ends) in
        let implied : IsImplied cs s = subst (IsImplied cs) (get_or_from_slice_get log (length log - 1) s s at) (all_implied (length log - 1) s (slice_get_within log (length log - 1) s at)) in
        let found = any_member (lit_holds values) s.clause (implied.holds values model.all_clauses model.len) in
        lit_or_neg values found.0 found.2 (all_member (lit_holds values) core (neg found.0) model.all_assumptions (from_map core found.0 (subst (λ ls. Contains ls found.0) same found.1)))

refutes_by : (cs : ClauseMap) (core : List Lit) (log : List Step) → first_bad_step cs log ≡ None → last_clause log ≡ Some (map neg core) → IsRefutation cs core core log
refutes_by cs core log valid ends = record { part = part_self core; valid = valid; ends = ends; none = λ values model. core_refuted cs core log valid ends values model }

-- an answer that refutes is kept
pub refuted_now : (cs : ClauseMap) (assumptions core : List Lit) (log : List Step) → IsRefutation cs assumptions core log → Refutes cs (record { core = core; log = log })
refuted_now cs assumptions core log here = refutes_by cs core log here.valid here.ends

-- and answers for all assumptions that hold its core
refuted_again : (cs : ClauseMap) (assumptions : List Lit) (r : Refutation) → Refutes cs r → IsSublist r.core assumptions → IsRefutation cs assumptions r.core r.log
refuted_again cs assumptions r here part =
    record {
      part = part;
      valid = here.valid;
      ends = here.ends;
      none =
          λ values model. here.none values (record { len = model.len; all_clauses = model.all_clauses; all_assumptions = part_passes (lit_holds values) r.core assumptions part model.all_assumptions });
    }

-- with a clause more
module _ (old new : ClauseMap) (id : ℕ) (c : List Lit) (puts : Puts old new id (Some c)) (vacant : clause_at old.slots id ≡ None) where
  ends_still : (earlier : List Step) (hints : List Hint) (marks : Marks) → ends_well old.slots earlier hints marks ≡ true → ends_well new.slots earlier hints marks ≡ true
  ends_still earlier [] marks e = absurd (cc)
  ends_still earlier (h ∷ hs) marks e = by_clause (clause_of old.slots earlier h) refl (λ (next : Marks) (more : ends_well old.slots earlier hs next ≡ true). ends_still earlier hs next more)
    where
      by_finding : (f : Finding) → goes_on marks (is_last hs) (ends_well old.slots earlier hs) f ≡ true → ((next : Marks) → ends_well old.slots earlier hs next ≡ true → ends_well new.slots earlier hs next ≡ true)
          → goes_on marks (is_last hs) (ends_well new.slots earlier hs) f ≡ true
      by_finding AllFalse is ih = is
      by_finding (Unit l) is ih = ih (marked marks l) is
      by_finding Open is ih = is

      by_clause : (o : Option (List Lit)) → clause_of old.slots earlier h ≡ o → ((next : Marks) → ends_well old.slots earlier hs next ≡ true → ends_well new.slots earlier hs next ≡ true)
          → goes_on_from marks (is_last hs) (ends_well new.slots earlier hs) (clause_of new.slots earlier h) ≡ true
      by_clause None at ih = absurd (cc (ap (goes_on_from marks (is_last hs) (ends_well old.slots earlier hs)) at, e))
      by_clause (Some named) at ih =
          ap (goes_on_from marks (is_last hs) (ends_well new.slots earlier hs)) (named_still old new id c puts vacant earlier h named at)
          ∙ by_finding (look_at marks named) (sym (ap (goes_on_from marks (is_last hs) (ends_well old.slots earlier hs)) at) ∙ e) ih

  follows_still : (earlier : List Step) (s : Step) → follows_by_hints old earlier s ≡ true → follows_by_hints new earlier s ≡ true
  follows_still earlier s e =
      and_both (is_clause new.bools s.clause) (ends_well new.slots earlier s.hints (denied (nothing new.bools) s.clause))
      (ap (λ n. is_clause n s.clause) puts.bools ∙ and_left (is_clause old.bools s.clause) (ends_well old.slots earlier s.hints (denied (nothing old.bools) s.clause)) e)
      (ap (λ n. ends_well new.slots earlier s.hints (denied (nothing n) s.clause)) puts.bools
      ∙ ends_still earlier s.hints (denied (nothing old.bools) s.clause) (and_right (is_clause old.bools s.clause) (ends_well old.slots earlier s.hints (denied (nothing old.bools) s.clause)) e))

  valid_still : (earlier steps : List Step) → first_bad_after old earlier steps ≡ None → first_bad_after new earlier steps ≡ None
  valid_still earlier [] e = refl
  valid_still earlier (s ∷ ss) e = by_step (follows_by_hints old earlier s) refl (λ (rest : first_bad_after old (earlier ++ s ∷ []) ss ≡ None). valid_still (earlier ++ s ∷ []) ss rest)
    where
      by_step : (b : Bool) → follows_by_hints old earlier s ≡ b → (first_bad_after old (earlier ++ s ∷ []) ss ≡ None → first_bad_after new (earlier ++ s ∷ []) ss ≡ None)
          → (if follows_by_hints new earlier s then first_bad_after new (earlier ++ s ∷ []) ss else Some (length earlier)) ≡ None
      by_step true f rest =
          ap (λ b. if b then first_bad_after new (earlier ++ s ∷ []) ss else Some (length earlier)) (follows_still earlier s f)
          ∙ rest (sym (ap (λ b. if b then first_bad_after old (earlier ++ s ∷ []) ss else Some (length earlier)) f) ∙ e)
      by_step false f rest = absurd (cc (ap (λ b. if b then first_bad_after old (earlier ++ s ∷ []) ss else Some (length earlier)) f, e))

  pub refuted_still : (refuted : Option Refutation) → IfSome refuted (Refutes old) → IfSome refuted (Refutes new)
  refuted_still None here = here
  refuted_still (Some r) here = refutes_by new r.core r.log (valid_still [] r.log here.valid) here.ends

-- a step copied is none of those left
pub copied_more : (copy log : List Step) (place : ℕ) (s : Step) → slice_get log place ≡ Some s → copy ++ drop place log ≡ log → (copy ++ s ∷ []) ++ drop (place + 1) log ≡ log
copied_more copy log place s at before =
    append_assoc copy (s ∷ []) (drop (place + 1) log)
    ∙ ap (λ (steps : List Step). copy ++ steps) (sym (drop_more log place s (slice_get_within log place s at) ∙ ap (λ (t : Step). t ∷ drop (place + 1) log) (get_or_from_slice_get log place s s at)))
    ∙ before

-- the answer of the refutation kept
pub again_answers : {E : Type 0} (cs : ClauseMap) (refuted : Option Refutation) (r : Refutation) (core assumptions : List Lit) (result : Result Answer E) → IfSome refuted (Refutes cs) → refuted ≡ Some r → core ≡ r.core → IsSublist core assumptions
    → IfOk result (λ answer. answer ≡ Unsat r.core r.log) → IfOk result (Answers cs assumptions)
again_answers cs refuted r core assumptions result here is same part told =
    IfOk-weaker result (λ answer. answer ≡ Unsat r.core r.log) (Answers cs assumptions)
    (λ answer e.
    subst (Answers cs assumptions) (sym e) (refuted_again cs assumptions r (subst (λ (o : Option Refutation). IfSome o (Refutes cs)) is here) (subst (λ ls. IsSublist ls assumptions) same part))) told
