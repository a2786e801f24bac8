-- What follows from clauses changes nothing beside them.
use Rattle.std.proofs.Common.{◌≡◌, ◌≢◌, ◌⊎◌, ℕ, zero, suc, ◌+◌, ◌-◌, ◌<◌, ◌≤◌, Bool, true, false, IsSome, List, [], ◌∷◌, length, take, map, slice_get, Option, Some, None, option_map, refl, sym, subst, ap, ap₂, ◌∙◌, arith, inl, inr, All}
use Rattle.std.proofs.lemmas.Bool.{cases_eq, cases_lt}
use Rattle.std.proofs.lemmas.List.{take_all, get_or-take}
use Rattle.std.proofs.lemmas.Option.{slice_get_within, get_or_from_slice_get}
use Rattle.lv_base.specs.declared.ids.Lit.{Lit}
use Rattle.lv_clauses.specs.Literals.{neg, clause_holds}
use Rattle.lv_clauses.specs.ClauseMap.{ClauseMap, clause_at, IsBound, Puts, satisfies}
use Rattle.lv_clauses.proofs.LiteralLemmas.{present_holds}
use Rattle.lv_sat.specs.lv_clauses.declared.log.Step.{Step}
use Rattle.lv_sat.specs.lv_clauses.Following.{first_bad_step, IsImplied}
use Rattle.lv_sat.proofs.lv_clauses.SoundLemmas.{checked}
use Rattle.lv_sat.specs.Answers.{last_clause, IsModel, IsRefutation}
use Rattle.lv_system.proofs.NumberingLemmas.{all_present_hold}
use Rattle.lv_asking.specs.Lemmas.{Follows, HaveSameModels, front_of, IsFilled, HasLemmas, AddsLemmas}
use Rattle.lv_asking.specs.Replies.{IsCore}

same_by : (a b : Bool) → (a ≡ true → b ≡ true) → (b ≡ true → a ≡ true) → a ≡ b
same_by true b there back = sym (there refl)
same_by false true there back = back refl
same_by false false there back = refl

some_same : (c d : List Lit) → Some c ≡ Some d → c ≡ d
some_same c d e = cc (e)

pub same_self : (cs : ClauseMap) → HaveSameModels cs cs
same_self cs = record { bools = refl; same = λ values len. refl }

pub same_then : (one two three : ClauseMap) → HaveSameModels one two → HaveSameModels two three → HaveSameModels one three
same_then one two three first next = record { bools = next.bools ∙ first.bools; same = λ values len. next.same values (len ∙ sym first.bools) ∙ first.same values len }

-- the clause of a step of a valid log is true where the clauses are
pub step_holds : (set : ClauseMap) (log : List Step) (place : ℕ) (s : Step) → first_bad_step set log ≡ None → slice_get log place ≡ Some s → (values : List Bool) → satisfies values set.slots ≡ true → length values ≡ set.bools
    → clause_holds values s.clause ≡ true
step_holds set log place s valid at =
    let all : All (IsImplied set) log = subst (λ (steps : List Step). All (IsImplied set) steps) (take_all (length log) log (omega arith)) (checked set log None (sym valid)) in
    let implied : IsImplied set s = subst (IsImplied set) (get_or_from_slice_get log place s s at) (all place s (slice_get_within log place s at)) in
    implied.holds

-- and so is the one that it ends in
last_holds : (set : ClauseMap) (log : List Step) (clause : List Lit) → first_bad_step set log ≡ None → last_clause log ≡ Some clause → (values : List Bool) → satisfies values set.slots ≡ true → length values ≡ set.bools
    → clause_holds values clause ≡ true
last_holds set log clause valid ends values sat len = by (slice_get log (length log - 1)) refl ends
  where
    by : (o : Option Step) → slice_get log (length log - 1) ≡ o → option_map (λ (s : Step). s.clause) o ≡ Some clause → clause_holds values clause ≡ true
    by None at is = absurd (cc is)
    by (Some s) at is = ap (clause_holds values) (sym (some_same s.clause clause is)) ∙ step_holds set log (length log - 1) s valid at values sat len

-- a clause more that is true where the others are
pub same_added : (old new : ClauseMap) (id : ℕ) (c : List Lit) → clause_at old.slots id ≡ None → Puts old new id (Some c) → Follows old c → HaveSameModels old new
same_added old new id c vacant puts implied =
    record {
      bools = puts.bools;
      same =
          λ values len.
          same_by (satisfies values new.slots) (satisfies values old.slots) (λ sat. all_present_hold values old.slots (λ n d at. present_holds values new.slots n d sat (kept n d at (cases_eq n id))))
          (λ sat. all_present_hold values new.slots (λ n d at. each values len sat n d at (cases_eq n id)));
    }
  where
    kept : (n : ℕ) (d : List Lit) → clause_at old.slots n ≡ Some d → (n ≡ id) ⊎ (n ≢ id) → clause_at new.slots n ≡ Some d
    kept n d at (inl same) = let clash : None ≡ Some d = sym vacant ∙ ap (clause_at old.slots) (sym same) ∙ at in absurd (cc clash)
    kept n d at (inr apart) = puts.others n apart ∙ at

    each : (values : List Bool) → length values ≡ old.bools → satisfies values old.slots ≡ true → (n : ℕ) (d : List Lit) → clause_at new.slots n ≡ Some d → (n ≡ id) ⊎ (n ≢ id) → clause_holds values d ≡ true
    each values len sat n d at (inl same) = ap (clause_holds values) (some_same d c (sym at ∙ ap (clause_at new.slots) same ∙ puts.changed)) ∙ implied values sat len
    each values len sat n d at (inr apart) = present_holds values old.slots n d sat (sym (puts.others n apart) ∙ at)

-- a step of a valid log follows, with whatever else follows
pub step_follows : (old now : ClauseMap) (log : List Step) (place : ℕ) (s : Step) (c : List Lit) → first_bad_step old log ≡ None → slice_get log place ≡ Some s → c ≡ s.clause → HaveSameModels old now → Follows now c
step_follows old now log place s c valid at is here =
    λ values sat len.
    let size : length values ≡ old.bools = len ∙ here.bools in
    ap (clause_holds values) is ∙ step_holds old log place s valid at values (sym (here.same values size) ∙ sat) size

-- what a solver of the lemmas too says of the clauses given
pub core_of : (given all : ClauseMap) (assumptions core : List Lit) (log : List Step) → HaveSameModels given all → IsRefutation all assumptions core log → IsCore given assumptions core
core_of given all assumptions core log here refuted =
    record {
      part = refuted.part;
      denied = λ values sat len. last_holds all log (map neg core) refuted.valid refuted.ends values (here.same values len ∙ sat) (len ∙ sym here.bools);
    }

pub model_of : (given all : ClauseMap) (assumptions : List Lit) (values : List Bool) → HaveSameModels given all → IsModel all assumptions values → IsModel given assumptions values
model_of given all assumptions values here model =
    let size : length values ≡ given.bools = model.len ∙ here.bools in
    record { len = size; all_clauses = sym (here.same values size) ∙ model.all_clauses; all_assumptions = model.all_assumptions }

-- clauses of which each number has the same
same_by_numbers : (one other : ClauseMap) → one.bools ≡ other.bools → ((id : ℕ) → clause_at one.slots id ≡ clause_at other.slots id) → HaveSameModels one other
same_by_numbers one other bools each =
    record {
      bools = sym bools;
      same =
          λ values len.
          same_by (satisfies values other.slots) (satisfies values one.slots)
          (λ sat. all_present_hold values one.slots (λ n c at. present_holds values other.slots n c sat (sym (each n) ∙ at)))
          (λ sat. all_present_hold values other.slots (λ n c at. present_holds values one.slots n c sat (each n ∙ at)));
    }

absent : (o : Option (List Lit)) → (IsSome o → ⊥) → o ≡ None
absent None never = refl
absent (Some c) never = absurd (never refl)

-- the slots before a bound have what all have there, and none behind it
take_below : (bound : ℕ) (slots : List (Option (List Lit))) (id : ℕ) → id < bound → clause_at (take bound slots) id ≡ clause_at slots id
take_below bound slots id below = get_or-take bound slots id None below

take_above : (bound : ℕ) (slots : List (Option (List Lit))) (id : ℕ) → bound ≤ id → clause_at (take bound slots) id ≡ None
take_above zero slots id above = refl
take_above (suc n) [] id above = refl
take_above (suc n) (slot ∷ slots) zero above = absurd (omega (arith, above))
take_above (suc n) (slot ∷ slots) (suc id) above = take_above n slots id (omega (arith, above))

-- where a set has numbers below a bound alone, it is what it has below it
same_front : (set : ClauseMap) (bound : ℕ) → IsBound set.slots bound → HaveSameModels set (front_of bound set)
same_front set bound told = same_by_numbers set (front_of bound set) refl (λ id. by id (cases_lt id bound))
  where
    by : (id : ℕ) → (id < bound) ⊎ (bound ≤ id) → clause_at set.slots id ≡ clause_at (take bound set.slots) id
    by id (inl less) = sym (take_below bound set.slots id less)
    by id (inr above) = absent (clause_at set.slots id) (λ some. let less = told.above id some in absurd (omega (arith, above, less))) ∙ sym (take_above bound set.slots id above)

-- a solver of copies has no lemmas yet
pub none_yet : (set all : ClauseMap) (bound : ℕ) (filled : Bool) → all ≡ set → IsBound set.slots bound → (filled ≡ true → IsFilled bound set) → HasLemmas bound filled all
none_yet set all bound filled is told fill =
    subst (λ (s : ClauseMap). HasLemmas bound filled s) (sym is)
    (record {
      models = let one = same_front set bound told in record { bools = refl; same = λ values len. sym (one.same values len) };
      filled = fill;
    })

pub models_yet : (set all : ClauseMap) (bound : ℕ) → all ≡ set → IsBound set.slots bound → HaveSameModels set (front_of bound all)
models_yet set all bound is told = subst (λ (s : ClauseMap). HaveSameModels set (front_of bound s)) (sym is) (same_front set bound told)

-- filled slots that are the same below a bound are one list up to it
take_alike : (bound : ℕ) (one other : List (Option (List Lit))) → ((id : ℕ) → id < bound → IsSome (clause_at one id)) → ((id : ℕ) → id < bound → clause_at other id ≡ clause_at one id) → take bound other ≡ take bound one
take_alike zero one other filled same = refl
take_alike (suc n) [] other filled same = absurd (cc (filled 0 (omega arith)))
take_alike (suc n) (x ∷ xs) [] filled same = absurd (cc (subst IsSome (sym (same 0 (omega arith))) (filled 0 (omega arith))))
take_alike (suc n) (x ∷ xs) (y ∷ ys) filled same =
    ap₂ (λ (z : Option (List Lit)) (zs : List (Option (List Lit))). z ∷ zs) (same 0 (omega arith))
    (take_alike n xs ys (λ id less. filled (suc id) (omega (arith, less))) (λ id less. same (suc id) (omega (arith, less))))

-- one number more that is a clause's
pub one_filled : (set : ClauseMap) (at : ℕ) → IsFilled at set → IsSome (clause_at set.slots at) → IsFilled (at + 1) set
one_filled set at filled here id less = by (cases_eq id at)
  where
    by : (id ≡ at) ⊎ (id ≢ at) → IsSome (clause_at set.slots id)
    by (inl this) = subst (λ n. IsSome (clause_at set.slots n)) (sym this) here
    by (inr other) = filled id (omega (arith, less, other))

-- a clause that follows gets a number behind those that are filled
pub lemma_added : (bound : ℕ) (old new : ClauseMap) (id : ℕ) (c : List Lit) → clause_at old.slots id ≡ None → Puts old new id (Some c) → Follows old c → IsFilled bound old → AddsLemmas bound true old new
lemma_added bound old new id c vacant puts follows filled =
    record {
      models = same_added old new id c vacant puts follows;
      front = ap₂ (λ (n : ℕ) (slots : List (Option (List Lit))). record { bools = n; slots = slots }) puts.bools (take_alike bound old.slots new.slots filled same);
      filled = λ _ _ n less. subst IsSome (sym (same n less)) (filled n less);
    }
  where
    same : (n : ℕ) → n < bound → clause_at new.slots n ≡ clause_at old.slots n
    same n less = puts.others n (λ (this : n ≡ id). cc (subst IsSome (ap (clause_at old.slots) this ∙ vacant) (filled n less)))

pub none_added : (bound : ℕ) (is_filled : Bool) (set : ClauseMap) → AddsLemmas bound is_filled set set
none_added bound is_filled set = record { models = same_self set; front = refl; filled = λ _ fill. fill }

pub added_then : (bound : ℕ) (is_filled : Bool) (old mid new : ClauseMap) → AddsLemmas bound is_filled old mid → AddsLemmas bound true mid new → AddsLemmas bound is_filled old new
added_then bound is_filled old mid new first next =
    record {
      models = same_then old mid new first.models next.models;
      front = next.front ∙ first.front;
      filled = λ said fill. next.filled refl (first.filled said fill);
    }

-- with more lemmas there are lemmas
pub has_more : (bound : ℕ) (is_filled : Bool) (old new : ClauseMap) → HasLemmas bound is_filled old → AddsLemmas bound is_filled old new → HasLemmas bound is_filled new
has_more bound is_filled old new has adds =
    record {
      models = subst (λ (front : ClauseMap). HaveSameModels front new) (sym adds.front) (same_then (front_of bound old) old new has.models adds.models);
      filled = λ said. adds.filled said (has.filled said);
    }
