-- A set that has the clauses of a system and others beside them.
use Rattle.std.proofs.Common.{◌≡◌, ◌≢◌, ℕ, Bool, true, false, ◌||◌, nat_eq, List, [], ◌∷◌, ◌++◌, map, Option, Some, None, refl, sym, ap, ap₂, subst, ◌∙◌, arith, inl, inr, slice_index}
use Rattle.std.specs.List.{list_any}
use Rattle.std.proofs.lemmas.Bool.{cases_eq}
use Rattle.std.proofs.lemmas.Bool.Decides.{nat_tests}
use Rattle.std.proofs.lemmas.List.Folds.{list_any-append}
use Rattle.lv_base.specs.declared.ids.Lit.{Lit}
use Rattle.lv_base.specs.declared.ids.ClauseId.{ClauseId}
use Rattle.lv_clauses.specs.ClauseMap.{ClauseMap, clause_at, Puts}
use Rattle.lv_clauses.proofs.LiteralLemmas.{present_holds}
use Rattle.lv_model.specs.declared.plant.Plant.{Plant}
use Rattle.lv_system.specs.Numbering.{has_number}
use Rattle.lv_system.specs.System.{SystemValue, IsSystemOf}
use Rattle.lv_system.proofs.NumberingLemmas.{all_present_hold}
use Rattle.lv_cert_meaning.specs.Blocks.{clauses_of}
use Rattle.lv_cert_meaning.specs.Following.{numbered}
use Rattle.lv_cert_meaning.specs.Deriving.{refutes}
use Rattle.lv_cert_writing.specs.declared.refuter.Refuted.{Refuted}
use Rattle.lv_cert_writing.specs.declared.refuter.Refuted.TheVariants.{Values, Lines}
use Rattle.lv_cert_writing.specs.BlockLines.{derived_of}
use Rattle.lv_cert_writing.specs.BlockNumbers.{HaveNumbers, AreSystemNumbers, KeepsOthers}
use Rattle.lv_cert_writing.specs.StatedClauses.{IsShared, AreStated}
use Rattle.lv_cert_writing.specs.Refuting.{Tells, Answers}
use Rattle.lv_cert_writing.proofs.BlockNumberLemmas.{all_numbered}

or_false : (a b : Bool) → (a || b) ≡ false → (a ≡ false) × (b ≡ false)
or_false true b e = absurd (cc e)
or_false false b e = (refl, e)

or_left : (a b : Bool) → a ≡ true → (a || b) ≡ true
or_left true b e = refl
or_left false b e = absurd (cc e)

or_end : (a b : Bool) → b ≡ true → (a || b) ≡ true
or_end true b e = refl
or_end false b e = e

-- which places are among those and one more
module _ (front : List ClauseId) (id : ClauseId) (i : ℕ) where
  both : list_any (has_number i) (front ++ id ∷ []) ≡ (list_any (has_number i) front || (nat_eq id.0 i || false))
  both = list_any-append (has_number i) front (id ∷ [])

  isnt : list_any (has_number i) (front ++ id ∷ []) ≡ false → (list_any (has_number i) front ≡ false) × (i ≢ id.0)
  isnt e =
      let two = or_false (list_any (has_number i) front) (nat_eq id.0 i || false) (sym both ∙ e) in
      let last = or_false (nat_eq id.0 i) false two.1 in
      (two.0, grind (arith, nat_tests, last.0))

  isnt_too : list_any (has_number i) front ≡ false → i ≢ id.0 → list_any (has_number i) (front ++ id ∷ []) ≡ false
  isnt_too e other =
      let last : nat_eq id.0 i ≡ false = grind (arith, nat_tests, other) in
      both ∙ ap₂ (λ (p q : Bool). p || (q || false)) e last

  is_front : list_any (has_number i) front ≡ true → list_any (has_number i) (front ++ id ∷ []) ≡ true
  is_front e = both ∙ or_left (list_any (has_number i) front) (nat_eq id.0 i || false) e

  is_end : i ≡ id.0 → list_any (has_number i) (front ++ id ∷ []) ≡ true
  is_end same =
      let last : nat_eq id.0 i ≡ true = grind (arith, nat_tests, same) in
      both ∙ or_end (list_any (has_number i) front) (nat_eq id.0 i || false) (ap (λ (p : Bool). p || false) last)

  only_end : i ≢ id.0 → list_any (has_number i) (front ++ id ∷ []) ≡ true → list_any (has_number i) front ≡ true
  only_end other e =
      let last : nat_eq id.0 i ≡ false = grind (arith, nat_tests, other) in
      by (list_any (has_number i) front) refl (sym (ap (λ (q : Bool). list_any (has_number i) front || (q || false)) last) ∙ sym both ∙ e)
    where
      by : (a : Bool) → list_any (has_number i) front ≡ a → (list_any (has_number i) front || (false || false)) ≡ true → list_any (has_number i) front ≡ true
      by true is more = is
      by false is more = absurd (cc (sym (ap (λ (p : Bool). p || (false || false)) is) ∙ more))

-- at first there is nothing beside the system's
pub shared_first : (s : SystemValue) (set : ClauseMap) (added : List ClauseId) (numbers : List ℕ) → set ≡ s.set → added ≡ [] → AreSystemNumbers s s.ids numbers → IsShared s set added numbers
shared_first s set added numbers same none are =
    record {
      bools = ap (λ (m : ClauseMap). m.bools) same;
      only = λ id e. ap (λ (m : ClauseMap). clause_at m.slots id) same;
      apart = λ id e. absurd (cc (sym e ∙ ap (list_any (has_number id)) none));
      kept = are;
    }

module _ (s : SystemValue) (old : ClauseMap) (added : List ClauseId) (numbers : List ℕ) (is : IsShared s old added numbers) where
  -- a place that is free in the set is free in the system
  free_there : (id : ℕ) → clause_at old.slots id ≡ None → clause_at s.set.slots id ≡ None
  free_there id vacant = by (list_any (has_number id) added) refl
    where
      by : (b : Bool) → list_any (has_number id) added ≡ b → clause_at s.set.slots id ≡ None
      by true e = is.apart id e
      by false e = sym (is.only id e) ∙ vacant

  -- the system's clauses are there
  pub there : (id : ℕ) (c : List Lit) → clause_at s.set.slots id ≡ Some c → clause_at old.slots id ≡ Some c
  there id c at = by (list_any (has_number id) added) refl
    where
      by : (b : Bool) → list_any (has_number id) added ≡ b → clause_at old.slots id ≡ Some c
      by true e = absurd (cc (sym (is.apart id e) ∙ at))
      by false e = is.only id e ∙ at

  -- one more is added
  pub shared_more : (id : ClauseId) (slot : Option (List Lit)) (new : ClauseMap) (more : List ClauseId) (noted : List ℕ) → clause_at old.slots id.0 ≡ None → Puts old new id.0 slot → more ≡ added ++ id ∷ []
      → KeepsOthers numbers noted id.0 → IsShared s new more noted
  shared_more id slot new more noted vacant puts joined keeps =
      subst (λ (ids : List ClauseId). IsShared s new ids noted) (sym joined) (record { bools = puts.bools ∙ is.bools; only = only; apart = apart; kept = record { each = each } })
    where
      only : (i : ℕ) → list_any (has_number i) (added ++ id ∷ []) ≡ false → clause_at new.slots i ≡ clause_at s.set.slots i
      only i e = let two = isnt added id i e in puts.others i two.1 ∙ is.only i two.0

      apart : (i : ℕ) → list_any (has_number i) (added ++ id ∷ []) ≡ true → clause_at s.set.slots i ≡ None
      apart i e = elim (cases_eq i id.0) [
        | inl same ↦ ap (λ (n : ℕ). clause_at s.set.slots n) same ∙ free_there id.0 vacant
        | inr other ↦ is.apart i (only_end added id i other e)
      ]

      each : (i : ℕ) (c : List Lit) → list_any (has_number i) s.ids ≡ true → clause_at s.set.slots i ≡ Some c → numbered (clauses_of s) (slice_index noted i) ≡ Some c
      each i c listed at =
          let other : i ≢ id.0 = λ same. absurd (cc (sym at ∙ ap (λ (n : ℕ). clause_at s.set.slots n) same ∙ free_there id.0 vacant)) in
          ap (numbered (clauses_of s)) (keeps.same i other) ∙ is.kept.each i c listed at

  -- one that was added at a free place is taken back
  pub shared_back : (id : ℕ) (slot : Option (List Lit)) (between new : ClauseMap) → clause_at old.slots id ≡ None → Puts old between id slot → Puts between new id None → IsShared s new added numbers
  shared_back id slot between new vacant puts takes = record { bools = takes.bools ∙ puts.bools ∙ is.bools; only = only; apart = is.apart; kept = is.kept }
    where
      only : (i : ℕ) → list_any (has_number i) added ≡ false → clause_at new.slots i ≡ clause_at s.set.slots i
      only i e = elim (cases_eq i id) [
        | inl same ↦ ap (λ (n : ℕ). clause_at new.slots n) same ∙ takes.changed ∙ sym (ap (λ (n : ℕ). clause_at s.set.slots n) same ∙ free_there id vacant)
        | inr other ↦ takes.others i other ∙ puts.others i other ∙ is.only i e
      ]

-- the last that was added is taken away
pub shared_less : (s : SystemValue) (old new : ClauseMap) (added front : List ClauseId) (id : ClauseId) (numbers : List ℕ) → added ≡ front ++ id ∷ [] → Puts old new id.0 None → IsShared s old added numbers → IsShared s new front numbers
shared_less s old new added front id numbers joined takes is = record { bools = takes.bools ∙ is.bools; only = only; apart = apart; kept = is.kept }
  where
    only : (i : ℕ) → list_any (has_number i) front ≡ false → clause_at new.slots i ≡ clause_at s.set.slots i
    only i e = elim (cases_eq i id.0) [
      | inl same ↦
          ap (λ (n : ℕ). clause_at new.slots n) same ∙ takes.changed
          ∙ sym (is.apart i (ap (list_any (has_number i)) joined ∙ is_end front id i same))
      | inr other ↦ takes.others i other ∙ is.only i (ap (list_any (has_number i)) joined ∙ isnt_too front id i e other)
    ]

    apart : (i : ℕ) → list_any (has_number i) front ≡ true → clause_at s.set.slots i ≡ None
    apart i e = is.apart i (ap (list_any (has_number i)) joined ∙ is_front front id i e)

-- so it is where nothing stands there
pub shared_gone : (s : SystemValue) (set : ClauseMap) (added front : List ClauseId) (id : ClauseId) (numbers : List ℕ) → added ≡ front ++ id ∷ [] → clause_at set.slots id.0 ≡ None → IsShared s set added numbers → IsShared s set front numbers
shared_gone s set added front id numbers joined none is = shared_less s set set added front id numbers joined (record { bools = refl; changed = none; others = λ i other. refl }) is

-- with nothing beside them the system's clauses have their numbers
pub all_shared : (plant : Plant) (s : SystemValue) (set : ClauseMap) (added : List ClauseId) (numbers : List ℕ) → IsSystemOf plant s → added ≡ [] → IsShared s set added numbers → HaveNumbers set.slots (clauses_of s) numbers
all_shared plant s set added numbers of none is =
    record { each = λ i c at. (all_numbered plant s numbers of is.kept).each i c (sym (is.only i (ap (list_any (has_number i)) none)) ∙ at) }

-- what is told of the set under what is assumed is told of the system and the clauses stated
pub tells_of : (s : SystemValue) (first set : ClauseMap) (added : List ClauseId) (models : ℕ) (own : List (List Lit)) (kept numbers : List ℕ) (assumed : List Lit) (units : List ℕ)
    → IsShared s set added numbers → AreStated first kept models own set numbers assumed units → (r : Refuted) → Answers set (clauses_of s ++ own) assumed r → Tells s own r
tells_of s first set added models own kept numbers assumed units is are (Values values) told =
    record {
      whole = told.len ∙ is.bools;
      set_holds = all_present_hold values s.set.slots (λ n d at. present_holds values set.slots n d told.all_clauses (there s set added numbers is n d at));
      own_hold = are.hold values told.all_clauses told.all_assumptions;
    }
tells_of s first set added models own kept numbers assumed units is are (Lines lines) told = subst (λ (n : ℕ). refutes n (clauses_of s ++ own) (map derived_of lines) ≡ true) is.bools told
