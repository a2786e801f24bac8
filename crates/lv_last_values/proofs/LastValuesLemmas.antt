-- What the last values leave to be judged, and how they and the rows are kept up to date.
use Rattle.std.proofs.Common.{◌≡◌, ◌≢◌, ◌⊎◌, ℕ, suc, ◌+◌, ◌<◌, ◌≤◌, Bool, true, false, List, [], ◌∷◌, ◌++◌, length, get_or, set, Option, Some, None, IfSome, IsSome, Result, Ok, Err, OnOk, IfOk, refl, sym, ap, subst, ◌∙◌, arith, inl, inr, Contains}
use Rattle.std.specs.Result.{is_err, result_ok}
use Rattle.std.proofs.lemmas.Bool.{cases_eq, cases_lt}
use Rattle.std.proofs.lemmas.List.{get_or_past, get_or_append_left, get_or_push, get_or-set_same, get_or-set_other, length-append, length-set}
use Rattle.lv_base.specs.declared.ids.Lit.{Lit}
use Rattle.lv_base.specs.declared.ids.BoolId.{BoolId}
use Rattle.lv_base.specs.declared.ids.ClauseId.{ClauseId}
use Rattle.lv_clauses.specs.Literals.{same_truth, lit_holds, clause_holds}
use Rattle.lv_clauses.specs.ClauseMap.{ClauseMap, Slots, Puts, IsBound, clause_at, slot_holds, satisfies}
use Rattle.lv_clauses.proofs.LiteralLemmas.{lit_of, and_both, any_member, member_any, present_holds}
use Rattle.lv_clauses.proofs.MarkLemmas.{same_truth-equal, same_truth-self}
use Rattle.lv_last_values.specs.Values.{IsModel}
use Rattle.lv_last_values.specs.Rows.{Rows, Names, IsIn}
use Rattle.lv_clauses.specs.Marks.{Marks, mark_is, is_marked}
use Rattle.lv_last_values.specs.Values.{KeepMarks}
use Rattle.lv_last_values.specs.Occurrences.{AreTurned, NamesBelow, NamesAll, RowHolds, true_lit, IsSettled, IsUpToDate}

satisfies_from : (values : List Bool) (slots : Slots) → ((id : ℕ) (c : List Lit) → clause_at slots id ≡ Some c → clause_holds values c ≡ true) → satisfies values slots ≡ true
satisfies_from values [] each = refl
satisfies_from values (None ∷ ss) each = satisfies_from values ss (λ id c h. each (suc id) c h)
satisfies_from values (Some c ∷ ss) each = and_both (clause_holds values c) (satisfies values ss) (each 0 c refl) (satisfies_from values ss (λ id d h. each (suc id) d h))

true_is : (values : List Bool) (l : Lit) → lit_holds values l ≡ true → true_lit values l.var.0 ≡ l
true_is values l e = lit_of (true_lit values l.var.0) l refl (same_truth-equal (get_or values l.var.0 false) l.sign e)

module _ (cs : ClauseMap) (rows : Rows) (last values : List Bool) (named : NamesAll cs.slots rows) (model : IsModel cs [] last) (len : length values ≡ cs.bools)
    (settled : (var : ℕ) → var < cs.bools → IsSettled cs.slots rows last values var) where
  -- a clause with a literal that was true is true
  still_true : (id : ℕ) (c : List Lit) (l : Lit) → clause_at cs.slots id ≡ Some c → Contains c l → lit_holds last l ≡ true → (b : Bool) → lit_holds values l ≡ b → clause_holds values c ≡ true
  still_true id c l at has was true now = member_any (lit_holds values) c l has now
  still_true id c l at has was false now = elim (cases_lt l.var.0 cs.bools) [
    | inl within ↦
        let here : RowHolds cs.slots rows values l =
        subst (λ (k : Lit). lit_holds values k ≡ false → RowHolds cs.slots rows values k) (true_is last l was) (settled l.var.0 within) now in
        sym (ap (slot_holds values) at) ∙ here (record { 0 = id }) (named (record { 0 = id }) c l at has)
    | inr past ↦
        let same : lit_holds last l ≡ lit_holds values l =
        ap (λ b. same_truth b l.sign) (get_or_past last l.var.0 false (omega (arith, model.len, past)) ∙ sym (get_or_past values l.var.0 false (omega (arith, len, past)))) in
        absurd (cc (same, was, now))
  ]

  pub all_settled : satisfies values cs.slots ≡ true
  all_settled =
      satisfies_from values cs.slots
      (λ id c at.
      let found = any_member (lit_holds last) c (present_holds last cs.slots id c model.all_clauses at) in
      still_true id c found.0 at found.1 found.2 (lit_holds values found.0) refl)

-- values that satisfy the clauses satisfy one more that they make true, and one less
pub model_kept : (old new : ClauseMap) (id : ℕ) (slot : Option (List Lit)) (values : List Bool) → Puts old new id slot → slot_holds values slot ≡ true → IsModel old [] values → IsModel new [] values
model_kept old new id slot values puts holds model =
    record { len = model.len ∙ sym puts.bools; all_clauses = satisfies_from values new.slots (λ k c at. by_id k c at (cases_eq k id)); all_assumptions = refl }
  where
    by_id : (k : ℕ) (c : List Lit) → clause_at new.slots k ≡ Some c → (k ≡ id) ⊎ (k ≢ id) → clause_holds values c ≡ true
    by_id k c at (inl same) = sym (ap (slot_holds values) at) ∙ ap (slot_holds values) (ap (clause_at new.slots) same ∙ puts.changed) ∙ holds
    by_id k c at (inr differs) = present_holds values old.slots k c model.all_clauses (sym (puts.others k differs) ∙ at)

-- one number more
pub below_then : (key : ℕ) (slots : Slots) (c : List Lit) (old new : Rows) → NamesBelow key slots old → ((d : List Lit) → clause_at slots key ≡ Some d → c ≡ d) → Names c (record { 0 = key }) old new → NamesBelow (key + 1) slots new
below_then key slots c old new below is names id d l within at has = elim (cases_lt id.0 key) [
  | inl before ↦ names.kept l id (below id d l before at has)
  | inr past ↦
      let same : id.0 ≡ key = omega (arith, within, past) in
      subst (λ (k : ℕ). IsIn new l (record { 0 = k })) (sym same) (names.added l (subst (λ (ls : List Lit). Contains ls l) (sym (is d (ap (clause_at slots) (sym same) ∙ at))) has))
]

pub names_all : (bound key : ℕ) (slots : Slots) (rows : Rows) → IsBound slots bound → bound ≤ key → NamesBelow key slots rows → NamesAll slots rows
names_all bound key slots rows here ends below id c l at has = below id c l (omega (arith, ends, here.above id.0 (subst IsSome (sym at) refl))) at has

-- a clause that was added and is in the rows of its literals
pub names_added : (old new : ClauseMap) (id : ClauseId) (c : List Lit) (rows more : Rows) → Puts old new id.0 (Some c) → NamesAll old.slots rows → Names c id rows more → NamesAll new.slots more
names_added old new id c rows more puts all names k d l at has = elim (cases_eq k.0 id.0) [
  | inl same ↦
      let is : Some c ≡ Some d = sym puts.changed ∙ ap (clause_at new.slots) (sym same) ∙ at in
      subst (λ (n : ℕ). IsIn more l (record { 0 = n })) (sym same) (names.added l (subst (λ (ls : List Lit). Contains ls l) (sym (cc (is))) has))
  | inr differs ↦ names.kept l k (all k d l (sym (puts.others k.0 differs) ∙ at) has)
]

names_left : (old new : ClauseMap) (id : ℕ) (rows : Rows) → Puts old new id None → NamesAll old.slots rows → NamesAll new.slots rows
names_left old new id rows puts all k d l at has = elim (cases_eq k.0 id) [
  | inl same ↦ let is : None ≡ Some d = sym puts.changed ∙ ap (clause_at new.slots) (sym same) ∙ at in absurd (cc (is))
  | inr differs ↦ all k d l (sym (puts.others k.0 differs) ∙ at) has
]

-- a clause less
pub up_to_date_left : (old new : ClauseMap) (id : ℕ) (values : Option (List Bool)) (rows : Option Rows) → Puts old new id None → IsUpToDate old values rows → IsUpToDate new values rows
up_to_date_left old new id values rows puts before = record { model = models values before.model; names = all_named rows before.names }
  where
    models : (o : Option (List Bool)) → IfSome o (IsModel old []) → IfSome o (IsModel new [])
    models None h = tt
    models (Some vs) h = model_kept old new id None vs puts refl h

    all_named : (o : Option Rows) → IfSome o (NamesAll old.slots) → IfSome o (NamesAll new.slots)
    all_named None h = tt
    all_named (Some rs) h = names_left old new id rs puts h

pub with_no_error : {X Y P : Type 0} (r : Result X Y) → is_err r ≡ false → OnOk r P → P
with_no_error (Ok x) e h = h
with_no_error (Err y) e h = absurd (cc)

pub where_ok : {X Y : Type 0} (r : Result X Y) (o : Option X) (P : X → Type 0) → o ≡ result_ok r → IfOk r P → IfSome o P
where_ok {X} r o P is h = subst (λ (found : Option X). IfSome found P) (sym is) (by_result r h)
  where
    by_result : {Y : Type 0} (s : Result X Y) → IfOk s P → IfSome (result_ok s) P
    by_result (Ok x) k = k
    by_result (Err y) k = tt

-- values that keep the marks of the booleans before this one
pub record KeepBefore (ms : Marks) (vs : List Bool) (at : ℕ) : Type 0 where
  pub len : length vs ≡ length ms
  pub marked : (l : Lit) → l.var.0 < at → is_marked ms l ≡ true → lit_holds vs l ≡ true

mark_holds : (o : Option Bool) (v s : Bool) → IfSome o (λ b. v ≡ b) → mark_is o s ≡ true → same_truth v s ≡ true
mark_holds None v s own e = absurd (cc e)
mark_holds (Some b) v s own e = ap (λ w. same_truth w s) own ∙ e

pub keep_next : (ms : Marks) (vs : List Bool) (i : ℕ) (v : Bool) → i < length ms → KeepBefore ms vs i → IfSome (get_or ms i None) (λ b. v ≡ b) → KeepBefore ms (set vs i v) (i + 1)
keep_next ms vs i v within kept own = record { len = length-set vs i v ∙ kept.len; marked = λ l before e. by_place l before e (cases_eq l.var.0 i) }
  where
    by_place : (l : Lit) → l.var.0 < i + 1 → is_marked ms l ≡ true → (l.var.0 ≡ i) ⊎ (l.var.0 ≢ i) → lit_holds (set vs i v) l ≡ true
    by_place l before e (inl same) =
        ap (λ b. same_truth b l.sign) (ap (λ k. get_or (set vs i v) k false) same ∙ get_or-set_same vs i v false (omega (arith, within, kept.len)))
        ∙ mark_holds (get_or ms i None) v l.sign own (ap (λ k. mark_is (get_or ms k None) l.sign) (sym same) ∙ e)
    by_place l before e (inr differs) = ap (λ b. same_truth b l.sign) (get_or-set_other vs i l.var.0 v false differs) ∙ kept.marked l (omega (arith, before, differs)) e

pub keep_same : (ms : Marks) (vs : List Bool) (i : ℕ) → KeepBefore ms vs i → IfSome (get_or ms i None) (λ b. get_or vs i false ≡ b) → KeepBefore ms vs (i + 1)
keep_same ms vs i kept own = record { len = kept.len; marked = λ l before e. by_place l before e (cases_eq l.var.0 i) }
  where
    by_place : (l : Lit) → l.var.0 < i + 1 → is_marked ms l ≡ true → (l.var.0 ≡ i) ⊎ (l.var.0 ≢ i) → lit_holds vs l ≡ true
    by_place l before e (inl same) =
        ap (λ b. same_truth b l.sign) (ap (λ k. get_or vs k false) same)
        ∙ mark_holds (get_or ms i None) (get_or vs i false) l.sign own (ap (λ k. mark_is (get_or ms k None) l.sign) (sym same) ∙ e)
    by_place l before e (inr differs) = kept.marked l (omega (arith, before, differs)) e

marked_within : (ms : Marks) (l : Lit) → is_marked ms l ≡ true → l.var.0 < length ms
marked_within ms l e = elim (cases_lt l.var.0 (length ms)) [
  | inl within ↦ within
  | inr past ↦ absurd (cc (sym (ap (λ (o : Option Bool). mark_is o l.sign) (get_or_past ms l.var.0 None past)) ∙ e))
]

pub keep_all : (ms : Marks) (vs : List Bool) (at : ℕ) → length ms ≤ at → KeepBefore ms vs at → KeepMarks ms vs
keep_all ms vs at past kept = record { len = kept.len; marked = λ l e. kept.marked l (omega (arith, past, marked_within ms l e)) e }

contains_more : {X : Type 0} (xs : List X) (x y : X) → Contains xs x → Contains (xs ++ y ∷ []) x
contains_more xs x y has = (has.0, omega (arith, has.1, length-append xs (y ∷ [])), get_or_append_left xs (y ∷ []) x has.0 has.1 ∙ has.2)

contains_last : {X : Type 0} (xs : List X) (x : X) → Contains (xs ++ x ∷ []) x
contains_last xs x = (length xs, omega (arith, length-append xs (x ∷ [])), get_or_push xs x x (length xs) refl)

-- a boolean that is set is told
pub turned_more : (last values more : List Bool) (i : ℕ) (b : Bool) (turned longer : List BoolId) → more ≡ set values i b → longer ≡ turned ++ record { 0 = i } ∷ [] → AreTurned last values turned → AreTurned last more longer
turned_more last values more i b turned longer set_is is tells var =
    subst (λ (ls : List BoolId). (get_or more var false ≡ get_or last var false) ⊎ Contains ls (record { 0 = var })) (sym is) (by_place (cases_eq var i))
  where
    by_place : (var ≡ i) ⊎ (var ≢ i) → (get_or more var false ≡ get_or last var false) ⊎ Contains (turned ++ record { 0 = i } ∷ []) (record { 0 = var })
    by_place (inl at) = inr (subst (λ (k : ℕ). Contains (turned ++ record { 0 = i } ∷ []) (record { 0 = k })) (sym at) (contains_last turned (record { 0 = i })))
    by_place (inr differs) = elim (tells var) [
      | inl e ↦ inl (ap (λ (vs : List Bool). get_or vs var false) set_is ∙ get_or-set_other values i var b false differs ∙ e)
      | inr has ↦ inr (contains_more turned (record { 0 = var }) (record { 0 = i }) has)
    ]

-- all booleans that turned were looked at
pub each_settled : (slots : Slots) (rows : Rows) (last values : List Bool) (turned : List BoolId) → AreTurned last values turned
    → ((k : ℕ) (d : BoolId) → k < length turned → IsSettled slots rows last values (get_or turned k d).0) → (var : ℕ) → IsSettled slots rows last values var
each_settled slots rows last values turned are each var = elim (are var) [
  | inl same ↦ λ is_false. absurd (cc (sym (ap (λ b. same_truth b (get_or last var false)) same ∙ same_truth-self (get_or last var false)) ∙ is_false))
  | inr has ↦ subst (λ (x : BoolId). IsSettled slots rows last values x.0) has.2 (each has.0 (record { 0 = var }) has.1)
]
