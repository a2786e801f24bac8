-- Clauses put into a set one after the other, each under a number that none had.
use Rattle.std.proofs.Common.{◌≡◌, ◌≢◌, ◌<◌, ◌+◌, ℕ, suc, Bool, true, false, ◌||◌, nat_eq, List, [], ◌∷◌, ◌++◌, length, map, take, drop, get_or, unwrap_or, Option, Some, None, is_some, IsSome, All, Contains, refl, sym, subst, ap, ap₂, ◌∙◌, arith, inl, inr}
use Rattle.std.specs.List.{list_all, list_any, IsDistinct}
use Rattle.std.specs.Cmp.{nat_eq_equiv, on_equiv}
use Rattle.std.proofs.Math.Seq.{take-suc}
use Rattle.std.proofs.lemmas.Bool.{cases_eq}
use Rattle.std.proofs.lemmas.List.{map-append}
use Rattle.std.proofs.lemmas.List.Folds.{list_any-append}
use Rattle.std.proofs.lemmas.List.Elements.{All-cons, All-nil}
use Rattle.std.proofs.lemmas.Map.Keys.{IsDistinct-push}
use Rattle.lv_base.specs.declared.ids.Lit.{Lit}
use Rattle.lv_base.specs.declared.ids.ClauseId.{ClauseId}
use Rattle.lv_clauses.specs.Literals.{clause_holds}
use Rattle.lv_clauses.specs.ClauseMap.{ClauseMap, Slots, clause_at, Puts, satisfies}
use Rattle.lv_clauses.proofs.LiteralLemmas.{and_both, or_right, present_holds, Contains-head, Contains-tail}
use Rattle.lv_compile.specs.FormulaClauses.{Clauses}
use Rattle.lv_system.specs.Numbering.{clause_of, same_number, has_number, AreNumbered, IsPresent}

head_is : (x y : Option (List Lit)) (xs ys : List (Option (List Lit))) → x ∷ xs ≡ y ∷ ys → x ≡ y
head_is x y xs ys e = ap (λ (zs : List (Option (List Lit))). get_or zs 0 None) e

rest_is : (x y : Option (List Lit)) (xs ys : List (Option (List Lit))) → x ∷ xs ≡ y ∷ ys → xs ≡ ys
rest_is x y xs ys e = ap (λ (zs : List (Option (List Lit))). drop 1 zs) e

one_is : (c d : List Lit) → Some c ≡ Some d → c ≡ d
one_is c d e = ap (λ (o : Option (List Lit)). unwrap_or o c) e

none_twice : IsDistinct same_number []
unfolding IsDistinct
none_twice = tt

pub none_numbered : AreNumbered [] [] []
none_numbered = record { each = refl; once = none_twice; all = λ n h. absurd (cc h) }

-- as a loop over the clauses puts it

pub record IsSoFar (bools : ℕ) (done : Clauses) (set : ClauseMap) (ids : List ClauseId) : Type 0 where
  pub over : set.bools ≡ bools
  pub numbered : AreNumbered done set.slots ids

pub numbered_first : (bools : ℕ) (set : ClauseMap) → set ≡ record { bools = bools; slots = [] } → (ids : List ClauseId) → ids ≡ [] → IsSoFar bools [] set ids
numbered_first bools set fresh ids none =
    record {
      over = ap (λ (m : ClauseMap). m.bools) fresh;
      numbered = subst (λ (m : ClauseMap). AreNumbered [] m.slots ids) (sym fresh) (subst (λ (is : List ClauseId). AreNumbered [] [] is) (sym none) none_numbered);
    }

-- the number that is given is of no clause so far
module _ (old : Slots) (id : ClauseId) (vacant : clause_at old id.0 ≡ None) where
  differs : (i : ClauseId) (c : List Lit) → clause_of old i ≡ Some c → i.0 ≢ id.0
  differs i c e same = let none : clause_at old i.0 ≡ None = ap (λ (n : ℕ). clause_at old n) same ∙ vacant in absurd (cc)

  none_same : (ids : List ClauseId) (cs : Clauses) → map (clause_of old) ids ≡ map Some cs → list_any (same_number id) ids ≡ false
  none_same [] cs e = refl
  none_same (i ∷ is) [] e = absurd (let f = ap length e in omega (arith, f))
  none_same (i ∷ is) (c ∷ cs) e =
      let other : i.0 ≢ id.0 = differs i c (head_is (clause_of old i) (Some c) (map (clause_of old) is) (map Some cs) e) in
      let first : nat_eq id.0 i.0 ≡ false = grind (arith, other) in
      ap₂ (λ (p q : Bool). p || q) first (none_same is cs (rest_is (clause_of old i) (Some c) (map (clause_of old) is) (map Some cs) e))

  kept : (new : Slots) → ((n : ℕ) → n ≢ id.0 → clause_at new n ≡ clause_at old n) → (ids : List ClauseId) (cs : Clauses) → map (clause_of old) ids ≡ map Some cs
      → map (clause_of new) ids ≡ map Some cs
  kept new others [] cs e = e
  kept new others (i ∷ is) [] e = absurd (let f = ap length e in omega (arith, f))
  kept new others (i ∷ is) (c ∷ cs) e =
      let here : clause_of old i ≡ Some c = head_is (clause_of old i) (Some c) (map (clause_of old) is) (map Some cs) e in
      ap₂ (λ (x : Option (List Lit)) (xs : List (Option (List Lit))). x ∷ xs) (others i.0 (differs i c here) ∙ here)
      (kept new others is cs (rest_is (clause_of old i) (Some c) (map (clause_of old) is) (map Some cs) e))

pub numbered_more : (done : Clauses) (c : List Lit) (old new : ClauseMap) (ids : List ClauseId) (id : ClauseId) → AreNumbered done old.slots ids
    → clause_at old.slots id.0 ≡ None → Puts old new id.0 (Some c) → AreNumbered (done ++ c ∷ []) new.slots (ids ++ id ∷ [])
numbered_more done c old new ids id are vacant puts = record { each = each; once = once; all = all }
  where
    each : map (clause_of new.slots) (ids ++ id ∷ []) ≡ map Some (done ++ c ∷ [])
    each =
        map-append (clause_of new.slots) ids (id ∷ [])
        ∙ ap₂ (λ (xs : List (Option (List Lit))) (x : Option (List Lit)). xs ++ x ∷ []) (kept old.slots id vacant new.slots puts.others ids done are.each) puts.changed
        ∙ sym (map-append Some done (c ∷ []))

    once : IsDistinct same_number (ids ++ id ∷ [])
    once = IsDistinct-push (on_equiv (λ (i : ClauseId). i.0) nat_eq_equiv) ids id are.once (none_same old.slots id vacant ids done are.each)

    all : (n : ℕ) → IsSome (clause_at new.slots n) → list_any (has_number n) (ids ++ id ∷ []) ≡ true
    all n h = list_any-append (has_number n) ids (id ∷ []) ∙ elim (cases_eq n id.0) [
      | inl same ↦ let is : nat_eq id.0 n ≡ true = grind (arith, same) in or_right (list_any (has_number n) ids) (nat_eq id.0 n || false) (ap (λ (p : Bool). p || false) is)
      | inr other ↦ ap (λ (p : Bool). p || list_any (has_number n) (id ∷ [])) (are.all n (subst IsSome (puts.others n other) h))
    ]

-- each clause present is one of them
pub among_numbered : (slots : Slots) (ids : List ClauseId) (cs : Clauses) → map (clause_of slots) ids ≡ map Some cs → (n : ℕ) (c : List Lit) → clause_at slots n ≡ Some c
    → list_any (has_number n) ids ≡ true → Contains cs c
among_numbered slots [] cs e n c at has = absurd (cc has)
among_numbered slots (i ∷ is) [] e n c at has = absurd (let f = ap length e in omega (arith, f))
among_numbered slots (i ∷ is) (d ∷ ds) e n c at has = by (nat_eq i.0 n) refl (among_numbered slots is ds (rest_is (clause_of slots i) (Some d) (map (clause_of slots) is) (map Some ds) e) n c at)
  where
    by : (b : Bool) → nat_eq i.0 n ≡ b → (list_any (has_number n) is ≡ true → Contains ds c) → Contains (d ∷ ds) c
    by true same rest =
        let number : i.0 ≡ n = grind (arith, same) in
        let there : Some d ≡ Some c = sym (head_is (clause_of slots i) (Some d) (map (clause_of slots) is) (map Some ds) e) ∙ ap (λ (k : ℕ). clause_at slots k) number ∙ at in
        subst (Contains (d ∷ ds)) (one_is d c there) (Contains-head d ds)
    by false other rest = Contains-tail d c ds (rest (sym (ap (λ (p : Bool). p || list_any (has_number n) is) other) ∙ has))

-- what makes every clause present true makes each of the numbered ones true, and the other way round
pub numbered_hold : (values : List Bool) (slots : Slots) → satisfies values slots ≡ true → (ids : List ClauseId) (cs : Clauses) → map (clause_of slots) ids ≡ map Some cs
    → list_all (clause_holds values) cs ≡ true
numbered_hold values slots all [] [] e = refl
numbered_hold values slots all [] (c ∷ cs) e = absurd (let f = ap length e in omega (arith, f))
numbered_hold values slots all (i ∷ is) [] e = absurd (let f = ap length e in omega (arith, f))
numbered_hold values slots all (i ∷ is) (c ∷ cs) e =
    and_both (clause_holds values c) (list_all (clause_holds values) cs)
    (present_holds values slots i.0 c all (head_is (clause_of slots i) (Some c) (map (clause_of slots) is) (map Some cs) e))
    (numbered_hold values slots all is cs (rest_is (clause_of slots i) (Some c) (map (clause_of slots) is) (map Some cs) e))

pub all_present_hold : (values : List Bool) (slots : Slots) → ((n : ℕ) (c : List Lit) → clause_at slots n ≡ Some c → clause_holds values c ≡ true) → satisfies values slots ≡ true
all_present_hold values [] each = refl
all_present_hold values (None ∷ rest) each = all_present_hold values rest (λ n c at. each (suc n) c at)
all_present_hold values (Some d ∷ rest) each = and_both (clause_holds values d) (satisfies values rest) (each 0 d refl) (all_present_hold values rest (λ n c at. each (suc n) c at))

pub length-numbered : (slots : Slots) (ids : List ClauseId) (cs : Clauses) → map (clause_of slots) ids ≡ map Some cs → length ids ≡ length cs
length-numbered slots [] [] e = refl
length-numbered slots [] (c ∷ cs) e = absurd (let f = ap length e in omega (arith, f))
length-numbered slots (i ∷ is) [] e = absurd (let f = ap length e in omega (arith, f))
length-numbered slots (i ∷ is) (c ∷ cs) e =
    let rest = length-numbered slots is cs (rest_is (clause_of slots i) (Some c) (map (clause_of slots) is) (map Some cs) e) in
    omega (arith, rest)

pub all_present : (slots : Slots) (ids : List ClauseId) (cs : Clauses) → map (clause_of slots) ids ≡ map Some cs → All (IsPresent slots) ids
all_present slots [] cs e = All-nil (IsPresent slots)
all_present slots (i ∷ is) [] e = absurd (let f = ap length e in omega (arith, f))
all_present slots (i ∷ is) (c ∷ cs) e =
    All-cons (IsPresent slots) i is (record { present = ap is_some (head_is (clause_of slots i) (Some c) (map (clause_of slots) is) (map Some cs) e) })
    (all_present slots is cs (rest_is (clause_of slots i) (Some c) (map (clause_of slots) is) (map Some cs) e))

pub numbered_next : (bools : ℕ) (cs : Clauses) (i : ℕ) (c : List Lit) → i < length cs → c ≡ get_or cs i c → (old new : ClauseMap) (ids more : List ClauseId) (id : ClauseId) (lits : List Lit)
    → old.bools ≡ bools → AreNumbered (take i cs) old.slots ids → lits ≡ c → clause_at old.slots id.0 ≡ None → Puts old new id.0 (Some lits) → more ≡ ids ++ id ∷ []
    → IsSoFar bools (take (i + 1) cs) new more
numbered_next bools cs i c below at old new ids more id lits over are same vacant puts added =
    let up : i + 1 ≡ suc i = omega arith in
    let front : take (i + 1) cs ≡ take i cs ++ lits ∷ [] =
    ap (λ (n : ℕ). take n cs) up ∙ take-suc cs i c below ∙ ap (λ (d : List Lit). take i cs ++ d ∷ []) (sym at ∙ sym same) in
    record {
      over = puts.bools ∙ over;
      numbered =
          subst (λ (ds : Clauses). AreNumbered ds new.slots more) (sym front)
          (subst (λ (is : List ClauseId). AreNumbered (take i cs ++ lits ∷ []) new.slots is) (sym added) (numbered_more (take i cs) lits old new ids id are vacant puts));
    }
