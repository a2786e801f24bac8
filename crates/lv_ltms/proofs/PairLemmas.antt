-- Clauses of two literals, and the clauses that watch a literal while none of them comes to watch another one.
use Rattle.std.proofs.Common.{◌≡◌, ◌≢◌, ◌⊎◌, ℕ, Bool, true, false, not, ◌&&◌, nat_eq, List, [], ◌∷◌, length, Option, Some, None, IsSome, IsTrue, refl, sym, ap, subst, ◌∙◌, arith, inl, inr, Contains}
use Rattle.std.specs.List.{list_all}
use Rattle.lv_base.specs.declared.ids.Lit.{Lit}
use Rattle.lv_base.specs.declared.ids.ClauseId.{ClauseId}
use Rattle.lv_clauses.specs.Literals.{neg, same_var, in_range, distinct, is_clause}
use Rattle.lv_clauses.specs.ClauseMap.{Slots, clause_at, AreClauses}
use Rattle.lv_clauses.specs.Marks.{Marks, is_marked}
use Rattle.lv_clauses.proofs.LiteralLemmas.{Contains-nil, Contains-head, Contains-tail, Contains-cases, lit_cases, and_left, and_right}
use Rattle.lv_ltms.specs.Labelled.{Labelled, GoesOn}
use Rattle.lv_ltms.specs.Watching.{Rows, lit_at, IsThreaded, IsWatching, InRow, AllInRow}
use Rattle.lv_ltms.specs.Standing.{IsNetwork, IsLooked, IsFalsified, AreTrue, true_before}
use Rattle.lv_ltms.specs.Visiting.{Visits}
use Rattle.lv_ltms.specs.Revising.{is_other_or_false, derives_lit}
use Rattle.lv_ltms.specs.Pairs.{has_two, HasBoth, AreWatched}
use Rattle.lv_ltms.proofs.BoolLemmas.{eq_is, eq_from, from_not}
use Rattle.lv_ltms.proofs.FindLemmas.{is_there}
use Rattle.lv_ltms.proofs.TraverseLemmas.{listed_watches, watch_listed}
use Rattle.lv_ltms.proofs.VisitLemmas.{watching_more, labels_grown}

-- the two literals of a clause, in either order
two_of : (a b w o : Lit) → Contains (a ∷ b ∷ []) w → Contains (a ∷ b ∷ []) o → w ≢ o → (a ∷ b ∷ [] ≡ w ∷ o ∷ []) ⊎ (a ∷ b ∷ [] ≡ o ∷ w ∷ [])
two_of a b w o hw ho differs = by_cases (member w hw) (member o ho)
  where
    member : (l : Lit) → Contains (a ∷ b ∷ []) l → (a ≡ l) ⊎ (b ≡ l)
    member l h = elim (Contains-cases a l (b ∷ []) h) [
      | inl same ↦ inl same
      | inr rest ↦ elim (Contains-cases b l [] rest) [
        | inl same ↦ inr same
        | inr none ↦ absurd (Contains-nil l none)
      ]
    ]

    by_cases : (a ≡ w) ⊎ (b ≡ w) → (a ≡ o) ⊎ (b ≡ o) → (a ∷ b ∷ [] ≡ w ∷ o ∷ []) ⊎ (a ∷ b ∷ [] ≡ o ∷ w ∷ [])
    by_cases (inl e) (inl f) = absurd (differs (sym e ∙ f))
    by_cases (inl e) (inr f) = inl (ap (λ (x : Lit). x ∷ b ∷ []) e ∙ ap (λ (x : Lit). w ∷ x ∷ []) f)
    by_cases (inr e) (inl f) = inr (ap (λ (x : Lit). x ∷ b ∷ []) f ∙ ap (λ (x : Lit). o ∷ x ∷ []) e)
    by_cases (inr e) (inr f) = absurd (differs (sym e ∙ f))

-- a clause has no literal twice
two_apart : (bools : ℕ) (a b : Lit) → IsTrue (is_clause bools (a ∷ b ∷ [])) → a ≢ b
two_apart bools a b clause same =
    let apart : distinct (a ∷ b ∷ []) ≡ true = and_right (list_all (in_range bools) (a ∷ b ∷ [])) (distinct (a ∷ b ∷ [])) clause in
    let first : list_all (λ m. not (same_var a m)) (b ∷ []) ≡ true = and_left (list_all (λ m. not (same_var a m)) (b ∷ [])) (distinct (b ∷ [])) apart in
    let none : same_var a b ≡ false = from_not (same_var a b) (and_left (not (same_var a b)) true first) in
    cc (none, eq_is a.var.0 b.var.0 (ap (λ (l : Lit). l.var.0) same))

-- the two literals that a clause of two watches are its literals
watches_two : (bools : ℕ) (c : List Lit) (w o : Lit) → IsTrue (is_clause bools c) → nat_eq (length c) 2 ≡ true → Contains c w → Contains c o → (w ≡ o → (m : Lit) → Contains c m → m ≡ w) → (c ≡ w ∷ o ∷ []) ⊎ (c ≡ o ∷ w ∷ [])
watches_two bools [] w o clause two hw ho lone = absurd (Contains-nil w hw)
watches_two bools (a ∷ []) w o clause two hw ho lone = absurd (omega (arith, eq_from (length (a ∷ [])) 2 two))
watches_two bools (a ∷ b ∷ []) w o clause two hw ho lone =
    two_of a b w o hw ho (λ same. two_apart bools a b clause (lone same a (Contains-head a (b ∷ [])) ∙ sym (lone same b (Contains-tail a b (b ∷ []) (Contains-head b [])))))
watches_two bools (a ∷ b ∷ k ∷ ks) w o clause two hw ho lone = absurd (omega (arith, eq_from (length (a ∷ b ∷ k ∷ ks)) 2 two))

two_some : (slot : Option (List Lit)) → has_two slot ≡ true → (c : List Lit) × (slot ≡ Some c) × (nat_eq (length c) 2 ≡ true)
two_some None e = absurd (cc e)
two_some (Some c) e = (c, refl, e)

two_member : (c : List Lit) → nat_eq (length c) 2 ≡ true → (m : Lit) × Contains c m
two_member [] e = absurd (omega (arith, eq_from 0 2 e))
two_member (m ∷ ms) e = (m, Contains-head m ms)

pub watched_both : (bools : ℕ) (slots : Slots) (near far : Rows) (truth other : Lit → Bool) (marks : Marks) (fallen : List Lit) → AreClauses bools slots → IsThreaded near slots bools → IsThreaded far slots bools
    → IsWatching slots (lit_at near) (lit_at far) truth other marks fallen → AreWatched slots near far
watched_both bools slots near far truth other marks fallen clauses near_rows far_rows is =
    record {
      near_room = λ id e. near_rows.room id (there id e);
      far_room = λ id e. far_rows.room id (there id e);
      both =
          λ id e.
          let found = two_some (clause_at slots id) e in
          let any = two_member found.0 found.2 in
          let guard = is.near_side.guarded id found.0 any.0 found.1 any.1 in
          let turned = is.far_side.guarded id found.0 any.0 found.1 any.1 in
          by_order id found.0 found.1 (watches_two bools found.0 (lit_at near id) (lit_at far id) (clauses id found.0 found.1) found.2 guard.member turned.member guard.lone);
    }
  where
    there : (id : ℕ) → has_two (clause_at slots id) ≡ true → IsSome (clause_at slots id)
    there id e = let found = two_some (clause_at slots id) e in is_there (clause_at slots id) found.0 found.1

    by_order : (id : ℕ) (c : List Lit) → clause_at slots id ≡ Some c → (c ≡ lit_at near id ∷ lit_at far id ∷ []) ⊎ (c ≡ lit_at far id ∷ lit_at near id ∷ [])
        → (clause_at slots id ≡ Some (lit_at near id ∷ lit_at far id ∷ [])) ⊎ (clause_at slots id ≡ Some (lit_at far id ∷ lit_at near id ∷ []))
    by_order id c at (inl e) = inl (at ∙ ap Some e)
    by_order id c at (inr e) = inr (at ∙ ap Some e)

pub watched_looked : (bools : ℕ) (slots : Slots) (near far : Rows) (labels : Labelled) (at : ℕ) → IsNetwork bools slots near far labels → IsLooked slots near far labels at → AreWatched slots near far
watched_looked bools slots near far labels at network looked =
    watched_both bools slots near far (true_before at labels.trail) (true_before at labels.trail) labels.marks [] network.clauses network.near_rows network.far_rows looked.watching

pub watched_swap : (slots : Slots) (near far : Rows) → AreWatched slots near far → AreWatched slots far near
watched_swap slots near far is =
    record {
      near_room = is.far_room;
      far_room = is.near_room;
      both = λ id e. by_order id (is.both id e);
    }
  where
    by_order : (id : ℕ) → (clause_at slots id ≡ Some (lit_at near id ∷ lit_at far id ∷ [])) ⊎ (clause_at slots id ≡ Some (lit_at far id ∷ lit_at near id ∷ []))
        → (clause_at slots id ≡ Some (lit_at far id ∷ lit_at near id ∷ [])) ⊎ (clause_at slots id ≡ Some (lit_at near id ∷ lit_at far id ∷ []))
    by_order id (inl e) = inr e
    by_order id (inr e) = inl e

-- a clause of two literals, seen from the one that is false
pub record IsBoth (slots : Slots) (id : ℕ) (a b : Lit) : Type 0 where
  pub clause : List Lit
  pub present : clause_at slots id ≡ Some clause
  pub member : Contains clause b
  pub rest : (m : Lit) → Contains clause m → m ≢ b → m ≡ a

pub both_of : (slots : Slots) (id : ℕ) (a b : Lit) → HasBoth (clause_at slots id) a b → has_two (clause_at slots id) ≡ true → IsBoth slots id a b
both_of slots id a b has e = by_order (has e)
  where
    one_of : (x y m : Lit) → Contains (x ∷ y ∷ []) m → (m ≡ x) ⊎ (m ≡ y)
    one_of x y m h = elim (Contains-cases x m (y ∷ []) h) [
      | inl same ↦ inl (sym same)
      | inr later ↦ elim (Contains-cases y m [] later) [
        | inl same ↦ inr (sym same)
        | inr none ↦ absurd (Contains-nil m none)
      ]
    ]

    first_rest : (m : Lit) → (m ≡ a) ⊎ (m ≡ b) → m ≢ b → m ≡ a
    first_rest m (inl same) differs = same
    first_rest m (inr same) differs = absurd (differs same)

    second_rest : (m : Lit) → (m ≡ b) ⊎ (m ≡ a) → m ≢ b → m ≡ a
    second_rest m (inl same) differs = absurd (differs same)
    second_rest m (inr same) differs = same

    by_order : (clause_at slots id ≡ Some (a ∷ b ∷ [])) ⊎ (clause_at slots id ≡ Some (b ∷ a ∷ [])) → IsBoth slots id a b
    by_order (inl at) =
        record {
          clause = a ∷ b ∷ [];
          present = at;
          member = Contains-tail a b (b ∷ []) (Contains-head b []);
          rest = λ m h. first_rest m (one_of a b m h);
        }
    by_order (inr at) =
        record {
          clause = b ∷ a ∷ [];
          present = at;
          member = Contains-head b (a ∷ []);
          rest = λ m h. second_rest m (one_of b a m h);
        }

-- where both are false, the clause is
pub both_falsified : (slots : Slots) (marks : Marks) (id : ℕ) (a b : Lit) → IsBoth slots id a b → is_marked marks (neg a) ≡ true → is_marked marks (neg b) ≡ true → IsFalsified slots marks id
both_falsified slots marks id a b is first second =
    record {
      clause = is.clause;
      present = is.present;
      all_false = λ m h. by_lit m h (lit_cases m b);
    }
  where
    by_lit : (m : Lit) → Contains is.clause m → (m ≡ b) ⊎ (m ≢ b) → is_marked marks (neg m) ≡ true
    by_lit m h (inl same) = ap (λ (l : Lit). is_marked marks (neg l)) same ∙ second
    by_lit m h (inr differs) = ap (λ (l : Lit). is_marked marks (neg l)) (is.rest m h differs) ∙ first

-- whether all but one of a clause of two are false is seen by what it watches
pub both_derive : (truth : Lit → Bool) (l w o : Lit) (slot : Option (List Lit)) → HasBoth slot w o → has_two slot ≡ true → (is_other_or_false truth l w && is_other_or_false truth l o) ≡ derives_lit truth l slot
both_derive truth l w o slot has e = by_order (has e)
  where
    forth : (a b : Bool) → (a && b) ≡ (a && (b && true))
    forth true true = refl
    forth true false = refl
    forth false b = refl

    back : (a b : Bool) → (a && b) ≡ (b && (a && true))
    back true true = refl
    back true false = refl
    back false true = refl
    back false false = refl

    by_order : (slot ≡ Some (w ∷ o ∷ [])) ⊎ (slot ≡ Some (o ∷ w ∷ [])) → (is_other_or_false truth l w && is_other_or_false truth l o) ≡ derives_lit truth l slot
    by_order (inl at) = forth (is_other_or_false truth l w) (is_other_or_false truth l o) ∙ sym (ap (derives_lit truth l) at)
    by_order (inr at) = back (is_other_or_false truth l w) (is_other_or_false truth l o) ∙ sym (ap (derives_lit truth l) at)

-- a clause of the list of a literal watches it
pub followed_both : (slots : Slots) (bools : ℕ) (near far : Rows) (l : Lit) (id : ClauseId) → IsThreaded near slots bools → AreWatched slots near far → InRow near l id → HasBoth (clause_at slots id.0) l (lit_at far id.0)
followed_both slots bools near far l id rows watched listed =
    subst (λ (w : Lit). HasBoth (clause_at slots id.0) w (lit_at far id.0)) (listed_watches near slots bools rows l id (listed (rows.list l) (rows.row l))).is (watched.both id.0)

-- labels that grew, with nothing else watched
module _ (slots : Slots) (bools : ℕ) (near far : Rows) (before after : Labelled) (l : Lit) (network : IsNetwork bools slots near far before) (goes : GoesOn slots before after) where
  pub followed_network : IsNetwork bools slots near far after
  followed_network =
      record {
        clauses = network.clauses;
        near_rows = network.near_rows;
        far_rows = network.far_rows;
        are_labels = labels_grown bools before after network.are_labels goes.grows;
      }

  followed_kept : (truth other : Lit → Bool) → IsWatching slots (lit_at near) (lit_at far) truth other before.marks [] → IsWatching slots (lit_at near) (lit_at far) truth other after.marks []
  followed_kept truth other is = watching_more slots (lit_at near) (lit_at far) (lit_at near) (lit_at far) truth other before after [] (λ i. refl) (λ i. refl) goes.grows is

  -- each clause of the list has its other literal true
  pub followed_all : AllInRow near l (λ id. is_marked after.marks (lit_at far id.0) ≡ true) → Visits slots (lit_at near) (lit_at near) (lit_at far) before after l None
  followed_all all =
      record {
        kept = λ truth other t o is. followed_kept truth other is;
        turned =
            λ none id c m at h here.
            all (network.near_rows.list l) (record { 0 = id }) (network.near_rows.row l) (subst (λ (w : Lit). Contains (network.near_rows.list w) (record { 0 = id })) here (watch_listed near slots bools network.near_rows id c m at h));
      }

  pub followed_found : (id : ClauseId) → Visits slots (lit_at near) (lit_at near) (lit_at far) before after l (Some id)
  followed_found id = record { kept = λ truth other t o is. followed_kept truth other is; turned = λ none. absurd (cc none) }

  -- a visit that follows is one of the whole
  pub followed_then : (now : ℕ → Lit) (new : Labelled) (found : Option ClauseId) → Visits slots (lit_at near) now (lit_at far) after new l found → Visits slots (lit_at near) now (lit_at far) before new l found
  followed_then now new found visits =
      record {
        kept = λ truth other t o is. visits.kept truth other (still truth t) (still other o) (followed_kept truth other is);
        turned = visits.turned;
      }
    where
      still : (truth : Lit → Bool) → AreTrue truth before.marks → AreTrue truth after.marks
      still truth is = record { marked = λ k e. goes.grows.kept k (is.marked k e) }
