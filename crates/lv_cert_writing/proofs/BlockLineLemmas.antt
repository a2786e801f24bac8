-- A step of a log that follows is a line that does, where the numbers of the clauses that its hints name are kept.
use Rattle.std.proofs.Common.{◌≡◌, ◌≢◌, ℕ, suc, zero, Bool, true, not, ◌&&◌, List, [], ◌∷◌, ◌++◌, get_or, map, Option, Some, None, is_none, Contains, refl, sym, ap, ap₂, ◌∙◌, arith}
use Rattle.std.specs.List.{list_all}
use Rattle.std.proofs.lemmas.Bool.{and_parts, and_from}
use Rattle.std.proofs.lemmas.Bool.Decides.{nat_tests}
use Rattle.std.proofs.lemmas.List.{get_or-set_other}
use Rattle.lv_base.specs.declared.ids.Lit.{Lit}
use Rattle.lv_clauses.specs.declared.marks.Finding.{Finding}
use Rattle.lv_clauses.specs.declared.marks.Finding.TheVariants.{AllFalse, Unit, Open}
use Rattle.lv_clauses.specs.Literals.{neg, same_var, in_range, distinct, is_clause}
use Rattle.lv_clauses.specs.ClauseMap.{Slots}
use Rattle.lv_clauses.specs.Marks.{Marks, nothing, marked, is_free, look_at}
use Rattle.lv_clauses.proofs.LiteralLemmas.{lit_of, not_not, Contains-head, Contains-tail}
use Rattle.lv_clauses.specs.declared.log.Hint.{Hint}
use Rattle.lv_clauses.specs.declared.log.Step.{Step}
use Rattle.lv_clauses.specs.Following as Log
use Rattle.lv_clauses.specs.Following.{goes_on, goes_on_from, denied}
use Rattle.lv_cert_meaning.specs.Following.{names_boolean, literal_of, numbered, is_last, ends_well, follows}
use Rattle.lv_cert_writing.specs.BlockLines.{literal_with, hint_number, unit_number}
use Rattle.lv_cert_writing.specs.Needed.{has_named}

-- the literal of the boolean of its number is the literal
literal_back : (l : Lit) → literal_of (literal_with l) ≡ l
literal_back l = lit_of (literal_of (literal_with l)) l (omega arith) (not_not l.sign)

pub literals_back : (ls : List Lit) → map literal_of (map literal_with ls) ≡ ls
literals_back [] = refl
literals_back (l ∷ ls) = ap₂ (λ (m : Lit) (ms : List Lit). m ∷ ms) (literal_back l) (literals_back ls)

is_named : (bools : ℕ) (l : Lit) → in_range bools l ≡ true → names_boolean bools (literal_with l) ≡ true
is_named bools l e = grind (arith, nat_tests, e)

are_named : (bools : ℕ) (ls : List Lit) → list_all (in_range bools) ls ≡ true → list_all (names_boolean bools) (map literal_with ls) ≡ true
are_named bools [] e = refl
are_named bools (l ∷ ls) e =
    let parts = and_parts (in_range bools l) (list_all (in_range bools) ls) e in
    and_from (names_boolean bools (literal_with l)) (list_all (names_boolean bools) (map literal_with ls)) (is_named bools l parts.0) (are_named bools ls parts.1)

-- what denies literals that are free takes their negations as true, one after the other
free_too : (marks : Marks) (m : Lit) (ms : List Lit) → list_all (is_free marks) ms ≡ true → list_all (λ n. not (same_var m n)) ms ≡ true → list_all (is_free (marked marks (neg m))) ms ≡ true
free_too marks m [] free apart = refl
free_too marks m (n ∷ ms) free apart =
    let now = and_parts (is_free marks n) (list_all (is_free marks) ms) free in
    let others = and_parts (not (same_var m n)) (list_all (λ k. not (same_var m k)) ms) apart in
    let differs : n.var.0 ≢ m.var.0 = grind (arith, nat_tests, others.0) in
    and_from (is_free (marked marks (neg m)) n) (list_all (is_free (marked marks (neg m))) ms)
    (ap (λ (o : Option Bool). is_none o) (get_or-set_other marks m.var.0 n.var.0 (Some (not m.sign)) None differs) ∙ now.0) (free_too marks m ms now.1 others.1)

-- where the boolean is free, the clause of the literal alone takes it as true
alone : (marks : Marks) (m : Lit) → is_free marks m ≡ true → look_at marks (neg m ∷ []) ≡ Unit (neg m)
alone marks m free = by (get_or marks m.var.0 None) refl free
  where
    by : (o : Option Bool) → get_or marks m.var.0 None ≡ o → is_none (get_or marks m.var.0 None) ≡ true → look_at marks (neg m ∷ []) ≡ Unit (neg m)
    by None e f = rw e refl
    by (Some b) e f = absurd (cc (sym (ap (λ (o : Option Bool). is_none o) e) ∙ f))

pub denied_first : (clauses : List (List Lit)) (units rest : List ℕ) (ms : List Lit) (marks : Marks) → ((m : Lit) → Contains ms m → numbered clauses (unit_number units m) ≡ Some (neg m ∷ []))
    → list_all (is_free marks) ms ≡ true → distinct ms ≡ true → ends_well clauses rest (denied marks ms) ≡ true → ends_well clauses (map (unit_number units) ms ++ rest) marks ≡ true
denied_first clauses units rest [] marks there free apart e = e
denied_first clauses units rest (m ∷ ms) marks there free apart e =
    let now = and_parts (is_free marks m) (list_all (is_free marks) ms) free in
    let others = and_parts (list_all (λ n. not (same_var m n)) ms) (distinct ms) apart in
    let tail : List ℕ = map (unit_number units) ms ++ rest in
    ap (goes_on_from marks (is_last tail) (ends_well clauses tail)) (there m (Contains-head m ms))
    ∙ ap (goes_on marks (is_last tail) (ends_well clauses tail)) (alone marks m now.0)
    ∙ denied_first clauses units rest ms (marked marks (neg m)) (λ n h. there n (Contains-tail m n ms h)) (free_too marks m ms now.1 others.0) others.1 e

none_of : (n k : ℕ) → get_or (nothing n) k None ≡ None
none_of zero k = refl
none_of (suc n) zero = refl
none_of (suc n) (suc k) = none_of n k

all_free : (bools : ℕ) (ms : List Lit) → list_all (is_free (nothing bools)) ms ≡ true
all_free bools [] = refl
all_free bools (m ∷ ms) = and_from (is_free (nothing bools) m) (list_all (is_free (nothing bools)) ms) (ap (λ (o : Option Bool). is_none o) (none_of bools m.var.0)) (all_free bools ms)

module _ (slots : Slots) (earlier : List Step) (clauses : List (List Lit)) (numbers placed : List ℕ) where
  -- the clause that the hint names is the one of its number
  pub record HasNumber (h : Hint) : Type 0 where
    pub number : (c : List Lit) → Log.clause_of slots earlier h ≡ Some c → numbered clauses (hint_number numbers placed h) ≡ Some c

  last_is : (hs : List Hint) → Log.is_last hs ≡ true → is_last (map (hint_number numbers placed) hs) ≡ true
  last_is [] e = refl
  last_is (h ∷ hs) e = e

  -- what the clause says leads on alike
  goes_on_too : (marks : Marks) (ended ended_too : Bool) (rest rest_too : Marks → Bool) → (ended ≡ true → ended_too ≡ true) → ((next : Marks) → rest next ≡ true → rest_too next ≡ true)
      → (f : Finding) → goes_on marks ended rest f ≡ true → goes_on marks ended_too rest_too f ≡ true
  goes_on_too marks ended ended_too rest rest_too last more AllFalse e = last e
  goes_on_too marks ended ended_too rest rest_too last more (Unit l) e = more (marked marks l) e
  goes_on_too marks ended ended_too rest rest_too last more Open e = e

  -- the hints that are marked end well by their numbers
  module _ (needed : List Bool) (place : ℕ) (all : (h : Hint) → has_named needed place h ≡ true → HasNumber h) where
    ends_too : (hs : List Hint) → list_all (has_named needed place) hs ≡ true → (marks : Marks) → Log.ends_well slots earlier hs marks ≡ true
        → ends_well clauses (map (hint_number numbers placed) hs) marks ≡ true
    ends_too [] has marks e = e
    ends_too (h ∷ hs) has marks e =
        let parts = and_parts (has_named needed place h) (list_all (has_named needed place) hs) has in
        by (all h parts.0) (λ next. ends_too hs parts.1 next) (Log.clause_of slots earlier h) refl
      where
        rest : Marks → Bool
        rest = ends_well clauses (map (hint_number numbers placed) hs)

        by : HasNumber h → ((next : Marks) → Log.ends_well slots earlier hs next ≡ true → rest next ≡ true) → (o : Option (List Lit)) → Log.clause_of slots earlier h ≡ o
            → goes_on_from marks (is_last (map (hint_number numbers placed) hs)) rest (numbered clauses (hint_number numbers placed h)) ≡ true
        by named more None none = absurd (cc (sym (ap (goes_on_from marks (Log.is_last hs) (Log.ends_well slots earlier hs)) none) ∙ e))
        by named more (Some c) at =
            ap (goes_on_from marks (is_last (map (hint_number numbers placed) hs)) rest) (named.number c at)
            ∙ goes_on_too marks (Log.is_last hs) (is_last (map (hint_number numbers placed) hs)) (Log.ends_well slots earlier hs) rest (last_is hs) more (look_at marks c)
            (sym (ap (goes_on_from marks (Log.is_last hs) (Log.ends_well slots earlier hs)) at) ∙ e)

    pub follows_too : (bools : ℕ) (s : Step) → list_all (has_named needed place) s.hints ≡ true
        → (is_clause bools s.clause && Log.ends_well slots earlier s.hints (denied (nothing bools) s.clause)) ≡ true
        → follows bools clauses (map literal_with s.clause) (map (hint_number numbers placed) s.hints) ≡ true
    follows_too bools s has e =
        let parts = and_parts (is_clause bools s.clause) (Log.ends_well slots earlier s.hints (denied (nothing bools) s.clause)) e in
        let clause = and_parts (list_all (in_range bools) s.clause) (distinct s.clause) parts.0 in
        let back = literals_back s.clause in
        let ends : ends_well clauses (map (hint_number numbers placed) s.hints) (denied (nothing bools) s.clause) ≡ true = ends_too s.hints has (denied (nothing bools) s.clause) parts.1 in
        and_from (list_all (names_boolean bools) (map literal_with s.clause))
        (distinct (map literal_of (map literal_with s.clause)) && ends_well clauses (map (hint_number numbers placed) s.hints) (denied (nothing bools) (map literal_of (map literal_with s.clause))))
        (are_named bools s.clause clause.0)
        (rw back (and_from (distinct s.clause) (ends_well clauses (map (hint_number numbers placed) s.hints) (denied (nothing bools) s.clause)) clause.1 ends))

    -- so does the empty clause, by what denies the step's literals first
    pub denied_follows : (units : List ℕ) (bools : ℕ) (s : Step) → list_all (has_named needed place) s.hints ≡ true → ((m : Lit) → Contains s.clause m → numbered clauses (unit_number units m) ≡ Some (neg m ∷ []))
        → (is_clause bools s.clause && Log.ends_well slots earlier s.hints (denied (nothing bools) s.clause)) ≡ true
        → follows bools clauses [] (map (unit_number units) s.clause ++ map (hint_number numbers placed) s.hints) ≡ true
    denied_follows units bools s has there e =
        let parts = and_parts (is_clause bools s.clause) (Log.ends_well slots earlier s.hints (denied (nothing bools) s.clause)) e in
        let clause = and_parts (list_all (in_range bools) s.clause) (distinct s.clause) parts.0 in
        let ends : ends_well clauses (map (hint_number numbers placed) s.hints) (denied (nothing bools) s.clause) ≡ true = ends_too s.hints has (denied (nothing bools) s.clause) parts.1 in
        denied_first clauses units (map (hint_number numbers placed) s.hints) s.clause (nothing bools) there (all_free bools s.clause) clause.1 ends
