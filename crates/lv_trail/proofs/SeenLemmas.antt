-- What was seen stays so, and the negations of literals seen are a clause whose denial is these literals.
use Rattle.std.proofs.Common.{◌≡◌, ◌≢◌, ◌⊎◌, ℕ, suc, zero, ◌<◌, ◌≤◌, Bool, true, false, not, cond, List, [], ◌∷◌, length, take, map, filter, get_or, set, Option, Some, None, refl, sym, ap, ap₂, subst, ◌∙◌, arith, inl, inr, Contains}
use Rattle.std.specs.List.{list_all}
use Rattle.std.proofs.lemmas.Bool.{cases_eq, cases_lt}
use Rattle.std.proofs.lemmas.List.{get_or-set_same, get_or-set_other, length-set, set_past}
use Rattle.lv_base.specs.declared.ids.Lit.{Lit}
use Rattle.lv_clauses.specs.Literals.{neg, same_var, in_range, distinct, is_clause}
use Rattle.lv_clauses.specs.Marks.{Marks, is_marked, marked, mark_is}
use Rattle.lv_clauses.proofs.LiteralLemmas.{neg_neg, and_left, and_right, and_both, Contains-head, Contains-tail, Contains-cases}
use Rattle.lv_clauses.proofs.MarkLemmas.{is_marked-marked_cases, same_truth-self}
use Rattle.lv_clauses.specs.Following.{denied}
use Rattle.lv_trail.specs.Analysis.{sees, seen_all}
use Rattle.lv_trail.proofs.ListLemmas.{eq_is, not_true}

-- sees
sees_set : (seen : List Bool) (v : ℕ) (l : Lit) → sees seen l ≡ true → sees (set seen v true) l ≡ true
sees_set seen v l e = by_place (cases_eq l.var.0 v) (cases_lt v (length seen))
  where
    by_place : (l.var.0 ≡ v) ⊎ (l.var.0 ≢ v) → (v < length seen) ⊎ (length seen ≤ v) → sees (set seen v true) l ≡ true
    by_place (inl same) (inl within) = ap (λ k. get_or (set seen v true) k false) same ∙ get_or-set_same seen v true false within
    by_place (inl same) (inr past) = ap (λ s. sees s l) (set_past seen v true past) ∙ e
    by_place (inr differs) within = get_or-set_other seen v l.var.0 true false differs ∙ e

pub sees_keeps : (seen : List Bool) (c : List Lit) (l : Lit) → sees seen l ≡ true → sees (seen_all seen c) l ≡ true
sees_keeps seen [] l e = e
sees_keeps seen (x ∷ xs) l e = sees_keeps (set seen x.var.0 true) xs l (sees_set seen x.var.0 l e)

pub sees_member : (seen : List Bool) (c : List Lit) (l : Lit) → Contains c l → l.var.0 < length seen → sees (seen_all seen c) l ≡ true
sees_member seen [] l h within = absurd (omega (arith, h.1))
sees_member seen (x ∷ xs) l h within = by_place (Contains-cases x l xs h) (λ more. sees_member (set seen x.var.0 true) xs l more (subst (λ n. l.var.0 < n) (sym (length-set seen x.var.0 true)) within))
  where
    by_place : (x ≡ l) ⊎ Contains xs l → (Contains xs l → sees (seen_all (set seen x.var.0 true) xs) l ≡ true) → sees (seen_all (set seen x.var.0 true) xs) l ≡ true
    by_place (inl same) rest =
        sees_keeps (set seen x.var.0 true) xs l
        (ap (λ (k : Lit). get_or (set seen k.var.0 true) l.var.0 false) same ∙ get_or-set_same seen l.var.0 true false within)
    by_place (inr more) rest = rest more

pub seen_len : (seen : List Bool) (c : List Lit) → length (seen_all seen c) ≡ length seen
seen_len seen [] = refl
seen_len seen (x ∷ xs) = seen_len (set seen x.var.0 true) xs ∙ length-set seen x.var.0 true

-- filters
pub in_filter : {X : Type 0} (p : X → Bool) (xs : List X) (x : X) → Contains xs x → p x ≡ true → Contains (filter p xs) x
in_filter p [] x h e = absurd (omega (arith, h.1))
in_filter p (y ∷ ys) x h e = by_value (p y) refl (Contains-cases y x ys h) (λ more. in_filter p ys x more e)
  where
    by_value : (b : Bool) → p y ≡ b → (y ≡ x) ⊎ Contains ys x → (Contains ys x → Contains (filter p ys) x) → Contains (cond (p y) (y ∷ filter p ys) (filter p ys)) x
    by_value true v (inl same) rest = rw v (subst (λ k. Contains (y ∷ filter p ys) k) same (Contains-head y (filter p ys)))
    by_value true v (inr more) rest = rw v (Contains-tail y x (filter p ys) (rest more))
    by_value false v (inl same) rest = absurd (cc (v, ap p same, e))
    by_value false v (inr more) rest = rw v (rest more)

pub from_filter : {X : Type 0} (p : X → Bool) (xs : List X) (x : X) → Contains (filter p xs) x → Contains xs x
from_filter p [] x h = h
from_filter p (y ∷ ys) x h = by_value (p y) refl h (λ more. from_filter p ys x more)
  where
    by_value : (b : Bool) → p y ≡ b → Contains (cond (p y) (y ∷ filter p ys) (filter p ys)) x → (Contains (filter p ys) x → Contains ys x) → Contains (y ∷ ys) x
    by_value true v h rest = by_place (Contains-cases y x (filter p ys) (rw v at h))
      where
        by_place : (y ≡ x) ⊎ Contains (filter p ys) x → Contains (y ∷ ys) x
        by_place (inl same) = subst (λ k. Contains (y ∷ ys) k) same (Contains-head y ys)
        by_place (inr more) = Contains-tail y x ys (rest more)
    by_value false v h rest = Contains-tail y x ys (rest (rw v at h))

pub filter_same : {X : Type 0} (p q : X → Bool) (xs : List X) → ((x : X) → Contains xs x → p x ≡ q x) → filter p xs ≡ filter q xs
filter_same p q [] each = refl
filter_same p q (x ∷ xs) each =
    ap₂ (λ b ys. cond b (x ∷ ys) ys) (each x (Contains-head x xs)) (filter_same p q xs (λ y h. each y (Contains-tail x y xs h)))

pub filter_none : {X : Type 0} (p : X → Bool) (xs : List X) → ((x : X) → Contains xs x → p x ≡ false) → filter p xs ≡ []
filter_none p [] each = refl
filter_none p (x ∷ xs) each =
    ap₂ (λ b ys. cond b (x ∷ ys) ys) (each x (Contains-head x xs)) (filter_none p xs (λ y h. each y (Contains-tail x y xs h)))

pub contains_take : {X : Type 0} (k : ℕ) (xs : List X) (x : X) → Contains (take k xs) x → Contains xs x
contains_take zero xs x h = absurd (omega (arith, h.1))
contains_take (suc k) [] x h = h
contains_take (suc k) (y ∷ ys) x h = by_place (Contains-cases y x (take k ys) h) (λ more. contains_take k ys x more)
  where
    by_place : (y ≡ x) ⊎ Contains (take k ys) x → (Contains (take k ys) x → Contains ys x) → Contains (y ∷ ys) x
    by_place (inl same) rest = subst (λ z. Contains (y ∷ ys) z) same (Contains-head y ys)
    by_place (inr more) rest = Contains-tail y x ys (rest more)

-- members of a list of negations
pub in_map : (ls : List Lit) (l : Lit) → Contains ls l → Contains (map neg ls) (neg l)
in_map [] l h = absurd (omega (arith, h.1))
in_map (x ∷ xs) l h = by_place (Contains-cases x l xs h) (λ more. in_map xs l more)
  where
    by_place : (x ≡ l) ⊎ Contains xs l → (Contains xs l → Contains (map neg xs) (neg l)) → Contains (neg x ∷ map neg xs) (neg l)
    by_place (inl same) rest = subst (λ k. Contains (neg x ∷ map neg xs) (neg k)) same (Contains-head (neg x) (map neg xs))
    by_place (inr more) rest = Contains-tail (neg x) (neg l) (map neg xs) (rest more)

pub from_map : (ls : List Lit) (l : Lit) → Contains (map neg ls) l → Contains ls (neg l)
from_map [] l h = absurd (omega (arith, h.1))
from_map (x ∷ xs) l h = by_place (Contains-cases (neg x) l (map neg xs) h) (λ more. from_map xs l more)
  where
    by_place : (neg x ≡ l) ⊎ Contains (map neg xs) l → (Contains (map neg xs) l → Contains xs (neg l)) → Contains (x ∷ xs) (neg l)
    by_place (inl same) rest = subst (λ k. Contains (x ∷ xs) k) (sym (neg_neg x) ∙ ap neg same) (Contains-head x xs)
    by_place (inr more) rest = Contains-tail x (neg l) xs (rest more)

-- the negations of some literals of a clause are a clause
kept_all : (q p : Lit → Bool) → ((l : Lit) → q (neg l) ≡ q l) → (ls : List Lit) → list_all q ls ≡ true → list_all q (map neg (filter p ls)) ≡ true
kept_all q p turned [] e = refl
kept_all q p turned (x ∷ xs) e = by_value (p x) refl (kept_all q p turned xs (and_right (q x) (list_all q xs) e))
  where
    by_value : (b : Bool) → p x ≡ b → list_all q (map neg (filter p xs)) ≡ true → list_all q (map neg (cond (p x) (x ∷ filter p xs) (filter p xs))) ≡ true
    by_value true v rest = rw v (and_both (q (neg x)) (list_all q (map neg (filter p xs))) (turned x ∙ and_left (q x) (list_all q xs) e) rest)
    by_value false v rest = rw v rest

kept_distinct : (p : Lit → Bool) (ls : List Lit) → distinct ls ≡ true → distinct (map neg (filter p ls)) ≡ true
kept_distinct p [] e = refl
kept_distinct p (x ∷ xs) e = by_value (p x) refl (kept_distinct p xs (and_right (list_all (λ m. not (same_var x m)) xs) (distinct xs) e))
  where
    by_value : (b : Bool) → p x ≡ b → distinct (map neg (filter p xs)) ≡ true → distinct (map neg (cond (p x) (x ∷ filter p xs) (filter p xs))) ≡ true
    by_value true v rest =
        rw v (and_both (list_all (λ m. not (same_var x m)) (map neg (filter p xs))) (distinct (map neg (filter p xs))) (kept_all (λ m. not (same_var x m)) p (λ l. refl) xs (and_left (list_all (λ m. not (same_var x m)) xs) (distinct xs) e)) rest)
    by_value false v rest = rw v rest

pub denial_clause : (n : ℕ) (p : Lit → Bool) (ls : List Lit) → is_clause n ls ≡ true → is_clause n (map neg (filter p ls)) ≡ true
denial_clause n p ls e =
    and_both (list_all (in_range n) (map neg (filter p ls))) (distinct (map neg (filter p ls))) (kept_all (in_range n) p (λ l. refl) ls (and_left (list_all (in_range n) ls) (distinct ls) e))
    (kept_distinct p ls (and_right (list_all (in_range n) ls) (distinct ls) e))

-- the marks of a denial
pub denied_len : (marks : Marks) (c : List Lit) → length (denied marks c) ≡ length marks
denied_len marks [] = refl
denied_len marks (l ∷ ls) = denied_len (marked marks (neg l)) ls ∙ length-set marks l.var.0 (Some (not l.sign))

pub denied_only : (marks : Marks) (c : List Lit) (l : Lit) → is_marked (denied marks c) l ≡ true → (is_marked marks l ≡ true) ⊎ Contains c (neg l)
denied_only marks [] l e = inl e
denied_only marks (x ∷ xs) l e = by_place (denied_only (marked marks (neg x)) xs l e)
  where
    by_mark : (l ≡ neg x) ⊎ (is_marked marks l ≡ true) → (is_marked marks l ≡ true) ⊎ Contains (x ∷ xs) (neg l)
    by_mark (inl same) = inr (subst (λ k. Contains (x ∷ xs) k) (sym (neg_neg x) ∙ ap neg (sym same)) (Contains-head x xs))
    by_mark (inr was) = inl was

    by_place : (is_marked (marked marks (neg x)) l ≡ true) ⊎ Contains xs (neg l) → (is_marked marks l ≡ true) ⊎ Contains (x ∷ xs) (neg l)
    by_place (inl now) = by_mark (is_marked-marked_cases marks (neg x) l now)
    by_place (inr more) = inr (Contains-tail x (neg l) xs more)

pub marked_other : (marks : Marks) (l m : Lit) → m.var.0 ≢ l.var.0 → is_marked marks m ≡ true → is_marked (marked marks l) m ≡ true
marked_other marks l m differs e = ap (λ (o : Option Bool). mark_is o m.sign) (get_or-set_other marks l.var.0 m.var.0 (Some l.sign) None differs) ∙ e

pub marked_self : (marks : Marks) (l : Lit) → l.var.0 < length marks → is_marked (marked marks l) l ≡ true
marked_self marks l within = ap (λ (o : Option Bool). mark_is o l.sign) (get_or-set_same marks l.var.0 (Some l.sign) None within) ∙ same_truth-self l.sign

pub all_apart : (l : Lit) (ls : List Lit) (m : Lit) → list_all (λ k. not (same_var l k)) ls ≡ true → Contains ls m → m.var.0 ≢ l.var.0
all_apart l [] m e h same = absurd (omega (arith, h.1))
all_apart l (x ∷ xs) m e h same = by_place (Contains-cases x m xs h) (λ more. all_apart l xs m (and_right (not (same_var l x)) (list_all (λ k. not (same_var l k)) xs) e) more same)
  where
    by_place : (x ≡ m) ⊎ Contains xs m → (Contains xs m → ⊥) → ⊥
    by_place (inl is) rest = not_true (same_var l x) (and_left (not (same_var l x)) (list_all (λ k. not (same_var l k)) xs) e) (eq_is l.var.0 x.var.0 (sym (ap (λ (k : Lit). k.var.0) is ∙ same)))
    by_place (inr more) rest = rest more

denied_keeps : (marks : Marks) (c : List Lit) (l : Lit) → ((k : Lit) → Contains c k → k.var.0 ≢ l.var.0) → is_marked marks l ≡ true → is_marked (denied marks c) l ≡ true
denied_keeps marks [] l apart e = e
denied_keeps marks (x ∷ xs) l apart e =
    denied_keeps (marked marks (neg x)) xs l (λ k h. apart k (Contains-tail x k xs h)) (marked_other marks (neg x) l (λ f. apart x (Contains-head x xs) (sym f)) e)

pub denied_has : (marks : Marks) (c : List Lit) (l : Lit) → distinct c ≡ true → Contains c l → l.var.0 < length marks → is_marked (denied marks c) (neg l) ≡ true
denied_has marks [] l e h within = absurd (omega (arith, h.1))
denied_has marks (x ∷ xs) l e h within =
    by_place (Contains-cases x l xs h)
    (λ more. denied_has (marked marks (neg x)) xs l (and_right (list_all (λ k. not (same_var x k)) xs) (distinct xs) e) more (subst (λ n. l.var.0 < n) (sym (length-set marks x.var.0 (Some (not x.sign)))) within))
  where
    by_place : (x ≡ l) ⊎ Contains xs l → (Contains xs l → is_marked (denied (marked marks (neg x)) xs) (neg l) ≡ true) → is_marked (denied (marked marks (neg x)) xs) (neg l) ≡ true
    by_place (inl same) rest =
        denied_keeps (marked marks (neg x)) xs (neg l)
        (λ k h2 f. all_apart x xs k (and_left (list_all (λ m. not (same_var x m)) xs) (distinct xs) e) h2 (f ∙ ap (λ (m : Lit). m.var.0) (sym same)))
        (subst (λ (k : Lit). is_marked (marked marks (neg k)) (neg l) ≡ true) (sym same) (marked_self marks (neg l) within))
    by_place (inr more) rest = rest more
