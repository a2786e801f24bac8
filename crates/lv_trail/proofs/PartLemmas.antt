-- Parts of lists of literals, and the entries without a reason as a part of all.
use Rattle.std.proofs.Common.{◌≡◌, ◌≢◌, ◌⊎◌, ◌↔◌, ℕ, nat_eq, suc, zero, ◌+◌, ◌<◌, ◌≤◌, Bool, true, false, not, List, [], ◌∷◌, ◌++◌, length, cond, take, drop, get_or, Option, Some, None, is_none, refl, sym, ap, subst, ◌∙◌, arith, inl, inr, Contains}
use Rattle.std.specs.List.{list_all}
use Rattle.std.proofs.lemmas.List.{append-nil, drop_all, drop_more, length-drop}
use Rattle.std.proofs.lemmas.List.Elements.{filter-append}
use Rattle.lv_base.specs.declared.ids.Lit.{Lit}
use Rattle.lv_clauses.specs.Literals.{same_var, in_range, distinct, is_clause}
use Rattle.lv_clauses.proofs.LiteralLemmas.{and_left, and_right, and_both, Contains-head, Contains-tail, Contains-cases}
use Rattle.lv_clauses.specs.declared.log.Hint.{Hint}
use Rattle.lv_trail.specs.Part.{IsSublist, nothing as no_literals, left_out, taken}
use Rattle.lv_trail.specs.declared.trail.Entry.{Entry}
use Rattle.lv_trail.specs.Trail.{lits_of, unforced}
use Rattle.lv_trail.proofs.TrailLemmas.{lits_push}

pub part_passes : (p : Lit → Bool) (core whole : List Lit) → IsSublist core whole → list_all p whole ≡ true → list_all p core ≡ true
part_passes p _ _ no_literals h = refl
part_passes p core _ (left_out {whole = ls} l s) h = part_passes p core ls s (and_right (p l) (list_all p ls) h)
part_passes p _ _ (taken {core = cs} {whole = ls} l s) h =
    and_both (p l) (list_all p cs) (and_left (p l) (list_all p ls) h) (part_passes p cs ls s (and_right (p l) (list_all p ls) h))

part_distinct : (core whole : List Lit) → IsSublist core whole → distinct whole ≡ true → distinct core ≡ true
part_distinct _ _ no_literals h = refl
part_distinct core _ (left_out {whole = ls} l s) h = part_distinct core ls s (and_right (list_all (λ (m : Lit). not (same_var l m)) ls) (distinct ls) h)
part_distinct _ _ (taken {core = cs} {whole = ls} l s) h =
    and_both (list_all (λ (m : Lit). not (same_var l m)) cs) (distinct cs)
    (part_passes (λ (m : Lit). not (same_var l m)) cs ls s (and_left (list_all (λ (m : Lit). not (same_var l m)) ls) (distinct ls) h))
    (part_distinct cs ls s (and_right (list_all (λ (m : Lit). not (same_var l m)) ls) (distinct ls) h))

-- a part of a clause is a clause
pub part_clause : (n : ℕ) (core whole : List Lit) → IsSublist core whole → is_clause n whole ≡ true → is_clause n core ≡ true
part_clause n core whole s h =
    and_both (list_all (in_range n) core) (distinct core) (part_passes (in_range n) core whole s (and_left (list_all (in_range n) whole) (distinct whole) h))
    (part_distinct core whole s (and_right (list_all (in_range n) whole) (distinct whole) h))

pub part_member : (core whole : List Lit) → IsSublist core whole → (l : Lit) → Contains core l → Contains whole l
part_member _ _ no_literals l h = h
part_member core _ (left_out {whole = ls} m s) l h = Contains-tail m l ls (part_member core ls s l h)
part_member _ _ (taken {core = cs} {whole = ls} m s) l h = by_place (Contains-cases m l cs h) (λ rest. part_member cs ls s l rest)
  where
    by_place : (m ≡ l) ⊎ Contains cs l → (Contains cs l → Contains ls l) → Contains (m ∷ ls) l
    by_place (inl same) more = subst (λ (x : Lit). Contains (m ∷ ls) x) same (Contains-head m ls)
    by_place (inr rest) more = Contains-tail m l ls (more rest)

-- a part of a part is a part
pub part_then : (a b c : List Lit) → IsSublist a b → IsSublist b c → IsSublist a c
part_then a b _ s (left_out {whole = ls} l t) = left_out l (part_then a b ls s t)
part_then _ _ _ no_literals no_literals = no_literals
part_then a _ _ (left_out l s) (taken {core = bs} {whole = ls} _ t) = left_out l (part_then a bs ls s t)
part_then _ _ _ (taken {core = cs} l s) (taken {core = bs} {whole = ls} _ t) = taken l (part_then cs bs ls s t)

pub part_nothing : (ls : List Lit) → IsSublist [] ls
part_nothing [] = no_literals
part_nothing (l ∷ ls) = left_out l (part_nothing ls)

pub part_self : (ls : List Lit) → IsSublist ls ls
part_self [] = no_literals
part_self (l ∷ ls) = taken l (part_self ls)

pub part_more : (a b : List Lit) (l : Lit) → IsSublist a b → IsSublist a (b ++ l ∷ [])
part_more _ _ l no_literals = left_out l no_literals
part_more a _ l (left_out {whole = ls} m s) = left_out m (part_more a ls l s)
part_more _ _ l (taken {core = cs} {whole = ls} m s) = taken m (part_more cs ls l s)

pub part_push : (a b : List Lit) (l : Lit) → IsSublist a b → IsSublist (a ++ l ∷ []) (b ++ l ∷ [])
part_push _ _ l no_literals = taken l no_literals
part_push a _ l (left_out {whole = ls} m s) = left_out m (part_push a ls l s)
part_push _ _ l (taken {core = cs} {whole = ls} m s) = taken m (part_push cs ls l s)

pub part_front : (k : ℕ) (ls : List Lit) → IsSublist (take k ls) ls
part_front zero ls = part_nothing ls
part_front (suc k) [] = no_literals
part_front (suc k) (l ∷ ls) = taken l (part_front k ls)

-- the entries without a reason
pub unforced_part : (entries : List Entry) → IsSublist (lits_of (unforced entries)) (lits_of entries)
unforced_part [] = no_literals
unforced_part (e ∷ es) = by_reason (is_none e.reason) refl (unforced_part es)
  where
    by_reason : (b : Bool) → is_none e.reason ≡ b → IsSublist (lits_of (unforced es)) (lits_of es) → IsSublist (lits_of (cond (is_none e.reason) (e ∷ unforced es) (unforced es))) (e.lit ∷ lits_of es)
    by_reason true f rest = rw f (taken e.lit rest)
    by_reason false f rest = rw f (left_out e.lit rest)

pub unforced_more : (xs ys : List Entry) → unforced (xs ++ ys) ≡ unforced xs ++ unforced ys
unforced_more xs ys = filter-append (λ (e : Entry). is_none e.reason) xs ys

pub unforced_forced : (xs : List Entry) (l : Lit) (h : Hint) → unforced (xs ++ record { lit = l; reason = Some h } ∷ []) ≡ unforced xs
unforced_forced xs l h = unforced_more xs (record { lit = l; reason = Some h } ∷ []) ∙ append-nil (unforced xs)

pub unforced_push : (xs : List Entry) (l : Lit) → lits_of (unforced (xs ++ record { lit = l; reason = None } ∷ [])) ≡ lits_of (unforced xs) ++ l ∷ []
unforced_push xs l =
    ap (λ (es : List Entry). lits_of es) (unforced_more xs (record { lit = l; reason = None } ∷ []))
    ∙ lits_push (unforced xs) (record { lit = l; reason = None })

-- an entry without a reason is one of these
pub unforced_member : (entries : List Entry) (place : ℕ) (d : Entry) → place < length entries → (get_or entries place d).reason ≡ None → Contains (lits_of (unforced entries)) (get_or entries place d).lit
unforced_member [] place d within is = absurd (omega (arith, within))
unforced_member (e ∷ es) zero d within is =
    subst (λ (xs : List Entry). Contains (lits_of xs) e.lit) (sym (ap (λ (r : Option Hint). cond (is_none r) (e ∷ unforced es) (unforced es)) is)) (Contains-head e.lit (lits_of (unforced es)))
unforced_member (e ∷ es) (suc k) d within is = by_reason (is_none e.reason) refl (unforced_member es k d (omega (arith, within)) is)
  where
    by_reason : (b : Bool) → is_none e.reason ≡ b → Contains (lits_of (unforced es)) (get_or es k d).lit → Contains (lits_of (cond (is_none e.reason) (e ∷ unforced es) (unforced es))) (get_or es k d).lit
    by_reason true f rest = rw f (Contains-tail e.lit (get_or es k d).lit (lits_of (unforced es)) rest)
    by_reason false f rest = rw f rest

pub unforced_front : (entries : List Entry) (count : ℕ) → IsSublist (lits_of (unforced (take count entries))) (lits_of (unforced entries))
unforced_front entries zero = part_nothing (lits_of (unforced entries))
unforced_front [] (suc k) = no_literals
unforced_front (e ∷ es) (suc k) = by_reason (is_none e.reason) refl (unforced_front es k)
  where
    by_reason : (b : Bool) → is_none e.reason ≡ b → IsSublist (lits_of (unforced (take k es))) (lits_of (unforced es))
        → IsSublist (lits_of (cond (is_none e.reason) (e ∷ unforced (take k es)) (unforced (take k es)))) (lits_of (cond (is_none e.reason) (e ∷ unforced es) (unforced es)))
    by_reason true f rest = rw f (taken e.lit rest)
    by_reason false f rest = rw f rest

-- what stands behind a literal of a clause is of another boolean
pub distinct_behind : (xs ys : List Lit) (l : Lit) → distinct (xs ++ l ∷ ys) ≡ true → list_all (λ k. not (same_var l k)) ys ≡ true
distinct_behind [] ys l e = and_left (list_all (λ k. not (same_var l k)) ys) (distinct ys) e
distinct_behind (x ∷ xs) ys l e = distinct_behind xs ys l (and_right (list_all (λ k. not (same_var x k)) (xs ++ l ∷ ys)) (distinct (xs ++ l ∷ ys)) e)

-- how a walk along both lists tells whether one is a part of the other
part_tail : (a b : List Lit) (l : Lit) → IsSublist (l ∷ a) b → IsSublist a b
part_tail a _ l (left_out {whole = ls} m s) = left_out m (part_tail a ls l s)
part_tail _ _ _ (taken l s) = left_out l s

part_met : (a b : List Lit) (l m : Lit) → IsSublist (l ∷ a) (m ∷ b) → IsSublist a b
part_met a b l _ (left_out _ s) = part_tail a b l s
part_met _ _ _ _ (taken _ s) = s

part_passed : (a b : List Lit) (l m : Lit) → l ≢ m → IsSublist (l ∷ a) (m ∷ b) → IsSublist (l ∷ a) b
part_passed a b l m differs (left_out _ s) = s
part_passed a b l _ differs (taken _ s) = absurd (differs refl)

part_ended : (part : List Lit) → IsSublist part [] → part ≡ []
part_ended _ no_literals = refl

module _ (part whole : List Lit) (met at : ℕ) (d : Lit) (Whole : Type 0) (in_whole : at < length whole) (rest : IsSublist (drop met part) (drop at whole) ↔ Whole) where
  behind : drop at whole ≡ get_or whole at d ∷ drop (at + 1) whole
  behind = drop_more whole at d in_whole

  pub walk_met : met < length part → get_or part met d ≡ get_or whole at d → IsSublist (drop (met + 1) part) (drop (at + 1) whole) ↔ Whole
  walk_met within same = (
    λ s. rest.0 (subst (λ ls. IsSublist ls (drop at whole)) (sym split) (subst (IsSublist (get_or whole at d ∷ drop (met + 1) part)) (sym behind) (taken (get_or whole at d) s))),
    λ w. part_met (drop (met + 1) part) (drop (at + 1) whole) (get_or whole at d) (get_or whole at d) (subst (IsSublist (get_or whole at d ∷ drop (met + 1) part)) behind (subst (λ ls. IsSublist ls (drop at whole)) split (rest.1 w))),
  )
    where
      split : drop met part ≡ get_or whole at d ∷ drop (met + 1) part
      split = drop_more part met d within ∙ ap (λ l. l ∷ drop (met + 1) part) same

  pub walk_passed : get_or part met d ≢ get_or whole at d → met < length part → IsSublist (drop met part) (drop (at + 1) whole) ↔ Whole
  walk_passed differs within = (
    λ s. rest.0 (subst (IsSublist (drop met part)) (sym behind) (left_out (get_or whole at d) s)),
    λ w.
        subst (λ ls. IsSublist ls (drop (at + 1) whole)) (sym split)
        (part_passed (drop (met + 1) part) (drop (at + 1) whole) (get_or part met d) (get_or whole at d) differs (subst (IsSublist (get_or part met d ∷ drop (met + 1) part)) behind (subst (λ ls. IsSublist ls (drop at whole)) split (rest.1 w)))),
  )
    where
      split : drop met part ≡ get_or part met d ∷ drop (met + 1) part
      split = drop_more part met d within

  pub walk_over : length part ≤ met → IsSublist (drop met part) (drop (at + 1) whole) ↔ Whole
  walk_over past = (
    λ s. rest.0 (subst (λ ls. IsSublist ls (drop at whole)) (sym (drop_all met part past)) (part_nothing (drop at whole))),
    λ w. subst (λ ls. IsSublist ls (drop (at + 1) whole)) (sym (drop_all met part past)) (part_nothing (drop (at + 1) whole)),
  )

-- at its end all of the part was met, or it is none
pub walk_end : (part whole : List Lit) (met at : ℕ) (Whole : Type 0) → met ≤ length part → length whole ≤ at → (IsSublist (drop met part) (drop at whole) ↔ Whole) → ((nat_eq met (length part) ≡ true) ↔ Whole)
walk_end part whole met at Whole within past rest = (
  λ same. rest.0 (subst (λ ls. IsSublist ls (drop at whole)) (sym (drop_all met part (grind (arith, same)))) (part_nothing (drop at whole))),
  λ w. grind (arith, within, ap length (part_ended (drop met part) (subst (IsSublist (drop met part)) (drop_all at whole past) (rest.1 w))), length-drop met part),
)
