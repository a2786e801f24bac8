-- The literals of pairs are of distinct booleans, other than those that are assumed.
use Rattle.std.proofs.Common.{◌≡◌, ℕ, suc, zero, ◌+◌, ◌<◌, ◌≤◌, Bool, true, false, not, nat_eq, nat_lt, List, [], ◌∷◌, ◌++◌, take, get_or, Some, None, cond, append_assoc, refl, ap, ◌∙◌, arith, All}
use Rattle.std.specs.List.{list_all, find, sum}
use Rattle.std.proofs.lemmas.Bool.{and_parts, and_from, lt-ltb, ltb-true}
use Rattle.std.proofs.lemmas.Bool.Decides.{nat_tests}
use Rattle.std.proofs.lemmas.List.Elements.{All-tail}
use Rattle.std.proofs.lemmas.List.Folds.{list_all-append}
use Rattle.std.proofs.lemmas.List.Sums.{sum_by-cons}
use Rattle.lv_base.specs.declared.ids.Lit.{Lit}
use Rattle.lv_base.specs.declared.search.Pair.{Pair}
use Rattle.lv_base.specs.Choices.{slots_rise_from}
use Rattle.lv_clauses.specs.Literals.{same_var, in_range, distinct, is_clause}
use Rattle.lv_clauses.specs.ClauseMap.{ClauseMap}
use Rattle.lv_clauses.specs.Noted.{is_of}
use Rattle.lv_compile.proofs.BooleanLemmas.{is_there, among_all}
use Rattle.lv_system.specs.Choices.{Choices}
use Rattle.lv_asking.specs.Literals.{pair_literal, pair_literals, HasMove}
use Rattle.lv_asking.specs.Asking.{AskingValue, IsPartial, IsFresh, IsAsking}

-- the booleans of an earlier slot come before those of a later one
earlier_first : (counts : List ℕ) (k j n : ℕ) → k < j → n < get_or counts k 0 → sum (take k counts) + n < sum (take j counts)
earlier_first [] k j n less below = absurd (omega (arith, below))
earlier_first (m ∷ ms) k zero n less below = absurd (omega (arith, less))
earlier_first (m ∷ ms) zero (suc j) n less below = let more = sum_by-cons (λ (x : ℕ). x) m (take j ms) in omega (arith, below, more)
earlier_first (m ∷ ms) (suc k) (suc j) n less below =
    let rest = earlier_first ms k j n (omega (arith, less)) below in
    let one = sum_by-cons (λ (x : ℕ). x) m (take k ms) in
    let other = sum_by-cons (λ (x : ℕ). x) m (take j ms) in
    omega (arith, rest, one, other)

eq_isnt : (a b : ℕ) → a < b → not (nat_eq a b) ≡ true
eq_isnt a b e = grind (arith, nat_tests)

eq_isnt_back : (a b : ℕ) → b < a → not (nat_eq a b) ≡ true
eq_isnt_back a b e = grind (arith, nat_tests)

-- pairs at later slots are of other booleans
apart_from_later : (c : Choices) (p : Pair) (low : ℕ) (ps : List Pair) → p.choice < get_or c.counts p.slot 0 → p.slot < low → slots_rise_from low ps ≡ true
    → list_all (λ (m : Lit). not (same_var (pair_literal c p) m)) (pair_literals c ps) ≡ true
apart_from_later c p low [] has less rise = refl
apart_from_later c p low (q ∷ ps) has less rise =
    let two = and_parts (nat_lt low (q.slot + 1)) (slots_rise_from (q.slot + 1) ps) rise in
    let above : low < q.slot + 1 = ltb-true low (q.slot + 1) two.0 in
    let before : p.slot < q.slot = omega (arith, less, above) in
    let sums = earlier_first c.counts p.slot q.slot p.choice before has in
    let first : c.first + sum (take p.slot c.counts) + p.choice < c.first + sum (take q.slot c.counts) + q.choice = omega (arith, sums) in
    and_from (not (same_var (pair_literal c p) (pair_literal c q))) (list_all (λ (m : Lit). not (same_var (pair_literal c p) m)) (pair_literals c ps))
    (eq_isnt (c.first + sum (take p.slot c.counts) + p.choice) (c.first + sum (take q.slot c.counts) + q.choice) first)
    (apart_from_later c p (q.slot + 1) ps has (omega (arith, before)) two.1)

-- pairs whose slots rise are of distinct booleans
pairs_distinct : (c : Choices) (low : ℕ) (ps : List Pair) → slots_rise_from low ps ≡ true → All (HasMove c.counts) ps → distinct (pair_literals c ps) ≡ true
pairs_distinct c low [] rise have = refl
pairs_distinct c low (p ∷ ps) rise have =
    let two = and_parts (nat_lt low (p.slot + 1)) (slots_rise_from (p.slot + 1) ps) rise in
    and_from (list_all (λ (m : Lit). not (same_var (pair_literal c p) m)) (pair_literals c ps)) (distinct (pair_literals c ps))
    (apart_from_later c p (p.slot + 1) ps (have 0 p (omega arith)).below (omega arith) two.1) (pairs_distinct c (p.slot + 1) ps two.1 (All-tail (HasMove c.counts) p ps have))

-- lists of distinct booleans, the second of which are below a number that the first aren't
abbrev from_on : ℕ → Lit → Bool
from_on n l = nat_lt n (l.var.0 + 1)

apart_from_lower : (n : ℕ) (l : Lit) (ms : List Lit) → n ≤ l.var.0 → list_all (in_range n) ms ≡ true → list_all (λ (m : Lit). not (same_var l m)) ms ≡ true
apart_from_lower n l [] above h = refl
apart_from_lower n l (m ∷ ms) above h =
    let two = and_parts (in_range n m) (list_all (in_range n) ms) h in
    let under : m.var.0 < n = ltb-true m.var.0 n two.0 in
    and_from (not (same_var l m)) (list_all (λ (m : Lit). not (same_var l m)) ms) (eq_isnt_back l.var.0 m.var.0 (omega (arith, under, above))) (apart_from_lower n l ms above two.1)

distinct_behind : (n : ℕ) (ls ms : List Lit) → list_all (from_on n) ls ≡ true → list_all (in_range n) ms ≡ true → distinct ls ≡ true → distinct ms ≡ true → distinct (ls ++ ms) ≡ true
distinct_behind n [] ms above under d e = e
distinct_behind n (l ∷ ls) ms above under d e =
    let two = and_parts (from_on n l) (list_all (from_on n) ls) above in
    let less : n < l.var.0 + 1 = ltb-true n (l.var.0 + 1) two.0 in
    let parts = and_parts (list_all (λ (m : Lit). not (same_var l m)) ls) (distinct ls) d in
    and_from (list_all (λ (m : Lit). not (same_var l m)) (ls ++ ms)) (distinct (ls ++ ms))
    (list_all-append (λ (m : Lit). not (same_var l m)) ls ms
    ∙ and_from (list_all (λ (m : Lit). not (same_var l m)) ls) (list_all (λ (m : Lit). not (same_var l m)) ms) parts.0 (apart_from_lower n l ms (omega (arith, less)) under))
    (distinct_behind n ls ms two.1 under parts.1 e)

pairs_from_on : (c : Choices) (ps : List Pair) → list_all (from_on c.first) (pair_literals c ps) ≡ true
pairs_from_on c [] = refl
pairs_from_on c (p ∷ ps) =
    and_from (from_on c.first (pair_literal c p)) (list_all (from_on c.first) (pair_literals c ps))
    (lt-ltb c.first (c.first + sum (take p.slot c.counts) + p.choice + 1) (omega arith)) (pairs_from_on c ps)

wider : (n m : ℕ) (ls : List Lit) → n ≤ m → list_all (in_range n) ls ≡ true → list_all (in_range m) ls ≡ true
wider n m [] few h = refl
wider n m (l ∷ ls) few h =
    let two = and_parts (in_range n l) (list_all (in_range n) ls) h in
    let under : l.var.0 < n = ltb-true l.var.0 n two.0 in
    and_from (in_range m l) (list_all (in_range m) ls) (lt-ltb l.var.0 m (omega (arith, under, few))) (wider n m ls few two.1)

module _ (set : ClauseMap) (choices : Choices) (fit : choices.first + sum choices.counts ≤ set.bools) where
  choice_in_range : (p : Pair) → HasMove choices.counts p → in_range set.bools (pair_literal choices p) ≡ true
  choice_in_range p has =
      let below = has.below in
      let among = among_all choices.counts p.slot (is_there choices.counts p.slot p.choice below) in
      lt-ltb (choices.first + sum (take p.slot choices.counts) + p.choice) set.bools (omega (arith, among, below, fit))

  pairs_in_range : (ps : List Pair) → All (HasMove choices.counts) ps → list_all (in_range set.bools) (pair_literals choices ps) ≡ true
  pairs_in_range [] have = refl
  pairs_in_range (p ∷ ps) have =
      and_from (in_range set.bools (pair_literal choices p)) (list_all (in_range set.bools) (pair_literals choices ps)) (choice_in_range p (have 0 p (omega arith)))
      (pairs_in_range ps (All-tail (HasMove choices.counts) p ps have))

  -- choices, and a clause over the booleans before theirs, are of distinct booleans
  behind_is_clause : (pairs : List Pair) → IsPartial choices.counts pairs → (lits : List Lit) → is_clause choices.first lits ≡ true → is_clause set.bools (pair_literals choices pairs ++ lits) ≡ true
  behind_is_clause pairs partial lits clause =
      let two = and_parts (list_all (in_range choices.first) lits) (distinct lits) clause in
      and_from (list_all (in_range set.bools) (pair_literals choices pairs ++ lits)) (distinct (pair_literals choices pairs ++ lits))
      (list_all-append (in_range set.bools) (pair_literals choices pairs) lits
      ∙ and_from (list_all (in_range set.bools) (pair_literals choices pairs)) (list_all (in_range set.bools) lits) (pairs_in_range pairs partial.moves)
      (wider choices.first set.bools lits (omega (arith, fit)) two.0))
      (distinct_behind choices.first (pair_literals choices pairs) lits (pairs_from_on choices pairs) two.0 (pairs_distinct choices 0 pairs partial.rising partial.moves) two.1)

differ : (a b : ℕ) → nat_eq b a ≡ false → not (nat_eq a b) ≡ true
differ a b e = grind (arith, nat_tests, e)

-- a literal is apart from those of which none is of its boolean
apart_from_others : (l : Lit) (ms : List Lit) → find (is_of l.var.0) ms ≡ None → list_all (λ (m : Lit). not (same_var l m)) ms ≡ true
apart_from_others l [] e = refl
apart_from_others l (m ∷ ms) e = by (is_of l.var.0 m) refl e (apart_from_others l ms)
  where
    by : (b : Bool) → is_of l.var.0 m ≡ b → cond b (Some m) (find (is_of l.var.0) ms) ≡ None → (find (is_of l.var.0) ms ≡ None → list_all (λ (k : Lit). not (same_var l k)) ms ≡ true)
        → list_all (λ (k : Lit). not (same_var l k)) (m ∷ ms) ≡ true
    by true is e rest = absurd (cc e)
    by false isnt e rest = and_from (not (same_var l m)) (list_all (λ (k : Lit). not (same_var l k)) ms) (differ l.var.0 m.var.0 isnt) (rest e)

-- fresh literals, and what is assumed, are of distinct booleans
fresh_distinct : (a : AskingValue) (more : List Lit) → All (IsFresh a) more → distinct more ≡ true → distinct a.assumed ≡ true → distinct (more ++ a.assumed) ≡ true
fresh_distinct a [] fresh d e = e
fresh_distinct a (l ∷ ls) fresh d e =
    let two = and_parts (list_all (λ (m : Lit). not (same_var l m)) ls) (distinct ls) d in
    and_from (list_all (λ (m : Lit). not (same_var l m)) (ls ++ a.assumed)) (distinct (ls ++ a.assumed))
    (list_all-append (λ (m : Lit). not (same_var l m)) ls a.assumed
    ∙ and_from (list_all (λ (m : Lit). not (same_var l m)) ls) (list_all (λ (m : Lit). not (same_var l m)) a.assumed) two.0 (apart_from_others l a.assumed (fresh 0 l (omega arith)).unassumed))
    (fresh_distinct a ls (All-tail (IsFresh a) l ls fresh) two.1 e)

fresh_in_range : (a : AskingValue) (more : List Lit) → All (IsFresh a) more → list_all (in_range a.choices.first) more ≡ true
fresh_in_range a [] fresh = refl
fresh_in_range a (l ∷ ls) fresh =
    and_from (in_range a.choices.first l) (list_all (in_range a.choices.first) ls) (lt-ltb l.var.0 a.choices.first (fresh 0 l (omega arith)).below) (fresh_in_range a ls (All-tail (IsFresh a) l ls fresh))

-- what is chosen, what else is asked and what is assumed are of distinct booleans
pub asked_is_clause : (a : AskingValue) (solutions : List (List Bool)) → IsAsking a.set a.choices a.assumed solutions → (pairs : List Pair) → IsPartial a.choices.counts pairs → (more : List Lit) → All (IsFresh a) more
    → distinct more ≡ true → is_clause a.set.bools ((pair_literals a.choices pairs ++ more) ++ a.assumed) ≡ true
asked_is_clause a solutions h pairs partial more fresh apart =
    let two = and_parts (list_all (in_range a.choices.first) a.assumed) (distinct a.assumed) h.clause in
    ap (is_clause a.set.bools) (append_assoc (pair_literals a.choices pairs) more a.assumed)
    ∙ behind_is_clause a.set a.choices h.fit pairs partial (more ++ a.assumed)
    (and_from (list_all (in_range a.choices.first) (more ++ a.assumed)) (distinct (more ++ a.assumed))
    (list_all-append (in_range a.choices.first) more a.assumed
    ∙ and_from (list_all (in_range a.choices.first) more) (list_all (in_range a.choices.first) a.assumed) (fresh_in_range a more fresh) two.0)
    (fresh_distinct a more fresh apart two.1))
