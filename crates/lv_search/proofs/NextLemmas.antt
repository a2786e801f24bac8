-- What comes next, by the first of what is left.
use Rattle.std.proofs.Common.{◌≡◌, ◌≢◌, ℕ, ◌+◌, ◌<◌, Bool, true, false, List, [], ◌∷◌, length, filter, refl, sym, ◌∙◌, ap, subst, arith, nat_lt, ◌≤◌, suc, not, ◌||◌, cond}
use Rattle.std.specs.Prelude.{slice_get, position, Option, Some, None}
use Rattle.std.specs.List.{list_any, position_or_len}
use Rattle.std.proofs.lemmas.Bool.{ltb-false}
use Rattle.std.proofs.lemmas.List.Quantifiers.{position-Some}
use Rattle.std.proofs.lemmas.List.Sums.{length-filter, count_by-le-length}
use Rattle.lv_base.specs.declared.rank.Rank.{Rank}
use Rattle.lv_base.specs.declared.search.Pair.{Pair}
use Rattle.lv_base.specs.declared.search.Candidate.{Candidate}
use Rattle.lv_base.specs.Choices.{contains_all}
use Rattle.lv_boxes.specs.declared.outcome.Outcome.TheVariants.{Settled, Unsettled}
use Rattle.lv_boxes.specs.Walk.{candidate_of, is_ruled_out}
use Rattle.lv_boxes.specs.Groups.{alike_by}
use Rattle.lv_boxes.proofs.TurnLemmas.{walk_full, walk_used_up}
use Rattle.lv_search.specs.Frontier.{FirstContains, LeavesFirst}
use Rattle.lv_search.specs.Standing.{Standing, trials_of, walk_on, conflict_at}
use Rattle.lv_search.specs.Turn.{EndsHere, PassesOver, IsRepeated, IsTrial}

-- where the candidate has the rank's choices, the store was asked for these
pub asked : (kept : List (List Pair)) {candidate : Candidate} {source : ℕ} {choices own : List ℕ} {found : Option ℕ}
    → candidate ≡ record { source = source; choices = choices } → choices ≡ own → found ≡ position (contains_all candidate.choices) kept → found ≡ position (contains_all own) kept
asked kept is same found = found ∙ ap (λ (c : Candidate). position (contains_all c.choices) kept) is ∙ ap (λ cs. position (contains_all cs) kept) same

none_before : {X : Type 0} (p : X → Bool) (xs : List X) → length xs ≤ position_or_len p xs → list_any p xs ≡ false
none_before p [] past = refl
none_before p (x ∷ xs) past = by (p x) past (none_before p xs)
  where
    by : (b : Bool) → suc (length xs) ≤ cond (not b) (1 + position_or_len p xs) 0 → (length xs ≤ position_or_len p xs → list_any p xs ≡ false) → (b || list_any p xs) ≡ false
    by true past rest = absurd (omega arith)
    by false past rest = rest (omega arith)

pub position-None : {X : Type 0} (p : X → Bool) (xs : List X) → position p xs ≡ None → list_any p xs ≡ false
position-None p xs none = none_before p xs (ltb-false (position_or_len p xs) (length xs) (by (nat_lt (position_or_len p xs) (length xs)) none))
  where
    by : (b : Bool) → cond b (Some (position_or_len p xs)) None ≡ None → b ≡ false
    by true e = absurd (cc e)
    by false e = refl

-- a list with a first item
pub first_and_rest : {X : Type 0} (xs : List X) (x : X) → slice_get xs 0 ≡ Some x → (rest : List X) × (xs ≡ x ∷ rest)
first_and_rest [] x e = absurd (cc e)
first_and_rest (y ∷ ys) x e = (ys, (let same : y ≡ x = cc e in ap (λ z. z ∷ ys) same))

pub no_first : {X : Type 0} (xs : List X) → slice_get xs 0 ≡ None → xs ≡ []
no_first [] e = refl
no_first (y ∷ ys) e = absurd (cc e)

-- what is left without the first is shorter
pub shorter_without : (keeps : Rank → Bool) (old new : List Rank) → new ≡ filter keeps old → LeavesFirst keeps old → length new < length old
shorter_without keeps [] new same out = absurd out
shorter_without keeps (r ∷ rs) new same out =
    let gone : filter keeps (r ∷ rs) ≡ filter keeps rs = ap (λ b. cond b (r ∷ filter keeps rs) (filter keeps rs)) out in
    let short : length new ≡ length (filter keeps rs) = ap length same ∙ ap length gone in
    let counted = length-filter keeps rs in
    let few = count_by-le-length keeps rs in
    omega (arith, short, counted, few)

pub first_contains : (left : List Rank) (rank : Rank) (conflict : List Pair) → slice_get left 0 ≡ Some rank → contains_all rank.choices conflict ≡ true → FirstContains conflict left
first_contains left rank conflict first inside =
    let rest = first_and_rest left rank first in
    subst (λ (rs : List Rank). FirstContains conflict rs) (sym rest.1) inside

module _ (s : Standing) (rank : Rank) (first : slice_get s.left 0 ≡ Some rank) (fewer : length s.listed ≢ s.k) where
  pub passes_over : (number : ℕ) → position (contains_all rank.choices) s.kept ≡ Some number → PassesOver number s
  passes_over number found =
      let at = position-Some (contains_all rank.choices) s.kept number [] found in
      record { fewer = fewer; within = at.0; inside = first_contains s.left rank (conflict_at s.kept number) first at.1 }

  module _ (allowed : is_ruled_out s.kept rank.choices ≡ false) where
    pub is_repeated : list_any (alike_by s.groups rank) s.listed ≡ true → IsRepeated s
    is_repeated alike = record { fewer = fewer; rank = rank; first = first; not_ruled_out = allowed; alike = alike }

    pub used_up : (budget : ℕ) → list_any (alike_by s.groups rank) s.listed ≡ false → trials_of s ≡ budget → EndsHere Unsettled budget s
    used_up budget fresh used fits reason =
        let rest = first_and_rest s.left rank first in
        subst (λ (rs : List Rank). walk_on fits reason budget (record s { left = rs }) ≡ record { outcome = Unsettled; listed = s.listed; kept = s.kept }) (sym rest.1)
        (walk_used_up (alike_by s.groups) fits reason s.k budget rank rest.0 s.listed s.kept fewer allowed fresh used)

    pub is_trial : (candidate : Candidate) (budget : ℕ) → list_any (alike_by s.groups rank) s.listed ≡ false → trials_of s ≢ budget → candidate ≡ candidate_of rank → IsTrial rank candidate budget s
    is_trial candidate budget fresh left is = record { fewer = fewer; first = first; candidate_is = is; not_ruled_out = allowed; fresh = fresh; not_used_up = left }

-- what the store finds nothing in is not ruled out
pub not_ruled_out : (kept : List (List Pair)) (choices : List ℕ) → position (contains_all choices) kept ≡ None → is_ruled_out kept choices ≡ false
not_ruled_out kept choices none = position-None (contains_all choices) kept none

pub is_full : (s : Standing) (budget : ℕ) → length s.listed ≡ s.k → EndsHere Settled budget s
is_full s budget full fits reason = walk_full (alike_by s.groups) fits reason s.k budget s.left s.listed s.kept full

pub none_left : (s : Standing) (budget : ℕ) → slice_get s.left 0 ≡ None → EndsHere Settled budget s
none_left s budget none fits reason =
    subst (λ (rs : List Rank). walk_on fits reason budget (record s { left = rs }) ≡ record { outcome = Settled; listed = s.listed; kept = s.kept }) (sym (no_first s.left none)) refl
