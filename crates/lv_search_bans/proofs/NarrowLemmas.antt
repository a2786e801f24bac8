-- What conflicts leave of a box: the members without conflict stay.
use Rattle.std.proofs.Common.{◌≡◌, ◌≢◌, ℕ, zero, suc, ◌+◌, ◌*◌, ◌<◌, ◌≤◌, Bool, true, false, not, nat_lt, ◌&&◌, List, [], ◌∷◌, Option, Some, None, length, get_or, drop, drop-cons, refl, sym, ◌∙◌, ap, subst, add-one, arith}
use Rattle.std.specs.Prelude.{slice_index, slice_set, sum, bit_and, bit_xor, IfSome}
use Rattle.std.specs.Int.Bits.{xor_add_and, and_self}
use Rattle.std.proofs.Math.ListN.{drop_of_length-le}
use Rattle.std.proofs.lemmas.Nat.{and_assoc}
use Rattle.std.proofs.lemmas.Bool.{and_from, and_parts, lt-ltb, ltb-true, false_from_ne_true}
use Rattle.std.proofs.lemmas.List.Folds.{list_any_at}
use Rattle.lv_base.specs.declared.ids.Cost.{Cost}
use Rattle.lv_base.specs.declared.search.Pair.{Pair}
use Rattle.lv_boxes.specs.Masks.{has_choice}
use Rattle.lv_boxes.specs.Members.{is_left, are_left}
use Rattle.lv_boxes.specs.Walk.{is_ruled_out}
use Rattle.lv_search_bans.specs.declared.bans.Choices.{Choices}
use Rattle.lv_search_bans.specs.Bans.{without_these, masks_less, has_some, meets, AreBans}
use Rattle.lv_search_bans.specs.Boxes.{is_free}
use Rattle.lv_search_bans.specs.Narrow.{IsForced, IsThere, has_last, LeavesLast, LeavesOne, RulesOut, IsLessBy, IsNoMoreBy, HasNoneBy, ChangedTells}
use Rattle.lv_search_bans.proofs.BoxLemmas.{none_of_zero, smaller}
use Rattle.lv_search_bans.proofs.BanLemmas.{has_choice-beside}

clash : (b : Bool) → b ≡ true → b ≡ false → ⊥
clash b p q = cc

pub lt_suc : (s n : ℕ) → nat_lt (suc s) (suc n) ≡ nat_lt s n
lt_suc s n = by (nat_lt s n) refl
  where
    by : (b : Bool) → nat_lt s n ≡ b → nat_lt (suc s) (suc n) ≡ b
    by true less = let below : s < n = ltb-true s n less in lt-ltb (suc s) (suc n) (omega (arith, below))
    by false less = false_from_ne_true (nat_lt (suc s) (suc n)) (λ h. let below : suc s < suc n = ltb-true (suc s) (suc n) h in clash (nat_lt s n) (lt-ltb s n (omega (arith, below))) less)

-- each member has one of the choices that are all its slot has left
choice_left : (slots : List (List Cost)) (s : ℕ) (masks choices : List ℕ) → s < length masks → are_left slots masks choices ≡ true → (nat_lt s (length choices) ≡ true) × (has_choice (slice_index masks s) (slice_index choices s) ≡ true)
choice_left slots s [] choices within left = absurd (omega (arith, within))
choice_left [] s (mask ∷ masks) choices within left = absurd (cc left)
choice_left (row ∷ slots) s (mask ∷ masks) [] within left = absurd (cc left)
choice_left (row ∷ slots) zero (mask ∷ masks) (choice ∷ choices) within left =
    (lt-ltb 0 (length (choice ∷ choices)) (omega arith), (and_parts (nat_lt choice (length row)) (has_choice mask choice) (and_parts (is_left row mask choice) (are_left slots masks choices) left).0).1)
choice_left (row ∷ slots) (suc s) (mask ∷ masks) (choice ∷ choices) within left =
    let rest = choice_left slots s masks choices (omega (arith, within)) (and_parts (is_left row mask choice) (are_left slots masks choices) left).1 in
    (lt-ltb (suc s) (length (choice ∷ choices)) (let below : s < length choices = ltb-true s (length choices) rest.0 in omega (arith, below)), rest.1)

pub forced_is_had : (slots : List (List Cost)) (masks choices : List ℕ) (set : Choices) → IsForced masks set → are_left slots masks choices ≡ true → has_some choices set ≡ true
forced_is_had slots masks choices set f left = by (has_choice set.mask (slice_index choices set.slot)) refl
  where
    here : (nat_lt set.slot (length choices) ≡ true) × (has_choice (slice_index masks set.slot) (slice_index choices set.slot) ≡ true)
    here = choice_left slots set.slot masks choices f.within left

    by : (b : Bool) → has_choice set.mask (slice_index choices set.slot) ≡ b → has_some choices set ≡ true
    by true e = and_from (nat_lt set.slot (length choices)) (has_choice set.mask (slice_index choices set.slot)) here.0 e
    by false e =
        let beside : has_choice (without_these (slice_index masks set.slot) set.mask) (slice_index choices set.slot) ≡ true = has_choice-beside (slice_index masks set.slot) set.mask (slice_index choices set.slot) ∙ and_from (has_choice (slice_index masks set.slot) (slice_index choices set.slot)) (not (has_choice set.mask (slice_index choices set.slot))) here.1 (ap not e) in
        let none : has_choice 0 (slice_index choices set.slot) ≡ true = subst (λ n. has_choice n (slice_index choices set.slot) ≡ true) f.all beside in
        absurd (clash _ none (none_of_zero (slice_index choices set.slot)))

-- going through the slots of a ban: what those left say is what all say
pub record IsLeaving (masks : List ℕ) (sets : List Choices) (i : ℕ) (last : Option Choices) : Type 0 where
  pub rest : (slots : List (List Cost)) (choices : List ℕ) → are_left slots masks choices ≡ true → has_last last choices ≡ true → meets choices (drop i sets) ≡ meets choices sets
  pub there : IfSome last (IsThere masks)

pub leaving_begins : (masks : List ℕ) (sets : List Choices) → IsLeaving masks sets 0 None
leaving_begins masks sets = record { rest = λ slots choices left has. refl; there = tt }

one_less : (sets : List Choices) (i : ℕ) (d : Choices) (choices : List ℕ) → i < length sets → has_some choices (get_or sets i d) ≡ true → meets choices (drop (i + 1) sets) ≡ meets choices (drop i sets)
one_less sets i d choices within has =
    let split : drop i sets ≡ get_or sets i d ∷ drop (suc i) sets = drop-cons sets i d within in
    ap (λ n. meets choices (drop n sets)) (add-one i)
    ∙ sym (ap (meets choices) split ∙ ap (λ b. b && meets choices (drop (suc i) sets)) has)

pub leaving_forced : (masks : List ℕ) (sets : List Choices) (i : ℕ) (d : Choices) (last : Option Choices) → i < length sets → IsForced masks (get_or sets i d) → IsLeaving masks sets i last → IsLeaving masks sets (i + 1) last
leaving_forced masks sets i d last within f l =
    record {
      rest = λ slots choices left has. one_less sets i d choices within (forced_is_had slots masks choices (get_or sets i d) f left) ∙ l.rest slots choices left has;
      there = l.there;
    }

pub leaving_open : (masks : List ℕ) (sets : List Choices) (i : ℕ) (d : Choices) → i < length sets → IsThere masks (get_or sets i d) → IsLeaving masks sets i None → IsLeaving masks sets (i + 1) (Some (get_or sets i d))
leaving_open masks sets i d within t l =
    record { rest = λ slots choices left has. one_less sets i d choices within has ∙ l.rest slots choices left refl; there = t }

leaving_ends : (masks : List ℕ) (sets : List Choices) (i : ℕ) (last : Option Choices) → length sets ≤ i → IsLeaving masks sets i last → LeavesLast masks sets last
leaving_ends masks sets i last past l =
    record { contains = λ slots choices left has. sym (l.rest slots choices left has) ∙ ap (meets choices) (drop_of_length-le sets past) }

pub leaving_none : (masks : List ℕ) (sets : List Choices) (i : ℕ) (last : Option Choices) → length sets ≤ i → IsLeaving masks sets i last → last ≡ None → LeavesLast masks sets None
leaving_none masks sets i last past l is = subst (LeavesLast masks sets) is (leaving_ends masks sets i last past l)

pub leaving_some : (masks : List ℕ) (sets : List Choices) (i : ℕ) (last : Option Choices) (set : Choices) → length sets ≤ i → IsLeaving masks sets i last → last ≡ Some set → LeavesOne masks sets set
leaving_some masks sets i last set past l is =
    record {
      leaves = subst (LeavesLast masks sets) is (leaving_ends masks sets i last past l);
      there = (subst (λ (o : Option Choices). IfSome o (IsThere masks)) is l.there);
    }

-- a ban without open slot leaves no member
pub one_leaves_none : (conflicts : List (List Pair)) (masks : List ℕ) (sets : List Choices) → RulesOut conflicts sets → LeavesLast masks sets None → HasNoneBy conflicts masks
one_leaves_none conflicts masks sets r l = record { none = λ slots. record { none = λ choices. false_from_ne_true (is_free slots conflicts masks choices) (λ free. not_free slots choices free) } }
  where
    not_free : (slots : List (List Cost)) (choices : List ℕ) → is_free slots conflicts masks choices ≡ true → ⊥
    not_free slots choices free =
        let parts = and_parts (are_left slots masks choices) (not (is_ruled_out conflicts choices)) free in
        let ruled : is_ruled_out conflicts choices ≡ true = r choices (l.contains slots choices parts.0 refl) in
        let not_ruled : not true ≡ true = rw ruled at parts.1 in
        cc not_ruled

-- the members of a box without some choices are its members that have none of them
pub left_less : (slots : List (List Cost)) (masks choices : List ℕ) (s these : ℕ) → s < length masks
    → are_left slots (slice_set masks s (without_these (slice_index masks s) these)) choices ≡ (are_left slots masks choices && not (has_some choices (record { slot = s; mask = these })))
left_less slots [] choices s these within = absurd (omega (arith, within))
left_less [] (mask ∷ masks) choices zero these within = refl
left_less [] (mask ∷ masks) choices (suc s) these within = refl
left_less (row ∷ slots) (mask ∷ masks) [] zero these within = refl
left_less (row ∷ slots) (mask ∷ masks) [] (suc s) these within = refl
left_less (row ∷ slots) (mask ∷ masks) (choice ∷ choices) zero these within =
    ap (λ b. (nat_lt choice (length row) && b) && are_left slots masks choices) (has_choice-beside mask these choice)
    ∙ sorted (nat_lt choice (length row)) (has_choice mask choice) (has_choice these choice) (are_left slots masks choices)
    ∙ ap (λ b. is_left row mask choice && are_left slots masks choices && not (b && has_choice these choice)) (sym (lt-ltb 0 (length (choice ∷ choices)) (omega arith)))
  where
    sorted : (a b t l : Bool) → ((a && (b && not t)) && l) ≡ (((a && b) && l) && not (true && t))
    sorted true true true true = refl
    sorted true true true false = refl
    sorted true true false true = refl
    sorted true true false false = refl
    sorted true false t l = refl
    sorted false b t l = refl
left_less (row ∷ slots) (mask ∷ masks) (choice ∷ choices) (suc s) these within =
    ap (λ b. is_left row mask choice && b) (left_less slots masks choices s these (omega (arith, within)))
    ∙ and_in_turn (is_left row mask choice) (are_left slots masks choices) (not (has_some choices (record { slot = s; mask = these })))
    ∙ ap (λ b. (is_left row mask choice && are_left slots masks choices) && not (b && has_choice these (slice_index choices s))) (sym (lt_suc s (length choices)))
  where
    and_in_turn : (a b d : Bool) → (a && (b && d)) ≡ ((a && b) && d)
    and_in_turn true b d = refl
    and_in_turn false b d = refl

free_less : (slots : List (List Cost)) (conflicts : List (List Pair)) (masks choices : List ℕ) (set : Choices) → set.slot < length masks
    → is_free slots conflicts (masks_less masks set) choices ≡ (is_free slots conflicts masks choices && not (has_some choices set))
free_less slots conflicts masks choices set within =
    ap (λ b. b && not (is_ruled_out conflicts choices)) (left_less slots masks choices set.slot set.mask within)
    ∙ and_last (are_left slots masks choices) (not (has_some choices set)) (not (is_ruled_out conflicts choices))
  where
    and_last : (l k r : Bool) → ((l && k) && r) ≡ ((l && r) && k)
    and_last true true true = refl
    and_last true true false = refl
    and_last true false true = refl
    and_last true false false = refl
    and_last false k r = refl

-- what of a mask is among some choices and what is not are the mask
beside_and_these : (m k : ℕ) → without_these m k + bit_and m k ≡ m
beside_and_these m k =
    let both : bit_xor m (bit_and m k) + bit_and m (bit_and m k) * 2 ≡ m + bit_and m k = xor_add_and m (bit_and m k) in
    let once : bit_and m (bit_and m k) ≡ bit_and m k = sym (and_assoc k m m) ∙ ap (λ n. bit_and n k) (and_self m) in
    omega (arith, both, once)

-- the choices of the last open slot are taken out
pub one_takes_out : (conflicts : List (List Pair)) (masks new : List ℕ) (sets : List Choices) (set : Choices) → RulesOut conflicts sets → LeavesOne masks sets set → new ≡ masks_less masks set → IsLessBy conflicts masks new
one_takes_out conflicts masks new sets set r l is =
    subst (IsLessBy conflicts masks) (sym is)
    (record {
      free = record {
        same = λ slots choices. free_less slots conflicts masks choices set l.there.within ∙ stays slots choices;
        inside = λ slots choices left. (and_parts (are_left slots masks choices) (not (has_some choices set)) (sym (left_less slots masks choices set.slot set.mask l.there.within) ∙ left)).0;
      };
      less = less;
    })
  where
    stays : (slots : List (List Cost)) (choices : List ℕ) → (is_free slots conflicts masks choices && not (has_some choices set)) ≡ is_free slots conflicts masks choices
    stays slots choices = by (is_free slots conflicts masks choices) (has_some choices set) refl refl
      where
        by : (f k : Bool) → is_free slots conflicts masks choices ≡ f → has_some choices set ≡ k → (f && not k) ≡ f
        by false k e h = refl
        by true false e h = refl
        by true true e h =
            let parts = and_parts (are_left slots masks choices) (not (is_ruled_out conflicts choices)) e in
            let ruled : is_ruled_out conflicts choices ≡ true = r choices (l.leaves.contains slots choices parts.0 h) in
            let not_ruled : not true ≡ true = rw ruled at parts.1 in
            absurd (cc not_ruled)

    less : sum (masks_less masks set) < sum masks
    less =
        let sums : without_these (slice_index masks set.slot) set.mask + bit_and (slice_index masks set.slot) set.mask ≡ slice_index masks set.slot = beside_and_these (slice_index masks set.slot) set.mask in
        let some : bit_and (slice_index masks set.slot) set.mask ≢ 0 = l.there.has in
        smaller masks set.slot (without_these (slice_index masks set.slot) set.mask) l.there.within (omega (arith, sums, some)) (λ e. absurd (omega (arith, sums, some, e)))

-- a ban among those of some conflicts
pub ruled_by_ban : (conflicts : List (List Pair)) (bans : List (List Choices)) (i : ℕ) (d sets : List Choices) → i < length bans → sets ≡ get_or bans i d → AreBans conflicts bans → RulesOut conflicts sets
ruled_by_ban conflicts bans i d sets within is a choices h = a.barred choices (list_any_at (meets choices) bans i d within (subst (λ ss. meets choices ss ≡ true) is h))

-- one step after another
pub less_after : (conflicts : List (List Pair)) (old mid new : List ℕ) (changed : Bool) → ChangedTells conflicts old mid changed → IsLessBy conflicts mid new → IsLessBy conflicts old new
less_after conflicts old mid new true t l =
    record {
      free = record {
        same = λ slots choices. l.free.same slots choices ∙ t.free.same slots choices;
        inside = λ slots choices left. t.free.inside slots choices (l.free.inside slots choices left);
      };
      less = let one : sum new < sum mid = l.less in let two : sum mid < sum old = t.less in omega (arith, one, two);
    }
less_after conflicts old mid new false t l = subst (λ ms. IsLessBy conflicts ms new) t l

pub none_after : (conflicts : List (List Pair)) (old mid : List ℕ) (changed : Bool) → ChangedTells conflicts old mid changed → HasNoneBy conflicts mid → HasNoneBy conflicts old
none_after conflicts old mid true t n = record { none = λ slots. record { none = λ choices. sym (t.free.same slots choices) ∙ (n.none slots).none choices } }
none_after conflicts old mid false t n = subst (HasNoneBy conflicts) t n

pub no_more_itself : (conflicts : List (List Pair)) (masks : List ℕ) → IsNoMoreBy conflicts masks masks
no_more_itself conflicts masks = record { free = record { same = λ slots choices. refl; inside = λ slots choices left. left }; less = omega arith }

pub no_more_after : (conflicts : List (List Pair)) (old mid new : List ℕ) → IsNoMoreBy conflicts old mid → IsLessBy conflicts mid new → IsNoMoreBy conflicts old new
no_more_after conflicts old mid new t l =
    record {
      free = record {
        same = λ slots choices. l.free.same slots choices ∙ t.free.same slots choices;
        inside = λ slots choices left. t.free.inside slots choices (l.free.inside slots choices left);
      };
      less = let one : sum new < sum mid = l.less in let two : sum mid ≤ sum old = t.less in omega (arith, one, two);
    }

pub no_more_on : (conflicts : List (List Pair)) (old mid new : List ℕ) → IsNoMoreBy conflicts old mid → IsNoMoreBy conflicts mid new → IsNoMoreBy conflicts old new
no_more_on conflicts old mid new t l =
    record {
      free = record {
        same = λ slots choices. l.free.same slots choices ∙ t.free.same slots choices;
        inside = λ slots choices left. t.free.inside slots choices (l.free.inside slots choices left);
      };
      less = let one : sum new ≤ sum mid = l.less in let two : sum mid ≤ sum old = t.less in omega (arith, one, two);
    }

pub none_after_all : (conflicts : List (List Pair)) (old mid : List ℕ) → IsNoMoreBy conflicts old mid → HasNoneBy conflicts mid → HasNoneBy conflicts old
none_after_all conflicts old mid t n = record { none = λ slots. record { none = λ choices. sym (t.free.same slots choices) ∙ (n.none slots).none choices } }
