-- The search by a stack of boxes: what a look at one box tells, and what that does to what is under way.
use Rattle.std.proofs.Common.{◌≡◌, ℕ, ◌+◌, ◌*◌, ◌^◌, ◌<◌, ◌≤◌, Bool, true, false, not, ◌&&◌, ◌||◌, List, [], ◌∷◌, ◌++◌, Option, Some, None, length, take, get_or, add-one, ◌⊎◌, inl, inr, ⊎_elim, refl, sym, ◌∙◌, ap, ap₂, subst, arith}
use Rattle.std.specs.Prelude.{find, nat_lt, sum, option_map, option_to_list, IfSome}
use Rattle.std.specs.List.{list_any}
use Rattle.std.proofs.Math.Seq.{take-suc}
use Rattle.std.proofs.Math.Nat.{one-le-pow, pow-le-pow_right}
use Rattle.std.proofs.lemmas.Grind.{pow_more}
use Rattle.std.proofs.lemmas.Bool.{and_from, and_parts, or_cases, or_left, or_right, cases_lt, ltb-true, lt-ltb, false_from_ne_true, not_from_false}
use Rattle.std.proofs.lemmas.List.Folds.{list_any-append, list_all_at}
use Rattle.std.proofs.lemmas.List.Sums.{sum_by-append, sum_by-cons, sum_by_push}
use Rattle.lv_base.specs.declared.ids.Cost.{Cost}
use Rattle.lv_base.specs.declared.search.Pair.{Pair}
use Rattle.lv_base.specs.Choices.{picks, contains_all}
use Rattle.lv_base.specs.Order.{comes_before}
use Rattle.lv_base.specs.Rank.{ranks_before}
use Rattle.lv_boxes.specs.Members.{are_left, choices_cost, rank_in}
use Rattle.lv_boxes.specs.Least.{cheapest_choices, IsLeastMember}
use Rattle.lv_boxes.specs.Parts.{masks_with, masks_without}
use Rattle.lv_boxes.proofs.LeastLemmas.{sum_none, lacks_choice-none, written_is_least, written_costs}
use Rattle.lv_boxes.specs.Walk.{is_ruled_out}
use Rattle.lv_search_guide.specs.declared.look.Member.{Member}
use Rattle.lv_search_guide.specs.declared.look.Looked.{Looked}
use Rattle.lv_search_guide.specs.declared.look.Looked.TheVariants.{Nothing, Found, Splits}
use Rattle.lv_search_guide.specs.declared.cheapest.Best.{Best}
use Rattle.lv_search_guide.specs.declared.cheapest.Branch.{Branch}
use Rattle.lv_search_bans.specs.Boxes.{is_free, CostsAtLeast, is_open}
use Rattle.lv_search_guide.specs.Cheapest.{IsCheapestLeft, HasNoneLeft, IsCheapestUnder, IsFirstUnder, CheapestTells, FallsApart, LookTells, IsOpenIn, OpenTells, SplitTells, IsBranchOf, BranchTells, is_free_in_some, is_sought_in_some, BestTells, IsUnderWay, weight_of, PushesBoth, PushesParts, TakesBox}
use Rattle.lv_search_guide.specs.Dear.{KeepsUnder}
use Rattle.lv_search_bans.specs.Narrow.{IsNoMoreBy, HasNoneBy}
use Rattle.lv_search_bans.proofs.BoxLemmas.{zone_at, candidate_at, free_with, free_without, free_is_left, free_from, some_pass, found_itself, none_pass, both_smaller, all_contain}

clash : (b : Bool) → b ≡ true → b ≡ false → ⊥
clash b p q = cc

-- the cheapest choices of all slots are a member of the box that costs least
pub cheapest_none : (slots : List (List Cost)) (masks : List ℕ) → None ≡ option_map (choices_cost slots) (cheapest_choices slots masks) → HasNoneLeft slots masks
cheapest_none slots masks e = record { none = λ choices. lacks_choice-none slots masks choices (sum_none slots masks e) }

pub cheapest_some : (slots : List (List Cost)) (masks : List ℕ) (member : Member) → Some member.cost ≡ option_map (choices_cost slots) (cheapest_choices slots masks)
    → Some member.choices ≡ cheapest_choices slots masks → member.cost ≤ 4096 * 1000000 → IsCheapestLeft slots masks member
cheapest_some slots masks member sum_is written bound =
    let least : IsLeastMember slots (zone_at masks) member.choices = written_is_least slots (zone_at masks) member.choices written in
    let cost : member.cost ≡ choices_cost slots member.choices = written_costs slots masks member.cost member.choices sum_is written in
    record {
      left = least.member;
      costs = sym cost;
      least = λ choices left. rw cost (no_cheaper choices (least.first (candidate_at choices) left));
      first = λ choices left same. in_order choices (same ∙ cost) (least.first (candidate_at choices) left);
      bound = bound;
    }
  where
    in_order : (choices : List ℕ) → choices_cost slots choices ≡ choices_cost slots member.choices → ranks_before (rank_in slots (zone_at masks) choices) (rank_in slots (zone_at masks) member.choices) ≡ false
        → comes_before choices member.choices ≡ false
    in_order choices same h = false_from_ne_true (comes_before choices member.choices) (λ before. clash _ (first before) h)
      where
        first : comes_before choices member.choices ≡ true → ranks_before (rank_in slots (zone_at masks) choices) (rank_in slots (zone_at masks) member.choices) ≡ true
        first before = rw before (grind arith)

    no_cheaper : (choices : List ℕ) → ranks_before (rank_in slots (zone_at masks) choices) (rank_in slots (zone_at masks) member.choices) ≡ false
        → choices_cost slots member.choices ≤ choices_cost slots choices
    no_cheaper choices h = by (cases_lt (choices_cost slots choices) (choices_cost slots member.choices))
      where
        by : (choices_cost slots choices < choices_cost slots member.choices) ⊎ (choices_cost slots member.choices ≤ choices_cost slots choices) → choices_cost slots member.choices ≤ choices_cost slots choices
        by (inl less) = absurd (clash _ (first less) h)
          where
            first : choices_cost slots choices < choices_cost slots member.choices → ranks_before (rank_in slots (zone_at masks) choices) (rank_in slots (zone_at masks) member.choices) ≡ true
            first less = grind arith
        by (inr more) = more

-- what is written tells of the box
pub written_some : (slots_then slots : List (List Cost)) (masks_then masks : List ℕ) (out : List ℕ) (result : Option ℕ) → slots_then ≡ slots → masks_then ≡ masks
    → result ≡ option_map (choices_cost slots_then) (cheapest_choices slots_then masks_then) → option_map (λ (_ : ℕ). out) result ≡ cheapest_choices slots_then masks_then
    → IfSome result (λ cost. cost ≤ 4096 * 1000000) → IfSome result (λ cost. IsCheapestLeft slots masks (record { cost = cost; choices = out }))
written_some slots_then slots masks_then masks out None same same_too sum_is written bound = tt
written_some slots_then slots masks_then masks out (Some cost) same same_too sum_is written bound =
    subst (λ ss. IsCheapestLeft ss masks (record { cost = cost; choices = out })) same
    (subst (λ ms. IsCheapestLeft slots_then ms (record { cost = cost; choices = out })) same_too
    (cheapest_some slots_then masks_then (record { cost = cost; choices = out }) sum_is written bound))

pub written_none : (slots_then slots : List (List Cost)) (masks_then masks : List ℕ) (result : Option ℕ) → slots_then ≡ slots → masks_then ≡ masks
    → result ≡ option_map (choices_cost slots_then) (cheapest_choices slots_then masks_then) → result ≡ None → HasNoneLeft slots masks
written_none slots_then slots masks_then masks result same same_too sum_is none =
    subst (λ ss. HasNoneLeft ss masks) same (subst (λ ms. HasNoneLeft slots_then ms) same_too (cheapest_none slots_then masks_then (sym none ∙ sum_is)))

-- a box without members, or whose members cost too much, has nothing to find
pub none_at_least : (slots : List (List Cost)) (conflicts : List (List Pair)) (masks : List ℕ) (under : ℕ) → HasNoneLeft slots masks → CostsAtLeast slots conflicts masks under
none_at_least slots conflicts masks under n = record { least = λ choices free. absurd (clash _ (free_is_left slots conflicts masks choices free) (n.none choices)) }

pub left_at_least : (slots : List (List Cost)) (conflicts : List (List Pair)) (masks : List ℕ) (under : ℕ) (member : Member) → IsCheapestLeft slots masks member → under ≤ member.cost
    → CostsAtLeast slots conflicts masks under
left_at_least slots conflicts masks under member m much =
    record { least = λ choices free. let far : member.cost ≤ choices_cost slots choices = m.least choices (free_is_left slots conflicts masks choices free) in omega (arith, far, much) }

-- a cheapest member that contains no conflict is a cheapest of those
pub look_found : (slots : List (List Cost)) (conflicts : List (List Pair)) (masks : List ℕ) (under : ℕ) (member : Member) → IsCheapestLeft slots masks member → member.cost < under
    → find (contains_all member.choices) conflicts ≡ None → IsFirstUnder slots conflicts masks under member
look_found slots conflicts masks under member m less none =
    record {
      found = record {
        cheapest = record {
          free = free_from slots conflicts masks member.choices m.left (none_pass (contains_all member.choices) conflicts none);
          costs = m.costs;
          least = record { least = λ choices free. m.least choices (free_is_left slots conflicts masks choices free) };
        };
        below = less;
      };
      first = λ others free same. m.first others (free_is_left slots conflicts masks others free) same;
    }

pub first_is_found : (slots : List (List Cost)) (conflicts : List (List Pair)) (masks : List ℕ) (under : ℕ) (member : Member) → IsFirstUnder slots conflicts masks under member
    → IsCheapestUnder slots conflicts masks under member
first_is_found slots conflicts masks under member f = f.found

-- an open pair of a conflict that the cheapest member contains: by it the box falls apart
pub look_splits : (slots : List (List Cost)) (masks : List ℕ) (member : Member) (conflict : List Pair) (p : Pair) → IsCheapestLeft slots masks member
    → contains_all member.choices conflict ≡ true → IsOpenIn masks conflict p → FallsApart masks p
look_splits slots masks member conflict p m inside o =
    let s = both_smaller slots masks member.choices p m.left (o.inside member.choices inside) o.opens in
    record { within = s.within; with_less = s.with_less; without_less = s.without_less }

-- or each member contains the conflict
pub look_nothing : (slots : List (List Cost)) (masks : List ℕ) (under : ℕ) (member : Member) (conflicts : List (List Pair)) (conflict : List Pair) → IsCheapestLeft slots masks member
    → find (contains_all member.choices) conflicts ≡ Some conflict → list_any (is_open masks) conflict ≡ false → CostsAtLeast slots conflicts masks under
look_nothing slots masks under member conflicts conflict m contained closed =
    let inside : contains_all member.choices conflict ≡ true = found_itself (contains_all member.choices) conflicts conflict contained in
    record { least = λ choices free. absurd (not_free choices free inside) }
  where
    not_free : (choices : List ℕ) → is_free slots conflicts masks choices ≡ true → contains_all member.choices conflict ≡ true → ⊥
    not_free choices free inside =
        let parts = and_parts (are_left slots masks choices) (not (is_ruled_out conflicts choices)) free in
        let there : contains_all choices conflict ≡ true = all_contain slots masks member.choices conflict m.left inside closed choices parts.0 in
        let ruled : is_ruled_out conflicts choices ≡ true = some_pass (contains_all member.choices) (contains_all choices) conflicts conflict contained there in
        let not_ruled : not true ≡ true = rw ruled at parts.1 in
        cc not_ruled

-- both told by an open pair
pub look_contained : (slots : List (List Cost)) (masks : List ℕ) (under : ℕ) (member : Member) (conflicts : List (List Pair)) (conflict read : List Pair) (looked : Looked) → IsCheapestLeft slots masks member
    → find (contains_all member.choices) conflicts ≡ Some conflict → read ≡ conflict → SplitTells masks read looked → LookTells slots conflicts masks under looked
look_contained slots masks under member conflicts conflict read Nothing m contained is t = look_nothing slots masks under member conflicts conflict m contained (subst (λ ps. list_any (is_open masks) ps ≡ false) is t)
look_contained slots masks under member conflicts conflict read (Found other) m contained is t = absurd t
look_contained slots masks under member conflicts conflict read (Splits p) m contained is t =
    look_splits slots masks member conflict p m (found_itself (contains_all member.choices) conflicts conflict contained) (subst (λ ps. IsOpenIn masks ps p) is t)

-- the pairs gone through, one more
pub open_passed : (masks : List ℕ) (pairs : List Pair) (i : ℕ) (d : Pair) (busiest : Option Pair) → i < length pairs → is_open masks (get_or pairs i d) ≡ false → OpenTells masks pairs i busiest → OpenTells masks pairs (i + 1) busiest
open_passed masks pairs i d (Some p) within closed t = t
open_passed masks pairs i d None within closed t =
    ap (λ n. list_any (is_open masks) (take n pairs)) (add-one i) ∙ ap (list_any (is_open masks)) (take-suc pairs i d within) ∙ list_any-append (is_open masks) (take i pairs) (get_or pairs i d ∷ [])
    ∙ ap₂ (λ (b c : Bool). b || (c || false)) t closed

pub open_kept : (masks : List ℕ) (pairs : List Pair) (i j : ℕ) (busiest : Option Pair) (p : Pair) → busiest ≡ Some p → OpenTells masks pairs i busiest → OpenTells masks pairs j busiest
open_kept masks pairs i j None p is t = absurd (cc is)
open_kept masks pairs i j (Some q) p is t = t

pub open_taken : (masks : List ℕ) (pairs : List Pair) (i : ℕ) (d p : Pair) → i < length pairs → p ≡ get_or pairs i d → is_open masks p ≡ true → IsOpenIn masks pairs p
open_taken masks pairs i d p within is opens = record { opens = opens; inside = λ choices all. subst (λ q. picks choices q ≡ true) (sym is) (has choices all (picks choices (get_or pairs i d)) refl) }
  where
    has : (choices : List ℕ) → contains_all choices pairs ≡ true → (b : Bool) → picks choices (get_or pairs i d) ≡ b → picks choices (get_or pairs i d) ≡ true
    has choices all true e = e
    has choices all false e = absurd (clash (contains_all choices pairs) all (list_all_at (picks choices) pairs i d within e))

-- where something holds of a list and one more
some_or_last : (f : Branch → Bool) (boxes : List Branch) (next : Branch) → list_any f (boxes ++ next ∷ []) ≡ true → (list_any f boxes ≡ true) ⊎ (f next ≡ true)
some_or_last f boxes next h = by (list_any f boxes) (f next) (sym (list_any-append f boxes (next ∷ [])) ∙ h)
  where
    by : (b c : Bool) → (b || (c || false)) ≡ true → (b ≡ true) ⊎ (c ≡ true)
    by true c h = inl refl
    by false true h = inr refl
    by false false h = absurd (cc h)

some_in_more : (f : Branch → Bool) (boxes more : List Branch) → list_any f boxes ≡ true → list_any f (boxes ++ more) ≡ true
some_in_more f boxes more h = list_any-append f boxes more ∙ or_left (list_any f boxes) (list_any f more) h

last_in_more : (f : Branch → Bool) (boxes : List Branch) (next : Branch) → f next ≡ true → list_any f (boxes ++ next ∷ []) ≡ true
last_in_more f boxes next h = list_any-append f boxes (next ∷ []) ∙ or_right (list_any f boxes) (f next || false) (or_left (f next) false h)

-- what others have to cost less than has only fallen
fallen : (slots : List (List Cost)) (conflicts : List (List Pair)) (whole : List ℕ) (under now : ℕ) (found : Option Member) → BestTells slots conflicts whole under now found → now ≤ under
fallen slots conflicts whole under now None t = let same : now ≡ under = t in omega (arith, same)
fallen slots conflicts whole under now (Some member) t = let less : now < under = t.below in omega (arith, less)

module _ (slots : List (List Cost)) (conflicts : List (List Pair)) where
  abbrev free_there : List ℕ → Branch → Bool
  free_there choices b = is_free slots conflicts b.masks choices

  abbrev sought_there : List ℕ → Branch → Bool
  sought_there choices b = is_free slots conflicts b.masks choices && not (nat_lt (choices_cost slots choices) b.low)

  sought_is_free : (choices : List ℕ) (b : Branch) → sought_there choices b ≡ true → free_there choices b ≡ true
  sought_is_free choices b h = (and_parts (free_there choices b) (not (nat_lt (choices_cost slots choices) b.low)) h).0

  free_is_sought : (choices : List ℕ) (b : Branch) → b.low ≤ choices_cost slots choices → free_there choices b ≡ true → sought_there choices b ≡ true
  free_is_sought choices b low h =
      and_from (free_there choices b) (not (nat_lt (choices_cost slots choices) b.low)) h
      (not_from_false (nat_lt (choices_cost slots choices) b.low) (false_from_ne_true (nat_lt (choices_cost slots choices) b.low) (λ e. let less = ltb-true (choices_cost slots choices) b.low e in omega (arith, less, low))))

  -- a box in which there is nothing to find is dropped
  dropped : (next : Branch) (best : Best) (boxes : List Branch) → ((choices : List ℕ) → sought_there choices next ≡ true → choices_cost slots choices < best.under → ⊥)
      → (whole : List ℕ) (under : ℕ) → IsUnderWay slots conflicts whole under best (boxes ++ next ∷ []) → IsUnderWay slots conflicts whole under best boxes
  dropped next best boxes none whole under u =
      record {
        found = u.found;
        rest = λ choices free less. ⊎_elim (λ there. there) (λ here. absurd (none choices here less)) (some_or_last (sought_there choices) boxes next (u.rest choices free less));
        inside = λ choices h. u.inside choices (some_in_more (free_there choices) boxes (next ∷ []) h);
      }

  -- what was found in a box is the best so far
  found_in : (next : Branch) (old : Best) (boxes : List Branch) (member : Member) → IsCheapestUnder slots conflicts next.masks old.under member
      → (whole : List ℕ) (under : ℕ) → IsUnderWay slots conflicts whole under old (boxes ++ next ∷ []) → IsUnderWay slots conflicts whole under (record { under = member.cost; member = Some member }) boxes
  found_in next old boxes member f whole under u =
      let low : old.under ≤ under = fallen slots conflicts whole under old.under old.member u.found in
      let below : member.cost < old.under = f.below in
      record {
        found = record {
          free = u.inside member.choices (last_in_more (free_there member.choices) boxes next f.cheapest.free);
          costs = f.cheapest.costs;
          is = refl;
          below = omega (arith, low, below);
        };
        rest = λ choices free less. ⊎_elim (λ there. there) (λ here. absurd (too_dear choices here less)) (some_or_last (sought_there choices) boxes next (u.rest choices free (omega (arith, less, below))));
        inside = λ choices h. u.inside choices (some_in_more (free_there choices) boxes (next ∷ []) h);
      }
    where
      too_dear : (choices : List ℕ) → sought_there choices next ≡ true → choices_cost slots choices < member.cost → ⊥
      too_dear choices here less = let far : member.cost ≤ choices_cost slots choices = f.cheapest.least.least choices (sought_is_free choices next here) in omega (arith, far, less)

  -- two parts in place of a box
  parted : (next : Branch) (best : Best) (boxes left : List Branch) → PushesParts slots conflicts next.masks best.under boxes left
      → (whole : List ℕ) (under : ℕ) → IsUnderWay slots conflicts whole under best (boxes ++ next ∷ []) → IsUnderWay slots conflicts whole under best left
  parted next best boxes left t whole under u =
      record {
        found = u.found;
        rest = λ choices free less. ⊎_elim (t.kept choices) (λ here. t.rest choices (sought_is_free choices next here) less) (some_or_last (sought_there choices) boxes next (u.rest choices free less));
        inside = λ choices h. u.inside choices (⊎_elim (some_in_more (free_there choices) boxes (next ∷ [])) (last_in_more (free_there choices) boxes next) (t.inside choices h));
      }

-- the weights
weight-push : (boxes : List Branch) (next : Branch) → weight_of (boxes ++ next ∷ []) ≡ weight_of boxes + 3 ^ sum next.masks
weight-push boxes next = sum_by_push (λ (b : Branch). 3 ^ sum b.masks) boxes next

lighter-dropped : (boxes : List Branch) (next : Branch) → weight_of boxes < weight_of (boxes ++ next ∷ [])
lighter-dropped boxes next =
    let some : 1 ≤ 3 ^ sum next.masks = one-le-pow (sum next.masks) 3 (omega arith) in
    let all = weight-push boxes next in
    omega (arith, some, all)

third : (a w : ℕ) → a < w → 3 ^ a * 3 ≤ 3 ^ w
third a w less =
    let more : 3 ^ (a + 1) ≡ 3 ^ a * 3 = pow_more 3 a in
    let up : 3 ^ (a + 1) ≤ 3 ^ w = pow-le-pow_right (omega arith) (omega (arith, less)) in
    omega (arith, more, up)

-- one box less
module _ (slots : List (List Cost)) (conflicts : List (List Pair)) (next : Branch) (best : Best) (boxes : List Branch) where
  pub takes-dear : best.under ≤ next.low → TakesBox slots conflicts next best boxes best boxes
  takes-dear dear = record { goes_on = dropped slots conflicts next best boxes too_dear; lighter = lighter-dropped boxes next }
    where
      too_dear : (choices : List ℕ) → sought_there slots conflicts choices next ≡ true → choices_cost slots choices < best.under → ⊥
      too_dear choices here less =
          let parts = and_parts (is_free slots conflicts next.masks choices) (not (nat_lt (choices_cost slots choices) next.low)) here in
          let yes : nat_lt (choices_cost slots choices) next.low ≡ true = lt-ltb (choices_cost slots choices) next.low (omega (arith, less, dear)) in
          let no : not true ≡ true = rw yes at parts.1 in
          cc no

  pub takes-nothing : CostsAtLeast slots conflicts next.masks best.under → TakesBox slots conflicts next best boxes best boxes
  takes-nothing low = record { goes_on = dropped slots conflicts next best boxes too_dear; lighter = lighter-dropped boxes next }
    where
      too_dear : (choices : List ℕ) → sought_there slots conflicts choices next ≡ true → choices_cost slots choices < best.under → ⊥
      too_dear choices here less = let far : best.under ≤ choices_cost slots choices = low.least choices (sought_is_free slots conflicts choices next here) in omega (arith, far, less)

  pub takes-found : (new : Best) (member : Member) → IsCheapestUnder slots conflicts next.masks best.under member → new ≡ record { under = member.cost; member = Some member } → TakesBox slots conflicts next best boxes new boxes
  takes-found new member f is =
      subst (λ (b : Best). TakesBox slots conflicts next best boxes b boxes) (sym is) (record { goes_on = found_in slots conflicts next best boxes member f; lighter = lighter-dropped boxes next })

  pub takes-parts : (left : List Branch) → PushesParts slots conflicts next.masks best.under boxes left → TakesBox slots conflicts next best boxes best left
  takes-parts left t =
      record { goes_on = parted slots conflicts next best boxes left t; lighter = let light = t.lighter in let all = weight-push boxes next in omega (arith, light, all) }

-- what of a box is to be looked at has its cheapest members
module _ (slots : List (List Cost)) (conflicts : List (List Pair)) (masks : List ℕ) (under : ℕ) (branch : Branch) (b : IsBranchOf slots conflicts masks under branch) where
  pub branch_at_least : (least : ℕ) → CostsAtLeast slots conflicts masks least → CostsAtLeast slots conflicts branch.masks least
  branch_at_least least l = record { least = λ choices free. l.least choices (b.keeps.inside choices free) }

  pub branch_cheapest : (found : Option Member) → CheapestTells slots conflicts branch.masks under found → CheapestTells slots conflicts masks under found
  branch_cheapest None t = record { least = λ choices free. by choices free (cases_lt (choices_cost slots choices) under) }
    where
      by : (choices : List ℕ) → is_free slots conflicts masks choices ≡ true → (choices_cost slots choices < under) ⊎ (under ≤ choices_cost slots choices) → under ≤ choices_cost slots choices
      by choices free (inl less) = t.least choices (b.keeps.keeps choices free less)
      by choices free (inr more) = more
  branch_cheapest (Some member) t =
      record {
        cheapest = record {
          free = b.keeps.inside member.choices t.cheapest.free;
          costs = t.cheapest.costs;
          least = record { least = λ choices free. by choices free (cases_lt (choices_cost slots choices) under) };
        };
        below = t.below;
      }
    where
      by : (choices : List ℕ) → is_free slots conflicts masks choices ≡ true → (choices_cost slots choices < under) ⊎ (under ≤ choices_cost slots choices) → member.cost ≤ choices_cost slots choices
      by choices free (inl less) = t.cheapest.least.least choices (b.keeps.keeps choices free less)
      by choices free (inr more) = let below = t.below in omega (arith, below, more)

-- what of the two parts of a box is to be looked at
module _ (slots : List (List Cost)) (conflicts : List (List Pair)) (masks : List ℕ) (p : Pair) (under : ℕ) (one other : Option Branch) (apart : FallsApart masks p) (with : BranchTells slots conflicts (masks_with masks p) under one) (without : BranchTells slots conflicts (masks_without masks p) under other) where
  sought_of : (part : List ℕ) (branch : Option Branch) (choices : List ℕ) → BranchTells slots conflicts part under branch → is_free slots conflicts part choices ≡ true → choices_cost slots choices < under
      → is_sought_in_some slots conflicts (option_to_list branch) choices ≡ true
  sought_of part None choices t free less = let far : under ≤ choices_cost slots choices = t.least choices free in absurd (omega (arith, far, less))
  sought_of part (Some branch) choices t free less =
      let there : is_free slots conflicts branch.masks choices ≡ true = t.keeps.keeps choices free less in
      or_left (sought_there slots conflicts choices branch) false (free_is_sought slots conflicts choices branch (t.low.least choices there) there)

  inside_of : (part : List ℕ) (branch : Option Branch) (choices : List ℕ) → BranchTells slots conflicts part under branch → is_free_in_some slots conflicts (option_to_list branch) choices ≡ true → is_free slots conflicts part choices ≡ true
  inside_of part None choices t h = absurd (cc h)
  inside_of part (Some branch) choices t h = t.keeps.inside choices (⊎_elim (λ here. here) (λ never. absurd (cc never)) (or_cases (is_free slots conflicts branch.masks choices) false h))

  weighs : (part : List ℕ) (branch : Option Branch) → BranchTells slots conflicts part under branch → weight_of (option_to_list branch) ≤ 3 ^ sum part
  weighs part None t = omega arith
  weighs part (Some branch) t =
      let down : 3 ^ sum branch.masks ≤ 3 ^ sum part = pow-le-pow_right (omega arith) t.keeps.less in
      let is : weight_of (branch ∷ []) ≡ 3 ^ sum branch.masks + weight_of [] = sum_by-cons (λ (b : Branch). 3 ^ sum b.masks) branch [] in
      let none : weight_of [] ≡ 0 = refl in
      omega (arith, down, is, none)

  either : (choices : List ℕ) → is_free slots conflicts masks choices ≡ true → (is_free slots conflicts (masks_with masks p) choices ≡ true) ⊎ (is_free slots conflicts (masks_without masks p) choices ≡ true)
  either choices free = by (picks choices p) refl
    where
      by : (b : Bool) → picks choices p ≡ b → (is_free slots conflicts (masks_with masks p) choices ≡ true) ⊎ (is_free slots conflicts (masks_without masks p) choices ≡ true)
      by true has = inl (free_with slots conflicts masks choices p apart.within ∙ and_from (is_free slots conflicts masks choices) (picks choices p) free has)
      by false lacks = inr (free_without slots conflicts masks choices p apart.within ∙ and_from (is_free slots conflicts masks choices) (not (picks choices p)) free (not_from_false (picks choices p) lacks))

  back_with : (choices : List ℕ) → is_free slots conflicts (masks_with masks p) choices ≡ true → is_free slots conflicts masks choices ≡ true
  back_with choices h = (and_parts (is_free slots conflicts masks choices) (picks choices p) (sym (free_with slots conflicts masks choices p apart.within) ∙ h)).0

  back_without : (choices : List ℕ) → is_free slots conflicts (masks_without masks p) choices ≡ true → is_free slots conflicts masks choices ≡ true
  back_without choices h = (and_parts (is_free slots conflicts masks choices) (not (picks choices p)) (sym (free_without slots conflicts masks choices p apart.within) ∙ h)).0

  any_two : (f : Branch → Bool) (old : List Branch) (one other : Option Branch) → list_any f ((old ++ option_to_list one) ++ option_to_list other) ≡ (list_any f old || list_any f (option_to_list one)) || list_any f (option_to_list other)
  any_two f old one other = list_any-append f (old ++ option_to_list one) (option_to_list other) ∙ ap (λ b. b || list_any f (option_to_list other)) (list_any-append f old (option_to_list one))

  weight_two : (old : List Branch) (one other : Option Branch) → weight_of ((old ++ option_to_list one) ++ option_to_list other) ≡ (weight_of old + weight_of (option_to_list one)) + weight_of (option_to_list other)
  weight_two old one other = sum_by-append (λ (b : Branch). 3 ^ sum b.masks) (old ++ option_to_list one) (option_to_list other) ∙ ap (λ n. n + weight_of (option_to_list other)) (sum_by-append (λ (b : Branch). 3 ^ sum b.masks) old (option_to_list one))

  lighter : (old : List Branch) → (weight_of old + weight_of (option_to_list one)) + weight_of (option_to_list other) < weight_of old + 3 ^ sum masks
  lighter old =
      let first : 3 ^ sum (masks_with masks p) * 3 ≤ 3 ^ sum masks = third (sum (masks_with masks p)) (sum masks) apart.with_less in
      let second : 3 ^ sum (masks_without masks p) * 3 ≤ 3 ^ sum masks = third (sum (masks_without masks p)) (sum masks) apart.without_less in
      let some : 1 ≤ 3 ^ sum masks = one-le-pow (sum masks) 3 (omega arith) in
      let here : weight_of (option_to_list one) ≤ 3 ^ sum (masks_with masks p) = weighs (masks_with masks p) one with in
      let there : weight_of (option_to_list other) ≤ 3 ^ sum (masks_without masks p) = weighs (masks_without masks p) other without in
      omega (arith, first, second, some, here, there)

  or_one : (a b c : Bool) → a ≡ true → (((a || b) || c) ≡ true) × (((a || c) || b) ≡ true)
  or_one true b c h = (refl, refl)
  or_one false b c h = absurd (cc h)

  or_two : (a b c : Bool) → b ≡ true → (((a || b) || c) ≡ true) × (((a || c) || b) ≡ true)
  or_two true true c h = (refl, refl)
  or_two false true true h = (refl, refl)
  or_two false true false h = (refl, refl)
  or_two a false c h = absurd (cc h)

  which : (a b c : Bool) → ((a || b) || c) ≡ true → (a ≡ true) ⊎ ((b ≡ true) ⊎ (c ≡ true))
  which true b c h = inl refl
  which false true c h = inr (inl refl)
  which false false true h = inr (inr refl)
  which false false false h = absurd (cc h)

  pub pushes_parts : (old new : List Branch) → PushesBoth one other old new → PushesParts slots conflicts masks under old new
  pushes_parts old new (inl is) =
      subst (PushesParts slots conflicts masks under old) (sym is)
      (record {
        kept = λ choices h. any_two (sought_there slots conflicts choices) old one other ∙ (or_one _ _ _ h).0;
        rest = λ choices free less. any_two (sought_there slots conflicts choices) old one other
            ∙ ⊎_elim (λ here. (or_two (is_sought_in_some slots conflicts old choices) (is_sought_in_some slots conflicts (option_to_list one) choices) _ (sought_of (masks_with masks p) one choices with here less)).0)
            (λ there. (or_two (is_sought_in_some slots conflicts old choices) (is_sought_in_some slots conflicts (option_to_list other) choices) _ (sought_of (masks_without masks p) other choices without there less)).1) (either choices free);
        inside = λ choices h. ⊎_elim (λ before. inl before) (λ more. ⊎_elim (λ here. inr (back_with choices (inside_of (masks_with masks p) one choices with here))) (λ there. inr (back_without choices (inside_of (masks_without masks p) other choices without there))) more)
            (which _ _ _ (sym (any_two (free_there slots conflicts choices) old one other) ∙ h));
        lighter = let all = weight_two old one other in let light = lighter old in omega (arith, all, light);
      })
  pushes_parts old new (inr is) =
      subst (PushesParts slots conflicts masks under old) (sym is)
      (record {
        kept = λ choices h. any_two (sought_there slots conflicts choices) old other one ∙ (or_one _ _ _ h).0;
        rest = λ choices free less. any_two (sought_there slots conflicts choices) old other one
            ∙ ⊎_elim (λ here. (or_two (is_sought_in_some slots conflicts old choices) (is_sought_in_some slots conflicts (option_to_list one) choices) _ (sought_of (masks_with masks p) one choices with here less)).1)
            (λ there. (or_two (is_sought_in_some slots conflicts old choices) (is_sought_in_some slots conflicts (option_to_list other) choices) _ (sought_of (masks_without masks p) other choices without there less)).0) (either choices free);
        inside = λ choices h. ⊎_elim (λ before. inl before) (λ more. ⊎_elim (λ there. inr (back_without choices (inside_of (masks_without masks p) other choices without there))) (λ here. inr (back_with choices (inside_of (masks_with masks p) one choices with here))) more)
            (which _ _ _ (sym (any_two (free_there slots conflicts choices) old other one) ∙ h));
        lighter = let all = weight_two old other one in let light = lighter old in omega (arith, all, light);
      })

-- what conflicts rule out, what is too dear, and again
pub none_by_low : (slots : List (List Cost)) (conflicts : List (List Pair)) (masks : List ℕ) (low : ℕ) → HasNoneBy conflicts masks → CostsAtLeast slots conflicts masks low
none_by_low slots conflicts masks low n = record { least = λ choices free. absurd (clash _ free ((n.none slots).none choices)) }

module _ (slots : List (List Cost)) (conflicts : List (List Pair)) (whole narrowed cheap : List ℕ) (under : ℕ) (n : IsNoMoreBy conflicts whole narrowed) (k : KeepsUnder slots conflicts under narrowed cheap) where
  pub branch_none : HasNoneBy conflicts cheap → CostsAtLeast slots conflicts whole under
  branch_none none = record { least = λ choices free. by choices free (cases_lt (choices_cost slots choices) under) }
    where
      by : (choices : List ℕ) → is_free slots conflicts whole choices ≡ true → (choices_cost slots choices < under) ⊎ (under ≤ choices_cost slots choices) → under ≤ choices_cost slots choices
      by choices free (inl less) = absurd (clash _ (k.keeps choices (n.free.same slots choices ∙ free) less) ((none.none slots).none choices))
      by choices free (inr more) = more

  pub branch_some : (last : List ℕ) (low : ℕ) → CostsAtLeast slots conflicts narrowed low → low < under → IsNoMoreBy conflicts cheap last → IsBranchOf slots conflicts whole under (record { masks = last; low = low })
  branch_some last low l below m =
      record {
        keeps = record {
          inside = λ choices free. sym (n.free.same slots choices) ∙ k.inside choices (sym (m.free.same slots choices) ∙ free);
          keeps = λ choices free cheaper. m.free.same slots choices ∙ k.keeps choices (n.free.same slots choices ∙ free) cheaper;
          less = let a = n.less in let b = k.less in let c = m.less in omega (arith, a, b, c);
        };
        low = record { least = λ choices free. l.least choices (k.inside choices (sym (m.free.same slots choices) ∙ free)) };
        below = below;
      }

pub branch_dear : (slots : List (List Cost)) (conflicts : List (List Pair)) (whole narrowed : List ℕ) (low under : ℕ) → IsNoMoreBy conflicts whole narrowed → CostsAtLeast slots conflicts narrowed low → under ≤ low → CostsAtLeast slots conflicts whole under
branch_dear slots conflicts whole narrowed low under n l dear = record { least = λ choices free. let far : low ≤ choices_cost slots choices = l.least choices (n.free.same slots choices ∙ free) in omega (arith, far, dear) }

-- where the search begins and where it ends
pub under_way-begins : (slots : List (List Cost)) (conflicts : List (List Pair)) (first : Branch) (under : ℕ) (boxes : List Branch) → boxes ≡ first ∷ [] → CostsAtLeast slots conflicts first.masks first.low
    → IsUnderWay slots conflicts first.masks under (record { under = under; member = None }) boxes
under_way-begins slots conflicts first under boxes is low =
    subst (λ bs. IsUnderWay slots conflicts first.masks under (record { under = under; member = None }) bs) (sym is)
    (record {
      found = refl;
      rest = λ choices free less. or_left (sought_there slots conflicts choices first) false (free_is_sought slots conflicts choices first (low.least choices free) free);
      inside = λ choices h. ⊎_elim (λ here. here) (λ never. absurd (cc never)) (or_cases (is_free slots conflicts first.masks choices) false h);
    })

-- a box that was taken off the stack
pub under_way-next : (slots : List (List Cost)) (conflicts : List (List Pair)) (whole : List ℕ) (under : ℕ) (old new : Best) (boxes popped left : List Branch) (next : Branch) (taken : Option Branch)
    → boxes ≡ popped ++ option_to_list taken → taken ≡ Some next → TakesBox slots conflicts next old popped new left → IsUnderWay slots conflicts whole under old boxes → IsUnderWay slots conflicts whole under new left
under_way-next slots conflicts whole under old new boxes popped left next taken all is t u =
    t.goes_on whole under (subst (IsUnderWay slots conflicts whole under old) (all ∙ ap (λ (o : Option Branch). popped ++ option_to_list o) is) u)

-- where no member can cost less than what was found, that is the answer
answer : (slots : List (List Cost)) (conflicts : List (List Pair)) (whole : List ℕ) (under now : ℕ) (found : Option Member) → BestTells slots conflicts whole under now found
    → CostsAtLeast slots conflicts whole now → CheapestTells slots conflicts whole under found
answer slots conflicts whole under now None t low = subst (CostsAtLeast slots conflicts whole) t low
answer slots conflicts whole under now (Some member) t low =
    record {
      cheapest = record { free = t.free; costs = t.costs; least = subst (CostsAtLeast slots conflicts whole) (sym t.is) low };
      below = let less : now < under = t.below in let is : member.cost ≡ now = t.is in omega (arith, less, is);
    }

pub answer-empty : (slots : List (List Cost)) (conflicts : List (List Pair)) (whole : List ℕ) (under : ℕ) (best : Best) (boxes : List Branch) → boxes ≡ []
    → IsUnderWay slots conflicts whole under best boxes → CheapestTells slots conflicts whole under best.member
answer-empty slots conflicts whole under best boxes none u =
    answer slots conflicts whole under best.under best.member u.found (record { least = λ choices free. at_least choices free })
  where
    at_least : (choices : List ℕ) → is_free slots conflicts whole choices ≡ true → best.under ≤ choices_cost slots choices
    at_least choices free = by (cases_lt (choices_cost slots choices) best.under)
      where
        by : (choices_cost slots choices < best.under) ⊎ (best.under ≤ choices_cost slots choices) → best.under ≤ choices_cost slots choices
        by (inl less) =
            let some : is_sought_in_some slots conflicts [] choices ≡ true = subst (λ bs. is_sought_in_some slots conflicts bs choices ≡ true) none (u.rest choices free less) in
            absurd (cc some)
        by (inr more) = more

pub answer-enough : (slots : List (List Cost)) (conflicts : List (List Pair)) (whole : List ℕ) (least under : ℕ) (best : Best) (boxes : List Branch) → CostsAtLeast slots conflicts whole least
    → best.under ≤ least → IsUnderWay slots conflicts whole under best boxes → CheapestTells slots conflicts whole under best.member
answer-enough slots conflicts whole least under best boxes low enough u =
    answer slots conflicts whole under best.under best.member u.found
    (record { least = λ choices free. let far : least ≤ choices_cost slots choices = low.least choices free in omega (arith, far, enough) })
