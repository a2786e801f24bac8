-- Boxes that keep the first member: for each free member that was taken out another one is left that isn't after it.
use Rattle.std.proofs.Common.{◌≡◌, ◌≢◌, ℕ, zero, suc, ◌+◌, ◌<◌, ◌≤◌, Bool, true, false, not, nat_lt, nat_eq, ◌&&◌, ◌||◌, List, [], ◌∷◌, length, cond, Option, Some, None, ◌⊎◌, inl, inr, refl, sym, ◌∙◌, subst, arith}
use Rattle.std.specs.Prelude.{slice_index, slice_index_or, slice_set, sum}
use Rattle.std.proofs.lemmas.Bool.{and_from, and_parts, eqb-true, lt-ltb, ltb-true, false_from_ne_true, cases_eq, cases_lt}
use Rattle.std.proofs.lemmas.List.{set-get_or, get_or_past}
use Rattle.lv_base.specs.declared.ids.Cost.{Cost}
use Rattle.lv_base.specs.declared.search.Pair.{Pair}
use Rattle.lv_base.specs.Order.{comes_before}
use Rattle.lv_base.proofs.OrderLemmas.{irreflexive, transitive, connected}
use Rattle.lv_boxes.specs.Masks.{has_choice, without_choice}
use Rattle.lv_boxes.specs.Members.{is_left, are_left, choice_cost, choices_cost}
use Rattle.lv_boxes.proofs.MaskLemmas.{has_choice-without}
use Rattle.lv_boxes.specs.Walk.{is_ruled_out}
use Rattle.lv_search_guide.specs.declared.look.Member.{Member}
use Rattle.lv_search_bans.specs.Boxes.{is_free, has_left}
use Rattle.lv_search_guide.specs.Lowest.{LowestTells}
use Rattle.lv_search_guide.specs.First.{KeepsFirst, KeepsFirstOfLess, DropsTells, AreLoose, ranks_first, IsKeptBefore, IsKeptLoose}
use Rattle.lv_search_bans.proofs.BoxLemmas.{free_from, length-left, none_of_zero, smaller, without_and_only}
use Rattle.lv_search_bans.proofs.PriceLemmas.{left_at}

clash : (b : Bool) → b ≡ true → b ≡ false → ⊥
clash b p q = cc

-- what isn't before what isn't before isn't before
not_before : (xs ys zs : List ℕ) → comes_before xs ys ≡ false → comes_before ys zs ≡ false → comes_before xs zs ≡ false
not_before xs ys zs h k = by (comes_before ys xs) refl
  where
    by : (b : Bool) → comes_before ys xs ≡ b → comes_before xs zs ≡ false
    by true later = false_from_ne_true (comes_before xs zs) (λ before. clash (comes_before ys zs) (transitive ys xs zs later before) k)
    by false neither = subst (λ ws. comes_before ws zs ≡ false) (sym (connected xs ys h neither)) k

-- a free member of the new box that doesn't come after these choices
pub record StandsIn (slots : List (List Cost)) (conflicts : List (List Pair)) (new choices : List ℕ) : Type 0 where
  pub other : List ℕ
  pub free : is_free slots conflicts new other ≡ true
  pub cheap : choices_cost slots other ≤ choices_cost slots choices
  pub order : choices_cost slots other ≡ choices_cost slots choices → comes_before choices other ≡ false

pub keeps_by : (slots : List (List Cost)) (conflicts : List (List Pair)) (old new : List ℕ) → ((rows : List (List Cost)) (choices : List ℕ) → are_left rows new choices ≡ true → are_left rows old choices ≡ true)
    → ((choices : List ℕ) → is_free slots conflicts old choices ≡ true → StandsIn slots conflicts new choices) → KeepsFirst slots conflicts old new
keeps_by slots conflicts old new inside stands = record { inside = inside; first = first }
  where
    free_too : (choices : List ℕ) → is_free slots conflicts new choices ≡ true → is_free slots conflicts old choices ≡ true
    free_too choices free =
        let parts = and_parts (are_left slots new choices) (not (is_ruled_out conflicts choices)) free in
        and_from (are_left slots old choices) (not (is_ruled_out conflicts choices)) (inside slots choices parts.0) parts.1

    first : (answer : Option Member) → LowestTells slots conflicts new answer → LowestTells slots conflicts old answer
    first None t =
        record { none = λ choices. false_from_ne_true (is_free slots conflicts old choices) (λ free. let s = stands choices free in clash _ s.free (t.none s.other)) }
    first (Some member) t =
        record {
          cheapest = record { free = free_too member.choices t.cheapest.free; costs = t.cheapest.costs; least = record { least = at_least } };
          first = in_order;
        }
      where
        at_least : (choices : List ℕ) → is_free slots conflicts old choices ≡ true → member.cost ≤ choices_cost slots choices
        at_least choices free =
            let s = stands choices free in
            let low : member.cost ≤ choices_cost slots s.other = t.cheapest.least.least s.other s.free in
            let cheap = s.cheap in
            omega (arith, low, cheap)

        in_order : (choices : List ℕ) → is_free slots conflicts old choices ≡ true → choices_cost slots choices ≡ member.cost → comes_before choices member.choices ≡ false
        in_order choices free same =
            let s = stands choices free in
            let low : member.cost ≤ choices_cost slots s.other = t.cheapest.least.least s.other s.free in
            let cheap = s.cheap in
            not_before choices s.other member.choices (s.order (omega (arith, low, cheap, same))) (t.first s.other s.free (omega (arith, low, cheap, same)))

-- one step after another
pub keeps_itself : (slots : List (List Cost)) (conflicts : List (List Pair)) (masks : List ℕ) → KeepsFirst slots conflicts masks masks
keeps_itself slots conflicts masks = record { inside = λ rows choices left. left; first = λ answer told. told }

pub keeps_after : (slots : List (List Cost)) (conflicts : List (List Pair)) (old mid new : List ℕ) → KeepsFirst slots conflicts old mid → KeepsFirst slots conflicts mid new → KeepsFirst slots conflicts old new
keeps_after slots conflicts old mid new k l =
    record { inside = λ rows choices left. k.inside rows choices (l.inside rows choices left); first = λ answer told. k.first answer (l.first answer told) }

pub keeps_dropped : (slots : List (List Cost)) (conflicts : List (List Pair)) (old mid new : List ℕ) → KeepsFirst slots conflicts old mid → DropsTells slots conflicts mid new false → KeepsFirst slots conflicts old new
keeps_dropped slots conflicts old mid new k same = subst (λ (ms : List ℕ). KeepsFirst slots conflicts old ms) (sym same) k

pub drops_after : (slots : List (List Cost)) (conflicts : List (List Pair)) (old mid new : List ℕ) (changed more : Bool) → DropsTells slots conflicts old mid changed → DropsTells slots conflicts mid new more
    → DropsTells slots conflicts old new (changed || more)
drops_after slots conflicts old mid new true true t u =
    record { keeps = keeps_after slots conflicts old mid new t.keeps u.keeps; less = let one : sum mid < sum old = t.less in let two : sum new < sum mid = u.less in omega (arith, one, two) }
drops_after slots conflicts old mid new true false t u = subst (λ (ms : List ℕ). KeepsFirstOfLess slots conflicts old ms) (sym u) t
drops_after slots conflicts old mid new false true t u = subst (λ (ms : List ℕ). KeepsFirstOfLess slots conflicts ms new) t u
drops_after slots conflicts old mid new false false t u = u ∙ t

-- members of a box and the choices of one slot
pub left_inside : (slots : List (List Cost)) (masks choices : List ℕ) (s m : ℕ) → ((c : ℕ) → has_choice m c ≡ true → has_choice (slice_index masks s) c ≡ true)
    → are_left slots (slice_set masks s m) choices ≡ true → are_left slots masks choices ≡ true
left_inside slots [] choices s m inside h = h
left_inside [] (mask ∷ masks) choices zero m inside h = absurd (cc h)
left_inside [] (mask ∷ masks) choices (suc s) m inside h = absurd (cc h)
left_inside (costs ∷ slots) (mask ∷ masks) [] zero m inside h = absurd (cc h)
left_inside (costs ∷ slots) (mask ∷ masks) [] (suc s) m inside h = absurd (cc h)
left_inside (costs ∷ slots) (mask ∷ masks) (choice ∷ choices) zero m inside h =
    let parts = and_parts (is_left costs m choice) (are_left slots masks choices) h in
    let own = and_parts (nat_lt choice (length costs)) (has_choice m choice) parts.0 in
    and_from (is_left costs mask choice) (are_left slots masks choices) (and_from (nat_lt choice (length costs)) (has_choice mask choice) own.0 (inside choice own.1)) parts.1
left_inside (costs ∷ slots) (mask ∷ masks) (choice ∷ choices) (suc s) m inside h =
    let parts = and_parts (is_left costs mask choice) (are_left slots (slice_set masks s m) choices) h in
    and_from (is_left costs mask choice) (are_left slots masks choices) parts.0 (left_inside slots masks choices s m inside parts.1)

pub left_set : (slots : List (List Cost)) (masks choices : List ℕ) (s m c : ℕ) → s < length slots → are_left slots masks choices ≡ true → is_left (slice_index_or slots s []) m c ≡ true
    → are_left slots (slice_set masks s m) (slice_set choices s c) ≡ true
left_set [] masks choices s m c within h k = absurd (omega (arith, within))
left_set (costs ∷ slots) [] choices s m c within h k = absurd (cc h)
left_set (costs ∷ slots) (mask ∷ masks) [] s m c within h k = absurd (cc h)
left_set (costs ∷ slots) (mask ∷ masks) (choice ∷ choices) zero m c within h k =
    and_from (is_left costs m c) (are_left slots masks choices) k (and_parts (is_left costs mask choice) (are_left slots masks choices) h).1
left_set (costs ∷ slots) (mask ∷ masks) (choice ∷ choices) (suc s) m c within h k =
    let parts = and_parts (is_left costs mask choice) (are_left slots masks choices) h in
    and_from (is_left costs mask choice) (are_left slots (slice_set masks s m) (slice_set choices s c)) parts.0 (left_set slots masks choices s m c (omega (arith, within)) parts.1 k)

-- the same with all choices as they are
left_kept : (slots : List (List Cost)) (masks choices : List ℕ) (s m : ℕ) → s < length slots → are_left slots masks choices ≡ true → is_left (slice_index_or slots s []) m (slice_index choices s) ≡ true
    → are_left slots (slice_set masks s m) choices ≡ true
left_kept slots masks choices s m within h k =
    subst (λ (cs : List ℕ). are_left slots (slice_set masks s m) cs ≡ true) (set-get_or choices s 0) (left_set slots masks choices s m (slice_index choices s) within h k)

-- or with all masks as they are
left_put_at : (slots : List (List Cost)) (masks choices : List ℕ) (s c : ℕ) → s < length slots → are_left slots masks choices ≡ true → is_left (slice_index_or slots s []) (slice_index masks s) c ≡ true
    → are_left slots masks (slice_set choices s c) ≡ true
left_put_at slots masks choices s c within h k =
    subst (λ (ms : List ℕ). are_left slots ms (slice_set choices s c) ≡ true) (set-get_or masks s 0) (left_set slots masks choices s (slice_index masks s) c within h k)

cost_set : (slots : List (List Cost)) (masks choices : List ℕ) (s c : ℕ) → s < length slots → are_left slots masks choices ≡ true
    → choices_cost slots (slice_set choices s c) + choice_cost (slice_index_or slots s []) (slice_index choices s) ≡ choices_cost slots choices + choice_cost (slice_index_or slots s []) c
cost_set [] masks choices s c within h = absurd (omega (arith, within))
cost_set (costs ∷ slots) [] choices s c within h = absurd (cc h)
cost_set (costs ∷ slots) (mask ∷ masks) [] s c within h = absurd (cc h)
cost_set (costs ∷ slots) (mask ∷ masks) (choice ∷ choices) zero c within h = omega arith
cost_set (costs ∷ slots) (mask ∷ masks) (choice ∷ choices) (suc s) c within h =
    let rest = cost_set slots masks choices s c (omega (arith, within)) (and_parts (is_left costs mask choice) (are_left slots masks choices) h).1 in
    omega (arith, rest)

order_set : (choices : List ℕ) (s c : ℕ) → s < length choices → comes_before choices (slice_set choices s c) ≡ true → slice_index choices s < c
order_set [] s c within h = absurd (omega (arith, within))
order_set (choice ∷ choices) zero c within h = by (nat_lt choice c) refl h
  where
    by : (b : Bool) → nat_lt choice c ≡ b → (b || (nat_eq choice c && comes_before choices choices)) ≡ true → choice < c
    by true less k = ltb-true choice c less
    by false less k = absurd (clash _ (and_parts (nat_eq choice c) (comes_before choices choices) k).1 (irreflexive choices))
order_set (choice ∷ choices) (suc s) c within h =
    order_set choices s c (omega (arith, within)) (by (nat_lt choice choice) (nat_eq choice choice) (false_from_ne_true (nat_lt choice choice) (λ less. let below : choice < choice = ltb-true choice choice less in absurd (omega (arith, below)))) h)
  where
    by : (a b : Bool) → a ≡ false → (a || (b && comes_before choices (slice_set choices s c))) ≡ true → comes_before choices (slice_set choices s c) ≡ true
    by true b out k = absurd (cc out)
    by false true out k = k
    by false false out k = absurd (cc k)

-- without what a loose choice of a slot ranks before the box keeps its first member
module _ (slots : List (List Cost)) (conflicts : List (List Pair)) (masks loose : List ℕ) (s kept : ℕ) (within : s < length slots) (are : AreLoose conflicts masks loose)
    (k : IsKeptLoose (slice_index_or slots s []) (slice_index loose s) (slice_index masks s) kept) where
  abbrev costs : List Cost
  costs = slice_index_or slots s []

  abbrev new : List ℕ
  new = slice_set masks s kept

  abbrev put : List ℕ → List ℕ
  put choices = slice_set choices s k.first

  has_loose : has_left loose (record { slot = s; choice = k.first }) ≡ true
  has_loose = and_from (nat_lt s (length loose)) (has_choice (slice_index loose s) k.first) (by (cases_lt s (length loose))) k.is.loose_too
    where
      by : (s < length loose) ⊎ (length loose ≤ s) → nat_lt s (length loose) ≡ true
      by (inl here) = lt-ltb s (length loose) here
      by (inr past) =
          let none : slice_index loose s ≡ 0 = get_or_past loose s 0 past in
          let has : has_choice 0 k.first ≡ true = subst (λ (n : ℕ). has_choice n k.first ≡ true) none k.is.loose_too in
          absurd (clash (has_choice 0 k.first) has (none_of_zero k.first))

  stands_in : (choices : List ℕ) → is_free slots conflicts masks choices ≡ true → StandsIn slots conflicts new choices
  stands_in choices free = by (has_choice kept (slice_index choices s)) refl
    where
      parts : (are_left slots masks choices ≡ true) × (not (is_ruled_out conflicts choices) ≡ true)
      parts = and_parts (are_left slots masks choices) (not (is_ruled_out conflicts choices)) free

      own : (nat_lt (slice_index choices s) (length costs) ≡ true) × (has_choice (slice_index masks s) (slice_index choices s) ≡ true)
      own = and_parts (nat_lt (slice_index choices s) (length costs)) (has_choice (slice_index masks s) (slice_index choices s)) (left_at slots s masks choices within parts.0)

      long : s < length choices
      long = subst (λ (n : ℕ). s < n) (sym (length-left slots masks choices parts.0)) within

      put_in_old : are_left slots masks (put choices) ≡ true
      put_in_old = left_put_at slots masks choices s k.first within parts.0 (and_from (nat_lt k.first (length costs)) (has_choice (slice_index masks s) k.first) k.is.within k.is.left)

      put_in_new : are_left slots new (put choices) ≡ true
      put_in_new = left_set slots masks choices s kept k.first within parts.0 (and_from (nat_lt k.first (length costs)) (has_choice kept k.first) k.is.within k.kept_too.some)

      unruled : (b : Bool) → not b ≡ true → b ≡ false
      unruled true h = absurd (cc h)
      unruled false h = refl

      by : (b : Bool) → has_choice kept (slice_index choices s) ≡ b → StandsIn slots conflicts new choices
      by true has =
          record {
            other = choices;
            free = and_from (are_left slots new choices) (not (is_ruled_out conflicts choices))
                (left_kept slots masks choices s kept within parts.0 (and_from (nat_lt (slice_index choices s) (length costs)) (has_choice kept (slice_index choices s)) own.0 has)) parts.1;
            cheap = omega arith;
            order = λ same. irreflexive choices;
          }
      by false has =
          let before : ranks_first costs k.first (slice_index choices s) ≡ true = k.kept_too.behind (slice_index choices s) own.1 has in
          let sums = cost_set slots masks choices s k.first within parts.0 in
          record {
            other = put choices;
            free = free_from slots conflicts new (put choices) put_in_new (are.stays slots choices (record { slot = s; choice = k.first }) has_loose put_in_old (unruled (is_ruled_out conflicts choices) parts.1));
            cheap = let low : choice_cost costs k.first ≤ choice_cost costs (slice_index choices s) = cheaper before in omega (arith, low, sums);
            order = λ same. false_from_ne_true (comes_before choices (put choices)) (λ h.
                let less : slice_index choices s < k.first = order_set choices s k.first long h in
                let even : choice_cost costs k.first ≡ choice_cost costs (slice_index choices s) = omega (arith, same, sums) in
                lower before even less);
          }
        where
          cheaper : ranks_first costs k.first (slice_index choices s) ≡ true → choice_cost costs k.first ≤ choice_cost costs (slice_index choices s)
          cheaper h = grind arith

          lower : ranks_first costs k.first (slice_index choices s) ≡ true → choice_cost costs k.first ≡ choice_cost costs (slice_index choices s) → slice_index choices s < k.first → ⊥
          lower h even less = grind arith

  pub kept_drops : kept ≢ slice_index masks s → KeepsFirstOfLess slots conflicts masks new
  kept_drops other =
      record {
        keeps = keeps_by slots conflicts masks new (λ rows choices h. left_inside rows masks choices s kept k.kept_too.inside h) stands_in;
        less = smaller masks s kept (by (cases_lt s (length masks))) k.kept_too.fewer other;
      }
    where
      by : (s < length masks) ⊎ (length masks ≤ s) → s < length masks
      by (inl here) = here
      by (inr past) =
          let none : slice_index masks s ≡ 0 = get_or_past masks s 0 past in
          let fewer : kept ≤ slice_index masks s = k.kept_too.fewer in
          absurd (other (omega (arith, none, fewer)))

-- what is loose stays loose
pub loose_now : (slots : List (List Cost)) (conflicts : List (List Pair)) (old new loose : List ℕ) (changed : Bool) → DropsTells slots conflicts old new changed → AreLoose conflicts old loose → AreLoose conflicts new loose
loose_now slots conflicts old new loose true t are = record { stays = λ rows choices p h left free. are.stays rows choices p h (t.keeps.inside rows (slice_set choices p.slot p.choice) left) free }
loose_now slots conflicts old new loose false t are = subst (λ (ms : List ℕ). AreLoose conflicts ms loose) (sym t) are

-- one slot more
pub drops_slot : (slots : List (List Cost)) (conflicts : List (List Pair)) (old mid new loose : List ℕ) (changed more : Bool) → AreLoose conflicts old loose → DropsTells slots conflicts old mid changed
    → (AreLoose conflicts mid loose → DropsTells slots conflicts mid new more) → DropsTells slots conflicts old new (changed || more)
drops_slot slots conflicts old mid new loose changed more are t step = drops_after slots conflicts old mid new changed more t (step (loose_now slots conflicts old mid loose changed t are))

-- the same of what was read and what was written
pub slot_drops : (slots : List (List Cost)) (conflicts : List (List Pair)) (masks loose : List ℕ) (s : ℕ) (costs : List Cost) (word mask kept : ℕ) (new : List ℕ) → s < length slots → slice_index_or slots s [] ≡ costs
    → word ≡ slice_index loose s → mask ≡ slice_index masks s → AreLoose conflicts masks loose → IsKeptLoose costs word mask kept → kept ≢ mask → new ≡ slice_set masks s kept → KeepsFirstOfLess slots conflicts masks new
slot_drops slots conflicts masks loose s costs word mask kept new within row word_is mask_is are k other new_is =
    subst (λ (ms : List ℕ). KeepsFirstOfLess slots conflicts masks ms) (sym new_is)
    (kept_drops slots conflicts masks loose s kept within are
    (subst (λ (cs : List Cost). IsKeptLoose cs (slice_index loose s) (slice_index masks s) kept) (sym row)
    (subst (λ (n : ℕ). IsKeptLoose costs n (slice_index masks s) kept) word_is (subst (λ (n : ℕ). IsKeptLoose costs word n kept) mask_is k)))
    (λ e. other (e ∙ sym mask_is)))

pub drops_slot_by : (slots : List (List Cost)) (conflicts : List (List Pair)) (old mid new loose : List ℕ) (changed more now : Bool) → now ≡ (changed || more) → AreLoose conflicts old loose
    → DropsTells slots conflicts old mid changed → (AreLoose conflicts mid loose → DropsTells slots conflicts mid new more) → DropsTells slots conflicts old new now
drops_slot_by slots conflicts old mid new loose changed more now is are t step =
    subst (DropsTells slots conflicts old new) (sym is) (drops_slot slots conflicts old mid new loose changed more are t step)

-- of a slot's choices
pub kept_begins : (costs : List Cost) (first mask : ℕ) → has_choice mask first ≡ true → IsKeptBefore costs first mask mask
kept_begins costs first mask has = record { some = has; inside = λ c h. h; behind = λ c h k. absurd (clash (has_choice mask c) h k); fewer = omega arith }

pub kept_more : (costs : List Cost) (first mask kept choice new : ℕ) (behind : Bool) → behind ≡ ranks_first costs first choice → new ≡ cond behind (without_choice kept choice) kept
    → IsKeptBefore costs first mask kept → IsKeptBefore costs first mask new
kept_more costs first mask kept choice new false behind is k = subst (λ (n : ℕ). IsKeptBefore costs first mask n) (sym is) k
kept_more costs first mask kept choice new true behind is k =
    subst (λ (n : ℕ). IsKeptBefore costs first mask n) (sym is)
    (record {
      some = has_choice-without kept choice first ∙ and_from (has_choice kept first) (not (nat_eq first choice)) k.some (other (sym behind));
      inside = λ c h. k.inside c (parts c h).0;
      behind = later;
      fewer = let sums = without_and_only kept choice in let fewer = k.fewer in omega (arith, sums, fewer);
    })
  where
    parts : (c : ℕ) → has_choice (without_choice kept choice) c ≡ true → (has_choice kept c ≡ true) × (not (nat_eq c choice) ≡ true)
    parts c h = and_parts (has_choice kept c) (not (nat_eq c choice)) (sym (has_choice-without kept choice c) ∙ h)

    other : ranks_first costs first choice ≡ true → not (nat_eq first choice) ≡ true
    other h = grind arith

    later : (c : ℕ) → has_choice mask c ≡ true → has_choice (without_choice kept choice) c ≡ false → ranks_first costs first c ≡ true
    later c h gone = by (cases_eq c choice)
      where
        by : (c ≡ choice) ⊎ (c ≡ choice → ⊥) → ranks_first costs first c ≡ true
        by (inl same) = rw same (sym behind)
        by (inr apart) = k.behind c h (sym (still apart) ∙ gone)
          where
            still : (c ≡ choice → ⊥) → has_choice (without_choice kept choice) c ≡ has_choice kept c
            still apart = has_choice-without kept choice c ∙ by_eq (nat_eq c choice) refl
              where
                by_eq : (b : Bool) → nat_eq c choice ≡ b → (has_choice kept c && not b) ≡ has_choice kept c
                by_eq true e = absurd (apart (eqb-true c choice e))
                by_eq false e = and_true (has_choice kept c)
                  where
                    and_true : (b : Bool) → (b && true) ≡ b
                    and_true true = refl
                    and_true false = refl
