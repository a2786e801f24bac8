-- What is left in a queue when the first zone is split by the target of the member that it is kept by.
use Rattle.std.proofs.Common.{◌≡◌, ℕ, ◌+◌, ◌≤◌, Bool, true, false, not, ◌&&◌, ◌||◌, List, ◌∷◌, length, filter, inr, refl, sym, ◌∙◌, ap, subst, cond, nat_eq, nat_lt, arith}
use Rattle.std.specs.Prelude.{All}
use Rattle.std.specs.Map.{keys_of}
use Rattle.std.specs.declared.cmp.Ordering.TheVariants.{Less}
use Rattle.std.proofs.lemmas.Bool.{and_parts, or_parts, not-false}
use Rattle.lv_base.specs.declared.ids.Cost.{Cost}
use Rattle.lv_base.specs.declared.rank.Rank.{Rank}
use Rattle.lv_base.specs.declared.search.Pair.{Pair}
use Rattle.lv_base.specs.Rank.{rank_cmp}
use Rattle.lv_boxes.specs.Members.{ZoneValue, are_left, is_member, choices_cost}
use Rattle.lv_boxes.specs.GroupParts.{have_shape, parts_by_groups}
use Rattle.lv_boxes.specs.RankedMembers.{ranks_in, times_in}
use Rattle.lv_boxes.proofs.GroupPartsLemmas.{one_length}
use Rattle.lv_boxes.proofs.GroupTimesLemmas.{group_times}
use Rattle.lv_boxes.proofs.MemberLemmas.{length-are_left}
use Rattle.lv_boxes.proofs.RankedMemberLemmas.{some_by_first}
use Rattle.lv_boxes.specs.Ranked.{is_among}
use Rattle.lv_boxes.specs.Groups.{have_same_groups}
use Rattle.lv_boxes.specs.Walk.{candidate_of}
use Rattle.lv_boxes.proofs.RankedLemmas.{one_list}
use Rattle.lv_search.specs.Frontier.{LeavesFirst, IsLikeFirst, ThinsAlike, LeavesOut}
use Rattle.lv_search.proofs.NextLemmas.{first_and_rest}
use Rattle.lv_search.proofs.GroupLemmas.{has_own_groups}
use Rattle.lv_search.proofs.LeftLemmas.{times_one}
use Rattle.lv_search.proofs.LeftLemmas.{rises_filtered, filter_among, some_with}
use Rattle.lv_search.specs.Free.{is_free_rank}
use Rattle.lv_guide.specs.Guide.{zones_in, left_in, IsQueue, IsReady, HasRoomBy, HasMoreBy, HasSameFree, DropsAlike}
use Rattle.lv_guide.proofs.GuideLemmas.{each_slot, rest_of_queue, among_left, left_rises, first_is_key, keys_above, NoKeyBefore, same_left}

abbrev Entry : Type 0
Entry = Rank × ZoneValue

module _ (slots : List (List Cost)) (groups : List (List ℕ)) (shape : have_shape slots groups ≡ true) where
  module _ (e : Entry) (es : List Entry) (queue : IsQueue slots (e ∷ es)) (member : List ℕ) (own : member ≡ e.0.choices) where
    is_key : ranks_in slots e.0 e.1 ≡ true
    is_key = queue.members.0

    member_length : length member ≡ length groups
    member_length = ap length own ∙ each_slot slots e is_key ∙ one_length slots groups shape

    key_left : are_left slots e.1.masks e.0.choices ≡ true
    key_left =
        let inside = (and_parts (is_member slots e.1 (candidate_of e.0)) (nat_eq e.0.cost.0 (e.1.base.0 + choices_cost slots e.0.choices)) is_key).0 in
        (and_parts (nat_eq e.0.source e.1.source) (are_left slots e.1.masks e.0.choices) inside).1

    masks_length : length e.1.masks ≡ length groups
    masks_length = sym (length-are_left slots e.1.masks e.0.choices key_left) ∙ each_slot slots e is_key ∙ one_length slots groups shape

    abbrev parts : List ZoneValue
    parts = parts_by_groups e.1 groups member

    abbrev out : Rank → Bool
    out r = have_same_groups groups r.choices member

    times : (r : Rank) → times_in slots r parts ≡ cond (ranks_in slots r e.1 && not (out r)) 1 0
    times r = group_times slots r e.1 groups member shape masks_length member_length

    room : HasRoomBy slots parts es
    room =
        record {
          queue = rest_of_queue slots e es queue;
          apart = λ r.
              let now = times r in
              let few : times_in slots r (zones_in (e ∷ es)) ≤ 1 = queue.apart r in
              let less = at_most (ranks_in slots r e.1) (not (out r)) in
              omega (arith, now, few, less);
        }
      where
        at_most : (a b : Bool) → cond (a && b) 1 0 ≤ cond a 1 0
        at_most true true = omega arith
        at_most true false = omega arith
        at_most false b = omega arith

    abbrev others : Rank → Bool
    others r = nat_lt 0 (times_in slots r (zones_in es))

    only_first : others e.0 ≡ false
    only_first =
        let one : times_in slots e.0 (zones_in (e ∷ es)) ≡ 1 + times_in slots e.0 (zones_in es) = times_one slots e.0 e.1 (zones_in es) is_key in
        let few : times_in slots e.0 (zones_in (e ∷ es)) ≤ 1 = queue.apart e.0 in
        let none : times_in slots e.0 (zones_in es) ≡ 0 = omega (arith, one, few) in
        ap (nat_lt 0) none

    abbrev keeps : Rank → Bool
    keeps r = others r || not (out r)

    module _ (known : List (List Pair)) (ready : IsReady slots known (e ∷ es)) (keys : NoKeyBefore slots known e.0 es) (new : List Entry) (has : HasMoreBy slots known parts es new) where
      abbrev old_left : List Rank
      old_left = left_in slots known (e ∷ es)

      abbrev new_left : List Rank
      new_left = left_in slots known new

      among_new : (r : Rank) → is_among r new_left ≡ (is_free_rank known r && (others r || (ranks_in slots r e.1 && not (out r))))
      among_new r = among_left slots known new r ∙ by (is_free_rank known r) refl
        where
          by : (b : Bool) → is_free_rank known r ≡ b → (b && nat_lt 0 (times_in slots r (zones_in new))) ≡ (b && (others r || (ranks_in slots r e.1 && not (out r))))
          by true free =
              ap (nat_lt 0) (has.times r free ∙ ap (λ n. times_in slots r (zones_in es) + n) (times r)) ∙ some_with slots (times_in slots r (zones_in es)) (ranks_in slots r e.1 && not (out r))
          by false free = refl

      among_old : (r : Rank) → is_among r old_left ≡ (is_free_rank known r && (ranks_in slots r e.1 || others r))
      among_old r = among_left slots known (e ∷ es) r ∙ ap (λ b. is_free_rank known r && b) (some_by_first slots r e.1 (zones_in es))

      agree : (a p f c : Bool) → (a && (p || (f && not c))) ≡ ((p || not c) && (a && (f || p)))
      agree false true f c = refl
      agree false false f true = refl
      agree false false f false = refl
      agree true true true c = refl
      agree true true false c = refl
      agree true false true true = refl
      agree true false true false = refl
      agree true false false true = refl
      agree true false false false = refl

      filtered : new_left ≡ filter keeps old_left
      filtered =
          one_list new_left (filter keeps old_left) (left_rises slots known new) (rises_filtered keeps old_left (left_rises slots known (e ∷ es)))
          (λ r. among_new r
          ∙ agree (is_free_rank known r) (others r) (ranks_in slots r e.1) (out r)
          ∙ sym (filter_among keeps r old_left ∙ ap (λ b. keeps r && b) (among_old r)))

      abbrev rest : List Rank
      rest = (first_and_rest old_left e.0 (first_is_key slots known e es ready keys)).0

      left_is : old_left ≡ e.0 ∷ rest
      left_is = (first_and_rest old_left e.0 (first_is_key slots known e es ready keys)).1

      thins : ThinsAlike groups old_left new_left
      thins =
          record {
            keeps = keeps;
            same = filtered;
            first =
                let inside : out e.0 ≡ true = ap (have_same_groups groups e.0.choices) own ∙ has_own_groups groups e.0.choices in
                let gone : keeps e.0 ≡ false = λ i. only_first i || not (inside i) in
                subst (λ (rs : List Rank). LeavesFirst keeps rs) (sym left_is) gone;
            only = λ r k.
                subst (λ (rs : List Rank). IsLikeFirst groups r rs) (sym left_is)
                (sym (ap (have_same_groups groups r.choices) own) ∙ not-false (out r) (or_parts (others r) (not (out r)) k).1);
          }

      drops : DropsAlike slots known groups (e ∷ es) new
      drops = record { kept = record { queue = has.queue; first = has.first ready.kept.first.1 }; left = inr thins }

  -- the first entry, taken out
  module _ (entries : List Entry) (e : Entry) (es : List Entry) (is : entries ≡ e ∷ es) (queue : IsQueue slots entries) (member : List ℕ) (own : member ≡ e.0.choices) where
    queue_so : IsQueue slots (e ∷ es)
    queue_so = subst (λ ds. IsQueue slots ds) is queue

    pub room_for_alike : HasRoomBy slots (parts_by_groups e.1 groups member) es
    room_for_alike = room e es queue_so member own

    pub drops_alike : (known : List (List Pair)) (new : List Entry) → All (λ q. rank_cmp e.0 q ≡ Less) (keys_of es) → HasMoreBy slots known (parts_by_groups e.1 groups member) es new
        → IsReady slots known entries → DropsAlike slots known groups entries new
    drops_alike known new above has ready =
        subst (λ ds. DropsAlike slots known groups ds new) (sym is)
        (drops e es queue_so member own known (subst (λ ds. IsReady slots known ds) is ready) (keys_above slots known e.0 es above) new has)

-- what is left is that after the look ahead, and what was held is what was taken
module _ (slots : List (List Cost)) (groups : List (List ℕ)) (known asked : List (List Pair)) (held old mid new : List Entry) (taken : old ≡ held) where
  pub alike_is : asked ≡ known → DropsAlike slots asked groups old mid → HasSameFree slots asked mid new → LeavesOut groups (left_in slots known held) (left_in slots known new)
  alike_is is drops same =
      subst (λ (ds : List Entry). LeavesOut groups (left_in slots known ds) (left_in slots known new)) taken
      (subst (λ (ks : List (List Pair)). LeavesOut groups (left_in slots ks old) (left_in slots ks new)) is
      (subst (λ (rs : List Rank). LeavesOut groups (left_in slots asked old) rs) (sym (same_left slots asked mid new same)) drops.left))
