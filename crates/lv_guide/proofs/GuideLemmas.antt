-- What is left in a queue of zones that are each kept by a member, when zones are put in, when one is looked at again, and when the
-- first is left out.
use Rattle.std.proofs.Common.{◌≡◌, ℕ, ◌+◌, ◌≤◌, Bool, true, false, not, ◌&&◌, ◌||◌, List, [], ◌∷◌, ◌++◌, length, drop, filter, refl, sym, ◌∙◌, ap, subst, cond, nat_eq, nat_lt, arith}
use Rattle.std.specs.Prelude.{slice_get, Some, All}
use Rattle.std.specs.List.{AllByRecursion, list_all, list_any}
use Rattle.std.specs.Map.{keys_of}
use Rattle.std.specs.BTreeMap.{insert_entry}
use Rattle.std.specs.Ordering.{is_gt, match_ordering}
use Rattle.std.specs.declared.cmp.Ordering.{Ordering}
use Rattle.std.specs.declared.cmp.Ordering.TheVariants.{Less, Equal, Greater}
use Rattle.std.proofs.lemmas.Bool.{and_from, and_parts, or_left, or_right, eq-eqb, both_ways, false_from_ne_true, not-false}
use Rattle.std.proofs.lemmas.List.Elements.{All-head, All-tail}
use Rattle.std.proofs.lemmas.List.Folds.{list_all-append}
use Rattle.lv_base.specs.declared.ids.Cost.{Cost}
use Rattle.lv_base.specs.declared.rank.Rank.{Rank}
use Rattle.lv_base.specs.declared.search.Pair.{Pair}
use Rattle.lv_base.specs.declared.search.Candidate.{Candidate}
use Rattle.lv_base.specs.Rank.{rank_key, ranks_before, rank_cmp}
use Rattle.lv_base.specs.Choices.{contains_all}
use Rattle.lv_base.proofs.OrderLemmas.{before_by_cmp, greater_is_after}
use Rattle.lv_boxes.specs.Members.{ZoneValue, are_left, is_member, choices_cost, rank_in}
use Rattle.lv_boxes.specs.Least.{lacks_choice}
use Rattle.lv_boxes.specs.Parts.{parts_of}
use Rattle.lv_boxes.specs.Laws.{pairs_of, LosesOne}
use Rattle.lv_boxes.specs.RankedMembers.{ranked_members, ranks_in, times_in, IsLeastRank, sources_differ}
use Rattle.lv_boxes.proofs.PartsLemmas.{parts_are_split}
use Rattle.lv_boxes.proofs.MemberLemmas.{loses_one}
use Rattle.lv_boxes.proofs.RankedMemberLemmas.{among_ranked_members, ranked_members_rise, rank_of_member, some_by_first, has_least_rank, lacking_has_none}
use Rattle.lv_boxes.specs.Ranked.{rises, is_rank, is_among}
use Rattle.lv_boxes.specs.Walk.{candidate_of, is_ruled_out}
use Rattle.lv_boxes.proofs.RankedLemmas.{not_before_itself, not_both_before, same_rank, is_itself, one_list, equal_by_cmp}
use Rattle.lv_search_guide.specs.Free.{is_free_member, IsLeastFree, HasNoFree}
use Rattle.lv_guide.specs.Narrowed.{IsNarrowed}
use Rattle.lv_guide.specs.Near.{AreAmong, IsFirstNear}
use Rattle.lv_guide.specs.Beside.{IsBeside}
use Rattle.lv_search.specs.Frontier.{FirstContains, LeavesFirst, Thins}
use Rattle.lv_search.specs.Free.{is_free_rank, free_of}
use Rattle.lv_guide.specs.Guide.{zones_in, left_in, IsKeyMember, IsKeyFirst, IsQueue, AreKeptBy, front_is_free, IsReady, HasRoomBy, HasMoreBy, HasMore, HasSameFree, stale_in, LooksAgain, DropsFirst}
use Rattle.lv_search.proofs.NextLemmas.{first_and_rest}
use Rattle.lv_search.proofs.LeftLemmas.{times_none, times_one}
use Rattle.lv_search.proofs.LeftLemmas.{first_of_rising, none_before_on, filter_among, rises_filtered, among_behind, choices_per_slot, stays, parts_times, some_with, sources_apart}

abbrev Entry : Type 0
Entry = Rank × ZoneValue

-- one more conflict is known
ruled_out_more : (known : List (List Pair)) (conflict : List Pair) (choices : List ℕ) → not (is_ruled_out (known ++ conflict ∷ []) choices) ≡ (not (is_ruled_out known choices) && not (contains_all choices conflict))
ruled_out_more [] conflict choices = by (contains_all choices conflict)
  where
    by : (b : Bool) → not (b || false) ≡ (true && not b)
    by true = refl
    by false = refl
ruled_out_more (k ∷ ks) conflict choices = by (contains_all choices k) (ruled_out_more ks conflict choices)
  where
    by : (b : Bool) → not (is_ruled_out (ks ++ conflict ∷ []) choices) ≡ (not (is_ruled_out ks choices) && not (contains_all choices conflict))
        → not (b || is_ruled_out (ks ++ conflict ∷ []) choices) ≡ (not (b || is_ruled_out ks choices) && not (contains_all choices conflict))
    by true rest = refl
    by false rest = rest

pub free_before : (known : List (List Pair)) (conflict : List Pair) (r : Rank) → is_free_rank (known ++ conflict ∷ []) r ≡ true → is_free_rank known r ≡ true
free_before known conflict r free = (and_parts (is_free_rank known r) (not (contains_all r.choices conflict)) (sym (ruled_out_more known conflict r.choices) ∙ free)).0

-- what is among the known conflicts stays among them, and what contains none of these contains none of it
among_more : (others known : List (List Pair)) (conflict : List Pair) → AreAmong others known → AreAmong others (known ++ conflict ∷ [])
among_more others known conflict among =
    record { each = λ test all. among.each test (and_parts (list_all test known) (list_all test (conflict ∷ [])) (sym (list_all-append test known (conflict ∷ [])) ∙ all)).0 }

free_by_each : (choices : List ℕ) (known : List (List Pair)) → not (is_ruled_out known choices) ≡ list_all (λ k. not (contains_all choices k)) known
free_by_each choices [] = refl
free_by_each choices (k ∷ ks) = by (contains_all choices k) (free_by_each choices ks)
  where
    by : (b : Bool) → not (is_ruled_out ks choices) ≡ list_all (λ j. not (contains_all choices j)) ks → not (b || is_ruled_out ks choices) ≡ (not b && list_all (λ j. not (contains_all choices j)) ks)
    by true rest = refl
    by false rest = rest

free_among : (others known : List (List Pair)) (r : Rank) → AreAmong others known → is_free_rank known r ≡ true → is_free_rank others r ≡ true
free_among others known r among free = free_by_each r.choices others ∙ among.each (λ k. not (contains_all r.choices k)) (sym (free_by_each r.choices known) ∙ free)

pub ruled_if_free : (known : List (List Pair)) (r : Rank) → is_free_rank known r ≡ true → is_ruled_out known r.choices ≡ false
ruled_if_free known r free = by (is_ruled_out known r.choices) free
  where
    by : (b : Bool) → not b ≡ true → b ≡ false
    by true h = absurd (cc h)
    by false h = refl

filter_both : (p q : Rank → Bool) (rs : List Rank) → filter (λ r. p r && q r) rs ≡ filter q (filter p rs)
filter_both p q [] = refl
filter_both p q (r ∷ rs) = by (p r) (filter_both p q rs)
  where
    by : (b : Bool) → filter (λ s. p s && q s) rs ≡ filter q (filter p rs) → cond (b && q r) (r ∷ filter (λ s. p s && q s) rs) (filter (λ s. p s && q s) rs) ≡ filter q (cond b (r ∷ filter p rs) (filter p rs))
    by true rest = ap (λ ss. cond (q r) (r ∷ ss) ss) rest
    by false rest = rest

filter_all : (p : Rank → Bool) (rs : List Rank) → ((r : Rank) → p r ≡ true) → filter p rs ≡ rs
filter_all p [] all = refl
filter_all p (r ∷ rs) all = (λ i. cond (all r i) (r ∷ filter p rs) (filter p rs)) ∙ ap (λ ss. r ∷ ss) (filter_all p rs all)

abbrev zero_or_one : Bool → ℕ
zero_or_one b = cond b 0 1

module _ (slots : List (List Cost)) where
  free_member : (known : List (List Pair)) (zone : ZoneValue) (r : Rank) → ranks_in slots r zone ≡ true → is_free_rank known r ≡ true → is_free_member slots zone known (candidate_of r) ≡ true
  free_member known zone r is free =
      and_from (is_member slots zone (candidate_of r)) (is_free_rank known r) (and_parts (is_member slots zone (candidate_of r)) (nat_eq r.cost.0 (zone.base.0 + choices_cost slots r.choices)) is).0 free

  -- no member without a known conflict ranks before the key
  pub none_first : (known : List (List Pair)) (k : Rank) (zone : ZoneValue) → IsKeyFirst slots known (k, zone) → (r : Rank) → ranks_in slots r zone ≡ true → is_free_rank known r ≡ true → ranks_before r k ≡ false
  none_first known k zone key r is free =
      subst (λ (q : Rank). ranks_before q k ≡ false) (sym (rank_of_member slots r zone is))
      (key.first.first (candidate_of r) (free_member key.others zone r is (free_among key.others known r key.among free)))

  -- a key's zone is near itself
  pub near_itself : (known : List (List Pair)) (k : Rank) (zone : ZoneValue) → IsKeyFirst slots known (k, zone) → IsFirstNear slots zone known k
  near_itself known k zone key = record { whole = zone; inside = λ choices left. left; others = key.others; among = key.among; first = key.first }

  -- a queue with one entry more
  members_inserted : (entries : List Entry) (k : Rank) (v : ZoneValue) → AllByRecursion (IsKeyMember slots) entries → ranks_in slots k v ≡ true → AllByRecursion (IsKeyMember slots) (insert_entry rank_cmp entries k v)
  members_inserted [] k v each is = (is, each)
  members_inserted (e ∷ es) k v each is = by (rank_cmp k e.0) refl (members_inserted es k v each.1 is)
    where
      by : (o : Ordering) → rank_cmp k e.0 ≡ o → AllByRecursion (IsKeyMember slots) (insert_entry rank_cmp es k v)
          → AllByRecursion (IsKeyMember slots) (match_ordering o ((k, v) ∷ e ∷ es) ((e.0, v) ∷ es) (e ∷ insert_entry rank_cmp es k v))
      by Less same rest = (is, each)
      by Equal same rest = (subst (λ (q : Rank). ranks_in slots q v ≡ true) (equal_by_cmp k e.0 same) is, each.1)
      by Greater same rest = (each.0, rest)

  times_inserted : (entries : List Entry) (k : Rank) (v : ZoneValue) → AllByRecursion (IsKeyMember slots) entries → times_in slots k (zones_in entries) ≡ 0
      → (r : Rank) → times_in slots r (zones_in (insert_entry rank_cmp entries k v)) ≡ times_in slots r (zones_in entries) + times_in slots r (v ∷ [])
  times_inserted [] k v each none r = let same : times_in slots r (v ∷ []) ≡ 0 + times_in slots r (v ∷ []) = omega arith in same
  times_inserted (e ∷ es) k v each none r = by (rank_cmp k e.0) refl (times_inserted es k v each.1 (omega (arith, none)) r)
    where
      by : (o : Ordering) → rank_cmp k e.0 ≡ o
          → times_in slots r (zones_in (insert_entry rank_cmp es k v)) ≡ times_in slots r (zones_in es) + times_in slots r (v ∷ [])
          → times_in slots r (zones_in (match_ordering o ((k, v) ∷ e ∷ es) ((e.0, v) ∷ es) (e ∷ insert_entry rank_cmp es k v))) ≡ times_in slots r (zones_in (e ∷ es)) + times_in slots r (v ∷ [])
      by Less is rest = omega arith
      by Equal is rest =
          let same : k ≡ e.0 = equal_by_cmp k e.0 is in
          let here : ranks_in slots k e.1 ≡ true = ap (λ (q : Rank). ranks_in slots q e.1) same ∙ each.0 in
          let some : times_in slots k (zones_in (e ∷ es)) ≡ 1 + times_in slots k (zones_in es) = times_one slots k e.1 (zones_in es) here in
          absurd (omega (arith, some, none))
      by Greater is rest = omega (arith, rest)

  first_inserted : (known : List (List Pair)) (entries : List Entry) (k : Rank) (v : ZoneValue) → AllByRecursion (IsKeyFirst slots known) entries → IsKeyFirst slots known (k, v)
      → AllByRecursion (IsKeyFirst slots known) (insert_entry rank_cmp entries k v)
  first_inserted known [] k v each is = (is, each)
  first_inserted known (e ∷ es) k v each is = by (rank_cmp k e.0) refl (first_inserted known es k v each.1 is)
    where
      by : (o : Ordering) → rank_cmp k e.0 ≡ o → AllByRecursion (IsKeyFirst slots known) (insert_entry rank_cmp es k v)
          → AllByRecursion (IsKeyFirst slots known) (match_ordering o ((k, v) ∷ e ∷ es) ((e.0, v) ∷ es) (e ∷ insert_entry rank_cmp es k v))
      by Less same rest = (is, each)
      by Equal same rest = (subst (λ (q : Rank). IsKeyFirst slots known (q, v)) (equal_by_cmp k e.0 same) is, each.1)
      by Greater same rest = (each.0, rest)

  queue_inserted : (entries : List Entry) (k : Rank) (v : ZoneValue) → IsQueue slots entries → ranks_in slots k v ≡ true → ((r : Rank) → times_in slots r (zones_in entries) + times_in slots r (v ∷ []) ≤ 1)
      → times_in slots k (zones_in entries) ≡ 0 → IsQueue slots (insert_entry rank_cmp entries k v)
  queue_inserted entries k v queue is room none =
      record {
        members = members_inserted entries k v queue.members is;
        apart = λ r. subst (λ n. n ≤ 1) (sym (times_inserted entries k v queue.members none r)) (room r);
      }

  none_of : (entries : List Entry) (k : Rank) (v : ZoneValue) → ranks_in slots k v ≡ true → ((r : Rank) → times_in slots r (zones_in entries) + times_in slots r (v ∷ []) ≤ 1) → times_in slots k (zones_in entries) ≡ 0
  none_of entries k v is room =
      let here : times_in slots k (v ∷ []) ≡ 1 + times_in slots k [] = times_one slots k v [] is in
      let few = room k in
      omega (arith, here, few)

  -- a zone is put in by its first member by some of the known conflicts
  least_is_first : (known : List (List Pair)) (zone : ZoneValue) (k : Rank) → IsLeastRank slots zone k → IsKeyFirst slots known (k, zone)
  least_is_first known zone k least =
      record {
        others = [];
        among = record { each = λ test all. refl };
        first = record {
          member = and_from (is_member slots zone (candidate_of k)) (not (is_ruled_out [] k.choices))
              (and_parts (is_member slots zone (candidate_of k)) (nat_eq k.cost.0 (zone.base.0 + choices_cost slots k.choices)) (has_least_rank slots zone k least)).0 refl;
          is = least.is;
          first = λ other free.
              subst (λ (q : Rank). ranks_before (rank_in slots zone other.choices) q ≡ false) (sym least.is)
              (least.least.first other (and_parts (is_member slots zone other) (not (is_ruled_out [] other.choices)) free).0);
        };
      }

  free_is_first : (known : List (List Pair)) (zone : ZoneValue) (k : Rank) → IsLeastFree slots zone known k → IsKeyFirst slots known (k, zone)
  free_is_first known zone k least = record { others = known; among = record { each = λ test all. all }; first = least }

  free_ranks_in : (known : List (List Pair)) (zone : ZoneValue) (k : Rank) → IsLeastFree slots zone known k → ranks_in slots k zone ≡ true
  free_ranks_in known zone k least =
      and_from (is_member slots zone (candidate_of k)) (nat_eq k.cost.0 (zone.base.0 + choices_cost slots k.choices))
      (and_parts (is_member slots zone (candidate_of k)) (is_free_rank known k) least.member).0
      (eq-eqb k.cost.0 (zone.base.0 + choices_cost slots k.choices) (ap (λ (r : Rank). r.cost.0) least.is))

  none_in : (known : List (List Pair)) (zone : ZoneValue) → HasNoFree slots zone known → (r : Rank) → is_free_rank known r ≡ true → ranks_in slots r zone ≡ false
  none_in known zone none r free =
      false_from_ne_true (ranks_in slots r zone) (λ in_it. both_ways (is_free_member slots zone known (candidate_of r)) (none.none (candidate_of r)) (free_member known zone r in_it free))

  put_in_by : (known : List (List Pair)) (zone : ZoneValue) (k : Rank) (old new : List Entry) → HasRoomBy slots (zone ∷ []) old → ranks_in slots k zone ≡ true → IsKeyFirst slots known (k, zone)
      → new ≡ insert_entry rank_cmp old k zone → HasMoreBy slots known (zone ∷ []) old new
  put_in_by known zone k old new room here key is =
      let none : times_in slots k (zones_in old) ≡ 0 = none_of old k zone here room.apart in
      subst (λ (es : List Entry). HasMoreBy slots known (zone ∷ []) old es) (sym is)
      (record {
        queue = queue_inserted old k zone room.queue here room.apart none;
        most = λ r. let times = times_inserted old k zone room.queue.members none r in omega (arith, times);
        times = λ r free. times_inserted old k zone room.queue.members none r;
        first = λ each. first_inserted known old k zone each key;
      })

  not_put_in_by : (known : List (List Pair)) (zone : ZoneValue) (old : List Entry) → HasRoomBy slots (zone ∷ []) old → ((r : Rank) → is_free_rank known r ≡ true → ranks_in slots r zone ≡ false)
      → HasMoreBy slots known (zone ∷ []) old old
  not_put_in_by known zone old room out =
      record {
        queue = room.queue;
        most = λ r. omega arith;
        times = λ r free. let none : times_in slots r (zone ∷ []) ≡ times_in slots r [] = times_none slots r zone [] (out r free) in omega (arith, none);
        first = λ each. each;
      }

  pub put_in : (zone : ZoneValue) (k : Rank) (old new : List Entry) → HasRoomBy slots (zone ∷ []) old → IsLeastRank slots zone k → new ≡ insert_entry rank_cmp old k zone → HasMore slots (zone ∷ []) old new
  put_in zone k old new room least is known = put_in_by known zone k old new room (has_least_rank slots zone k least) (least_is_first known zone k least) is

  pub not_put_in : (zone : ZoneValue) (old : List Entry) → HasRoomBy slots (zone ∷ []) old → lacks_choice slots zone.masks ≡ true → HasMore slots (zone ∷ []) old old
  not_put_in zone old room lacks known = not_put_in_by known zone old room (λ r free. lacking_has_none slots zone r lacks)

  -- a zone is put in with fewer choices, but with all its members that contain no known conflict
  module _ (known : List (List Pair)) (zone less : ZoneValue) (narrowed : IsNarrowed zone known less) where
    abbrev shown : ZoneValue
    shown = record { source = zone.source; base = zone.base; masks = less.masks }

    is_shown : less ≡ shown
    is_shown = λ i. record { source = narrowed.source i; base = narrowed.base i; masks = less.masks }

    stays_in : (r : Rank) → ranks_in slots r less ≡ true → ranks_in slots r zone ≡ true
    stays_in r here =
        let parts = and_parts (is_member slots shown (candidate_of r)) (nat_eq r.cost.0 (zone.base.0 + choices_cost slots r.choices)) (ap (ranks_in slots r) (sym is_shown) ∙ here) in
        let own = and_parts (nat_eq r.source zone.source) (are_left slots less.masks r.choices) parts.0 in
        and_from (is_member slots zone (candidate_of r)) (nat_eq r.cost.0 (zone.base.0 + choices_cost slots r.choices))
        (and_from (nat_eq r.source zone.source) (are_left slots zone.masks r.choices) own.0 (narrowed.masks.inside slots r.choices own.1)) parts.1

    same_if_free : (r : Rank) → is_free_rank known r ≡ true → ranks_in slots r less ≡ ranks_in slots r zone
    same_if_free r free =
        ap (ranks_in slots r) is_shown
        ∙ ap (λ b. (nat_eq r.source zone.source && b) && nat_eq r.cost.0 (zone.base.0 + choices_cost slots r.choices))
        (same_and (are_left slots less.masks r.choices) (are_left slots zone.masks r.choices) (is_free_rank known r) free (narrowed.masks.same slots r.choices))
      where
        same_and : (a b n : Bool) → n ≡ true → (a && n) ≡ (b && n) → a ≡ b
        same_and true true n t e = refl
        same_and false false n t e = refl
        same_and true false true t e = absurd (cc e)
        same_and true false false t e = absurd (cc t)
        same_and false true true t e = absurd (cc e)
        same_and false true false t e = absurd (cc t)

    no_more_times : (r : Rank) → times_in slots r (less ∷ []) ≤ times_in slots r (zone ∷ [])
    no_more_times r = by (ranks_in slots r less) refl
      where
        by : (b : Bool) → ranks_in slots r less ≡ b → times_in slots r (less ∷ []) ≤ times_in slots r (zone ∷ [])
        by true here =
            let one : times_in slots r (less ∷ []) ≡ 1 + times_in slots r [] = times_one slots r less [] here in
            let as_many : times_in slots r (zone ∷ []) ≡ 1 + times_in slots r [] = times_one slots r zone [] (stays_in r here) in
            omega (arith, one, as_many)
        by false out = let none : times_in slots r (less ∷ []) ≡ times_in slots r [] = times_none slots r less [] out in omega (arith, none)

    as_many_times : (r : Rank) → is_free_rank known r ≡ true → times_in slots r (less ∷ []) ≡ times_in slots r (zone ∷ [])
    as_many_times r free = by (ranks_in slots r zone) refl
      where
        by : (b : Bool) → ranks_in slots r zone ≡ b → times_in slots r (less ∷ []) ≡ times_in slots r (zone ∷ [])
        by true here = times_one slots r less [] (same_if_free r free ∙ here) ∙ sym (times_one slots r zone [] here)
        by false out = times_none slots r less [] (same_if_free r free ∙ out) ∙ sym (times_none slots r zone [] out)

    less_room : (old : List Entry) → HasRoomBy slots (zone ∷ []) old → HasRoomBy slots (less ∷ []) old
    less_room old room =
        record {
          queue = room.queue;
          apart = λ r. let few : times_in slots r (zones_in old) + times_in slots r (zone ∷ []) ≤ 1 = room.apart r in let no_more = no_more_times r in omega (arith, few, no_more);
        }

    as_put_in : (old new : List Entry) → HasMoreBy slots known (less ∷ []) old new → HasMoreBy slots known (zone ∷ []) old new
    as_put_in old new has =
        record {
          queue = has.queue;
          most = λ r. let most : times_in slots r (zones_in new) ≤ times_in slots r (zones_in old) + times_in slots r (less ∷ []) = has.most r in let no_more = no_more_times r in omega (arith, most, no_more);
          times = λ r free. has.times r free ∙ ap (λ n. times_in slots r (zones_in old) + n) (as_many_times r free);
          first = has.first;
        }

  pub put_in_beside : (known : List (List Pair)) (zone : ZoneValue) (k : Rank) (less : ZoneValue) (old new : List Entry) → HasRoomBy slots (zone ∷ []) old → IsBeside slots zone known (k, less)
      → new ≡ insert_entry rank_cmp old k less → HasMoreBy slots known (zone ∷ []) old new
  put_in_beside known zone k less old new room beside is =
      as_put_in known zone less beside.narrowed old new
      (put_in_by known less k old new (less_room known zone less beside.narrowed old room) (free_ranks_in beside.first.others less k beside.first.first) beside.first is)

  pub not_put_in_beside : (known : List (List Pair)) (zone : ZoneValue) (old : List Entry) → HasRoomBy slots (zone ∷ []) old → HasNoFree slots zone known → HasMoreBy slots known (zone ∷ []) old old
  not_put_in_beside known zone old room none = not_put_in_by known zone old room (none_in known zone none)

  -- room for some zones is room for the first, and with it put in for the others
  pub room_for_first : (zone : ZoneValue) (zones more : List ZoneValue) (old : List Entry) → more ≡ zone ∷ zones → HasRoomBy slots more old → HasRoomBy slots (zone ∷ []) old
  room_for_first zone zones more old is room =
      record { queue = room.queue; apart = λ r. let few : times_in slots r (zones_in old) + times_in slots r (zone ∷ zones) ≤ 1 = subst (λ zs. times_in slots r (zones_in old) + times_in slots r zs ≤ 1) is (room.apart r) in omega (arith, few) }

  pub room_for_rest : (known : List (List Pair)) (zone : ZoneValue) (zones more : List ZoneValue) (old new : List Entry) → more ≡ zone ∷ zones → HasRoomBy slots more old → HasMoreBy slots known (zone ∷ []) old new
      → HasRoomBy slots zones new
  room_for_rest known zone zones more old new is room has =
      record {
        queue = has.queue;
        apart = λ r.
            let few : times_in slots r (zones_in old) + times_in slots r (zone ∷ zones) ≤ 1 = subst (λ zs. times_in slots r (zones_in old) + times_in slots r zs ≤ 1) is (room.apart r) in
            let most = has.most r in
            omega (arith, few, most);
      }

  -- one zone more, and then the others
  more_then : (known : List (List Pair)) (zone : ZoneValue) (zones : List ZoneValue) (old mid new : List Entry) → HasMoreBy slots known (zone ∷ []) old mid → HasMoreBy slots known zones mid new
      → HasMoreBy slots known (zone ∷ zones) old new
  more_then known zone zones old mid new one others =
      record {
        queue = others.queue;
        most = λ r. let a = one.most r in let b = others.most r in omega (arith, a, b);
        times = λ r free. let a = one.times r free in let b = others.times r free in omega (arith, a, b);
        first = λ each. others.first (one.first each);
      }

  pub one_more : (known : List (List Pair)) (zone : ZoneValue) (zones more : List ZoneValue) (old mid : List Entry) → more ≡ zone ∷ zones → HasMoreBy slots known (zone ∷ []) old mid
      → (whole : List ZoneValue) (start : List Entry) → ((new : List Entry) → HasMoreBy slots known more old new → HasMoreBy slots known whole start new)
      → (new : List Entry) → HasMoreBy slots known zones mid new → HasMoreBy slots known whole start new
  one_more known zone zones more old mid is one whole start then new others =
      then new (subst (λ (zs : List ZoneValue). HasMoreBy slots known zs old new) (sym is) (more_then known zone zones old mid new one others))

  pub no_more : (known : List (List Pair)) (left : List ZoneValue) (old : List Entry) → length left ≡ 0 → IsQueue slots old → HasMoreBy slots known left old old
  no_more known [] old none queue = record { queue = queue; most = λ r. omega arith; times = λ r free. omega arith; first = λ each. each }
  no_more known (zone ∷ left) old none queue = absurd (omega (arith, none))

  pub each_slot : (e : Entry) → IsKeyMember slots e → length e.0.choices ≡ length slots
  each_slot e is =
      let member = (and_parts (is_member slots e.1 (candidate_of e.0)) (nat_eq e.0.cost.0 (e.1.base.0 + choices_cost slots e.0.choices)) is).0 in
      choices_per_slot slots slots e.1.masks e.0.choices (and_parts (nat_eq e.0.source e.1.source) (are_left slots e.1.masks e.0.choices) member).1

  pub rest_of_queue : (e : Entry) (es : List Entry) → IsQueue slots (e ∷ es) → IsQueue slots es
  rest_of_queue e es queue = record { members = queue.members.1; apart = λ r. let few : times_in slots r (zones_in (e ∷ es)) ≤ 1 = queue.apart r in omega (arith, few) }

  -- what is left where nothing is known, and zones were put into an empty queue
  pub room_in_empty : (zones : List ZoneValue) (start : List Entry) → start ≡ [] → sources_differ zones ≡ true → HasRoomBy slots zones start
  room_in_empty zones start is differ =
      subst (λ (es : List Entry). HasRoomBy slots zones es) (sym is)
      (record {
        queue = record { members = tt; apart = λ r. omega arith };
        apart = λ r. let few = sources_apart slots r zones differ in omega (arith, few);
      })

  all_members : (zones : List ZoneValue) (start new : List Entry) → start ≡ [] → HasMore slots zones start new → ranked_members slots (zones_in new) ≡ ranked_members slots zones
  all_members zones start new is has =
      one_list (ranked_members slots (zones_in new)) (ranked_members slots zones) (ranked_members_rise slots (zones_in new)) (ranked_members_rise slots zones)
      (λ r. among_ranked_members slots r (zones_in new)
      ∙ ap (nat_lt 0) ((has []).times r refl ∙ ap (λ (es : List Entry). times_in slots r (zones_in es) + times_in slots r zones) is ∙ (let same : 0 + times_in slots r zones ≡ times_in slots r zones = omega arith in same))
      ∙ sym (among_ranked_members slots r zones))

  pub all_are_left : (zones : List ZoneValue) (start new : List Entry) → start ≡ [] → HasMore slots zones start new → left_in slots [] new ≡ ranked_members slots zones
  all_are_left zones start new is has = filter_all (is_free_rank []) (ranked_members slots (zones_in new)) (λ r. refl) ∙ all_members zones start new is has

  -- zones that were put into an empty queue are kept by their first members, whatever is known
  pub kept_at_start : (known : List (List Pair)) (zones : List ZoneValue) (start new : List Entry) → start ≡ [] → HasMore slots zones start new → AreKeptBy slots known new
  kept_at_start known zones start new is has = record { queue = (has known).queue; first = (has known).first (subst (λ (es : List Entry). AllByRecursion (IsKeyFirst slots known) es) (sym is) tt) }

  pub ready_at_start : (zones : List ZoneValue) (start new : List Entry) → start ≡ [] → HasMore slots zones start new → IsReady slots [] new
  ready_at_start zones start new is has = record { kept = kept_at_start [] zones start new is has; front = free_of_none new }
    where
      free_of_none : (es : List Entry) → front_is_free [] es ≡ true
      free_of_none [] = refl
      free_of_none (e ∷ es) = refl

  pub ready_if_empty : (known : List (List Pair)) (es : List Entry) → es ≡ [] → IsReady slots known es
  ready_if_empty known es is =
      subst (λ (ds : List Entry). IsReady slots known ds) (sym is)
      (record { kept = record { queue = record { members = tt; apart = λ r. omega arith }; first = tt }; front = refl })

  module _ (known : List (List Pair)) where
    pub among_left : (entries : List Entry) (r : Rank) → is_among r (left_in slots known entries) ≡ (is_free_rank known r && nat_lt 0 (times_in slots r (zones_in entries)))
    among_left entries r = filter_among (is_free_rank known) r (ranked_members slots (zones_in entries)) ∙ ap (λ b. is_free_rank known r && b) (among_ranked_members slots r (zones_in entries))

    pub left_rises : (entries : List Entry) → rises (left_in slots known entries) ≡ true
    left_rises entries = rises_filtered (is_free_rank known) (ranked_members slots (zones_in entries)) (ranked_members_rise slots (zones_in entries))

    abbrev pub NoKeyBefore : Rank → List Entry → Type 0
    NoKeyBefore m entries = AllByRecursion (λ d. ranks_before d.0 m ≡ false) entries

    none_before : (m r : Rank) (entries : List Entry) → AllByRecursion (IsKeyFirst slots known) entries → NoKeyBefore m entries → is_free_rank known r ≡ true
        → nat_lt 0 (times_in slots r (zones_in entries)) ≡ true → ranks_before r m ≡ false
    none_before m r [] each keys free some = absurd (cc some)
    none_before m r (e ∷ es) each keys free some = by (ranks_in slots r e.1) refl (sym (some_by_first slots r e.1 (zones_in es)) ∙ some) (none_before m r es each.1 keys.1 free)
      where
        by : (b : Bool) → ranks_in slots r e.1 ≡ b → (ranks_in slots r e.1 || nat_lt 0 (times_in slots r (zones_in es))) ≡ true
            → (nat_lt 0 (times_in slots r (zones_in es)) ≡ true → ranks_before r m ≡ false) → ranks_before r m ≡ false
        by true here h later = none_before_on r e.0 m (none_first known e.0 e.1 each.0 r here free) keys.0
        by false here h later = later (sym (ap (λ b. b || nat_lt 0 (times_in slots r (zones_in es))) here) ∙ h)

    -- the first entry's key is the first of what is left
    pub first_is_key : (e : Entry) (es : List Entry) → IsReady slots known (e ∷ es) → NoKeyBefore e.0 es → slice_get (left_in slots known (e ∷ es)) 0 ≡ Some e.0
    first_is_key e es ready keys =
        first_of_rising (left_in slots known (e ∷ es)) e.0
        (among_left (e ∷ es) e.0 ∙ and_from (is_free_rank known e.0) (nat_lt 0 (times_in slots e.0 (zones_in (e ∷ es)))) ready.front
        (some_by_first slots e.0 e.1 (zones_in es) ∙ or_left (ranks_in slots e.0 e.1) (nat_lt 0 (times_in slots e.0 (zones_in es))) ready.kept.queue.members.0))
        (left_rises (e ∷ es))
        (λ r among.
        let parts = and_parts (is_free_rank known r) (nat_lt 0 (times_in slots r (zones_in (e ∷ es)))) (sym (among_left (e ∷ es) r) ∙ among) in
        none_before e.0 r (e ∷ es) ready.kept.first (not_before_itself e.0, keys) parts.0 parts.1)

    keys_after : (k : Rank) (es : List Entry) → All (λ q. is_gt (rank_cmp k q) ≡ false) (keys_of es) → NoKeyBefore k es
    keys_after k [] all = tt
    keys_after k (e ∷ es) all = (
      sym (greater_is_after (rank_key k) (rank_key e.0) (rank_cmp k e.0) refl) ∙ All-head (λ q. is_gt (rank_cmp k q) ≡ false) e.0 (keys_of es) all,
      keys_after k es (All-tail (λ q. is_gt (rank_cmp k q) ≡ false) e.0 (keys_of es) all),
    )

    pub keys_above : (k : Rank) (es : List Entry) → All (λ q. rank_cmp k q ≡ Less) (keys_of es) → NoKeyBefore k es
    keys_above k [] all = tt
    keys_above k (e ∷ es) all = (
      false_from_ne_true (ranks_before e.0 k) (not_both_before k e.0 (before_by_cmp k e.0 (All-head (λ q. rank_cmp k q ≡ Less) e.0 (keys_of es) all))),
      keys_above k es (All-tail (λ q. rank_cmp k q ≡ Less) e.0 (keys_of es) all),
    )

    pub first_entry : (entries : List Entry) (k : Rank) (v : ZoneValue) → IsReady slots known entries → slice_get entries 0 ≡ Some (k, v)
        → All (λ q. is_gt (rank_cmp k q) ≡ false) (keys_of entries) → slice_get (left_in slots known entries) 0 ≡ Some k
    first_entry entries k v ready first all =
        let split = first_and_rest entries (k, v) first in
        let ready_so : IsReady slots known ((k, v) ∷ split.0) = subst (λ (es : List Entry). IsReady slots known es) split.1 ready in
        let all_so : All (λ q. is_gt (rank_cmp k q) ≡ false) (keys_of ((k, v) ∷ split.0)) = subst (λ (es : List Entry). All (λ q. is_gt (rank_cmp k q) ≡ false) (keys_of es)) split.1 all in
        ap (λ (es : List Entry). slice_get (left_in slots known es) 0) split.1 ∙ first_is_key (k, v) split.0 ready_so (keys_after k ((k, v) ∷ split.0) all_so).1

    pub no_entries : (entries : List Entry) → length entries ≡ 0 → left_in slots known entries ≡ []
    no_entries [] none = refl
    no_entries (e ∷ es) none = absurd (omega (arith, none))

    pub front_of : (entries : List Entry) (k : Rank) (v : ZoneValue) → slice_get entries 0 ≡ Some (k, v) → front_is_free known entries ≡ is_free_rank known k
    front_of entries k v first = ap (front_is_free known) (first_and_rest entries (k, v) first).1

    pub no_front : (entries : List Entry) → length entries ≡ 0 → front_is_free known entries ≡ true
    no_front [] none = refl
    no_front (e ∷ es) none = absurd (omega (arith, none))

    -- where the free members are the same, what is left is
    pub same_left : (old new : List Entry) → HasSameFree slots known old new → left_in slots known new ≡ left_in slots known old
    same_left old new has =
        one_list (left_in slots known new) (left_in slots known old) (left_rises new) (left_rises old)
        (λ r. among_left new r ∙ by r (is_free_rank known r) refl ∙ sym (among_left old r))
      where
        by : (r : Rank) (b : Bool) → is_free_rank known r ≡ b → (b && nat_lt 0 (times_in slots r (zones_in new))) ≡ (b && nat_lt 0 (times_in slots r (zones_in old)))
        by r true free = ap (nat_lt 0) (has.same r free)
        by r false free = refl

    -- what is left where these are known from the start
    pub known_at_start : (zones : List ZoneValue) (start put new : List Entry) → start ≡ [] → HasMore slots zones start put → HasSameFree slots known put new
        → left_in slots known new ≡ free_of known (ranked_members slots zones)
    known_at_start zones start put new is has same = same_left put new same ∙ ap (free_of known) (all_members zones start put is has)

    pub same_at_start : (entries : List Entry) → AreKeptBy slots known entries → HasSameFree slots known entries entries
    same_at_start entries kept = record { kept = kept; same = λ r free. refl }

    pub same_on : (old mid new : List Entry) → HasSameFree slots known old mid → HasSameFree slots known mid new → HasSameFree slots known old new
    same_on old mid new one two = record { kept = two.kept; same = λ r free. two.same r free ∙ one.same r free }

    -- the first zone is looked at again
    stale_inserted : (entries : List Entry) (k : Rank) (v : ZoneValue) → is_free_rank known k ≡ true → stale_in known (insert_entry rank_cmp entries k v) ≤ stale_in known entries
    stale_inserted [] k v free = let none : zero_or_one (is_free_rank known k) ≡ 0 = ap zero_or_one free in omega (arith, none)
    stale_inserted (e ∷ es) k v free = by (rank_cmp k e.0) (stale_inserted es k v free)
      where
        by : (o : Ordering) → stale_in known (insert_entry rank_cmp es k v) ≤ stale_in known es
            → stale_in known (match_ordering o ((k, v) ∷ e ∷ es) ((e.0, v) ∷ es) (e ∷ insert_entry rank_cmp es k v)) ≤ stale_in known (e ∷ es)
        by Less rest = let none : zero_or_one (is_free_rank known k) ≡ 0 = ap zero_or_one free in omega (arith, none)
        by Equal rest = omega arith
        by Greater rest = omega (arith, rest)

    least_free_is_free : (zone : ZoneValue) (k : Rank) → IsLeastFree slots zone known k → is_free_rank known k ≡ true
    least_free_is_free zone k least = (and_parts (is_member slots zone (candidate_of k)) (is_free_rank known k) least.member).1

    module _ (entries : List Entry) (k : Rank) (zone : ZoneValue) (es : List Entry) (is : entries ≡ (k, zone) ∷ es) (kept : AreKeptBy slots known entries) (front : front_is_free known entries ≡ false) where
      kept_so : AreKeptBy slots known ((k, zone) ∷ es)
      kept_so = subst (λ (ds : List Entry). AreKeptBy slots known ds) is kept

      one_stale : stale_in known entries ≡ 1 + stale_in known es
      one_stale = ap (stale_in known) is ∙ ap (λ b. zero_or_one b + stale_in known es) (sym (ap (front_is_free known) is) ∙ front)

      room : (r : Rank) → times_in slots r (zones_in es) + times_in slots r (zone ∷ []) ≤ 1
      room r = let few : times_in slots r (zones_in ((k, zone) ∷ es)) ≤ 1 = kept_so.queue.apart r in omega (arith, few)

      pub looked_again : (found : Rank) (new : List Entry) → IsLeastFree slots zone known found → new ≡ insert_entry rank_cmp es found zone → LooksAgain slots known entries new
      looked_again found new least new_is =
          let here : ranks_in slots found zone ≡ true = free_ranks_in known zone found least in
          let queue : IsQueue slots es = rest_of_queue (k, zone) es kept_so.queue in
          let none : times_in slots found (zones_in es) ≡ 0 = none_of es found zone here room in
          let fewer : stale_in known (insert_entry rank_cmp es found zone) ≤ stale_in known es = stale_inserted es found zone (least_free_is_free zone found least) in
          subst (λ (ds : List Entry). LooksAgain slots known entries ds) (sym new_is)
          (record {
            same = record {
              kept = record {
                queue = queue_inserted es found zone queue here room none;
                first = first_inserted known es found zone kept_so.first.1 (free_is_first known zone found least);
              };
              same = λ r free.
                  let times = times_inserted es found zone queue.members none r in
                  let old : times_in slots r (zones_in entries) ≡ times_in slots r (zones_in ((k, zone) ∷ es)) = ap (λ (ds : List Entry). times_in slots r (zones_in ds)) is in
                  omega (arith, times, old);
            };
            fewer = (let one = one_stale in omega (arith, one, fewer));
          })

      pub not_looked_again : HasNoFree slots zone known → LooksAgain slots known entries es
      not_looked_again none =
          record {
            same = record {
              kept = record { queue = rest_of_queue (k, zone) es kept_so.queue; first = kept_so.first.1 };
              same = λ r free.
                  let old : times_in slots r (zones_in entries) ≡ times_in slots r (zones_in ((k, zone) ∷ es)) = ap (λ (ds : List Entry). times_in slots r (zones_in ds)) is in
                  let fewer : times_in slots r (zone ∷ zones_in es) ≡ times_in slots r (zones_in es) = times_none slots r zone (zones_in es) (none_in known zone none r free) in
                  omega (arith, old, fewer);
            };
            fewer = (let one = one_stale in omega (arith, one));
          }

    pub not_stale_if_empty : (entries : List Entry) → length entries ≡ 0 → front_is_free known entries ≡ false → ⊥
    not_stale_if_empty entries none stale = both_ways (front_is_free known entries) stale (no_front entries none)

    -- the first is left out
    module _ (e : Entry) (es new : List Entry) (ready : IsReady slots known (e ∷ es)) (keys : NoKeyBefore e.0 es) (has : HasMoreBy slots known (parts_of e.1 (pairs_of e.0.choices)) es new) where
      abbrev others : Rank → Bool
      others r = nat_lt 0 (times_in slots r (zones_in es))

      abbrev own : List Pair
      own = pairs_of e.0.choices

      member : is_member slots e.1 (candidate_of e.0) ≡ true
      member = (and_parts (is_member slots e.1 (candidate_of e.0)) (nat_eq e.0.cost.0 (e.1.base.0 + choices_cost slots e.0.choices)) ready.kept.queue.members.0).0

      loses : LosesOne slots e.1 (candidate_of e.0)
      loses = loses_one slots e.1 (candidate_of e.0) member

      only_first : others e.0 ≡ false
      only_first =
          let one : times_in slots e.0 (zones_in (e ∷ es)) ≡ 1 + times_in slots e.0 (zones_in es) = times_one slots e.0 e.1 (zones_in es) ready.kept.queue.members.0 in
          let few : times_in slots e.0 (zones_in (e ∷ es)) ≤ 1 = ready.kept.queue.apart e.0 in
          let none : times_in slots e.0 (zones_in es) ≡ 0 = omega (arith, one, few) in
          ap (nat_lt 0) none

      exact : (c : Candidate) → list_any (λ part. is_member slots part c) (parts_of e.1 own) ≡ (is_member slots e.1 c && not (contains_all c.choices own))
      exact c = (parts_are_split e.1 own (parts_of e.1 own) refl loses.within).exact slots c

      has_own : contains_all e.0.choices own ≡ true
      has_own = by (is_member slots e.1 (candidate_of e.0)) (contains_all e.0.choices own) member (sym (exact (candidate_of e.0)) ∙ loses.lost)
        where
          by : (m c : Bool) → m ≡ true → (m && not c) ≡ false → c ≡ true
          by true true p q = refl
          by true false p q = absurd (cc q)
          by false c p q = absurd (cc p)

      other_stays : (r : Rank) → ranks_in slots r e.1 ≡ true → is_rank r e.0 ≡ false → contains_all r.choices own ≡ false
      other_stays r f s =
          let parts = and_parts (is_member slots e.1 (candidate_of r)) (nat_eq r.cost.0 (e.1.base.0 + choices_cost slots r.choices)) f in
          by (is_member slots e.1 (candidate_of r)) (contains_all r.choices own) (sym (exact (candidate_of r)) ∙ loses.kept (candidate_of r) parts.0 apart)
        where
          apart : candidate_of r ≡ candidate_of e.0 → ⊥
          apart same =
              let choices : r.choices ≡ e.0.choices = ap (λ (c : Candidate). c.choices) same in
              let one : r ≡ e.0 = rank_of_member slots r e.1 f ∙ ap (rank_in slots e.1) choices ∙ sym (rank_of_member slots e.0 e.1 ready.kept.queue.members.0) in
              both_ways (is_rank r e.0) s (subst (λ (q : Rank). is_rank r q ≡ true) one (is_itself r))

          by : (m c : Bool) → (m && not c) ≡ true → c ≡ false
          by true true h = absurd (cc h)
          by true false h = refl
          by false c h = absurd (cc h)

      agree_but : (r : Rank) → (others r || stays slots r e.1 own) ≡ (not (is_rank r e.0) && (ranks_in slots r e.1 || others r))
      agree_but r = by (is_rank r e.0) refl (ranks_in slots r e.1) refl
        where
          by : (s : Bool) → is_rank r e.0 ≡ s → (f : Bool) → ranks_in slots r e.1 ≡ f → (others r || (f && not (contains_all r.choices own))) ≡ (not s && (f || others r))
          by true p f q =
              let same : r ≡ e.0 = same_rank r e.0 p in
              let none : others r ≡ false = ap others same ∙ only_first in
              let own_too : contains_all r.choices own ≡ true = ap (λ (t : Rank). contains_all t.choices own) same ∙ has_own in
              (λ i. none i || (f && not (own_too i))) ∙ never f
            where
              never : (f : Bool) → (false || (f && not true)) ≡ false
              never true = refl
              never false = refl
          by false p true q = ap (λ c. others r || (true && not c)) (other_stays r q p) ∙ or_right (others r) true refl
          by false p false q = or_false (others r)
            where
              or_false : (b : Bool) → (b || false) ≡ b
              or_false true = refl
              or_false false = refl

      among_new : (r : Rank) → is_among r (left_in slots known new) ≡ (is_free_rank known r && (others r || stays slots r e.1 own))
      among_new r = among_left new r ∙ by (is_free_rank known r) refl
        where
          by : (b : Bool) → is_free_rank known r ≡ b → (b && nat_lt 0 (times_in slots r (zones_in new))) ≡ (b && (others r || stays slots r e.1 own))
          by true free =
              ap (nat_lt 0) (has.times r free ∙ ap (λ n. times_in slots r (zones_in es) + n) (parts_times slots r (length e.1.masks) e.1 own refl loses.within))
              ∙ some_with slots (times_in slots r (zones_in es)) (stays slots r e.1 own)
          by false free = refl

      swap : (f s x : Bool) → (f && (not s && x)) ≡ (not s && (f && x))
      swap true s x = refl
      swap false true x = refl
      swap false false x = refl

      dropped : left_in slots known new ≡ drop 1 (left_in slots known (e ∷ es))
      dropped =
          let split = first_and_rest (left_in slots known (e ∷ es)) e.0 (first_is_key e es ready keys) in
          let up : rises (e.0 ∷ split.0) ≡ true = sym (ap rises split.1) ∙ left_rises (e ∷ es) in
          let parts = and_parts (list_all (ranks_before e.0) split.0) (rises split.0) up in
          one_list (left_in slots known new) split.0 (left_rises new) parts.1
          (λ r. among_new r ∙ ap (λ b. is_free_rank known r && b) (agree_but r) ∙ swap (is_free_rank known r) (is_rank r e.0) (ranks_in slots r e.1 || others r)
          ∙ sym (among_behind e.0 r split.0 parts.0 ∙ ap (λ b. not (is_rank r e.0) && b) (sym (ap (is_among r) split.1) ∙ among_left (e ∷ es) r ∙ ap (λ b. is_free_rank known r && b) (some_by_first slots r e.1 (zones_in es)))))
          ∙ sym (ap (drop 1) split.1)

      drops : DropsFirst slots known (e ∷ es) new
      drops = record { kept = record { queue = has.queue; first = has.first ready.kept.first.1 }; left = dropped }

    pub drops_first : (entries : List Entry) (e : Entry) (es new : List Entry) → entries ≡ e ∷ es → All (λ q. rank_cmp e.0 q ≡ Less) (keys_of es)
        → HasMoreBy slots known (parts_of e.1 (pairs_of e.0.choices)) es new → IsReady slots known entries → DropsFirst slots known entries new
    drops_first entries e es new is above has ready =
        subst (λ (ds : List Entry). DropsFirst slots known ds new) (sym is) (drops e es new (subst (λ (ds : List Entry). IsReady slots known ds) is ready) (keys_above e.0 es above) has)

    pub drops_none : (entries : List Entry) → length entries ≡ 0 → IsReady slots known entries → DropsFirst slots known entries entries
    drops_none entries none ready = record { kept = ready.kept; left = let empty : left_in slots known entries ≡ [] = no_entries entries none in empty ∙ sym (ap (drop 1) empty) }

    pub dropped_and_looked : (old mid new : List Entry) → DropsFirst slots known old mid → HasSameFree slots known mid new → left_in slots known new ≡ drop 1 (left_in slots known old)
    dropped_and_looked old mid new drops same = same_left mid new same ∙ drops.left

  -- the room that the first zone leaves for its parts
  pub room_for_own_parts : (entries : List Entry) (e : Entry) (es : List Entry) → entries ≡ e ∷ es → IsQueue slots entries → HasRoomBy slots (parts_of e.1 (pairs_of e.0.choices)) es
  room_for_own_parts entries e es is queue =
      let queue_so : IsQueue slots (e ∷ es) = subst (λ (ds : List Entry). IsQueue slots ds) is queue in
      let member = (and_parts (is_member slots e.1 (candidate_of e.0)) (nat_eq e.0.cost.0 (e.1.base.0 + choices_cost slots e.0.choices)) queue_so.members.0).0 in
      record {
        queue = rest_of_queue e es queue_so;
        apart = λ r.
            let parts = parts_times slots r (length e.1.masks) e.1 (pairs_of e.0.choices) refl (loses_one slots e.1 (candidate_of e.0) member).within in
            let few : times_in slots r (zones_in (e ∷ es)) ≤ 1 = queue_so.apart r in
            let less = at_most (ranks_in slots r e.1) (not (contains_all r.choices (pairs_of e.0.choices))) in
            omega (arith, parts, few, less);
      }
    where
      at_most : (a b : Bool) → cond (a && b) 1 0 ≤ cond a 1 0
      at_most true true = omega arith
      at_most true false = omega arith
      at_most false b = omega arith

  pub first_each_slot : (entries : List Entry) (e : Entry) (es : List Entry) → entries ≡ e ∷ es → IsQueue slots entries → length e.0.choices ≡ length slots
  first_each_slot entries e es is queue = each_slot e (subst (λ (ds : List Entry). IsQueue slots ds) is queue).members.0

  -- one more conflict is known
  module _ (known : List (List Pair)) (conflict : List Pair) where
    abbrev more : List (List Pair)
    more = known ++ conflict ∷ []

    pub kept_on : (entries : List Entry) → AreKeptBy slots known entries → AreKeptBy slots more entries
    kept_on entries kept = record { queue = kept.queue; first = on entries kept.first }
      where
        on : (es : List Entry) → AllByRecursion (IsKeyFirst slots known) es → AllByRecursion (IsKeyFirst slots more) es
        on [] each = tt
        on (e ∷ es) each = (record { others = each.0.others; among = among_more each.0.others known conflict each.0.among; first = each.0.first }, on es each.1)

    abbrev lacks : Rank → Bool
    lacks r = not (contains_all r.choices conflict)

    left_with : (entries : List Entry) → left_in slots more entries ≡ filter lacks (left_in slots known entries)
    left_with entries = (λ i. filter (λ r. ruled_out_more known conflict r.choices i) (ranked_members slots (zones_in entries))) ∙ filter_both (is_free_rank known) lacks (ranked_members slots (zones_in entries))

    lacks_first : (rs : List Rank) → FirstContains conflict rs → LeavesFirst lacks rs
    lacks_first [] inside = inside
    lacks_first (r ∷ rs) inside = ap not inside

    pub thins : (old new : List Entry) → HasSameFree slots more old new → FirstContains conflict (left_in slots known old) → Thins conflict (left_in slots known old) (left_in slots more new)
    thins old new same inside =
        record {
          keeps = lacks;
          same = same_left more old new same ∙ left_with old;
          first = lacks_first (left_in slots known old) inside;
          only = λ r k. not-false (contains_all r.choices conflict) k;
        }

  -- a call's zones are those that were held, and its conflicts those that are known
  module _ (known asked : List (List Pair)) (held old new : List Entry) (taken : old ≡ held) where
    pub ready_is : asked ≡ known → IsReady slots known held → IsReady slots asked old
    ready_is is ready = subst (λ (ks : List (List Pair)). IsReady slots ks old) (sym is) (subst (λ (es : List Entry). IsReady slots known es) (sym taken) ready)

    pub drop_is : (mid : List Entry) → asked ≡ known → DropsFirst slots asked old mid → HasSameFree slots asked mid new → left_in slots known new ≡ drop 1 (left_in slots known held)
    drop_is mid is drops same =
        subst (λ (ks : List (List Pair)). left_in slots ks new ≡ drop 1 (left_in slots ks old)) is (dropped_and_looked asked old mid new drops same) ∙ ap (λ (es : List Entry). drop 1 (left_in slots known es)) taken

    pub split_keeps : (conflict : List Pair) → asked ≡ known ++ conflict ∷ [] → AreKeptBy slots known held → AreKeptBy slots asked old
    split_keeps conflict is kept =
        subst (λ (ks : List (List Pair)). AreKeptBy slots ks old) (sym is) (kept_on known conflict old (subst (λ (es : List Entry). AreKeptBy slots known es) (sym taken) kept))

    pub split_is : (conflict : List Pair) (now : List (List Pair)) → asked ≡ known ++ conflict ∷ [] → now ≡ known ++ conflict ∷ [] → HasSameFree slots asked old new → FirstContains conflict (left_in slots known held)
        → Thins conflict (left_in slots known held) (left_in slots now new)
    split_is conflict now is now_is same inside =
        subst (λ (ks : List (List Pair)). Thins conflict (left_in slots known held) (left_in slots ks new)) (sym now_is)
        (thins known conflict held new (subst (λ (es : List Entry). HasSameFree slots (known ++ conflict ∷ []) es new) taken (subst (λ (ks : List (List Pair)). HasSameFree slots ks old new) is same)) inside)
