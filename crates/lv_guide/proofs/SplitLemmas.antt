-- What is left in a queue when its first zone is split by a known conflict, and when it is begun anew with zones that have the same
-- members without a known conflict.
use Rattle.std.proofs.Common.{◌≡◌, ℕ, ◌+◌, ◌≤◌, Bool, true, false, not, ◌&&◌, List, [], ◌∷◌, ◌++◌, length, refl, sym, ◌∙◌, ap, subst, cond, nat_eq, nat_lt, arith}
use Rattle.std.specs.Prelude.{slice_index, find, Option, Some, None}
use Rattle.std.specs.List.{list_all, list_any}
use Rattle.std.proofs.lemmas.Bool.{and_from, and_parts, or_left, or_right, both_ways, eq-eqb, false_from_ne_true}
use Rattle.lv_base.specs.declared.ids.Cost.{Cost}
use Rattle.lv_base.specs.declared.rank.Rank.{Rank}
use Rattle.lv_base.specs.declared.search.Pair.{Pair}
use Rattle.lv_base.specs.declared.search.Candidate.{Candidate}
use Rattle.lv_base.specs.Choices.{picks, contains_all}
use Rattle.lv_boxes.specs.Members.{ZoneValue, are_left, is_member, choices_cost, rank_in}
use Rattle.lv_boxes.specs.Parts.{parts_of}
use Rattle.lv_boxes.specs.GroupParts.{have_shape, parts_by_groups}
use Rattle.lv_boxes.specs.Laws.{pairs_of}
use Rattle.lv_boxes.specs.RankedMembers.{ranks_in, times_in, AreApart, sources_differ}
use Rattle.lv_boxes.proofs.GroupPartsLemmas.{one_length}
use Rattle.lv_boxes.proofs.GroupPartsLemmas as group_parts
use Rattle.lv_boxes.proofs.PartsLemmas.{parts_are_split}
use Rattle.lv_boxes.proofs.MemberLemmas.{length-are_left, loses_one}
use Rattle.lv_boxes.proofs.RankedMemberLemmas.{rank_of_member}
use Rattle.lv_boxes.specs.Walk.{candidate_of, is_ruled_out}
use Rattle.lv_search_guide.specs.Free.{IsLeastFree}
use Rattle.lv_guide.specs.Near.{IsFirstNear}
use Rattle.lv_search_bans.proofs.BoxLemmas.{some_pass, found_itself, none_pass}
use Rattle.lv_search.proofs.LeftLemmas.{parts_times, sources_apart}
use Rattle.lv_search.specs.Free.{is_free_rank}
use Rattle.lv_guide.specs.Guide.{zones_in, AreKeptBy, AreNear, front_is_free, IsReady, HasRoomBy, HasMoreBy, HasMore, HasSameFree, IsWhole, WholeTells, IsGuide}
use Rattle.lv_guide.proofs.GuideLemmas.{rest_of_queue, none_first, near_itself, each_slot, free_before, kept_at_start, ready_at_start}

abbrev Entry : Type 0
Entry = Rank × ZoneValue

slots_within : (choices : List ℕ) (n : ℕ) (pairs : List Pair) → length choices ≡ n → contains_all choices pairs ≡ true → list_all (λ (p : Pair). nat_lt p.slot n) pairs ≡ true
slots_within choices n [] len h = refl
slots_within choices n (p ∷ ps) len h =
    let parts = and_parts (picks choices p) (contains_all choices ps) h in
    and_from (nat_lt p.slot n) (list_all (λ (q : Pair). nat_lt q.slot n) ps)
    (sym (ap (λ m. nat_lt p.slot m) len) ∙ (and_parts (nat_lt p.slot (length choices)) (nat_eq (slice_index choices p.slot) p.choice) parts.0).0)
    (slots_within choices n ps len parts.1)

not_true_of : (b : Bool) → not b ≡ true → b ≡ false
not_true_of true h = absurd (cc h)
not_true_of false h = refl

abbrev once : Bool → ℕ
once b = cond b 1 0

-- the first zone is split by a known conflict that its key contains
module _ (slots : List (List Cost)) (known : List (List Pair)) (entries : List Entry) (k : Rank) (zone : ZoneValue) (es : List Entry) (is : entries ≡ (k, zone) ∷ es) (kept : AreKeptBy slots known entries) where
  kept_so : AreKeptBy slots known ((k, zone) ∷ es)
  kept_so = subst (λ (ds : List Entry). AreKeptBy slots known ds) is kept

  key_left : are_left slots zone.masks k.choices ≡ true
  key_left =
      let inside = (and_parts (is_member slots zone (candidate_of k)) (nat_eq k.cost.0 (zone.base.0 + choices_cost slots k.choices)) kept_so.queue.members.0).0 in
      (and_parts (nat_eq k.source zone.source) (are_left slots zone.masks k.choices) inside).1

  module _ (conflict : List Pair) (found : find (contains_all k.choices) known ≡ Some conflict) where
    within : list_all (λ (p : Pair). nat_lt p.slot (length zone.masks)) conflict ≡ true
    within = slots_within k.choices (length zone.masks) conflict (length-are_left slots zone.masks k.choices key_left) (found_itself (contains_all k.choices) known conflict found)

    times : (r : Rank) → times_in slots r (parts_of zone conflict) ≡ cond (ranks_in slots r zone && not (contains_all r.choices conflict)) 1 0
    times r = parts_times slots r (length zone.masks) zone conflict refl within

    pub room_for_split : HasRoomBy slots (parts_of zone conflict) es
    room_for_split =
        record {
          queue = rest_of_queue slots (k, zone) es kept_so.queue;
          apart = λ r.
              let now = times r in
              let few : times_in slots r (zones_in ((k, zone) ∷ es)) ≤ 1 = kept_so.queue.apart r in
              let less = at_most (ranks_in slots r zone) (not (contains_all r.choices conflict)) in
              omega (arith, now, few, less);
        }
      where
        at_most : (a b : Bool) → cond (a && b) 1 0 ≤ cond a 1 0
        at_most true true = omega arith
        at_most true false = omega arith
        at_most false b = omega arith

    lacks : (r : Rank) → is_free_rank known r ≡ true → contains_all r.choices conflict ≡ false
    lacks r free =
        false_from_ne_true (contains_all r.choices conflict) (λ has.
        both_ways (is_ruled_out known r.choices) (not_true_of (is_ruled_out known r.choices) free) (some_pass (contains_all k.choices) (contains_all r.choices) known conflict found has))

    pub split_same : (new : List Entry) → HasMoreBy slots known (parts_of zone conflict) es new → HasSameFree slots known entries new
    split_same new has =
        record {
          kept = record { queue = has.queue; first = has.first kept_so.first.1 };
          same = λ r free.
              let more = has.times r free in
              let now : times_in slots r (parts_of zone conflict) ≡ once (ranks_in slots r zone) = times r ∙ ap (λ b. once (ranks_in slots r zone && not b)) (lacks r free) ∙ stay (ranks_in slots r zone) in
              let old : times_in slots r (zones_in entries) ≡ times_in slots r (zones_in ((k, zone) ∷ es)) = ap (λ (ds : List Entry). times_in slots r (zones_in ds)) is in
              omega (arith, more, now, old);
        }
      where
        stay : (b : Bool) → once (b && true) ≡ once b
        stay true = refl
        stay false = refl

  -- where no known conflict is found, the key contains none
  pub none_found : find (contains_all k.choices) known ≡ None → front_is_free known entries ≡ false → ⊥
  none_found none stale =
      both_ways (is_free_rank known k) (sym (ap (front_is_free known) is) ∙ stale) (ap not (none_pass (contains_all k.choices) known none))

-- parts of a zone are near it
module _ (slots : List (List Cost)) (known : List (List Pair)) (k : Rank) (zone : ZoneValue) (least : IsLeastFree slots zone known k) where
  are_near : (parts : List ZoneValue) → ((c : Candidate) → list_any (λ part. is_member slots part c) parts ≡ true → is_member slots zone c ≡ true) → AreNear slots known k parts
  are_near [] within = tt
  are_near (part ∷ parts) within = (
    record { whole = zone; inside = inside; others = known; among = record { each = λ test all. all }; first = least },
    are_near parts (λ c some. within c (or_right (is_member slots part c) (list_any (λ other. is_member slots other c) parts) some)),
  )
    where
      inside : (choices : List ℕ) → are_left slots part.masks choices ≡ true → are_left slots zone.masks choices ≡ true
      inside choices left =
          let c : Candidate = record { source = part.source; choices = choices } in
          let member : is_member slots part c ≡ true = and_from (nat_eq part.source part.source) (are_left slots part.masks choices) (eq-eqb part.source part.source refl) left in
          (and_parts (nat_eq part.source zone.source) (are_left slots zone.masks choices)
          (within c (or_left (is_member slots part c) (list_any (λ other. is_member slots other c) parts) member))).1

-- the first zone of a queue that is ready is kept by its first member that contains no known conflict
module _ (slots : List (List Cost)) (known : List (List Pair)) (k : Rank) (zone : ZoneValue) (es : List Entry) (ready : IsReady slots known ((k, zone) ∷ es)) where
  front_member : is_member slots zone (candidate_of k) ≡ true
  front_member = (and_parts (is_member slots zone (candidate_of k)) (nat_eq k.cost.0 (zone.base.0 + choices_cost slots k.choices)) ready.kept.queue.members.0).0

  front_is_least : IsLeastFree slots zone known k
  front_is_least =
      record {
        member = and_from (is_member slots zone (candidate_of k)) (is_free_rank known k) front_member ready.front;
        is = rank_of_member slots k zone ready.kept.queue.members.0;
        first = λ other free.
            let parts = and_parts (is_member slots zone other) (not (is_ruled_out known other.choices)) free in
            let left = (and_parts (nat_eq other.source zone.source) (are_left slots zone.masks other.choices) parts.0).1 in
            none_first slots known k zone ready.kept.first.0 (rank_in slots zone other.choices)
            (and_from (is_member slots zone (record { source = zone.source; choices = other.choices })) (nat_eq (zone.base.0 + choices_cost slots other.choices) (zone.base.0 + choices_cost slots other.choices))
            (and_from (nat_eq zone.source zone.source) (are_left slots zone.masks other.choices) (eq-eqb zone.source zone.source refl) left)
            (eq-eqb (zone.base.0 + choices_cost slots other.choices) (zone.base.0 + choices_cost slots other.choices) refl))
            parts.1;
      }

  parts_near : AreNear slots known k (parts_of zone (pairs_of k.choices))
  parts_near =
      are_near slots known k zone front_is_least (parts_of zone own)
      (λ c some. (and_parts (is_member slots zone c) (not (contains_all c.choices own)) (sym ((parts_are_split zone own (parts_of zone own) refl within).exact slots c) ∙ some)).0)
    where
      own : List Pair
      own = pairs_of k.choices

      within : list_all (λ (p : Pair). nat_lt p.slot (length zone.masks)) own ≡ true
      within = (loses_one slots zone (candidate_of k) front_member).within

  group_parts_near : (groups : List (List ℕ)) (member : List ℕ) → length groups ≡ length zone.masks → length member ≡ length groups → AreNear slots known k (parts_by_groups zone groups member)
  group_parts_near groups member long own =
      are_near slots known k zone front_is_least (parts_by_groups zone groups member)
      (λ c some. (group_parts.parts_are_split zone groups member (parts_by_groups zone groups member) refl long own).within slots c some)

module _ (slots : List (List Cost)) (known : List (List Pair)) (entries : List Entry) (k : Rank) (zone : ZoneValue) (es : List Entry) (is : entries ≡ (k, zone) ∷ es) (ready : IsReady slots known entries) where
  ready_so : IsReady slots known ((k, zone) ∷ es)
  ready_so = subst (λ (ds : List Entry). IsReady slots known ds) is ready

  pub first_free : is_free_rank known k ≡ true
  first_free = ready_so.front

  pub own_parts_near : AreNear slots known k (parts_of zone (pairs_of k.choices))
  own_parts_near = parts_near slots known k zone es ready_so

  pub alike_parts_near : (groups : List (List ℕ)) (member : List ℕ) → have_shape slots groups ≡ true → member ≡ k.choices → AreNear slots known k (parts_by_groups zone groups member)
  alike_parts_near groups member shape own =
      group_parts_near slots known k zone es ready_so groups member (sym masks_length) (ap length own ∙ per_slot ∙ one_length slots groups shape)
    where
      per_slot : length k.choices ≡ length slots
      per_slot = each_slot slots (k, zone) ready_so.kept.queue.members.0

      left : are_left slots zone.masks k.choices ≡ true
      left = (and_parts (nat_eq k.source zone.source) (are_left slots zone.masks k.choices) (front_member slots known k zone es ready_so)).1

      masks_length : length zone.masks ≡ length groups
      masks_length = sym (length-are_left slots zone.masks k.choices left) ∙ per_slot ∙ one_length slots groups shape

-- the first zone's key, and zones near a rank
pub front_near : (slots : List (List Cost)) (known : List (List Pair)) (entries : List Entry) (k : Rank) (zone : ZoneValue) (es : List Entry) → entries ≡ (k, zone) ∷ es → AreKeptBy slots known entries
    → IsFirstNear slots zone known k
front_near slots known entries k zone es is kept = near_itself slots known k zone (subst (λ (ds : List Entry). AreKeptBy slots known ds) is kept).first.0

pub near_parts : (slots : List (List Cost)) (known : List (List Pair)) (k : Rank) (zone : ZoneValue) (zones more : List ZoneValue) → more ≡ zone ∷ zones → AreNear slots known k more
    → IsFirstNear slots zone known k × AreNear slots known k zones
near_parts slots known k zone zones more is near = subst (λ (zs : List ZoneValue). AreNear slots known k zs) is near

-- the queue is begun anew
module _ (slots : List (List Cost)) where
  pub room_anew : (zones : List ZoneValue) (start : List Entry) → start ≡ [] → AreApart slots zones → HasRoomBy slots zones start
  room_anew zones start is apart =
      subst (λ (es : List Entry). HasRoomBy slots zones es) (sym is)
      (record {
        queue = record { members = tt; apart = λ r. omega arith };
        apart = λ r. let few = apart r in omega (arith, few);
      })

  pub anew_same : (known : List (List Pair)) (entries : List Entry) (zones : List ZoneValue) (start new : List Entry) → start ≡ [] → IsWhole slots known entries zones → HasMore slots zones start new
      → HasSameFree slots known entries new
  anew_same known entries zones start new is whole has =
      record {
        kept = kept_at_start slots known zones start new is has;
        same = λ r free.
            let more : times_in slots r (zones_in new) ≡ 0 + times_in slots r zones = (has known).times r free ∙ ap (λ (es : List Entry). times_in slots r (zones_in es) + times_in slots r zones) is in
            let now = whole.same r free in
            omega (arith, more, now);
      }

  pub whole_at_start : (zones : List ZoneValue) (start new : List Entry) → start ≡ [] → HasMore slots zones start new → sources_differ zones ≡ true → IsWhole slots [] new zones
  whole_at_start zones start new is has differ =
      record {
        apart = λ r. sources_apart slots r zones differ;
        same = λ r free. (has []).times r free ∙ ap (λ (es : List Entry). times_in slots r (zones_in es) + times_in slots r zones) is ∙ (let same : 0 + times_in slots r zones ≡ times_in slots r zones = omega arith in same);
      }

  -- what is held stays the same where the members without known conflict do, and where one more conflict is known
  pub whole_on : (known : List (List Pair)) (old new : List Entry) (whole : Option (List ZoneValue)) → HasSameFree slots known old new → WholeTells slots known old whole → WholeTells slots known new whole
  whole_on known old new None same tells = tt
  whole_on known old new (Some zones) same tells = record { apart = tells.apart; same = λ r free. same.same r free ∙ tells.same r free }

  pub whole_more : (known : List (List Pair)) (conflict : List Pair) (entries : List Entry) (whole : Option (List ZoneValue)) → WholeTells slots known entries whole
      → WholeTells slots (known ++ conflict ∷ []) entries whole
  whole_more known conflict entries None tells = tt
  whole_more known conflict entries (Some zones) tells = record { apart = tells.apart; same = λ r free. tells.same r (free_before known conflict r free) }

  pub guide_on : (known : List (List Pair)) (old new : List Entry) (whole : Option (List ZoneValue)) → HasSameFree slots known old new → front_is_free known new ≡ true → WholeTells slots known new whole
      → IsGuide slots known new whole
  guide_on known old new whole same front tells = record { ready = record { kept = same.kept; front = front }; whole_is = tells }

  pub guide_if_empty : (known : List (List Pair)) (es : List Entry) (whole : Option (List ZoneValue)) → es ≡ [] → whole ≡ None → IsGuide slots known es whole
  guide_if_empty known es whole is none =
      subst (λ (ds : List Entry). IsGuide slots known ds whole) (sym is)
      (subst (λ (w : Option (List ZoneValue)). IsGuide slots known [] w) (sym none)
      (record { ready = record { kept = record { queue = record { members = tt; apart = λ r. omega arith }; first = tt }; front = refl }; whole_is = tt }))

  pub guide_at_start : (zones : List ZoneValue) (start new : List Entry) → start ≡ [] → HasMore slots zones start new → sources_differ zones ≡ true → IsGuide slots [] new (Some zones)
  guide_at_start zones start new is has differ = record { ready = ready_at_start slots zones start new is has; whole_is = whole_at_start zones start new is has differ }

  -- a call's zones are those that were held, and its conflicts those that are known and one more
  pub split_whole : (known asked : List (List Pair)) (conflict : List Pair) (held old : List Entry) (whole now : Option (List ZoneValue)) → old ≡ held → asked ≡ known ++ conflict ∷ [] → now ≡ whole
      → WholeTells slots known held whole → WholeTells slots asked old now
  split_whole known asked conflict held old whole now taken is same tells =
      subst (λ (ks : List (List Pair)). WholeTells slots ks old now) (sym is)
      (subst (λ (es : List Entry). WholeTells slots (known ++ conflict ∷ []) es now) (sym taken)
      (subst (λ (w : Option (List ZoneValue)). WholeTells slots (known ++ conflict ∷ []) held w) (sym same) (whole_more known conflict held whole tells)))
