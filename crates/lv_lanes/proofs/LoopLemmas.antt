-- Lanes gone through one after another.
use Rattle.std.proofs.Common.{◌≡◌, ℕ, zero, suc, ◌+◌, Bool, true, false, cond, ◌||◌, List, [], ◌∷◌, ◌++◌, map, filter, take, drop, set, slice_get, Option, Some, None, IfSome, Result, Ok, IfOk, length, nat_lt, refl, sym, ◌∙◌, ap, ap₂, subst, arith}
use Rattle.std.specs.List.{list_any}
use Rattle.std.proofs.lemmas.List.{map-append, append-nil, drop_all, take_all}
use Rattle.std.proofs.lemmas.List.Elements.{filter-append}
use Rattle.lv_lanes.specs.declared.named.Named.{Named}
use Rattle.lv_lanes.specs.declared.named.TheConstants.{LANES}
use Rattle.lv_lanes.specs.declared.reply.LaneText.{LaneText}
use Rattle.lv_lanes.specs.declared.reply.LaneReply.{LaneReply}
use Rattle.lv_lanes.specs.declared.reply.LaneReply.TheVariants.{Replied}
use Rattle.lv_lanes.specs.declared.fault.LaneFault.TheVariants.{NoLane}
use Rattle.lv_lanes.specs.Forms.{Asked, nothing, asked_by}
use Rattle.lv_lanes.specs.Standing.{Errand, is_refused, errands, Standing, is_lane, lane_of, has_place, gone_on, handed, is_open_lane, errand_to, errands_to_open, turned, work_by, work_of, lanes_by, stepped}
use Rattle.lv_lanes.specs.Replies.{AreReplies, no_errands, one_more, IsHandedOn, MayReply}
use Rattle.lv_base.specs.Names.{is_named}
use Rattle.lv_lanes.proofs.LaneLemmas.{absent_later, same_name, handed_fresh, lane_of_fresh}

one_further : (i : ℕ) → i + 1 ≡ suc i
one_further i = omega arith

-- the elements up to one, and that one
taken : {X : Type 0} (xs : List X) (i : ℕ) (x : X) → slice_get xs i ≡ Some x → take (suc i) xs ≡ take i xs ++ x ∷ []
taken [] i x has = absurd (cc)
taken (y ∷ ys) zero x has = let same : y ≡ x = cc in ap (λ z. z ∷ []) same
taken (y ∷ ys) (suc i) x has = ap (λ zs. y ∷ zs) (taken ys i x has)

pub taken_one : {X : Type 0} (xs : List X) (i : ℕ) (x : X) → slice_get xs i ≡ Some x → take (i + 1) xs ≡ take i xs ++ x ∷ []
taken_one xs i x has = ap (λ n. take n xs) (one_further i) ∙ taken xs i x has

mapped_at : {X : Type 0} (f : X → X) (xs : List X) (i : ℕ) (x : X) → slice_get xs i ≡ Some x
    → set (map f (take i xs) ++ drop i xs) i (f x) ≡ map f (take (suc i) xs) ++ drop (suc i) xs
mapped_at f [] i x has = absurd (cc)
mapped_at f (y ∷ ys) zero x has = let same : y ≡ x = cc in ap (λ z. f z ∷ ys) (sym same)
mapped_at f (y ∷ ys) (suc i) x has = ap (λ zs. f y ∷ zs) (mapped_at f ys i x has)

pub mapped_one : {X : Type 0} (f : X → X) (xs : List X) (i : ℕ) (x : X) → slice_get xs i ≡ Some x
    → set (map f (take i xs) ++ drop i xs) i (f x) ≡ map f (take (i + 1) xs) ++ drop (i + 1) xs
mapped_one f xs i x has = subst (λ n. set (map f (take i xs) ++ drop i xs) i (f x) ≡ map f (take n xs) ++ drop n xs) (sym (one_further i)) (mapped_at f xs i x has)

-- the next one is as it was
pub seen_at : {X : Type 0} (f : X → X) (xs : List X) (i : ℕ) → slice_get (map f (take i xs) ++ drop i xs) i ≡ slice_get xs i
seen_at f [] zero = refl
seen_at f [] (suc i) = refl
seen_at f (y ∷ ys) zero = refl
seen_at f (y ∷ ys) (suc i) = seen_at f ys i

module _ {S : Type 0} where
  pub none_longer : (name : List ℕ) (ls : List (Named S)) (i : ℕ) (l : Named S) → slice_get ls i ≡ Some l
      → list_any (is_lane name) (take i ls) ≡ false → is_lane name l ≡ false → list_any (is_lane name) (take (i + 1) ls) ≡ false
  none_longer name ls i l has none other = ap (list_any (is_lane name)) (taken_one ls i l has) ∙ by (take i ls) none
    where
      by : (front : List (Named S)) → list_any (is_lane name) front ≡ false → list_any (is_lane name) (front ++ l ∷ []) ≡ false
      by [] none = ap (λ (b : Bool). b || false) other
      by (m ∷ front) none = let parts = absent_later name m front none in ap₂ (λ (p q : Bool). p || q) parts.0 (by front parts.1)

module _ {S : Type 0} (next : S → List ℕ → S) where
  -- the first lane of a name is the one that a line is for
  pub found_at : (name line : List ℕ) (start : S) (ls : List (Named S)) (i : ℕ) (l : Named S) → slice_get ls i ≡ Some l
      → list_any (is_lane name) (take i ls) ≡ false → is_lane name l ≡ true
      → (handed next name line start ls ≡ set ls i (gone_on next line l)) × (lane_of name start ls ≡ l.lane) × (list_any (is_lane name) ls ≡ true)
  found_at name line start [] i l has none is = absurd (cc)
  found_at name line start (m ∷ ls) zero l has none is =
      let same : m ≡ l = cc in
      let e = ap (is_lane name) same ∙ is in (
        ap (λ (b : Bool). cond b (gone_on next line m ∷ ls) (m ∷ handed next name line start ls)) e ∙ ap (λ (n : Named S). gone_on next line n ∷ ls) same,
        ap (λ (b : Bool). cond b m.lane (lane_of name start ls)) e ∙ ap (λ (n : Named S). n.lane) same,
        ap (λ (b : Bool). b || list_any (is_lane name) ls) e,
      )
  found_at name line start (m ∷ ls) (suc i) l has none is =
      let parts = absent_later name m (take i ls) none in
      let later = found_at name line start ls i l has parts.1 is in (
        ap (λ (b : Bool). cond b (gone_on next line m ∷ ls) (m ∷ handed next name line start ls)) parts.0 ∙ ap (λ (ns : List (Named S)). m ∷ ns) later.0,
        ap (λ (b : Bool). cond b m.lane (lane_of name start ls)) parts.0 ∙ later.1,
        ap (λ (b : Bool). b || list_any (is_lane name) ls) parts.0 ∙ later.2,
      )

module _ {S : Type 0} (is_open : S → Bool) where
  pub errands_further : (line : List ℕ) (ls : List (Named S)) (i : ℕ) (l : Named S) → slice_get ls i ≡ Some l
      → errands_to_open is_open line (take (i + 1) ls) ≡ errands_to_open is_open line (take i ls) ++ errands_to_open is_open line (l ∷ [])
  errands_further line ls i l has =
      ap (errands_to_open is_open line) (taken_one ls i l has)
      ∙ ap (map (errand_to line)) (filter-append (is_open_lane is_open) (take i ls) (l ∷ []))
      ∙ map-append (errand_to line) (filter (is_open_lane is_open) (take i ls)) (filter (is_open_lane is_open) (l ∷ []))

  pub no_errand : (line : List ℕ) (l : Named S) → is_open l.lane ≡ false → errands_to_open is_open line (l ∷ []) ≡ []
  no_errand line l shut = ap (λ (b : Bool). map (errand_to line) (cond b (l ∷ []) [])) shut

  pub stays_shut : (next : S → List ℕ → S) (line : List ℕ) (l : Named S) → is_open l.lane ≡ false → turned next is_open line l ≡ l
  stays_shut next line l shut = ap (λ (b : Bool). cond b (gone_on next line l) l) shut

module _ {S : Type 0} (says : S → List ℕ → List ℕ → Type 0) where
  pub longer : (es fs : List (Errand S)) (rs ts : List LaneText) → AreReplies says es rs → AreReplies says fs ts → AreReplies says (es ++ fs) (rs ++ ts)
  longer [] fs rs ts no_errands more = more
  longer (e ∷ es) fs rs ts (one_more {reply} {replies} named said later) more = one_more named said (longer es fs replies ts later more)

  -- the reply of a lane with an unsettled query
  pub one_reply : (is_open : S → Bool) (line : List ℕ) (l : Named S) (reply : LaneText) → is_open l.lane ≡ true → reply.name ≡ l.name
      → says l.lane line reply.text → AreReplies says (errands_to_open is_open line (l ∷ [])) (reply ∷ [])
  one_reply is_open line l reply open_is named said =
      subst (λ (b : Bool). AreReplies says (map (errand_to line) (cond b (l ∷ []) [])) (reply ∷ [])) (sym open_is) (one_more named said no_errands)

  module _ (is_open : S → Bool) (line : List ℕ) (ls : List (Named S)) (i : ℕ) (l here : Named S) (has : slice_get ls i ≡ Some l) (same : here ≡ l) where
    -- replies to the errands so far, and to that of one more lane
    pub some_further : (answered : Option LaneText) (reply : LaneText) (rs new : List LaneText) → answered ≡ Some reply
        → IfSome answered (λ (r : LaneText). AreReplies says (errands_to_open is_open line (here ∷ [])) (r ∷ []))
        → AreReplies says (errands_to_open is_open line (take i ls)) rs → new ≡ rs ++ reply ∷ []
        → AreReplies says (errands_to_open is_open line (take (i + 1) ls)) new
    some_further answered reply rs new is some so_far added =
        let one : AreReplies says (errands_to_open is_open line (here ∷ [])) (reply ∷ []) =
        subst (λ (o : Option LaneText). IfSome o (λ (r : LaneText). AreReplies says (errands_to_open is_open line (here ∷ [])) (r ∷ []))) is some in
        let own = subst (λ (n : Named S). AreReplies says (errands_to_open is_open line (n ∷ [])) (reply ∷ [])) same one in
        subst (λ (ts : List LaneText). AreReplies says (errands_to_open is_open line (take (i + 1) ls)) ts) (sym added)
        (subst (λ (es : List (Errand S)). AreReplies says es (rs ++ reply ∷ [])) (sym (errands_further is_open line ls i l has))
        (longer (errands_to_open is_open line (take i ls)) (errands_to_open is_open line (l ∷ [])) rs (reply ∷ []) so_far own))

    pub none_further : (answered : Option LaneText) (rs new : List LaneText) → answered ≡ None → (answered ≡ None → is_open here.lane ≡ false)
        → AreReplies says (errands_to_open is_open line (take i ls)) rs → new ≡ rs
        → AreReplies says (errands_to_open is_open line (take (i + 1) ls)) new
    none_further answered rs new is shut so_far kept =
        let none = no_errand is_open line l (subst (λ (n : Named S). is_open n.lane ≡ false) same (shut is)) in
        subst (λ (ts : List LaneText). AreReplies says (errands_to_open is_open line (take (i + 1) ls)) ts) (sym kept)
        (subst (λ (es : List (Errand S)). AreReplies says es rs)
        (sym (errands_further is_open line ls i l has ∙ ap (λ (es : List (Errand S)). errands_to_open is_open line (take i ls) ++ es) none ∙ append-nil (errands_to_open is_open line (take i ls))))
        so_far)

module _ {S : Type 0} (next : S → List ℕ → S) (says : S → List ℕ → List ℕ → Type 0) where
  -- the first lane of a name was handed a line
  pub answered_at : (name line : List ℕ) (start : S) (all ls : List (Named S)) (i : ℕ) (l here : Named S) (after : S) (told : List ℕ)
      → slice_get all i ≡ Some l → here ≡ l → all ≡ ls → list_any (is_lane name) (take i ls) ≡ false → is_lane name here ≡ true
      → after ≡ next here.lane line → says here.lane line told
      → (list_any (is_lane name) ls ≡ true) × (set all i (record { name = here.name; lane = after }) ≡ handed next name line start ls) × says (lane_of name start ls) line told
  answered_at name line start all ls i l here after told read same alike none is goes said =
      let has : slice_get ls i ≡ Some l = ap (λ (xs : List (Named S)). slice_get xs i) (sym alike) ∙ read in
      let found = found_at next name line start ls i l has none (ap (is_lane name) (sym same) ∙ is) in (
        found.2,
        ap (λ (s : S). set all i (record { name = here.name; lane = s })) goes
            ∙ ap (λ (n : Named S). set all i (gone_on next line n)) same
            ∙ ap (λ (xs : List (Named S)). set xs i (gone_on next line l)) alike
            ∙ sym found.0,
        subst (λ (s : S). says s line told) (ap (λ (n : Named S). n.lane) same ∙ sym found.1) said,
      )

  found_fresh : (name : List ℕ) (l : Named S) (ls : List (Named S)) → l.name ≡ name → list_any (is_lane name) (ls ++ l ∷ []) ≡ true
  found_fresh name l [] named = ap (λ (b : Bool). b || false) (ap (is_named name) named ∙ same_name name)
  found_fresh name l (m ∷ ls) named = ap (λ (b : Bool). is_lane name m || b) (found_fresh name l ls named) ∙ by (is_lane name m)
    where
      by : (b : Bool) → (b || true) ≡ true
      by true = refl
      by false = refl

  -- a line was handed on to a lane that was made for it
  pub handed_to_fresh : (name line : List ℕ) (start : S) (l : Named S) (old before new : List (Named S)) (found : Option (List ℕ))
      → l.name ≡ name → l.lane ≡ start → list_any (is_lane name) old ≡ false → has_place name old ≡ true → before ≡ old ++ l ∷ []
      → IsHandedOn says next (list_any (is_lane name) before) name line start before new found
      → IsHandedOn says next (has_place name old) name line start old new found
  handed_to_fresh name line start l old before new None named begins none room added told =
      absurd (cc (sym (ap (list_any (is_lane name)) added ∙ found_fresh name l old named) ∙ told.0))
  handed_to_fresh name line start l old before new (Some text) named begins none room added told = (
    room,
    told.1 ∙ ap (handed next name line start) added ∙ handed_fresh next name line start l old named begins none,
    subst (λ (s : S). says s line text) (ap (lane_of name start) added ∙ lane_of_fresh name start l old named begins) told.2,
  )

  module _ {E : Type 0} (name line : List ℕ) (start : S) (slice old after new : List (Named S)) (r : Result (Option (List ℕ)) E) (found : Option (List ℕ))
      (told : IfOk r (IsHandedOn says next (list_any (is_lane name) slice) name line start slice after)) (alike : slice ≡ old) (went : r ≡ Ok found) where
    went_so : IsHandedOn says next (list_any (is_lane name) old) name line start old after found
    went_so =
        subst (λ (x : Result (Option (List ℕ)) E). IfOk x (IsHandedOn says next (list_any (is_lane name) old) name line start old after)) went
        (subst (λ (xs : List (Named S)). IfOk r (IsHandedOn says next (list_any (is_lane name) xs) name line start xs after)) alike told)

    pub none_there : found ≡ None → (list_any (is_lane name) old ≡ false) × (after ≡ old)
    none_there is = subst (λ (x : Option (List ℕ)). IsHandedOn says next (list_any (is_lane name) old) name line start old after x) is went_so

    pub handed_to_known : (text : List ℕ) → found ≡ Some text → new ≡ after → IsHandedOn says next (has_place name old) name line start old new (Some text)
    handed_to_known text is kept =
        let so = subst (λ (x : Option (List ℕ)). IsHandedOn says next (list_any (is_lane name) old) name line start old after x) is went_so in
        (ap (λ (b : Bool). b || nat_lt (length old) LANES) so.0, kept ∙ so.1, so.2)

    pub handed_to_none : found ≡ None → nat_lt (length old) LANES ≡ false → new ≡ after → (has_place name old ≡ false) × (new ≡ old)
    handed_to_none is full kept = let so = none_there is in (ap₂ (λ (p q : Bool). p || q) so.0 full, kept ∙ so.1)

  -- the list that a lane was put last of
  pub put_last : (l : Named S) (slice before middle old : List (Named S)) → slice ≡ before → before ≡ middle ++ l ∷ [] → middle ≡ old → slice ≡ old ++ l ∷ []
  put_last l slice before middle old alike added same = alike ∙ added ∙ ap (λ (xs : List (Named S)). xs ++ l ∷ []) same

  -- what a lane replied to a line for it is the reply
  pub replied_by_lane : (there : Bool) (name line : List ℕ) (start : S) (old new : List (Named S)) (found : Option (List ℕ)) (text : List ℕ) (reply : LaneText) (before replies : List LaneText)
      → IsHandedOn says next there name line start old new found → found ≡ Some text → reply.name ≡ name → reply.text ≡ text → before ≡ [] → replies ≡ before ++ reply ∷ []
      → MayReply says (cond there (errands (record { name = name; lane = lane_of name start old; line = line } ∷ [])) (is_refused NoLane)) (Replied replies)
  replied_by_lane there name line start old new found text reply before replies told is named texted begins added =
      let so = subst (λ (x : Option (List ℕ)). IsHandedOn says next there name line start old new x) is told in
      let said : says (lane_of name start old) line reply.text = subst (λ (t : List ℕ). says (lane_of name start old) line t) (sym texted) so.2 in
      let all : replies ≡ reply ∷ [] = added ∙ ap (λ (rs : List LaneText). rs ++ reply ∷ []) begins in
      subst (λ (b : Bool). MayReply says (cond b (errands (record { name = name; lane = lane_of name start old; line = line } ∷ [])) (is_refused NoLane)) (Replied replies)) (sym so.0)
      (subst (λ (rs : List LaneText). AreReplies says (record { name = name; lane = lane_of name start old; line = line } ∷ []) rs) (sym all) (one_more named said no_errands))

-- a list whose whole front was written
pub whole_written : {X : Type 0} (n : ℕ) (new old : List X) → length old ≡ n → length new ≡ length old → take n (new ++ drop (length new) old) ≡ new
whole_written n new old long same =
    let none = drop_all (length new) old (omega (arith, same)) in
    ap (λ rest. take n (new ++ rest)) none ∙ ap (take n) (append-nil new) ∙ take_all n new (omega (arith, long, same))

module _ {S : Type 0} (next : S → List ℕ → S) (is_open : S → Bool) where
  pub all_turned : (n : ℕ) (line more : List ℕ) (slice old new : List (Named S)) → length old ≡ n → length new ≡ length old → line ≡ more → slice ≡ old
      → new ≡ map (turned next is_open line) slice → take n (new ++ drop (length new) old) ≡ map (turned next is_open more) old
  all_turned n line more slice old new long same lines alike is =
      whole_written n new old long same ∙ is ∙ ap₂ (λ (l : List ℕ) (xs : List (Named S)). map (turned next is_open l) xs) lines alike

module _ {S : Type 0} (says : S → List ℕ → List ℕ → Type 0) (start : S → S) (is_open : S → Bool) where
  pub nothing_replied : (first : S) (ls : List (Named S)) (asked : Asked) (replies : List LaneText) → asked ≡ nothing → replies ≡ []
      → MayReply says (work_by start is_open first ls asked) (Replied replies)
  nothing_replied first ls asked replies is none =
      subst (λ (a : Asked). MayReply says (work_by start is_open first ls a) (Replied replies)) (sym is)
      (subst (λ (rs : List LaneText). AreReplies says [] rs) (sym none) no_errands)

  -- between the fields of lanes and their value
  pub goes_so : (next : S → List ℕ → S) (view s : Standing S) (line : List ℕ) (ls : List (Named S)) → view ≡ s
      → ls ≡ lanes_by next start is_open view.first view.lanes (asked_by line)
      → record view { lanes = ls } ≡ stepped next start is_open s line
  goes_so next view s line ls same is =
      ap (λ (xs : List (Named S)). record view { lanes = xs }) is ∙ ap (λ (t : Standing S). stepped next start is_open t line) same

  pub replies_so : (view s : Standing S) (line : List ℕ) (reply : LaneReply) → view ≡ s
      → MayReply says (work_of start is_open view line) reply → MayReply says (work_of start is_open s line) reply
  replies_so view s line reply same may = subst (λ (t : Standing S). MayReply says (work_of start is_open t line) reply) same may
