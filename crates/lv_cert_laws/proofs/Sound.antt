-- What holds of a judged state from the first listed candidate on, whatever line comes: what is listed is sought, what is excluded is of
-- none that is sought, and each that is sought is in an open zone, or listed, or alike one that is listed before it.
use Rattle.std.proofs.Common.{◌≡◌, ℕ, suc, ◌+◌, ◌-◌, ◌<◌, ◌≤◌, Bool, true, false, ◌&&◌, ◌||◌, nat_eq, List, [], ◌∷◌, ◌++◌, ◌⊎◌, inl, inr, ⊎_elim, length, Option, Some, None, slice_get, cond, refl, sym, subst, ◌∙◌, ap, arith}
use Rattle.std.specs.Prelude.{option_map}
use Rattle.std.specs.Option.{option_map_or, option_and_then}
use Rattle.std.specs.List.{list_all, list_any}
use Rattle.std.proofs.lemmas.Bool.{and_parts, and_from, or_left, or_right, eqb-true}
use Rattle.std.proofs.lemmas.Option.{cond_some}
use Rattle.std.proofs.lemmas.List.{length-append}
use Rattle.std.proofs.lemmas.List.Folds.{list_all-append}
use Rattle.lv_cert_meaning.specs.lv_base.declared.ids.Cost.{Cost}
use Rattle.lv_cert_meaning.specs.lv_base.declared.ids.ValId.{ValId}
use Rattle.lv_cert_meaning.specs.lv_base.declared.rank.Rank.{Rank}
use Rattle.lv_cert_meaning.specs.lv_base.declared.search.Pair.{Pair}
use Rattle.lv_cert_meaning.specs.lv_base.Choices.{contains_all, pairs_of}
use Rattle.lv_cert_meaning.specs.lv_base.Rank.{rank_key, ranks_before}
use Rattle.lv_cert_meaning.proofs.lv_base.OrderLemmas.{transitive}
use Rattle.lv_cert_meaning.specs.lv_boxes.Members.{ZoneValue, are_left, is_member, choices_cost}
use Rattle.lv_cert_meaning.specs.lv_boxes.Parts.{parts_of}
use Rattle.lv_cert_meaning.specs.lv_boxes.GroupParts.{parts_by_groups}
use Rattle.lv_cert_meaning.specs.lv_boxes.Ranked.{rises}
use Rattle.lv_cert_meaning.specs.lv_boxes.Walk.{candidate_of}
use Rattle.lv_cert_meaning.specs.lv_boxes.Groups.{are_grouped, have_same_groups}
use Rattle.lv_cert_meaning.proofs.lv_boxes.RankedLemmas.{neither_is_same, not_both_before}
use Rattle.lv_cert_meaning.specs.lv_model.declared.plant.Plant.{Plant}
use Rattle.lv_cert_meaning.specs.lv_meaning.Targets.{targets_of_moves}
use Rattle.lv_cert_meaning.proofs.lv_meaning.Among.{Among, among_left, among_either, all_among}
use Rattle.lv_cert_meaning.specs.lv_boxes.RankedMembers.{ranks_in}
use Rattle.lv_cert_meaning.specs.lv_compile.FormulaClauses.{Clauses}
use Rattle.lv_cert_meaning.specs.lv_cert.declared.line.Evidence.{Evidence}
use Rattle.lv_cert_meaning.specs.lv_cert.declared.line.Evidence.TheVariants as evidence
use Rattle.lv_cert_meaning.specs.Counting.{at_number}
use Rattle.lv_cert_meaning.specs.Stated.{Stated}
use Rattle.lv_cert_meaning.specs.Space.{open_zone, with_parts, has_before, is_behind, all_passed}
use Rattle.lv_cert_meaning.specs.Judging.{Judged, last_of, full_to, is_next, listed_choices, parts_by_target, target_parts, split_parts, judge_split}
use Rattle.lv_cert_laws.proofs.Options.{ComesFrom, mapped, anded, got_among, number_among}
use Rattle.lv_cert_laws.proofs.Exclusion.{IsCovered, IsParted, split_covers, passed_covers, more_covers, same_choices, kept_in_parts, none_before}
use Rattle.lv_cert_laws.proofs.GroupParts.{kept_in_group_parts}

-- sought ranks of one source and the same choices are one, and have as many choices as each other
pub record AreApart (Sought : Rank → Type 0) : Type 0 where
  pub one : (q r : Rank) → Sought q → Sought r → q.source ≡ r.source → q.choices ≡ r.choices → q ≡ r
  pub even : (q r : Rank) → Sought q → Sought r → length q.choices ≡ length r.choices

last_among : (rs : List Rank) (s : Rank) → last_of rs ≡ Some s → Among s rs
last_among rs s last = got_among rs (length rs - 1) s last

last_behind : (x y : Rank) (ys : List Rank) → last_of (x ∷ (y ∷ ys)) ≡ last_of (y ∷ ys)
last_behind x y ys = let long : length (x ∷ (y ∷ ys)) - 1 ≡ suc (length (y ∷ ys) - 1) = omega arith in ap (slice_get (x ∷ (y ∷ ys))) long

none_last : (rs : List Rank) (q : Rank) → Among q rs → last_of rs ≡ None → ⊥
none_last [] q a none = a
none_last (x ∷ []) q a none = cc none
none_last (x ∷ (y ∷ ys)) q a none = none_last (y ∷ ys) y (inl refl) (sym (last_behind x y ys) ∙ none)

pub last_added : (rs : List Rank) (r : Rank) → last_of (rs ++ r ∷ []) ≡ Some r
last_added [] r = refl
last_added (x ∷ []) r = refl
last_added (x ∷ (y ∷ ys)) r = last_behind x y (ys ++ r ∷ []) ∙ last_added (y ∷ ys) r

-- of ranks in order one that is listed is the last, or ranks before it
pub to_last : (rs : List Rank) (r s : Rank) → rises rs ≡ true → Among r rs → last_of rs ≡ Some s → (r ≡ s) ⊎ (ranks_before r s ≡ true)
to_last [] r s rise a last = absurd a
to_last (x ∷ []) r s rise (inl e) last = let same : x ≡ s = cc last in inl (e ∙ same)
to_last (x ∷ []) r s rise (inr a) last = absurd a
to_last (x ∷ (y ∷ ys)) r s rise (inl e) last =
    let two = and_parts (list_all (ranks_before x) (y ∷ ys)) (rises (y ∷ ys)) rise in
    inr (ap (λ (q : Rank). ranks_before q s) e ∙ all_among (ranks_before x) (y ∷ ys) s two.0 (last_among (y ∷ ys) s (sym (last_behind x y ys) ∙ last)))
to_last (x ∷ (y ∷ ys)) r s rise (inr a) last =
    let two = and_parts (list_all (ranks_before x) (y ∷ ys)) (rises (y ∷ ys)) rise in
    to_last (y ∷ ys) r s two.1 a (sym (last_behind x y ys) ∙ last)

-- and what ranks behind the last ranks behind it too
pub behind_last : (rs : List Rank) (r s other : Rank) → rises rs ≡ true → Among r rs → last_of rs ≡ Some s → ranks_before s other ≡ true → ranks_before r other ≡ true
behind_last rs r s other rise a last after =
    ⊎_elim (λ e. ap (λ (q : Rank). ranks_before q other) e ∙ after) (λ before. transitive (rank_key r) (rank_key s) (rank_key other) before after) (to_last rs r s rise a last)

rises_with : (rs : List Rank) (other : Rank) → rises rs ≡ true → ((r : Rank) → Among r rs → ranks_before r other ≡ true) → rises (rs ++ other ∷ []) ≡ true
rises_with [] other rise before = refl
rises_with (r ∷ rs) other rise before =
    let two = and_parts (list_all (ranks_before r) rs) (rises rs) rise in
    and_from (list_all (ranks_before r) (rs ++ other ∷ [])) (rises (rs ++ other ∷ []))
    (list_all-append (ranks_before r) rs (other ∷ []) ∙ and_from (list_all (ranks_before r) rs) (ranks_before r other && true) two.0 (and_from (ranks_before r other) true (before r (inl refl)) refl))
    (rises_with rs other two.1 (λ q a. before q (inr a)))

-- a rank is not listed itself, but one that it is alike is, and ranks before it
pub record IsSecond (alike : Rank → Rank → Bool) (listed : List Rank) (r : Rank) : Type 0 where
  pub first : Rank
  pub among : Among first listed
  pub like : alike r first ≡ true
  pub before : ranks_before first r ≡ true

-- a rank that what is listed tells of
abbrev pub IsTold : (Rank → Rank → Bool) → List Rank → Rank → Type 0
IsTold alike listed r = Among r listed ⊎ IsSecond alike listed r

told_more : (alike : Rank → Rank → Bool) (listed more : List Rank) → ((q : Rank) → Among q listed → Among q more) → (r : Rank) → IsTold alike listed r → IsTold alike more r
told_more alike listed more grow r (inl a) = inl (grow r a)
told_more alike listed more grow r (inr second) = inr (record { first = second.first; among = grow second.first second.among; like = second.like; before = second.before })

-- none that is listed is alike one that is listed before it
pub record AreFirst (alike : Rank → Rank → Bool) (listed : List Rank) : Type 0 where
  pub apart : (q r : Rank) → Among q listed → Among r listed → ranks_before q r ≡ true → alike r q ≡ false

any_among : {X : Type 0} (p : X → Bool) (xs : List X) (x : X) → Among x xs → list_any p xs ≡ false → p x ≡ false
any_among p [] x a none = absurd a
any_among p (y ∷ ys) x a none = by (p y) refl none a (any_among p ys x)
  where
    by : (b : Bool) → p y ≡ b → (b || list_any p ys) ≡ false → Among x (y ∷ ys) → (Among x ys → list_any p ys ≡ false → p x ≡ false) → p x ≡ false
    by true e or a rest = absurd (cc or)
    by false e or (inl same) rest = ap p same ∙ e
    by false e or (inr later) rest = rest later or

-- one more, behind all of them and alike none
first_more : (alike : Rank → Rank → Bool) (listed : List Rank) (new : Rank) → AreFirst alike listed → ((q : Rank) → Among q listed → ranks_before q new ≡ true)
    → list_any (alike new) listed ≡ false → AreFirst alike (listed ++ new ∷ [])
first_more alike listed new firsts behind none =
    record { apart = λ q r a b before. by q r (among_either listed (new ∷ []) q a) (among_either listed (new ∷ []) r b) before }
  where
    by : (q r : Rank) → Among q listed ⊎ Among q (new ∷ []) → Among r listed ⊎ Among r (new ∷ []) → ranks_before q r ≡ true → alike r q ≡ false
    by q r (inl a) (inl b) before = firsts.apart q r a b before
    by q r (inl a) (inr (inl e)) before = ap (λ (x : Rank). alike x q) e ∙ any_among (alike new) listed q a none
    by q r (inr (inl e)) (inl b) before = absurd (not_both_before r new (behind r b) (sym (ap (λ (x : Rank). ranks_before x r) e) ∙ before))
    by q r (inr (inl e)) (inr (inl f)) before = absurd (not_both_before q r before (ap (λ (x : Rank). ranks_before r x) (e ∙ sym f) ∙ ap (λ (x : Rank). ranks_before x r) (f ∙ sym e) ∙ before))
    by q r (inl a) (inr (inr never)) before = absurd never
    by q r (inr (inr never)) b before = absurd never
    by q r (inr (inl e)) (inr (inr never)) before = absurd never

-- a rank behind all that is listed
pub record IsBehindAll (listed : List Rank) (r : Rank) : Type 0 where
  pub after : (q : Rank) → Among q listed → ranks_before q r ≡ true

module _ (Sought : Rank → Type 0) (alike : Rank → Rank → Bool) (slots : List (List Cost)) (s : Stated) where
  pub record IsSound (j : Judged) : Type 0 where
    pub stated_is : j.stated ≡ s
    pub slots_are : j.space.slots ≡ slots
    pub few : length j.listed ≤ s.k
    pub rising : rises j.listed ≡ true
    pub firsts : AreFirst alike j.listed
    pub shown : (r : Rank) → Among r j.listed → Sought r
    pub barred : (pairs : List Pair) → Among pairs j.excluded → (r : Rank) → Sought r → contains_all r.choices pairs ≡ false
    pub covered : IsCovered Sought (IsTold alike j.listed) j.space

  -- more is excluded, and a block is opened
  pub excluded_sound : (j : Judged) (pairs : List Pair) (own : Clauses) → IsSound j → ((r : Rank) → Sought r → contains_all r.choices pairs ≡ false)
      → IsSound (record j { excluded = j.excluded ++ pairs ∷ []; own = own })
  excluded_sound j pairs own sound none =
      record {
        stated_is = sound.stated_is;
        slots_are = sound.slots_are;
        few = sound.few;
        rising = sound.rising;
        firsts = sound.firsts;
        shown = sound.shown;
        barred = λ other a r sought.
            ⊎_elim (λ there. sound.barred other there r sought) (λ here. ⊎_elim (λ e. ap (contains_all r.choices) e ∙ none r sought) (λ never. absurd never) here)
            (among_either j.excluded (pairs ∷ []) other a);
        covered = sound.covered;
      }

  -- a clause more in the block, or other values before a step, change nothing of this
  pub own_sound : (j : Judged) (own : Clauses) → IsSound j → IsSound (record j { own = own })
  own_sound j own sound = record {
    stated_is = sound.stated_is;
    slots_are = sound.slots_are;
    few = sound.few;
    rising = sound.rising;
    firsts = sound.firsts;
    shown = sound.shown;
    barred = sound.barred;
    covered = sound.covered;
  }

  pub before_sound : (j : Judged) (before : Option (List ValId)) → IsSound j → IsSound (record j { before = before })
  before_sound j before sound = record {
    stated_is = sound.stated_is;
    slots_are = sound.slots_are;
    few = sound.few;
    rising = sound.rising;
    firsts = sound.firsts;
    shown = sound.shown;
    barred = sound.barred;
    covered = sound.covered;
  }

  -- one more is listed, behind the last, and alike none before it
  pub listed_sound : (j : Judged) (r : Rank) → IsSound j → length j.listed < s.k → Sought r → is_next j.listed r ≡ true → list_any (alike r) j.listed ≡ false
      → IsSound (record j { listed = j.listed ++ r ∷ [] })
  listed_sound j r sound room sought next new =
      record {
        stated_is = sound.stated_is;
        slots_are = sound.slots_are;
        few = let long = length-append j.listed (r ∷ []) in omega (arith, long, room);
        rising = rises_with j.listed r sound.rising behind;
        firsts = first_more alike j.listed r sound.firsts behind new;
        shown = λ q a. ⊎_elim (sound.shown q) (λ b. ⊎_elim (λ e. subst Sought (sym e) sought) (λ never. absurd never) b) (among_either j.listed (r ∷ []) q a);
        barred = sound.barred;
        covered = more_covers Sought (IsTold alike j.listed) (IsTold alike (j.listed ++ r ∷ [])) j.space sound.covered
            (told_more alike j.listed (j.listed ++ r ∷ []) (λ q a. among_left j.listed (r ∷ []) q a));
      }
    where
      before : (o : Option Rank) → last_of j.listed ≡ o → option_map_or (λ last. ranks_before last r) o true ≡ true → (q : Rank) → Among q j.listed → ranks_before q r ≡ true
      before None none test q a = absurd (none_last j.listed q a none)
      before (Some last) is test q a = behind_last j.listed q last r sound.rising a is test

      behind : (q : Rank) → Among q j.listed → ranks_before q r ≡ true
      behind q a = before (last_of j.listed) refl next q a

  -- a zone is split
  module _ (plant : Plant) (apart : AreApart Sought) where
    -- what is sought has a target of each move, and two with the same ones are alike
    pub record TargetsAreAlike : Type 0 where
      pub grouped : (r : Rank) → Sought r → are_grouped (targets_of_moves plant) r.choices ≡ true
      pub alike_by_targets : s.distinct ≡ true → (q r : Rank) → Sought q → Sought r → have_same_groups (targets_of_moves plant) r.choices q.choices ≡ true → alike r q ≡ true

    -- by choices that no member has which is sought, unless it is told
    parted_by : (j : Judged) (zone : ZoneValue) (pairs : List Pair) → IsSound j
        → ((r : Rank) → Sought r → ranks_in j.space.slots r zone ≡ true → (contains_all r.choices pairs ≡ false) ⊎ Among r j.listed)
        → IsParted Sought (IsTold alike j.listed) j.space.slots zone (parts_of zone pairs)
    parted_by j zone pairs sound misses =
        record { keeps = λ r sought has. ⊎_elim (λ miss. inl (kept_in_parts j.space.slots r pairs zone has miss)) (λ a. inr (inl a)) (misses r sought has) }

    parted_by_listed : (j : Judged) (zone : ZoneValue) (n : ℕ) (parts : List ZoneValue) → IsSound j → option_map (parts_of zone) (listed_choices j zone n) ≡ Some parts
        → IsParted Sought (IsTold alike j.listed) j.space.slots zone parts
    parted_by_listed j zone n parts sound h =
        let from : ComesFrom (parts_of zone) (listed_choices j zone n) parts = mapped (parts_of zone) (listed_choices j zone n) parts h in
        let found = anded (λ (r : Rank). cond (nat_eq r.source zone.source) (Some (pairs_of r.choices)) None) (at_number j.listed n) from.source from.at in
        let both = cond_some (nat_eq found.0.source zone.source) (pairs_of found.0.choices) from.source found.2 in
        subst (IsParted Sought (IsTold alike j.listed) j.space.slots zone) (ap (parts_of zone) both.1 ∙ from.made)
        (parted_by j zone (pairs_of found.0.choices) sound
        (λ r sought has. misses found.0 (number_among j.listed n found.0 found.1) (eqb-true found.0.source zone.source both.0) r sought has (contains_all r.choices (pairs_of found.0.choices)) refl))
      where
        misses : (q : Rank) → Among q j.listed → q.source ≡ zone.source → (r : Rank) → Sought r → ranks_in j.space.slots r zone ≡ true → (b : Bool) → contains_all r.choices (pairs_of q.choices) ≡ b
            → (contains_all r.choices (pairs_of q.choices) ≡ false) ⊎ Among r j.listed
        misses q there from r sought has false e = inl e
        misses q there from r sought has true e =
            let wanted : Sought q = sound.shown q there in
            let same : q.choices ≡ r.choices = same_choices q.choices r.choices (apart.even q r wanted sought) e in
            let member = and_parts (is_member j.space.slots zone (candidate_of r)) (nat_eq r.cost.0 (zone.base.0 + choices_cost j.space.slots r.choices)) has in
            let source : r.source ≡ zone.source = eqb-true r.source zone.source (and_parts (nat_eq r.source zone.source) (are_left j.space.slots zone.masks r.choices) member.0).0 in
            inr (subst (λ (x : Rank). Among x j.listed) (apart.one q r wanted sought (from ∙ sym source) same) there)

    parted_by_conflict : (j : Judged) (zone : ZoneValue) (n : ℕ) (parts : List ZoneValue) → IsSound j → option_map (parts_of zone) (at_number j.excluded n) ≡ Some parts
        → IsParted Sought (IsTold alike j.listed) j.space.slots zone parts
    parted_by_conflict j zone n parts sound h =
        let from : ComesFrom (parts_of zone) (at_number j.excluded n) parts = mapped (parts_of zone) (at_number j.excluded n) parts h in
        subst (IsParted Sought (IsTold alike j.listed) j.space.slots zone) from.made
        (parted_by j zone from.source sound (λ r sought has. inl (sound.barred from.source (number_among j.excluded n from.source from.at) r sought)))

    -- by the target of one that is listed, which no member ranks before
    parted_by_target : TargetsAreAlike → (j : Judged) (zone : ZoneValue) (n : ℕ) (parts : List ZoneValue) → IsSound j → target_parts plant j zone n ≡ Some parts
        → IsParted Sought (IsTold alike j.listed) j.space.slots zone parts
    parted_by_target targets j zone n parts sound h =
        let asked = when_asked j.stated.distinct refl h in
        let found = anded (parts_by_target plant j zone) (at_number j.listed n) parts asked.1 in
        let free = when_free found.0 (has_before j.space.slots zone found.0) refl found.2 in
        subst (IsParted Sought (IsTold alike j.listed) j.space.slots zone) free.1
        (record { keeps = λ r sought has. keeps asked.0 found.0 (number_among j.listed n found.0 found.1) free.0 r sought has (have_same_groups (targets_of_moves plant) r.choices found.0.choices) refl })
      where
        when_asked : (b : Bool) → j.stated.distinct ≡ b → cond b (option_and_then (parts_by_target plant j zone) (at_number j.listed n)) None ≡ Some parts
            → (j.stated.distinct ≡ true) × (option_and_then (parts_by_target plant j zone) (at_number j.listed n) ≡ Some parts)
        when_asked true e some = (e, some)
        when_asked false e some = absurd (cc some)

        when_free : (q : Rank) (b : Bool) → has_before j.space.slots zone q ≡ b → cond b None (Some (parts_by_groups zone (targets_of_moves plant) q.choices)) ≡ Some parts
            → (has_before j.space.slots zone q ≡ false) × (parts_by_groups zone (targets_of_moves plant) q.choices ≡ parts)
        when_free q true e some = absurd (cc some)
        when_free q false e some = (e, cc some)

        second : (q : Rank) → Among q j.listed → (r : Rank) → alike r q ≡ true → ranks_before r q ≡ false → (b : Bool) → ranks_before q r ≡ b → IsTold alike j.listed r
        second q there r like not_before true e = inr (record { first = q; among = there; like = like; before = e })
        second q there r like not_before false e = inl (subst (λ (x : Rank). Among x j.listed) (neither_is_same q r e not_before) there)

        keeps : j.stated.distinct ≡ true → (q : Rank) → Among q j.listed → has_before j.space.slots zone q ≡ false → (r : Rank) → Sought r → ranks_in j.space.slots r zone ≡ true
            → (b : Bool) → have_same_groups (targets_of_moves plant) r.choices q.choices ≡ b
            → (list_any (ranks_in j.space.slots r) (parts_by_groups zone (targets_of_moves plant) q.choices) ≡ true) ⊎ IsTold alike j.listed r
        keeps distinct q there free r sought has false other = inl (kept_in_group_parts j.space.slots (targets_of_moves plant) r q.choices zone has (targets.grouped r sought) (targets.grouped q (sound.shown q there)) other)
        keeps distinct q there free r sought has true same =
            let flag : s.distinct ≡ true = sym (ap (λ (t : Stated). t.distinct) sound.stated_is) ∙ distinct in
            let like : alike r q ≡ true = targets.alike_by_targets flag q r (sound.shown q there) sought same in
            inr (second q there r like (none_before j.space.slots zone q r free has) (ranks_before q r) refl)

    parted : (by : Evidence) → ((n : ℕ) → by ≡ evidence.Target n → TargetsAreAlike) → (j : Judged) (zone : ZoneValue) (parts : List ZoneValue) → IsSound j → split_parts plant j zone by ≡ Some parts
        → IsParted Sought (IsTold alike j.listed) j.space.slots zone parts
    parted (evidence.Conflict n) targets j zone parts sound h = parted_by_conflict j zone n parts sound h
    parted (evidence.Listed n) targets j zone parts sound h = parted_by_listed j zone n parts sound h
    parted (evidence.Target n) targets j zone parts sound h = parted_by_target (targets n refl) j zone n parts sound h
    parted evidence.Recovery targets j zone parts sound h = parted_by_listed j zone 1 parts sound h

    pub split_sound : (j k : Judged) (n : ℕ) (by : Evidence) → ((m : ℕ) → by ≡ evidence.Target m → TargetsAreAlike) → IsSound j → judge_split plant j n by ≡ Some k → IsSound k
    split_sound j k n by targets sound h =
        let opened = anded (λ zone. option_map (λ parts. record j { space = with_parts j.space n parts }) (split_parts plant j zone by)) (open_zone j.space n) k h in
        let made : ComesFrom (λ parts. record j { space = with_parts j.space n parts }) (split_parts plant j opened.0 by) k =
        mapped (λ parts. record j { space = with_parts j.space n parts }) (split_parts plant j opened.0 by) k opened.2 in
        subst IsSound made.made
        (record {
          stated_is = sound.stated_is;
          slots_are = sound.slots_are;
          few = sound.few;
          rising = sound.rising;
          firsts = sound.firsts;
          shown = sound.shown;
          barred = sound.barred;
          covered = split_covers Sought (IsTold alike j.listed) j.space n opened.0 made.source sound.covered opened.1 (parted by targets j opened.0 made.source sound made.at);
        })

  -- at the end: what is sought is told or ranks behind all that is listed, and all of it is told where the answer isn't full
  pub record IsFinal (j : Judged) : Type 0 where
    pub each : (r : Rank) → Sought r → IsTold alike j.listed r ⊎ IsBehindAll j.listed r
    pub none_left_out : length j.listed < s.k → (r : Rank) → Sought r → IsTold alike j.listed r

  pub is_final : (j : Judged) → IsSound j → all_passed j.space (full_to j) ≡ true → IsFinal j
  is_final j sound passed =
      record {
        each = λ r sought. ⊎_elim (λ told. inl told) (λ after. inr (record { after = λ q a. behind (nat_eq (length j.listed) j.stated.k) (last_of j.listed) refl q r a after }))
            (passed_covers Sought (IsTold alike j.listed) j.space (full_to j) sound.covered passed r sought);
        none_left_out = λ fewer r sought. ⊎_elim (λ told. told) (λ after. absurd (unfilled (nat_eq (length j.listed) j.stated.k) refl fewer r after))
            (passed_covers Sought (IsTold alike j.listed) j.space (full_to j) sound.covered passed r sought);
      }
    where
      behind : (full : Bool) (o : Option Rank) → last_of j.listed ≡ o → (r other : Rank) → Among r j.listed → is_behind (cond full o None) other ≡ true → ranks_before r other ≡ true
      behind false o is r other a after = absurd (cc after)
      behind true None is r other a after = absurd (cc after)
      behind true (Some last) is r other a after = behind_last j.listed r last other sound.rising a is after

      unfilled : (full : Bool) → nat_eq (length j.listed) j.stated.k ≡ full → length j.listed < s.k → (r : Rank) → is_behind (cond full (last_of j.listed) None) r ≡ true → ⊥
      unfilled false e fewer r after = cc after
      unfilled true e fewer r after =
          let same : length j.listed ≡ j.stated.k = eqb-true (length j.listed) j.stated.k e in
          let k_is : j.stated.k ≡ s.k = ap (λ (t : Stated). t.k) sound.stated_is in
          omega (arith, same, k_is, fewer)
