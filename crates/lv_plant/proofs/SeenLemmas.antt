-- All that is seen of a step is observed: there is room, and no such name is held.
use Rattle.std.proofs.Common.{◌≡◌, ◌≢◌, ℕ, zero, suc, ◌+◌, ◌<◌, ◌≤◌, ◌^◌, ◌%◌, Bool, true, false, not, ◌&&◌, ◌||◌, cond, nat_eq, nat_le, nat_lt, List, [], ◌∷◌, ◌++◌, length, take, decimal, Option, Some, None, refl, sym, subst, ◌∙◌, ap, ap₂, arith}
use Rattle.std.specs.List.{list_all, list_any}
use Rattle.std.specs.Option.{option_map_or}
use Rattle.std.specs.Cmp.Lexicographic.{pointwise, same_text}
use Rattle.std.proofs.lemmas.Bool.{and_parts, eqb-true, eqb-false, eq-eqb, ne_eqb, leb-true, ltb-true}
use Rattle.std.proofs.lemmas.List.{append_assoc, append-nil, length-append}
use Rattle.std.proofs.lemmas.Fmt.{decimal_injective, length-decimal-le}
use Rattle.lv_base.specs.declared.ids.ValId.{ValId}
use Rattle.lv_base.specs.declared.ids.VarId.{VarId}
use Rattle.lv_base.specs.declared.limits.TheConstants.{OBSERVATIONS, NAME_BYTES, COMMITS}
use Rattle.lv_base.specs.Tree.{value_of}
use Rattle.lv_model.specs.declared.plant.Plant.{Plant}
use Rattle.lv_reply.specs.declared.reply.Refusal.TheVariants.{NameHeld, TooManyHeld}
use Rattle.lv_reply.specs.declared.reply.Reply.TheVariants.{Refused as RefusedReply}
use Rattle.lv_session.specs.lv_session_request.declared.request.Sighting.{Sighting}
use Rattle.lv_session.specs.lv_session_request.Held.{has_name}
use Rattle.lv_session.specs.lv_session_state.State.{SessionState, unchanged as session_unchanged, cleared, is_held, has_no_room, observe, diagnosis_reply}
use Rattle.lv_plant_step.specs.declared.asked.PlantStep.{PlantStep}
use Rattle.lv_plant_step.specs.PlantSteps.{plant_step}
use Rattle.lv_plant.specs.declared.plant.TheConstants.{STEPS}
use Rattle.lv_plant.specs.declared.fault.PlantFault.TheVariants.{NoMore, NoStep}
use Rattle.lv_plant.specs.declared.reply.PlantReply.TheVariants.{Refused}
use Rattle.lv_plant.specs.declared.reply.StepTold.{StepTold}
use Rattle.lv_plant.specs.Forms as forms
use Rattle.lv_plant.specs.declared.seeing.TheConstants.{SEEN}
use Rattle.lv_plant.specs.Seeing.{observables, letter, seen_from, seen}
use Rattle.lv_plant.specs.Standing.{Standing, Done, Committed, at_start, unchanged, named, asked_of, told, lists_some, taken, is_over, step, apply, done, done_by}
use Rattle.lv_plant.specs.Laws.{IsRunning, Takes}
use Rattle.lv_plant.specs.Seen.{is_odd, is_lettered, IsSeeing}
use Rattle.lv_plant.proofs.TakenLemmas.{told_state, came, comes, taken_is, comes_listing, comes_halted, committed_state}
use Rattle.lv_plant.proofs.FollowedLemmas.{Keeps, Makes, makes, not_over, asks_step, step_taken, commits_or, apply_keeps, line_keeps_by}

-- names

other_letter : (odd : Bool) (name rest : List ℕ) → pointwise nat_eq (take 1 name) (letter odd) ≡ true → pointwise nat_eq name (letter (not odd) ++ rest) ≡ false
other_letter true [] rest h = absurd (cc h)
other_letter false [] rest h = absurd (cc h)
other_letter true (c ∷ cs) rest h =
    let same : c ≡ 111 = eqb-true c 111 (and_parts (nat_eq c 111) true h).0 in
    ap (λ (n : ℕ). nat_eq n 101 && pointwise nat_eq cs rest) same
other_letter false (c ∷ cs) rest h =
    let same : c ≡ 101 = eqb-true c 101 (and_parts (nat_eq c 101) true h).0 in
    ap (λ (n : ℕ). nat_eq n 111 && pointwise nat_eq cs rest) same

behind_letter : (odd : Bool) (a b : List ℕ) → letter odd ++ a ≡ letter odd ++ b → a ≡ b
behind_letter true a b e = cc e
behind_letter false a b e = cc e

other_number : (odd : Bool) (m n : ℕ) → m < n → n < 2 ^ 64 → pointwise nat_eq (letter odd ++ decimal m) (letter odd ++ decimal n) ≡ false
other_number odd m n less few = by (pointwise nat_eq (letter odd ++ decimal m) (letter odd ++ decimal n)) refl
  where
    by : (b : Bool) → pointwise nat_eq (letter odd ++ decimal m) (letter odd ++ decimal n) ≡ b → b ≡ false
    by false e = refl
    by true e =
        let texts : letter odd ++ decimal m ≡ letter odd ++ decimal n = same_text (letter odd ++ decimal m) (letter odd ++ decimal n) (sym e) in
        let same : m ≡ n = decimal_injective m n (omega (arith, less, few)) few (behind_letter odd (decimal m) (decimal n) texts) in
        absurd (omega (arith, less, same))

short_name : (odd : Bool) (n : ℕ) → n < 1000 → length (letter odd ++ decimal n) ≤ 4
short_name odd n few =
    let digits = length-decimal-le 3 n (omega arith) few (omega (arith, few)) in
    let long = length-append (letter odd) (decimal n) in
    let one : length (letter odd) ≡ 1 = one_letter odd in
    omega (arith, digits, long, one)
  where
    one_letter : (o : Bool) → length (letter o) ≡ 1
    one_letter true = refl
    one_letter false = refl

pub lettered : (odd : Bool) (b : List ValId) (n : ℕ) (xs : List VarId) → list_all (is_lettered odd) (seen_from (letter odd) n b xs) ≡ true
lettered odd b n [] = refl
lettered true b n (x ∷ xs) = lettered true b (n + 1) xs
lettered false b n (x ∷ xs) = lettered false b (n + 1) xs

pub seen_long : (front : List ℕ) (b : List ValId) (n : ℕ) (xs : List VarId) → length (seen_from front n b xs) ≡ length xs
seen_long front b n [] = refl
seen_long front b n (x ∷ xs) = ap suc (seen_long front b (n + 1) xs)

pub take_short : {X : Type 0} (n : ℕ) (xs : List X) → length (take n xs) ≤ n
take_short zero xs = omega arith
take_short (suc n) [] = omega arith
take_short (suc n) (x ∷ xs) = let more = take_short n xs in omega (arith, more)

pub odd_flips : (t : ℕ) → nat_eq ((t + 1) % 2) 1 ≡ not (nat_eq (t % 2) 1)
odd_flips t = by (nat_eq (t % 2) 1) refl
  where
    by : (b : Bool) → nat_eq (t % 2) 1 ≡ b → nat_eq ((t + 1) % 2) 1 ≡ not b
    by true e = let one = eqb-true (t % 2) 1 e in ne_eqb ((t + 1) % 2) 1 (λ other. absurd (omega (arith, one, other)))
    by false e = let other_half : t % 2 ≢ 1 = eqb-false (t % 2) 1 e in eq-eqb ((t + 1) % 2) 1 (omega (arith, other_half))

none_held : (odd : Bool) (rest : List ℕ) (ss : List Sighting) → list_all (is_lettered odd) ss ≡ true → list_any (has_name (letter (not odd) ++ rest)) ss ≡ false
none_held odd rest [] h = refl
none_held odd rest (s ∷ ss) h =
    let two = and_parts (is_lettered odd s) (list_all (is_lettered odd) ss) h in
    ap₂ (λ (p q : Bool). p || q) (other_letter odd s.name rest two.0) (none_held odd rest ss two.1)

none_seen : (odd : Bool) (b : List ValId) (k n : ℕ) (xs : List VarId) → k + length xs ≤ n → n < 2 ^ 64 → list_any (has_name (letter odd ++ decimal n)) (seen_from (letter odd) k b xs) ≡ false
none_seen odd b k n [] within few = refl
none_seen odd b k n (x ∷ xs) within few =
    ap₂ (λ (p q : Bool). p || q) (other_number odd k n (omega (arith, within)) few) (none_seen odd b (k + 1) n xs (omega (arith, within)) few)

seen_more : (front : List ℕ) (b : List ValId) (k : ℕ) (xs : List VarId) (x : VarId) → seen_from front k b (xs ++ (x ∷ [])) ≡ seen_from front k b xs ++ seen_from front (k + length xs) b (x ∷ [])
seen_more front b k [] x = let same : k ≡ k + 0 = omega arith in ap (λ (n : ℕ). seen_from front n b (x ∷ [])) same
seen_more front b k (y ∷ xs) x =
    let same : k + 1 + length xs ≡ k + suc (length xs) = omega arith in
    ap (λ (ss : List Sighting). record { name = front ++ decimal k; var = y; val = value_of b y.0 } ∷ ss)
    (seen_more front b (k + 1) xs x ∙ ap (λ (n : ℕ). seen_from front (k + 1) b xs ++ seen_from front n b (x ∷ [])) same)

-- there is room for one more

not_le : (m n : ℕ) → n < m → nat_le m n ≡ false
not_le m n less = by (nat_le m n) refl
  where
    by : (c : Bool) → nat_le m n ≡ c → c ≡ false
    by false e = refl
    by true e = let most = leb-true m n e in absurd (omega (arith, less, most))

not_lt : (m n : ℕ) → n ≤ m → nat_lt m n ≡ false
not_lt m n most = by (nat_lt m n) refl
  where
    by : (c : Bool) → nat_lt m n ≡ c → c ≡ false
    by false e = refl
    by true e = let less = ltb-true m n e in absurd (omega (arith, less, most))

module _ (odd : Bool) (b : List ValId) where
  -- so far these were told, and the names of what is observed now are others
  pub record HasTold (front : List VarId) (state : SessionState) : Type 0 where
    pub next : state.next ≡ seen_from (letter (not odd)) 1 b front
    pub others : list_all (is_lettered odd) state.present ≡ true
    pub few : length state.present ≤ SEEN

  is_free : (front : List VarId) (state : SessionState) → HasTold front state → length front < SEEN → is_held state (letter (not odd) ++ decimal (length front + 1)) ≡ false
  is_free front state is few =
      ap₂ (λ (p q : Bool). p || q) (none_held odd (decimal (length front + 1)) state.present is.others)
      (ap (list_any (has_name (letter (not odd) ++ decimal (length front + 1)))) is.next ∙ none_seen (not odd) b 1 (length front + 1) front (omega arith) (omega (arith, few)))

  has_room : (front : List VarId) (state : SessionState) → HasTold front state → length front < SEEN → has_no_room state (letter (not odd) ++ decimal (length front + 1)) ≡ false
  has_room front state is few =
      let present = is.few in
      let told_so_far : length state.next ≡ length front = ap (λ (ss : List Sighting). length ss) is.next ∙ seen_long (letter (not odd)) b 1 front in
      let short = short_name (not odd) (length front + 1) (omega (arith, few)) in
      ap₂ (λ (p q : Bool). p || q) (not_le OBSERVATIONS (length state.present + length state.next) (omega (arith, present, told_so_far, few)))
      (not_lt NAME_BYTES (length (letter (not odd) ++ decimal (length front + 1))) (omega (arith, short)))

  one_told : (front : List VarId) (x : VarId) (state : SessionState) → HasTold front state → length front < SEEN
      → (observe state (record { name = letter (not odd) ++ decimal (length front + 1); var = x; val = value_of b x.0 })).state
      ≡ (cleared (record state { next = state.next ++ seen_from (letter (not odd)) (length front + 1) b (x ∷ []) })).state
  one_told front x state is few =
      ap (λ (c : Bool). (cond c (session_unchanged state (RefusedReply NameHeld)) (cond (has_no_room state (letter (not odd) ++ decimal (length front + 1))) (session_unchanged state (RefusedReply TooManyHeld))
      (cleared (record state { next = state.next ++ seen_from (letter (not odd)) (length front + 1) b (x ∷ []) })))).state) (is_free front state is few)
      ∙ ap (λ (c : Bool). (cond c (session_unchanged state (RefusedReply TooManyHeld)) (cleared (record state { next = state.next ++ seen_from (letter (not odd)) (length front + 1) b (x ∷ []) }))).state) (has_room front state is few)

  pub all_told : (plant : Plant) (front xs : List VarId) (state : SessionState) → HasTold front state → length front + length xs ≤ SEEN
      → (told plant state (seen_from (letter (not odd)) (length front + 1) b xs)).next ≡ seen_from (letter (not odd)) 1 b (front ++ xs)
  all_told plant front [] state is few = is.next ∙ ap (seen_from (letter (not odd)) 1 b) (sym (append-nil front))
  all_told plant front (x ∷ xs) state is few =
      let room : length front < SEEN = omega (arith, few) in
      let came = one_told front x state is room in
      let next : SessionState = (cleared (record state { next = state.next ++ seen_from (letter (not odd)) (length front + 1) b (x ∷ []) })).state in
      let place : 1 + length front ≡ length front + 1 = omega arith in
      let more : state.next ++ seen_from (letter (not odd)) (length front + 1) b (x ∷ []) ≡ seen_from (letter (not odd)) 1 b (front ++ (x ∷ [])) =
      ap (λ (ss : List Sighting). ss ++ seen_from (letter (not odd)) (length front + 1) b (x ∷ [])) is.next
      ∙ ap (λ (n : ℕ). seen_from (letter (not odd)) 1 b front ++ seen_from (letter (not odd)) n b (x ∷ [])) (sym place)
      ∙ sym (seen_more (letter (not odd)) b 1 front x) in
      let long : length (front ++ (x ∷ [])) ≡ length front + 1 = length-append front (x ∷ []) in
      let again = all_told plant (front ++ (x ∷ [])) xs next (record { next = more; others = is.others; few = is.few }) (omega (arith, few, long)) in
      ap (λ (t : SessionState). (told plant t (seen_from (letter (not odd)) (length front + 1 + 1) b xs)).next) came
      ∙ ap (λ (n : ℕ). (told plant next (seen_from (letter (not odd)) (n + 1) b xs)).next) (sym long)
      ∙ again ∙ ap (seen_from (letter (not odd)) 1 b) (append_assoc front (x ∷ []) xs)

-- what a step comes to

no_both : {b : Bool} → b ≡ true → b ≡ false → ⊥
no_both halts runs_on = let both : true ≡ false = sym halts ∙ runs_on in absurd (cc both)

over_not : (s : Standing) → s.is_halted ≡ false → s.time < STEPS → is_over s ≡ false
over_not s runs few = ap₂ (λ (p q : Bool). p || q) runs (not_le STEPS s.time few)

module _ (s : Standing) (taking : PlantStep) (is : IsRunning s) (sees : IsSeeing s) (runs : s.is_halted ≡ false) (few : s.time < STEPS) where
  abbrev plant_of : Plant
  plant_of = s.session.plant

  -- all is told
  pub told_as_seen : (told_state s taking).next ≡ seen plant_of (not (is_odd s)) taking.after
  told_as_seen =
      let xs : List VarId = take SEEN (observables plant_of) in
      let short = take_short SEEN (observables plant_of) in
      let first = all_told (is_odd s) taking.after plant_of [] xs s.session.state (record { next = is.clear runs; others = sees.lettered runs; few = sees.few runs }) (omega (arith, short)) in
      ap (λ (odd : Bool). (told plant_of s.session.state (seen_from (letter odd) 1 taking.after xs)).next) (odd_flips s.time) ∙ first

  -- it is taken over by a commit
  pub present_as_seen : lists_some (diagnosis_reply (came s taking)) ≡ true → (comes s taking).next.session.state.present ≡ seen plant_of (not (is_odd s)) taking.after
  present_as_seen lists =
      let commits = is.commits in
      let most : STEPS ≡ COMMITS = refl in
      ap (λ (c : Committed). c.next.session.state.present) (comes_listing s taking lists)
      ∙ ap (λ (state : SessionState). state.present) (committed_state s taking lists (omega (arith, commits, few, most))) ∙ told_as_seen

  pub next_as_seen : lists_some (diagnosis_reply (came s taking)) ≡ false → (comes s taking).next.session.state.next ≡ seen plant_of (not (is_odd s)) taking.after
  next_as_seen none = ap (λ (c : Committed). c.next.session.state.next) (comes_halted s taking none) ∙ told_as_seen

  comes_time : (comes s taking).next.time ≡ s.time + 1
  comes_time = by (lists_some (diagnosis_reply (came s taking))) refl
    where
      by : (b : Bool) → lists_some (diagnosis_reply (came s taking)) ≡ b → (comes s taking).next.time ≡ s.time + 1
      by true e = ap (λ (c : Committed). c.next.time) (comes_listing s taking e)
      by false e = ap (λ (c : Committed). c.next.time) (comes_halted s taking e)

  pub sees_on : IsSeeing (comes s taking).next
  sees_on = by (lists_some (diagnosis_reply (came s taking))) refl
    where
      by : (b : Bool) → lists_some (diagnosis_reply (came s taking)) ≡ b → IsSeeing (comes s taking).next
      by true e =
          let xs : List VarId = take SEEN (observables plant_of) in
          let short = take_short SEEN (observables plant_of) in
          let present = present_as_seen e in
          let long : length (comes s taking).next.session.state.present ≡ length xs =
          ap (λ (ss : List Sighting). length ss) present ∙ seen_long (letter (not (is_odd s))) taking.after 1 xs in
          let odd : is_odd (comes s taking).next ≡ not (is_odd s) = ap (λ (t : ℕ). nat_eq (t % 2) 1) comes_time ∙ odd_flips s.time in
          record {
            few = λ _. omega (arith, short, long);
            lettered =
                λ _. (λ i. list_all (is_lettered (odd i)) (present i)) ∙ lettered (not (is_odd s)) taking.after 1 xs;
          }
      by false e =
          let halts : (comes s taking).next.is_halted ≡ true = ap (λ (c : Committed). c.next.is_halted) (comes_halted s taking e) in
          record { few = λ runs_on. absurd (no_both halts runs_on); lettered = λ runs_on. absurd (no_both halts runs_on) }

keeps_seeing : (old new : Standing) → IsSeeing old → Keeps old new → IsSeeing new
keeps_seeing old new sees keeps = record {
  few = λ runs. subst (λ (ss : List Sighting). length ss ≤ SEEN) (sym keeps.state.present) (sees.few (sym keeps.halted ∙ runs));
  lettered = λ runs. (λ i. list_all (is_lettered (nat_eq (keeps.time i % 2) 1)) (keeps.state.present i)) ∙ sees.lettered (sym keeps.halted ∙ runs);
}

step_seeing : (s : Standing) → IsRunning s → IsSeeing s → IsSeeing (step s.session.plant s).next
step_seeing s is sees = by (is_over s) refl
  where
    taking_sees : (o : Option PlantStep) → is_over s ≡ false → IsSeeing (option_map_or (taken s.session.plant s) o (unchanged s (Refused NoStep))).next
    taking_sees None e = sees
    taking_sees (Some taking) e =
        let two = not_over s e in
        subst (λ (d : Done). IsSeeing d.next) (sym (taken_is s taking)) (sees_on s taking is sees two.0 two.1)

    by : (b : Bool) → is_over s ≡ b
        → IsSeeing (cond b (unchanged s (Refused NoMore)) (option_map_or (taken s.session.plant s) (plant_step s.session.plant (asked_of s)) (unchanged s (Refused NoStep)))).next
    by true e = sees
    by false e = taking_sees (plant_step s.session.plant (asked_of s)) e

line_seeing : (s : Standing) (line : List ℕ) (asked : forms.Asked) → forms.asked_by line ≡ asked → IsRunning s → IsSeeing s → IsSeeing (done_by s.session.plant s line asked).next
line_seeing s line forms.nothing e is sees = sees
line_seeing s line (forms.refused fault) e is sees = sees
line_seeing s line forms.for_session e is sees = keeps_seeing s (done_by s.session.plant s line forms.for_session).next sees (line_keeps_by s line forms.for_session e (λ h. absurd (cc h)))
line_seeing s line (forms.name part tag) e is sees = keeps_seeing s (named s.session.plant s part tag).next sees (line_keeps_by s line (forms.name part tag) e (λ h. absurd (cc h)))
line_seeing s line forms.step e is sees = step_seeing s is sees
line_seeing s line forms.apply e is sees = keeps_seeing s (apply s).next sees (apply_keeps s)

pub seeing : (s : Standing) (line : List ℕ) → IsRunning s → IsSeeing s → IsSeeing (done s line).next
unfolding done
seeing s line is sees = line_seeing s line (forms.asked_by line) refl is sees

pub starts_seeing : (plant : Plant) → IsSeeing (at_start plant)
starts_seeing plant = record { few = λ _. omega arith; lettered = λ _. refl }

-- by what is told of the step
comes_so : (s : Standing) (line : List ℕ) (taking : PlantStep) (told_is : StepTold) → Takes s line taking told_is → is_over s ≡ false → (done s line).next ≡ (comes s taking).next
comes_so s line taking told_is t e = ap (λ (d : Done). d.next) (asks_step s line t.asks ∙ step_taken s taking e t.is ∙ taken_is s taking)

pub committed_seen : (s : Standing) (line : List ℕ) (taking : PlantStep) (told_is : StepTold) → IsRunning s → IsSeeing s → Takes s line taking told_is → told_is.commit ≢ None
    → (done s line).next.session.state.present ≡ seen s.session.plant (not (is_odd s)) taking.after
committed_seen s line taking told_is is sees t some =
    let m : Makes s taking told_is = makes s line taking told_is t in
    ap (λ (x : Standing). x.session.state.present) (comes_so s line taking told_is t (goes_on m)) ∙ by m (lists_some (diagnosis_reply (came s taking))) refl
  where
    goes_on : Makes s taking told_is → is_over s ≡ false
    goes_on m = over_not s m.runs m.few

    by : Makes s taking told_is → (b : Bool) → lists_some (diagnosis_reply (came s taking)) ≡ b → (comes s taking).next.session.state.present ≡ seen s.session.plant (not (is_odd s)) taking.after
    by m true e = present_as_seen s taking is sees m.runs m.few e
    by m false e = absurd (some (ap (λ (x : StepTold). x.commit) m.told_is ∙ ap (λ (c : Committed). c.commit) (comes_halted s taking e)))

pub halted_seen : (s : Standing) (line : List ℕ) (taking : PlantStep) (told_is : StepTold) → IsRunning s → IsSeeing s → Takes s line taking told_is → told_is.commit ≡ None
    → (done s line).next.session.state.next ≡ seen s.session.plant (not (is_odd s)) taking.after
halted_seen s line taking told_is is sees t none =
    let m : Makes s taking told_is = makes s line taking told_is t in
    ap (λ (x : Standing). x.session.state.next) (comes_so s line taking told_is t (over_not s m.runs m.few))
    ∙ next_as_seen s taking is sees m.runs m.few (commits_or s taking (sym (ap (λ (x : StepTold). x.commit) m.told_is) ∙ none))
