-- Going along the trail: what stands stays, what doesn't is taken out.
use Rattle.std.proofs.Common.{◌≡◌, ◌≢◌, ◌⊎◌, ℕ, ◌<◌, Bool, true, false, not, ◌&&◌, ◌||◌, nat_eq, List, [], ◌∷◌, ◌++◌, length, take, drop, get_or, set, Option, Some, None, is_none, cond, refl, sym, ap, ap₂, ◌∙◌, arith, inl, inr, subst, Contains}
use Rattle.std.specs.List.{list_any, list_all}
use Rattle.std.proofs.lemmas.Bool.{cases_eq}
use Rattle.std.proofs.lemmas.List.{length-append, length-set, get_or-set_same, get_or-set_other, take-append-drop}
use Rattle.std.proofs.lemmas.List.Elements.{Contains-append_cases, Contains-append_left, Contains-append_right}
use Rattle.std.proofs.lemmas.List.Folds.{list_any-append}
use Rattle.std.proofs.lemmas.List.Sums.{sum_by-set}
use Rattle.lv_base.specs.declared.ids.Lit.{Lit}
use Rattle.lv_clauses.specs.Literals.{neg, same_truth, same_var}
use Rattle.lv_clauses.specs.ClauseMap.{Slots, clause_at}
use Rattle.lv_clauses.specs.Marks.{Marks, is_marked, mark_is}
use Rattle.lv_clauses.proofs.LiteralLemmas.{Contains-tail, and_left, and_right, and_both, all_member, same_or_neg}
use Rattle.lv_ltms.specs.declared.labels.Link.{Link}
use Rattle.lv_ltms.specs.declared.labels.Reason.{Reason}
use Rattle.lv_ltms.specs.declared.labels.Reason.TheVariants.{Assumed, Clause}
use Rattle.lv_ltms.specs.Trail.{same_lit, trail_has, IsReason}
use Rattle.lv_ltms.specs.Labelled.{Agrees, has_boolean, is_once}
use Rattle.lv_ltms.specs.Standing.{true_before}
use Rattle.lv_ltms.specs.Watching.{has_lit}
use Rattle.lv_ltms.specs.Revising.{IsBacked, reason_stands, derives_lit, is_other_or_false}
use Rattle.lv_ltms.proofs.CountLemmas.{HasMore, same_lit-self}
use Rattle.lv_ltms.proofs.TrailLemmas.{same_lit-equal, or_cases}
use Rattle.lv_ltms.proofs.LabelLemmas.{trail_boolean, contained_has, has_within, has_not_neg}
use Rattle.lv_ltms.proofs.BoolLemmas.{eq_from, eq_isnt, eq_swap, from_not, not_true, or_false, or_left, or_parts}

-- a link in the middle of a trail on which no boolean stands twice: its boolean isn't before or behind it
pub record IsAlone (front rest : List Link) (link : Link) : Type 0 where
  pub fresh : has_boolean (front ++ rest) link.lit ≡ false
  pub once : is_once (front ++ rest) ≡ true

pub alone : (front rest : List Link) (link : Link) → is_once (front ++ link ∷ rest) ≡ true → IsAlone front rest link
alone [] rest link once = record { fresh = from_not (has_boolean rest link.lit) (and_left (not (has_boolean rest link.lit)) (is_once rest) once); once = and_right (not (has_boolean rest link.lit)) (is_once rest) once }
alone (k ∷ ks) rest link once =
    let inner : IsAlone ks rest link = alone ks rest link (and_right (not (has_boolean (ks ++ link ∷ rest) k.lit)) (is_once (ks ++ link ∷ rest)) once) in
    let none : has_boolean (ks ++ link ∷ rest) k.lit ≡ false = from_not (has_boolean (ks ++ link ∷ rest) k.lit) (and_left (not (has_boolean (ks ++ link ∷ rest) k.lit)) (is_once (ks ++ link ∷ rest)) once) in
    let split = or_parts (has_boolean ks k.lit) (has_boolean (link ∷ rest) k.lit) (sym (list_any-append (λ (j : Link). same_var j.lit k.lit) ks (link ∷ rest)) ∙ none) in
    let behind = or_parts (same_var link.lit k.lit) (has_boolean rest k.lit) split.1 in
    let gone : has_boolean (ks ++ rest) k.lit ≡ false = list_any-append (λ (j : Link). same_var j.lit k.lit) ks rest ∙ ap₂ (λ a b. a || b) split.0 behind.1 in
    record {
      fresh = ap₂ (λ a b. a || b) (eq_swap k.lit.var.0 link.lit.var.0 ∙ behind.0) inner.fresh;
      once = and_both (not (has_boolean (ks ++ rest) k.lit)) (is_once (ks ++ rest)) (ap not gone) inner.once;
    }

swap_last : (a b c : Bool) → (a || (b || c)) ≡ ((a || c) || b)
swap_last true b c = refl
swap_last false true true = refl
swap_last false true false = refl
swap_last false false c = sym (or_false c)

module _ (front rest : List Link) (link : Link) (marks : Marks) (supports : List Reason) (agrees : Agrees marks supports (front ++ link ∷ rest)) where
  alone_here : IsAlone front rest link
  alone_here = alone front rest link agrees.once

  -- without the link one literal less is true
  pub has_more : HasMore (trail_has (front ++ rest)) (trail_has (front ++ link ∷ rest)) link.lit
  has_more =
      record {
        grown =
            λ l.
            list_any-append (λ (k : Link). same_lit k.lit l) front (link ∷ rest)
            ∙ swap_last (trail_has front l) (same_lit link.lit l) (trail_has rest l)
            ∙ ap (λ b. b || same_lit link.lit l) (sym (list_any-append (λ (k : Link). same_lit k.lit l) front rest));
        fresh = not_true (trail_has (front ++ rest) link.lit) (λ e. cc (trail_boolean (front ++ rest) link.lit e, alone_here.fresh));
      }

  link_marked : is_marked marks link.lit ≡ true
  link_marked = agrees.same link.lit ∙ contained_has (front ++ link ∷ rest) link (Contains-append_right front (link ∷ rest) link (0, omega arith, refl))

  pub link_within : link.lit.var.0 < length marks
  link_within = has_within marks link.lit link_marked

  other_var : (l : Lit) → l.var.0 ≢ link.lit.var.0 → same_lit link.lit l ≡ false
  other_var l differs = ap (λ b. b && same_truth link.lit.sign l.sign) (eq_isnt link.lit.var.0 l.var.0 (λ e. differs (sym e)))

  pub other_mark : (v : ℕ) → v ≢ link.lit.var.0 → get_or (set marks link.lit.var.0 None) v None ≡ get_or marks v None
  other_mark v differs = get_or-set_other marks link.lit.var.0 v None None differs

  same_after : (l : Lit) → (l.var.0 ≡ link.lit.var.0) ⊎ (l.var.0 ≢ link.lit.var.0) → is_marked (set marks link.lit.var.0 None) l ≡ trail_has (front ++ rest) l
  same_after l (inl same) =
      let gone : get_or (set marks link.lit.var.0 None) l.var.0 None ≡ None = ap (λ v. get_or (set marks link.lit.var.0 None) v None) same ∙ get_or-set_same marks link.lit.var.0 None None link_within in
      let fresh : has_boolean (front ++ rest) l ≡ false = ap (λ v. list_any (λ (k : Link). nat_eq k.lit.var.0 v) (front ++ rest)) same ∙ alone_here.fresh in
      let none : trail_has (front ++ rest) l ≡ false = not_true (trail_has (front ++ rest) l) (λ e. cc (trail_boolean (front ++ rest) l e, fresh)) in
      ap (λ (o : Option Bool). mark_is o l.sign) gone ∙ sym none
  same_after l (inr differs) =
      ap (λ (o : Option Bool). mark_is o l.sign) (other_mark l.var.0 differs)
      ∙ agrees.same l
      ∙ has_more.grown l
      ∙ ap (λ b. trail_has (front ++ rest) l || b) (other_var l differs)
      ∙ or_false (trail_has (front ++ rest) l)

  abbrev number : ℕ → ℕ
  number n = n

  marked_some : (o : Option Bool) (s : Bool) → mark_is o s ≡ true → number (cond (is_none o) 1 0) ≡ 0
  marked_some None s e = absurd (cc)
  marked_some (Some b) s e = refl

  pub agrees_without : Agrees (set marks link.lit.var.0 None) supports (front ++ rest)
  agrees_without =
      record {
        same = λ l. same_after l (cases_eq l.var.0 link.lit.var.0);
        once = alone_here.once;
        room =
            omega (
              arith,
              agrees.room,
              length-append front (link ∷ rest),
              length-append front rest,
              length-set marks link.lit.var.0 None,
              sum_by-set (λ (o : Option Bool). cond (is_none o) 1 0) marks link.lit.var.0 None None link_within,
              marked_some (get_or marks link.lit.var.0 None) link.lit.sign link_marked,
            );
        backed =
            λ k h.
            agrees.backed k
            (elim (Contains-append_cases front rest k h) [
              | inl before ↦ Contains-append_left front (link ∷ rest) k before
              | inr behind ↦ Contains-append_right front (link ∷ rest) k (Contains-tail link k rest behind)
            ]);
      }

  -- what was marked is marked still, or fell
  pub kept_without : (fallen : List Lit) (l : Lit) → (is_marked marks l || has_lit fallen l) ≡ true → (is_marked (set marks link.lit.var.0 None) l || has_lit (fallen ++ link.lit ∷ []) l) ≡ true
  kept_without fallen l e = by_var (cases_eq l.var.0 link.lit.var.0) (or_cases (is_marked marks l) (has_lit fallen l) e)
    where
      pushed : has_lit (fallen ++ link.lit ∷ []) l ≡ (has_lit fallen l || (same_lit link.lit l || false))
      pushed = list_any-append (λ f. same_lit f l) fallen (link.lit ∷ [])

      first_true : (a b c : Bool) → b ≡ true → (a || (b || c)) ≡ true
      first_true true b c f = refl
      first_true false true c f = refl
      first_true false false c f = absurd (cc f)

      last_true : (a b c : Bool) → c ≡ true → (a || (b || (c || false))) ≡ true
      last_true true b c f = refl
      last_true false true c f = refl
      last_true false false true f = refl
      last_true false false false f = absurd (cc f)

      fell_before : has_lit fallen l ≡ true → (is_marked (set marks link.lit.var.0 None) l || has_lit (fallen ++ link.lit ∷ []) l) ≡ true
      fell_before f =
          ap (λ b. is_marked (set marks link.lit.var.0 None) l || b) pushed
          ∙ first_true (is_marked (set marks link.lit.var.0 None) l) (has_lit fallen l) (same_lit link.lit l || false) f

      by_var : (l.var.0 ≡ link.lit.var.0) ⊎ (l.var.0 ≢ link.lit.var.0) → (is_marked marks l ≡ true) ⊎ (has_lit fallen l ≡ true) → (is_marked (set marks link.lit.var.0 None) l || has_lit (fallen ++ link.lit ∷ []) l) ≡ true
      by_var way (inr f) = fell_before f
      by_var (inr differs) (inl f) =
          or_left (is_marked (set marks link.lit.var.0 None) l) (has_lit (fallen ++ link.lit ∷ []) l) (ap (λ (o : Option Bool). mark_is o l.sign) (other_mark l.var.0 differs) ∙ f)
      by_var (inl same) (inl f) =
          let is : same_lit link.lit l ≡ true = elim (same_or_neg l link.lit same) [
            | inl e ↦ ap (same_lit link.lit) e ∙ same_lit-self link.lit
            | inr turned ↦ absurd (cc (has_not_neg marks link.lit link_marked, ap (is_marked marks) turned, f))
          ] in
          ap (λ b. is_marked (set marks link.lit.var.0 None) l || b) pushed
          ∙ last_true (is_marked (set marks link.lit.var.0 None) l) (has_lit fallen l) (same_lit link.lit l) is

-- where no boolean stands twice one that stands in front doesn't stand behind
once_apart : (front rest : List Link) (l : Lit) → is_once (front ++ rest) ≡ true → has_boolean front l ≡ true → has_boolean rest l ≡ false
once_apart [] rest l once e = absurd (cc)
once_apart (k ∷ ks) rest l once e = by_value (same_var k.lit l) refl (λ (f : has_boolean ks l ≡ true). once_apart ks rest l (and_right (not (has_boolean (ks ++ rest) k.lit)) (is_once (ks ++ rest)) once) f)
  where
    by_value : (b : Bool) → same_var k.lit l ≡ b → (has_boolean ks l ≡ true → has_boolean rest l ≡ false) → has_boolean rest l ≡ false
    by_value true p later =
        let none : has_boolean (ks ++ rest) k.lit ≡ false = from_not (has_boolean (ks ++ rest) k.lit) (and_left (not (has_boolean (ks ++ rest) k.lit)) (is_once (ks ++ rest)) once) in
        let behind = or_parts (has_boolean ks k.lit) (has_boolean rest k.lit) (sym (list_any-append (λ (j : Link). same_var j.lit k.lit) ks rest) ∙ none) in
        ap (λ v. list_any (λ (j : Link). nat_eq j.lit.var.0 v) rest) (sym (eq_from k.lit.var.0 l.var.0 p)) ∙ behind.1
    by_value false p later = later (sym (ap (λ b. b || has_boolean ks l) p) ∙ e)

-- the reason of a link that stands is good with what stands before it
pub stands_reason : (assumed : Lit → Bool) (slots : Slots) (old front rest : List Link) (at : ℕ) (d link : Link) (marks : Marks) (supports : List Reason) → is_once old ≡ true → at < length old
    → get_or old at d ≡ link → drop at old ≡ link ∷ rest → IsBacked slots old → Agrees marks supports (front ++ link ∷ rest)
    → (r : Reason) → link.reason ≡ r → reason_stands assumed slots (is_marked marks) link.lit r ≡ true → IsReason slots assumed front link.lit r
stands_reason assumed slots old front rest at d link marks supports once within is behind backed agrees Assumed e stands = stands
stands_reason assumed slots old front rest at d link marks supports once within is behind backed agrees (Clause id) e stands = by_slot (clause_at slots id.0) refl
  where
    by_slot : (slot : Option (List Lit)) → clause_at slots id.0 ≡ slot → IsReason slots assumed front link.lit (Clause id)
    by_slot None at_id = absurd (cc (sym (ap (derives_lit (is_marked marks) link.lit) at_id) ∙ stands))
    by_slot (Some c) at_id =
        let all : list_all (is_other_or_false (is_marked marks) link.lit) c ≡ true = sym (ap (derives_lit (is_marked marks) link.lit) at_id) ∙ stands in
        let reason : (get_or old at d).reason ≡ Clause id = ap (λ (k : Link). k.reason) is ∙ e in
        let member : Contains c link.lit = subst (λ (k : Link). Contains c k.lit) is (backed.member at d id c within reason at_id) in
        record {
          clause = c;
          present = at_id;
          member = member;
          others =
              λ m in_clause differs.
              let falls : trail_has (front ++ link ∷ rest) (neg m) ≡ true = sym (agrees.same (neg m)) ∙ is_false m (or_cases (same_lit m link.lit) (is_marked marks (neg m)) (all_member (is_other_or_false (is_marked marks) link.lit) c m all in_clause)) differs in
              let before : true_before at old (neg m) ≡ true = backed.others at d id c m within reason at_id in_clause (λ f. differs (f ∙ ap (λ (k : Link). k.lit) is)) in
              let apart : has_boolean (drop at old) (neg m) ≡ false =
              once_apart (take at old) (drop at old) (neg m) (ap is_once (take-append-drop at old) ∙ once) (trail_boolean (take at old) (neg m) before) in
              let not_behind : trail_has (link ∷ rest) (neg m) ≡ false =
              not_true (trail_has (link ∷ rest) (neg m)) (λ f. cc (trail_boolean (link ∷ rest) (neg m) f, ap (λ (ks : List Link). has_boolean ks (neg m)) (sym behind) ∙ apart)) in
              sym (or_false (trail_has front (neg m)))
              ∙ ap (λ b. trail_has front (neg m) || b) (sym not_behind)
              ∙ sym (list_any-append (λ (k : Link). same_lit k.lit (neg m)) front (link ∷ rest))
              ∙ falls;
        }
      where
        is_false : (m : Lit) → (same_lit m link.lit ≡ true) ⊎ (is_marked marks (neg m) ≡ true) → m ≢ link.lit → is_marked marks (neg m) ≡ true
        is_false m (inl same) differs = absurd (differs (same_lit-equal m link.lit same))
        is_false m (inr falls) differs = falls
