-- What doesn't rest on the assumption that went stays, with its reason.
use Rattle.std.proofs.Common.{◌≡◌, ◌≢◌, ◌⊎◌, ℕ, ◌+◌, ◌<◌, Bool, true, false, not, ◌&&◌, List, [], ◌∷◌, ◌++◌, length, take, drop, get_or, set, Option, Some, None, IsSome, refl, sym, ap, subst, ◌∙◌, inl, inr, Contains}
use Rattle.std.specs.List.{list_all}
use Rattle.std.proofs.lemmas.List.{get_or_default, take_more, take_more_set}
use Rattle.std.proofs.lemmas.List.Elements.{Contains-append_cases, Contains-append_left, Contains-append_right}
use Rattle.std.proofs.lemmas.List.Folds.{list_any-append}
use Rattle.lv_base.specs.declared.ids.Lit.{Lit}
use Rattle.lv_base.specs.declared.ids.ClauseId.{ClauseId}
use Rattle.lv_clauses.specs.Literals.{neg}
use Rattle.lv_clauses.specs.ClauseMap.{Slots, clause_at}
use Rattle.lv_clauses.specs.Marks.{Marks, is_marked}
use Rattle.lv_clauses.proofs.LiteralLemmas.{any_member, and_both, or_right, same_or_neg, lit_cases, Contains-nil, Contains-cases, Contains-head, Contains-tail}
use Rattle.lv_ltms.specs.declared.labels.Link.{Link}
use Rattle.lv_ltms.specs.declared.labels.Reason.{Reason}
use Rattle.lv_ltms.specs.declared.labels.Reason.TheVariants.{Assumed, Clause}
use Rattle.lv_ltms.specs.Trail.{same_lit, trail_has, reason_in, IsDerivation, IsReason, start, next}
use Rattle.lv_ltms.specs.Watching.{Rows}
use Rattle.lv_ltms.specs.Labelled.{Labelled, Agrees, Grows}
use Rattle.lv_ltms.specs.Standing.{true_before}
use Rattle.lv_ltms.specs.Revising.{IsBacked, reason_stands, derives_lit, is_other_or_false}
use Rattle.lv_ltms.specs.Reaching.{Reaches, itself, by_reason, IsWithout, StaysOn}
use Rattle.lv_ltms.specs.System.{System, IsKept, KeepsReasons}
use Rattle.lv_ltms.proofs.BoolLemmas.{not_true, or_left}
use Rattle.lv_ltms.proofs.CountLemmas.{same_lit-self}
use Rattle.lv_ltms.proofs.LabelLemmas.{contained_has, has_not_neg}
use Rattle.lv_ltms.proofs.ShakenLemmas.{has_unset, unset_other}
use Rattle.lv_ltms.proofs.SweepingLemmas.{IsSweeping, agrees_here, old_within, old_link}
use Rattle.lv_ltms.proofs.SystemLemmas.{reason_of}
use Rattle.lv_ltms.proofs.TrailLemmas.{same_lit-equal}

-- at the start all is there
pub stays_start : (clauses : Slots) (trail : List Link) (l : Lit) (part : List Link) → StaysOn clauses trail l part part
stays_start clauses trail l part = record { stays = λ k h never. h }

-- what goes on has all
pub stays_grown : (clauses : Slots) (trail : List Link) (l : Lit) (part : List Link) (old new : Labelled) → Grows old new → StaysOn clauses trail l part old.trail → StaysOn clauses trail l part new.trail
stays_grown clauses trail l part old new grows here =
    record { stays = λ k h never. subst (λ (t : List Link). Contains t k) (sym grows.front) (Contains-append_left old.trail (drop (length old.trail) new.trail) k (here.stays k h never)) }

pub stays_same : {clauses : Slots} {trail part : List Link} {l : Lit} {k kept : ℕ} {x labels : Labelled} → k ≡ kept → x ≡ labels → StaysOn clauses trail l part (take kept labels.trail) → StaysOn clauses trail l part (take k x.trail)
stays_same {clauses} {trail} {part} {l} {k} {kept} {x} {labels} ek ex is =
    subst (λ (n : ℕ). StaysOn clauses trail l part (take n x.trail)) (sym ek) (subst (λ (y : Labelled). StaysOn clauses trail l part (take kept y.trail)) (sym ex) is)

only_one : (link k : Link) → Contains (link ∷ []) k → link ≡ k
only_one link k h = elim (Contains-cases link k [] h) [ inl same ↦ same | inr more ↦ absurd (Contains-nil k more) ]

-- what holds of each of a list holds of all
all_from : {X : Type 0} (p : X → Bool) (xs : List X) → ((x : X) → Contains xs x → p x ≡ true) → list_all p xs ≡ true
all_from p [] each = refl
all_from p (x ∷ xs) each = and_both (p x) (list_all p xs) (each x (Contains-head x xs)) (all_from p xs (λ y h. each y (Contains-tail x y xs h)))

module _ (assumed : Lit → Bool) (bools : ℕ) (old : Labelled) (clauses : Slots) (done at kept looked : ℕ) (labels : Labelled) (fallen : List Lit) (link d : Link) (backed : IsBacked clauses old.trail)
    (once : Agrees old.marks old.supports old.trail) (within : at < length labels.trail) (is_link : get_or labels.trail at d ≡ link) (is : IsSweeping assumed bools clauses old done at kept looked labels fallen) (to : Lit)
    (without : IsWithout assumed clauses old.trail to) (here : StaysOn clauses old.trail to (take at old.trail) (take kept labels.trail)) where
  standing : List Link
  standing = take kept labels.trail ++ link ∷ drop (at + 1) labels.trail

  inside : at < length old.trail
  inside = old_within assumed bools old clauses done at kept looked labels fallen link d backed once within is_link is

  at_link : get_or old.trail at d ≡ link
  at_link = old_link assumed bools old clauses done at kept looked labels fallen link d backed once within is_link is

  in_old : Contains old.trail link
  in_old = (at, inside, get_or_default old.trail at link d inside ∙ at_link)

  whole : Agrees labels.marks labels.supports standing
  unfolding standing
  whole = agrees_here assumed bools old clauses done at kept looked labels fallen link d backed once within is_link is

  module _ (never : ¬ Reaches clauses old.trail to link.lit) where
    others_fall : (id : ClauseId) (c : List Lit) → link.reason ≡ Clause id → clause_at clauses id.0 ≡ Some c → (m : Lit) → Contains c m → m ≢ link.lit → trail_has standing (neg m) ≡ true
    unfolding standing
    others_fall id c reason present m in_clause differs =
        let given : (get_or old.trail at d).reason ≡ Clause id = ap (λ (k : Link). k.reason) at_link ∙ reason in
        let before : true_before at old.trail (neg m) ≡ true = backed.others at d id c m inside given present in_clause (λ f. differs (f ∙ ap (λ (k : Link). k.lit) at_link)) in
        let found = any_member (λ (k : Link). same_lit k.lit (neg m)) (take at old.trail) before in
        let same : found.0.lit ≡ neg m = same_lit-equal found.0.lit (neg m) found.2 in
        let apart : ¬ Reaches clauses old.trail to found.0.lit =
        λ r. never (by_reason id c m (reason_of old.marks old.supports old.trail once link in_old ∙ ap Some reason) present in_clause differs (subst (Reaches clauses old.trail to) same r)) in
        list_any-append (λ (k : Link). same_lit k.lit (neg m)) (take kept labels.trail) (link ∷ drop (at + 1) labels.trail)
        ∙ or_left (trail_has (take kept labels.trail) (neg m)) (trail_has (link ∷ drop (at + 1) labels.trail) (neg m))
        (ap (trail_has (take kept labels.trail)) (sym same) ∙ contained_has (take kept labels.trail) found.0 (here.stays found.0 found.1 apart))

    clause_stands : (id : ClauseId) → link.reason ≡ Clause id → (slot : Option (List Lit)) → clause_at clauses id.0 ≡ slot → reason_stands assumed clauses (is_marked labels.marks) link.lit (Clause id) ≡ true
    unfolding standing
    clause_stands id reason None at_id = absurd (no_clause (clause_at clauses id.0) at_id (without.present link id in_old reason))
      where
        no_clause : (o : Option (List Lit)) → o ≡ None → IsSome o → ⊥
        no_clause None e f = absurd (cc)
        no_clause (Some c) e f = absurd (cc)
    clause_stands id reason (Some c) at_id = ap (derives_lit (is_marked labels.marks) link.lit) at_id ∙ all_from (is_other_or_false (is_marked labels.marks) link.lit) c (λ m h. each m h (lit_cases m link.lit))
      where
        each : (m : Lit) → Contains c m → (m ≡ link.lit) ⊎ (m ≢ link.lit) → is_other_or_false (is_marked labels.marks) link.lit m ≡ true
        each m h (inl same) = or_left (same_lit m link.lit) (is_marked labels.marks (neg m)) (ap (λ k. same_lit k link.lit) same ∙ same_lit-self link.lit)
        each m h (inr differs) = or_right (same_lit m link.lit) (is_marked labels.marks (neg m)) (whole.same (neg m) ∙ others_fall id c reason at_id m h differs)

    pub still_stands : (not (assumed (neg link.lit)) && reason_stands assumed clauses (is_marked labels.marks) link.lit link.reason) ≡ true
    still_stands = and_both (not (assumed (neg link.lit))) (reason_stands assumed clauses (is_marked labels.marks) link.lit link.reason) (ap not (without.against link in_old)) (by_kind link.reason refl)
      where
        by_kind : (r : Reason) → link.reason ≡ r → reason_stands assumed clauses (is_marked labels.marks) link.lit r ≡ true
        by_kind Assumed e = without.assumptions link in_old e (λ f. never (subst (Reaches clauses old.trail to) (sym f) itself))
        by_kind (Clause id) e = clause_stands id e (clause_at clauses id.0) refl

  one_more : take (at + 1) old.trail ≡ take at old.trail ++ link ∷ []
  one_more = take_more old.trail at d inside ∙ ap (λ (k : Link). take at old.trail ++ k ∷ []) at_link

  -- a link that stands is kept
  pub stays_kept : kept < length labels.trail → StaysOn clauses old.trail to (take (at + 1) old.trail) (take (kept + 1) (set labels.trail kept link))
  stays_kept room =
      record {
        stays =
            λ k h never.
            subst (λ (t : List Link). Contains t k) (sym (take_more_set labels.trail kept link room))
            (elim (Contains-append_cases (take at old.trail) (link ∷ []) k (subst (λ (t : List Link). Contains t k) one_more h)) [
              | inl before ↦ Contains-append_left (take kept labels.trail) (link ∷ []) k (here.stays k before never)
              | inr last ↦ Contains-append_right (take kept labels.trail) (link ∷ []) k last
            ]);
      }

  -- and one that falls reaches the literal
  pub stays_fallen : (not (assumed (neg link.lit)) && reason_stands assumed clauses (is_marked labels.marks) link.lit link.reason) ≡ false → StaysOn clauses old.trail to (take (at + 1) old.trail) (take kept labels.trail)
  stays_fallen falls =
      record {
        stays =
            λ k h never.
            elim (Contains-append_cases (take at old.trail) (link ∷ []) k (subst (λ (t : List Link). Contains t k) one_more h)) [
              | inl before ↦ here.stays k before never
              | inr last ↦ absurd (cc (still_stands (λ r. never (subst (λ (j : Link). Reaches clauses old.trail to j.lit) (only_one link k last) r)), falls))
            ];
      }

-- each link of a derivation has its reason
derivation_reason : {clauses : Slots} {assumed : Lit → Bool} {trail : List Link} → IsDerivation clauses assumed trail → (k : Link) → Contains trail k → (before : List Link) × IsReason clauses assumed before k.lit k.reason
derivation_reason start k h = absurd (Contains-nil k h)
derivation_reason {clauses} {assumed} {trail} (next before link derived reason grown) k h =
    by_place (Contains-append_cases before (link ∷ []) k (subst (λ (t : List Link). Contains t k) grown h)) (λ early. derivation_reason derived k early)
  where
    by_place : Contains before k ⊎ Contains (link ∷ []) k → (Contains before k → (front : List Link) × IsReason clauses assumed front k.lit k.reason) → (front : List Link) × IsReason clauses assumed front k.lit k.reason
    by_place (inl early) rest = rest early
    by_place (inr last) rest = (before, subst (λ (j : Link). IsReason clauses assumed before j.lit j.reason) (only_one link k last) reason)

module _ {s : System} {near far : Rows} {labels : Labelled} {done : ℕ} {conflict empty : Option ClauseId} {space : ℕ} (kept : IsKept s near far labels done conflict empty space) where
  -- a retraction takes away no other assumption and no clause
  pub without_retract : (lit : Lit) (now : Marks) → is_marked s.assumed lit ≡ true → now ≡ set s.assumed lit.var.0 None → IsWithout (is_marked now) s.clauses labels.trail lit
  without_retract lit now there is =
      subst (λ (m : Marks). IsWithout (is_marked m) s.clauses labels.trail lit) (sym is)
      (record {
        against =
            λ k h.
            not_true (is_marked (set s.assumed lit.var.0 None) (neg k.lit))
            (λ e.
            cc (
              has_not_neg labels.marks k.lit (kept.network.are_labels.agrees.same k.lit ∙ contained_has labels.trail k h),
              kept.assumptions.marked (neg k.lit) (has_unset s.assumed lit.var.0 (neg k.lit) e),
            ));
        assumptions = λ k h given differs. unset_other s.assumed lit.var.0 k.lit (apart k differs (was_assumed k h given)) (was_assumed k h given);
        present = λ k id h given. was_present k id h given;
      })
    where
      was_assumed : (k : Link) → Contains labels.trail k → k.reason ≡ Assumed → is_marked s.assumed k.lit ≡ true
      was_assumed k h given = let found = derivation_reason kept.derivation k h in subst (IsReason s.clauses (is_marked s.assumed) found.0 k.lit) given found.1

      was_present : (k : Link) (id : ClauseId) → Contains labels.trail k → k.reason ≡ Clause id → IsSome (clause_at s.clauses id.0)
      was_present k id h given =
          let found = derivation_reason kept.derivation k h in
          let reason : IsReason s.clauses (is_marked s.assumed) found.0 k.lit (Clause id) = subst (IsReason s.clauses (is_marked s.assumed) found.0 k.lit) given found.1 in
          subst IsSome (sym reason.present) refl

      apart : (k : Link) → k.lit ≢ lit → is_marked s.assumed k.lit ≡ true → k.lit.var.0 ≡ lit.var.0 → ⊥
      apart k differs e same = elim (same_or_neg k.lit lit same) [
        | inl is_it ↦ differs is_it
        | inr turned ↦ cc (has_not_neg s.assumed lit there, sym (ap (is_marked s.assumed) turned) ∙ e)
      ]

-- links that stay keep the reasons of their literals
pub keeps_reasons : (old new : System) (l : Lit) (before after : Labelled) → old.trail ≡ before.trail → new.trail ≡ after.trail → Agrees before.marks before.supports before.trail → Agrees after.marks after.supports after.trail
    → StaysOn old.clauses before.trail l before.trail after.trail → KeepsReasons old new l
keeps_reasons old new l before after was is agrees now_agrees here =
    record {
      true_still =
          λ m there never.
          let found = link_of m there never in
          ap (λ (t : List Link). trail_has t m) is ∙ ap (trail_has after.trail) (sym found.3) ∙ contained_has after.trail found.0 found.2;
      same_reason =
          λ m there never.
          let found = link_of m there never in
          ap (λ (t : List Link). reason_in t m) is
          ∙ ap (reason_in after.trail) (sym found.3)
          ∙ reason_of after.marks after.supports after.trail now_agrees found.0 found.2
          ∙ sym (reason_of before.marks before.supports before.trail agrees found.0 found.1)
          ∙ ap (reason_in before.trail) found.3
          ∙ ap (λ (t : List Link). reason_in t m) (sym was);
    }
  where
    link_of : (m : Lit) → trail_has old.trail m ≡ true → ¬ Reaches old.clauses old.trail l m → (k : Link) × Contains before.trail k × Contains after.trail k × (k.lit ≡ m)
    link_of m there never =
        let found = any_member (λ (k : Link). same_lit k.lit m) before.trail (ap (λ (t : List Link). trail_has t m) (sym was) ∙ there) in
        let same : found.0.lit ≡ m = same_lit-equal found.0.lit m found.2 in
        (found.0, found.1, here.stays found.0 found.1 (λ r. never (subst (λ (t : List Link). Reaches old.clauses t l m) (sym was) (subst (Reaches old.clauses before.trail l) same r))), same)
