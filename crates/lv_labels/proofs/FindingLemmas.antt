-- Propagation one literal at a time finds the unit closure, and so a labelling.
use Rattle.std.proofs.Common.{◌≡◌, ◌≢◌, ℕ, zero, suc, ◌<◌, ◌≤◌, Bool, true, false, not, ◌||◌, List, [], ◌∷◌, ◌++◌, map, filter, length, count_by, if◌then◌else◌, ◌⊎◌, Option, None, Some, refl, sym, subst, ap, ◌∙◌, arith, inl, inr, Contains}
use Rattle.std.specs.List.{list_all, list_any}
use Rattle.std.specs.Option.{option_or}
use Rattle.std.proofs.lemmas.List.Sums.{count_by-le-length}
use Rattle.lv_base.specs.declared.ids.Lit.{Lit}
use Rattle.lv_clauses.specs.Literals.{neg}
use Rattle.lv_clauses.specs.ClauseMap.{clause_at}
use Rattle.lv_clauses.specs.Closure.{InClosure, IsContradictory, assumption, unit, both_signs, empty_clause}
use Rattle.lv_clauses.specs.Laws.{IsClosed}
use Rattle.lv_clauses.proofs.ClosureLemmas.{least}
use Rattle.lv_clauses.proofs.LiteralLemmas.{Contains-head, Contains-tail, Contains-cases, Contains-nil, and_left, and_right, and_both, or_right, any_member, member_any, all_member, lit_cases}
use Rattle.lv_ltms.specs.Trail.{same_lit}
use Rattle.lv_ltms.specs.System.{in_list}
use Rattle.lv_ltms.proofs.TrailLemmas.{same_lit-equal, or_cases}
use Rattle.lv_ltms.proofs.CountLemmas.{same_lit-self, count_yes, count_no}
use Rattle.lv_ltms.proofs.BoolLemmas.{from_not}
use Rattle.lv_ltms.proofs.FindLemmas.{found_passes, none_passes}
use Rattle.lv_model.specs.declared.plant.Plant.{Plant}
use Rattle.lv_compile.specs.FormulaClauses.{Clauses}
use Rattle.lv_compile.specs.ModelClauses.{model_clauses}
use Rattle.lv_reply.specs.declared.labels.Label.{Label}
use Rattle.lv_labels.specs.declared.labelling.Labelling.{Labelling}
use Rattle.lv_labels.specs.declared.labelling.Labelling.TheVariants.{Contradiction, Labels}
use Rattle.lv_labels.specs.Labels.{IsLabelling, all_labels, label_literal}
use Rattle.lv_labels.specs.Finding.{is_forced, is_news, unit_of, next_unit, after, grown, all_literals, closure, is_empty, is_contradictory, labelling_by, labelling}
use Rattle.lv_labels.specs.Claims.{IsPresent}
use Rattle.lv_labels.specs.Laws.{LabellingIsFound, LabellingHasNoOrder}
use Rattle.lv_labels.proofs.ClosureLemmas.{closure_moved, refuted_moved, listed_present, present_listed}
use Rattle.lv_labels.proofs.LawLemmas.{labelling_is_one}

some_is : {X : Type 0} (x y : X) → Some x ≡ Some y → x ≡ y
some_is x y e = cc

or_left : (a b : Bool) → a ≡ true → (a || b) ≡ true
or_left true b e = refl
or_left false b e = absurd (cc)

all_from : {X : Type 0} (p : X → Bool) (xs : List X) → ((x : X) → Contains xs x → p x ≡ true) → list_all p xs ≡ true
all_from p [] each = refl
all_from p (x ∷ xs) each = and_both (p x) (list_all p xs) (each x (Contains-head x xs)) (all_from p xs (λ y h. each y (Contains-tail x y xs h)))

-- fewer pass a narrower test
module _ {X : Type 0} (p q : X → Bool) (narrower : (x : X) → p x ≡ true → q x ≡ true) where
  fewer : (xs : List X) → count_by p xs ≤ count_by q xs
  fewer [] = omega arith
  fewer (x ∷ xs) = by_tests (p x) (q x) refl refl (fewer xs)
    where
      by_tests : (a b : Bool) → p x ≡ a → q x ≡ b → count_by p xs ≤ count_by q xs → count_by p (x ∷ xs) ≤ count_by q (x ∷ xs)
      by_tests true true e f ih = omega (arith, ih, count_yes p x xs e, count_yes q x xs f)
      by_tests true false e f ih = absurd (cc (narrower x e, f))
      by_tests false true e f ih = omega (arith, ih, count_no p x xs e, count_yes q x xs f)
      by_tests false false e f ih = omega (arith, ih, count_no p x xs e, count_no q x xs f)

  -- by one at least, where one that is there fails
  one_fewer : (x : X) → p x ≡ false → q x ≡ true → (xs : List X) → Contains xs x → count_by p xs < count_by q xs
  one_fewer x no_more was [] h = absurd (Contains-nil x h)
  one_fewer x no_more was (y ∷ ys) h = by_place (Contains-cases y x ys h) (one_fewer x no_more was ys)
    where
      by_tests : (a b : Bool) → p y ≡ a → q y ≡ b → count_by p ys < count_by q ys → count_by p (y ∷ ys) < count_by q (y ∷ ys)
      by_tests true true e f ih = omega (arith, ih, count_yes p y ys e, count_yes q y ys f)
      by_tests true false e f ih = absurd (cc (narrower y e, f))
      by_tests false true e f ih = omega (arith, ih, count_no p y ys e, count_yes q y ys f)
      by_tests false false e f ih = omega (arith, ih, count_no p y ys e, count_no q y ys f)

      by_place : (y ≡ x) ⊎ Contains ys x → (Contains ys x → count_by p ys < count_by q ys) → count_by p (y ∷ ys) < count_by q (y ∷ ys)
      by_place (inl same) later = omega (arith, fewer ys, count_no p y ys (ap p same ∙ no_more), count_yes q y ys (ap q same ∙ was))
      by_place (inr rest) later = by_tests (p y) (q y) refl refl (later rest)

-- the literal that a clause of the list adds
record IsNext (cs : Clauses) (known : List Lit) (l : Lit) : Type 0 where
  clause : List Lit
  present : Contains cs clause
  member : Contains clause l
  fresh : in_list known l ≡ false
  forced : is_forced known clause l ≡ true

next_is : (cs : Clauses) (known : List Lit) (l : Lit) → next_unit cs known ≡ Some l → IsNext cs known l
next_is [] known l e = absurd (cc)
next_is (c ∷ cs) known l e = by_found (unit_of known c) refl (next_is cs known l)
  where
    by_found : (o : Option Lit) → unit_of known c ≡ o → (next_unit cs known ≡ Some l → IsNext cs known l) → IsNext (c ∷ cs) known l
    by_found None f later =
        let rest = later (sym (ap (λ (o : Option Lit). option_or o (next_unit cs known)) f) ∙ e) in
        record { clause = rest.clause; present = Contains-tail c rest.clause cs rest.present; member = rest.member; fresh = rest.fresh; forced = rest.forced }
    by_found (Some k) f later =
        let same : k ≡ l = some_is k l (sym (ap (λ (o : Option Lit). option_or o (next_unit cs known)) f) ∙ e) in
        let found = found_passes (is_news known c) c k f in
        subst (λ (m : Lit). IsNext (c ∷ cs) known m) same
        (record {
          clause = c;
          present = Contains-head c cs;
          member = found.1;
          fresh = from_not (in_list known k) (and_left (not (in_list known k)) (is_forced known c k) found.0);
          forced = and_right (not (in_list known k)) (is_forced known c k) found.0;
        })

-- where nothing is added each forced literal is known
all_known : (cs : Clauses) (known : List Lit) → next_unit cs known ≡ None → (c : List Lit) (l : Lit) → Contains cs c → Contains c l → is_forced known c l ≡ true → in_list known l ≡ true
all_known [] known e c l h member forced = absurd (Contains-nil c h)
all_known (d ∷ ds) known e c l h member forced = by_found (unit_of known d) refl (λ (f : next_unit ds known ≡ None) (rest : Contains ds c). all_known ds known f c l rest member forced)
  where
    by_found : (o : Option Lit) → unit_of known d ≡ o → (next_unit ds known ≡ None → Contains ds c → in_list known l ≡ true) → in_list known l ≡ true
    by_found (Some k) f later = absurd (cc (sym (ap (λ (o : Option Lit). option_or o (next_unit ds known)) f) ∙ e))
    by_found None f later = elim (Contains-cases d c ds h) [
      | inl same ↦ by_known (in_list known l) refl same
      | inr rest ↦ later (sym (ap (λ (o : Option Lit). option_or o (next_unit ds known)) f) ∙ e) rest
    ]
      where
        by_known : (b : Bool) → in_list known l ≡ b → d ≡ c → in_list known l ≡ true
        by_known true g same = g
        by_known false g same =
            absurd (none_passes (is_news known d) d l f (subst (λ (x : List Lit). Contains x l) (sym same) member)
            (and_both (not (in_list known l)) (is_forced known d l) (ap not g) (ap (λ (x : List Lit). is_forced known x l) same ∙ forced)))

-- a forced literal's clause has its other literals negated
others_false : (known c : List Lit) (l : Lit) → is_forced known c l ≡ true → (m : Lit) → Contains c m → m ≢ l → in_list known (neg m) ≡ true
others_false known c l forced m h differs = elim (or_cases (same_lit m l) (in_list known (neg m)) (all_member (λ (k : Lit). same_lit k l || in_list known (neg k)) c m forced h)) [
  | inl same ↦ absurd (differs (same_lit-equal m l same))
  | inr negated ↦ negated
]

forced_from : (known c : List Lit) (l : Lit) → ((m : Lit) → Contains c m → m ≢ l → in_list known (neg m) ≡ true) → is_forced known c l ≡ true
forced_from known c l others =
    all_from (λ (m : Lit). same_lit m l || in_list known (neg m)) c (λ m h. elim (lit_cases m l) [
      | inl same ↦ or_left (same_lit m l) (in_list known (neg m)) (ap (λ (k : Lit). same_lit k l) same ∙ same_lit-self l)
      | inr differs ↦ or_right (same_lit m l) (in_list known (neg m)) (others m h differs)
    ])

member_among : (cs : Clauses) (c : List Lit) (l : Lit) → Contains cs c → Contains c l → Contains (all_literals cs) l
member_among [] c l h member = absurd (Contains-nil c h)
member_among (d ∷ ds) c l h member = elim (Contains-cases d c ds h) [
  | inl same ↦ in_front d (all_literals ds) (subst (λ (x : List Lit). Contains x l) (sym same) member)
  | inr rest ↦ behind d (all_literals ds) (member_among ds c l rest member)
]
  where
    in_front : (xs ys : List Lit) → Contains xs l → Contains (xs ++ ys) l
    in_front [] ys g = absurd (Contains-nil l g)
    in_front (x ∷ xs) ys g = elim (Contains-cases x l xs g) [
      | inl same ↦ subst (Contains (x ∷ (xs ++ ys))) same (Contains-head x (xs ++ ys))
      | inr later ↦ Contains-tail x l (xs ++ ys) (in_front xs ys later)
    ]

    behind : (xs ys : List Lit) → Contains ys l → Contains (xs ++ ys) l
    behind [] ys g = g
    behind (x ∷ xs) ys g = Contains-tail x l (xs ++ ys) (behind xs ys g)

module _ (cs : Clauses) where
  abbrev missing : List Lit → ℕ
  missing known = count_by (λ (l : Lit). not (in_list known l)) (all_literals cs)

  -- the literal added is missing no more
  less_missing : (known : List Lit) (l : Lit) → IsNext cs known l → missing (l ∷ known) < missing known
  less_missing known l next =
      one_fewer (λ (k : Lit). not (in_list (l ∷ known) k)) (λ (k : Lit). not (in_list known k)) (λ k e. narrower (same_lit l k) (in_list known k) e)
      l (ap not (or_left (same_lit l l) (in_list known l) (same_lit-self l))) (ap not next.fresh) (all_literals cs) (member_among cs next.clause l next.present next.member)
    where
      narrower : (a b : Bool) → not (a || b) ≡ true → not b ≡ true
      narrower true b e = absurd (cc)
      narrower false b e = e

  -- with as many literals added as are missing none is left to add
  grown_whole : (n : ℕ) (known : List Lit) → missing known ≤ n → next_unit cs (grown n cs known) ≡ None
  grown_whole zero known few = by_next (next_unit cs known) refl
    where
      by_next : (o : Option Lit) → next_unit cs known ≡ o → next_unit cs known ≡ None
      by_next None e = e
      by_next (Some l) e = absurd (omega (arith, few, less_missing known l (next_is cs known l e)))
  grown_whole (suc n) known few = by_next (next_unit cs known) refl (grown_whole n)
    where
      by_next : (o : Option Lit) → next_unit cs known ≡ o → ((ls : List Lit) → missing ls ≤ n → next_unit cs (grown n cs ls) ≡ None) → next_unit cs (grown (suc n) cs known) ≡ None
      by_next None e later = ap (λ (o : Option Lit). next_unit cs (after o known (grown n cs))) e ∙ e
      by_next (Some l) e later =
          ap (λ (o : Option Lit). next_unit cs (after o known (grown n cs))) e ∙ later (l ∷ known) (omega (arith, few, less_missing known l (next_is cs known l e)))

  grown_keeps : (n : ℕ) (known : List Lit) (l : Lit) → in_list known l ≡ true → in_list (grown n cs known) l ≡ true
  grown_keeps zero known l h = h
  grown_keeps (suc n) known l h = by_next (next_unit cs known) refl (grown_keeps n)
    where
      by_next : (o : Option Lit) → next_unit cs known ≡ o → ((ls : List Lit) (m : Lit) → in_list ls m ≡ true → in_list (grown n cs ls) m ≡ true) → in_list (grown (suc n) cs known) l ≡ true
      by_next None e later = ap (λ (o : Option Lit). in_list (after o known (grown n cs)) l) e ∙ h
      by_next (Some k) e later = ap (λ (o : Option Lit). in_list (after o known (grown n cs)) l) e ∙ later (k ∷ known) l (or_right (same_lit k l) (in_list known l) h)

  module _ (assumed : Lit → Bool) where
    abbrev IsSound : List Lit → Type 0
    IsSound known = (l : Lit) → in_list known l ≡ true → InClosure (map Some cs) assumed l

    next_sound : (known : List Lit) (k : Lit) → IsSound known → IsNext cs known k → IsSound (k ∷ known)
    next_sound known k sound next l h = elim (or_cases (same_lit k l) (in_list known l) h) [
      | inl same ↦ subst (InClosure (map Some cs) assumed) (same_lit-equal k l same)
          (let there = listed_present cs next.clause next.present in
          unit there.number next.clause there.at next.member (λ m has differs. sound (neg m) (others_false known next.clause k next.forced m has differs)))
      | inr before ↦ sound l before
    ]

    grown_sound : (n : ℕ) (known : List Lit) → IsSound known → IsSound (grown n cs known)
    grown_sound zero known sound = sound
    grown_sound (suc n) known sound = by_next (next_unit cs known) refl (grown_sound n)
      where
        by_next : (o : Option Lit) → next_unit cs known ≡ o → ((ls : List Lit) → IsSound ls → IsSound (grown n cs ls)) → IsSound (grown (suc n) cs known)
        by_next None e later = λ l h. sound l (sym (ap (λ (o : Option Lit). in_list (after o known (grown n cs)) l) e) ∙ h)
        by_next (Some k) e later =
            λ l h. later (k ∷ known) (next_sound known k sound (next_is cs known k e)) l (sym (ap (λ (o : Option Lit). in_list (after o known (grown n cs)) l) e) ∙ h)

  module _ (assumed : List Lit) where
    closure_sound : (l : Lit) → in_list (closure cs assumed) l ≡ true → InClosure (map Some cs) (in_list assumed) l
    closure_sound = grown_sound (in_list assumed) (length (all_literals cs)) assumed (λ l h. assumption h)

    closure_closed : IsClosed (map Some cs) (in_list assumed) (in_list (closure cs assumed))
    closure_closed =
        record {
          assumptions = grown_keeps (length (all_literals cs)) assumed;
          units = λ id c l at member others.
              all_known cs (closure cs assumed) (grown_whole (length (all_literals cs)) assumed (count_by-le-length (λ (k : Lit). not (in_list assumed k)) (all_literals cs)))
              c l (present_listed cs id c at) member (forced_from (closure cs assumed) c l others);
        }

    closure_complete : (l : Lit) → InClosure (map Some cs) (in_list assumed) l → in_list (closure cs assumed) l ≡ true
    closure_complete = least (in_list (closure cs assumed)) closure_closed

    empty_is : (c : List Lit) → is_empty c ≡ true → c ≡ []
    empty_is [] e = refl
    empty_is (l ∷ ls) e = absurd (cc)

    contradiction_sound : is_contradictory cs (closure cs assumed) ≡ true → IsContradictory (map Some cs) (in_list assumed)
    contradiction_sound e = elim (or_cases (list_any is_empty cs) (list_any (λ (l : Lit). in_list (closure cs assumed) (neg l)) (closure cs assumed)) e) [
      | inl some ↦
          let found = any_member is_empty cs some in
          let there = listed_present cs found.0 found.1 in
          empty_clause there.number (there.at ∙ ap (λ (c : List Lit). Some c) (empty_is found.0 found.2))
      | inr some ↦
          let found = any_member (λ (l : Lit). in_list (closure cs assumed) (neg l)) (closure cs assumed) some in
          both_signs found.0
          (closure_sound found.0 (member_any (λ (k : Lit). same_lit k found.0) (closure cs assumed) found.0 found.1 (same_lit-self found.0)))
          (closure_sound (neg found.0) found.2)
    ]

    contradiction_complete : IsContradictory (map Some cs) (in_list assumed) → is_contradictory cs (closure cs assumed) ≡ true
    contradiction_complete (empty_clause id at) =
        or_left (list_any is_empty cs) (list_any (λ (l : Lit). in_list (closure cs assumed) (neg l)) (closure cs assumed)) (member_any is_empty cs [] (present_listed cs id [] at) refl)
    contradiction_complete (both_signs l p q) =
        let found = any_member (λ (k : Lit). same_lit k l) (closure cs assumed) (closure_complete l p) in
        or_right (list_any is_empty cs) (list_any (λ (k : Lit). in_list (closure cs assumed) (neg k)) (closure cs assumed))
        (member_any (λ (k : Lit). in_list (closure cs assumed) (neg k)) (closure cs assumed) found.0 found.1
        (ap (λ (k : Lit). in_list (closure cs assumed) (neg k)) (same_lit-equal found.0 l found.2) ∙ closure_complete (neg l) q))

same_slots : (cs : Clauses) (id : ℕ) (c : List Lit) → clause_at (map Some cs) id ≡ Some c → IsPresent (map Some cs) c
same_slots cs id c at = record { number = id; at = at }

to_other : (one other : List Lit) → ((l : Lit) → in_list one l ≡ in_list other l) → (l : Lit) → in_list one l ≡ true → in_list other l ≡ true
to_other one other same l e = sym (same l) ∙ e

to_one : (one other : List Lit) → ((l : Lit) → in_list one l ≡ in_list other l) → (l : Lit) → in_list other l ≡ true → in_list one l ≡ true
to_one one other same l e = same l ∙ e

abbrev labels_in : Plant → List Lit → List Label
labels_in plant known = filter (λ (x : Label). in_list known (label_literal plant x)) (all_labels plant)

labelling_by_found : (plant : Plant) (literals : List Lit) → IsLabelling plant literals (labelling_by plant (model_clauses plant) (closure (model_clauses plant) literals))
labelling_by_found plant literals = by_test (is_contradictory (model_clauses plant) (closure (model_clauses plant) literals)) refl
  where
    by_test : (b : Bool) → is_contradictory (model_clauses plant) (closure (model_clauses plant) literals) ≡ b
        → IsLabelling plant literals (labelling_by plant (model_clauses plant) (closure (model_clauses plant) literals))
    by_test true e =
        subst (λ (told : Labelling). IsLabelling plant literals told)
        (sym (ap (λ (b : Bool). if b then Contradiction else Labels (labels_in plant (closure (model_clauses plant) literals))) e))
        (contradiction_sound (model_clauses plant) literals e)
    by_test false e =
        subst (λ (told : Labelling). IsLabelling plant literals told)
        (sym (ap (λ (b : Bool). if b then Contradiction else Labels (labels_in plant (closure (model_clauses plant) literals))) e))
        (record {
          consistent = λ r. cc (contradiction_complete (model_clauses plant) literals r, e);
          has = in_list (closure (model_clauses plant) literals);
          sound = closure_sound (model_clauses plant) literals;
          complete = closure_complete (model_clauses plant) literals;
          listed = refl;
        })

pub labelling_is_found : LabellingIsFound
unfolding labelling
labelling_is_found plant literals = labelling_by_found plant literals

-- of the same literals in another order
moved : (plant : Plant) (one other : List Lit) → ((l : Lit) → in_list one l ≡ in_list other l) → (told : Labelling) → IsLabelling plant one told → IsLabelling plant other told
moved plant one other same Contradiction refuted = refuted_moved (same_slots (model_clauses plant)) (to_other one other same) refuted
moved plant one other same (Labels labels) found =
    record {
      consistent = λ r. found.consistent (refuted_moved (same_slots (model_clauses plant)) (to_one one other same) r);
      has = found.has;
      sound = λ l e. closure_moved (same_slots (model_clauses plant)) (to_other one other same) l (found.sound l e);
      complete = λ l h. found.complete l (closure_moved (same_slots (model_clauses plant)) (to_one one other same) l h);
      listed = found.listed;
    }

pub labelling_has_no_order : LabellingHasNoOrder
labelling_has_no_order plant one other same =
    labelling_is_one plant other (labelling plant one) (labelling plant other) (moved plant one other same (labelling plant one) (labelling_is_found plant one)) (labelling_is_found plant other)

-- what is told is the labelling that is computed
pub labelling_told_is : (plant : Plant) (literals : List Lit) (told : Labelling) → IsLabelling plant literals told → told ≡ labelling plant literals
labelling_told_is plant literals told is = labelling_is_one plant literals told (labelling plant literals) is (labelling_is_found plant literals)
