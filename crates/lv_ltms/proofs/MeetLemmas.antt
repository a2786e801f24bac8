-- What a clause comes to of which one watched literal is false.
use Rattle.std.proofs.Common.{◌≡◌, ◌≢◌, ℕ, ◌<◌, true, false, nat_lt, List, length, Some, IsTrue, refl, sym, subst, ◌∙◌, arith, Contains}
use Rattle.std.specs.List.{list_all}
use Rattle.std.proofs.lemmas.Bool.Decides.{nat_tests}
use Rattle.lv_base.specs.declared.ids.Lit.{Lit}
use Rattle.lv_base.specs.declared.ids.ClauseId.{ClauseId}
use Rattle.lv_clauses.specs.Literals.{neg, in_range, distinct, is_clause}
use Rattle.lv_clauses.specs.ClauseMap.{Slots, clause_at}
use Rattle.lv_clauses.specs.Marks.{is_marked}
use Rattle.lv_clauses.proofs.LiteralLemmas.{all_member, and_left}
use Rattle.lv_ltms.specs.declared.labels.Link.{Link}
use Rattle.lv_ltms.specs.declared.labels.Reason.TheVariants.{Clause}
use Rattle.lv_ltms.specs.Trail.{IsUnit, next}
use Rattle.lv_ltms.specs.Labelled.{Labelled, AreLabels, GoesOn, with_link}
use Rattle.lv_ltms.proofs.LabelLemmas.{Grows-push, Grows-self, room_left, pushed_has}

-- a literal of a clause is in range
pub clause_range : (bools : ℕ) (c : List Lit) (l : Lit) → IsTrue (is_clause bools c) → Contains c l → l.var.0 < bools
clause_range bools c l clause h =
    let ranges : list_all (in_range bools) c ≡ true = and_left (list_all (in_range bools) c) (distinct c) clause in
    let within : nat_lt l.var.0 bools ≡ true = all_member (in_range bools) c l ranges h in
    grind (arith, nat_tests)

pub goes_on_self : (clauses : Slots) (old : Labelled) (bools : ℕ) → AreLabels bools old → GoesOn clauses old old
goes_on_self clauses old bools labels = record { grows = Grows-self old labels.agrees; derivation = λ assumed d. d }

module _ (clauses : Slots) (old : Labelled) (id : ClauseId) (c : List Lit) (l : Lit) (at : clause_at clauses id.0 ≡ Some c) (labels : AreLabels (length old.marks) old) (within : l.var.0 < length old.marks)
    (p : is_marked old.marks l ≡ false) (q : is_marked old.marks (neg l) ≡ false) where
  abbrev pub unit_link : Link
  unit_link = record { lit = l; reason = Clause id }

  pub unit_inside : l.var.0 < length old.supports
  unit_inside = subst (λ (n : ℕ). l.var.0 < n) (sym labels.supports) within

  pub unit_room : length old.trail < length old.marks
  unit_room = room_left old unit_link within unit_inside p q labels.agrees

  pub unit_marked : is_marked (with_link old unit_link).marks l ≡ true
  unit_marked = pushed_has old unit_link within unit_inside p q labels.agrees

  pub unit_goes_on : Contains c l → ((m : Lit) → Contains c m → m ≢ l → is_marked old.marks (neg m) ≡ true) → GoesOn clauses old (with_link old unit_link)
  unit_goes_on member others =
      record {
        grows = Grows-push old unit_link within unit_inside p q labels.agrees;
        derivation =
            λ assumed before.
            let is : IsUnit clauses old.trail l id.0 =
            record {
              clause = c;
              present = at;
              member = member;
              others = λ m in_clause differs. sym (labels.agrees.same (neg m)) ∙ others m in_clause differs;
            } in
            next old.trail unit_link before is refl;
      }
