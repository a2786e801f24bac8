-- What stands of the lists of watched literals after labels were taken away.
use Rattle.std.proofs.Common.{◌≡◌, ℕ, ◌≤◌, Bool, true, false, List, [], length, Some, refl, sym, ap, subst, ◌∙◌, arith, Contains}
use Rattle.std.proofs.lemmas.List.{take_all}
use Rattle.lv_base.specs.declared.ids.Lit.{Lit}
use Rattle.lv_clauses.specs.Literals.{neg}
use Rattle.lv_clauses.specs.ClauseMap.{Slots, clause_at}
use Rattle.lv_clauses.specs.Marks.{Marks, is_marked}
use Rattle.lv_clauses.proofs.LiteralLemmas.{neg_neg}
use Rattle.lv_ltms.specs.declared.labels.Link.{Link}
use Rattle.lv_ltms.specs.Trail.{trail_has}
use Rattle.lv_ltms.specs.Labelled.{Labelled, Agrees, AreLabels, Grows}
use Rattle.lv_ltms.specs.Watching.{Rows, lit_at, has_lit, IsThreaded, IsGuarded, AreGuarded, AreSettled, AllInRow}
use Rattle.lv_ltms.specs.Standing.{IsNetwork, IsLooked, true_before}
use Rattle.lv_ltms.specs.Revising.{IsSwept, AreMarked, AreUpright, NoneOpposed}
use Rattle.lv_ltms.proofs.BoolLemmas.{not_true}
use Rattle.lv_ltms.proofs.LabelLemmas.{Grows-len, before_kept, has_not_neg}
use Rattle.lv_ltms.proofs.SupportLemmas.{swept_guarded, swept_settled}
use Rattle.lv_ltms.proofs.SweepingLemmas.{before_le}
use Rattle.lv_ltms.proofs.TraverseLemmas.{watch_listed}
use Rattle.lv_ltms.proofs.VisitLemmas.{guarded_more}

-- a literal that fell guards none that is false so early
cleared_guard : (slots : Slots) (bools : ℕ) (near far : Rows) (truth : Lit → Bool) (marks : Marks) (fallen : List Lit) → IsThreaded far slots bools
    → ((f : Lit) → has_lit fallen f ≡ true → AllInRow far f (λ id. truth (neg (lit_at near id.0)) ≡ false)) → AreGuarded slots (lit_at near) (lit_at far) truth marks fallen → AreGuarded slots (lit_at near) (lit_at far) truth marks []
cleared_guard slots bools near far truth marks fallen threaded clear is =
    record {
      guarded =
          λ id c m at h.
          let was : IsGuarded c (lit_at near id) (lit_at far id) truth marks fallen = is.guarded id c m at h in
          record { member = was.member; lone = was.lone; held = λ e none. by_fell id c m at h e was (has_lit fallen (lit_at far id)) refl };
    }
  where
    by_fell : (id : ℕ) (c : List Lit) (m : Lit) → clause_at slots id ≡ Some c → Contains c m → truth (neg (lit_at near id)) ≡ true → IsGuarded c (lit_at near id) (lit_at far id) truth marks fallen → (b : Bool) → has_lit fallen (lit_at far id) ≡ b
        → is_marked marks (lit_at far id) ≡ true
    by_fell id c m at h e was false none = was.held e none
    by_fell id c m at h e was true fell =
        absurd (cc (clear (lit_at far id) fell (threaded.list (lit_at far id)) (record { 0 = id }) (threaded.row (lit_at far id)) (watch_listed far slots bools threaded id c m at h), e))

-- where each assumption was marked, none turns a literal that fell
pub swept_upright : (assumed : Lit → Bool) (clauses : Slots) (old swept : Labelled) (fallen : List Lit) → IsSwept assumed clauses old swept fallen → AreMarked assumed old → AreUpright assumed fallen
swept_upright assumed clauses old swept fallen is marked = record { upright = λ f h. not_true (assumed (neg f)) (λ a. cc (marked.marked (neg f) a, has_not_neg old.marks f (is.were f h))) }

-- and where all links were looked at, no clause does
pub swept_unopposed : (assumed : Lit → Bool) (slots : Slots) (near far : Rows) (old swept : Labelled) (fallen : List Lit) (done : ℕ) → IsSwept assumed slots old swept fallen → Agrees old.marks old.supports old.trail → IsLooked slots near far old done
    → length old.trail ≤ done → NoneOpposed slots (lit_at near) (lit_at far) fallen
swept_unopposed assumed slots near far old swept fallen done is agrees looked past =
    record {
      opposed =
          λ f h id unit.
          let guard : IsGuarded unit.clause (lit_at near id) (lit_at far id) (true_before done old.trail) old.marks [] = looked.watching.near_side.guarded id unit.clause unit.member unit.present unit.has in
          let is_true : is_marked old.marks f ≡ true = is.were f h in
          let before : true_before done old.trail f ≡ true = ap (λ (t : List Link). trail_has t f) (take_all done old.trail past) ∙ sym (agrees.same f) ∙ is_true in
          let turned : neg (lit_at near id) ≡ f = ap neg unit.near_lit ∙ neg_neg f in
          let held : is_marked old.marks (lit_at far id) ≡ true = guard.held (ap (true_before done old.trail) turned ∙ before) refl in
          cc (held, ap (is_marked old.marks) unit.far_lit, has_not_neg old.marks f is_true);
    }

module _ (assumed : Lit → Bool) (slots : Slots) (bools : ℕ) (near far : Rows) (old swept new : Labelled) (fallen : List Lit) (done looked now : ℕ) (network : IsNetwork bools slots near far old) (was : IsLooked slots near far old done)
    (is_swept : IsSwept assumed slots old swept fallen) (labels : AreLabels bools swept) (looked_was : (l : Lit) → true_before looked swept.trail l ≡ true → true_before done old.trail l ≡ true) (within : looked ≤ length swept.trail)
    (grows : Grows swept new) (less : now ≤ looked) where
  pub revised_guarded : AreGuarded slots (lit_at near) (lit_at far) (true_before done old.trail) swept.marks fallen
  revised_guarded = swept_guarded assumed slots slots (lit_at near) (lit_at far) (true_before done old.trail) old swept fallen is_swept was.watching.near_side

  fewer : (l : Lit) → true_before now new.trail l ≡ true → true_before done old.trail l ≡ true
  fewer l e = looked_was l (before_le swept.trail now looked l less (sym (before_kept swept new now grows (omega (arith, less, within)) l) ∙ e))

  pub revised_settled : AreSettled slots (lit_at near) (lit_at far) swept.marks fallen
  revised_settled = swept_settled assumed slots slots (lit_at near) (lit_at far) old swept fallen is_swept was.watching.settled

  pub revised_network : IsNetwork (length new.marks) slots near far new
  revised_network =
      subst (λ (n : ℕ). IsNetwork n slots near far new) (sym (grows.marks ∙ labels.marks))
      (record {
        clauses = network.clauses;
        near_rows = network.near_rows;
        far_rows = network.far_rows;
        are_labels = record { marks = grows.marks ∙ labels.marks; supports = grows.supports ∙ labels.supports; agrees = grows.agrees };
      })

  pub revised_looked : AreSettled slots (lit_at near) (lit_at far) new.marks [] → ((f : Lit) → has_lit fallen f ≡ true → AllInRow near f (λ id. true_before now new.trail (neg (lit_at far id.0)) ≡ false))
      → ((f : Lit) → has_lit fallen f ≡ true → AllInRow far f (λ id. true_before now new.trail (neg (lit_at near id.0)) ≡ false)) → IsLooked slots near far new now
  revised_looked settled near_clear far_clear =
      record {
        place = omega (arith, less, within, Grows-len swept new grows);
        watching =
            record {
              near_side =
                  cleared_guard slots bools near far (true_before now new.trail) new.marks fallen network.far_rows far_clear
                  (guarded_more slots (lit_at near) (lit_at far) (lit_at near) (lit_at far) (true_before done old.trail) (true_before now new.trail) swept.marks new.marks fallen (λ i. refl) (λ i. refl) fewer grows.kept revised_guarded);
              far_side =
                  cleared_guard slots bools far near (true_before now new.trail) new.marks fallen network.near_rows near_clear
                  (guarded_more slots (lit_at far) (lit_at near) (lit_at far) (lit_at near) (true_before done old.trail) (true_before now new.trail) swept.marks new.marks fallen (λ i. refl) (λ i. refl) fewer grows.kept
                  (swept_guarded assumed slots slots (lit_at far) (lit_at near) (true_before done old.trail) old swept fallen is_swept was.watching.far_side));
              settled = settled;
            };
      }
