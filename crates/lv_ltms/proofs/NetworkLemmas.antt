-- A network with a clause more or less.
use Rattle.std.proofs.Common.{◌≡◌, ℕ, ◌<◌, ◌≤◌, List, [], length, set, Option, Some, None, IsTrue, IfSome, refl, sym, ap, subst, ◌∙◌, Contains}
use Rattle.lv_base.specs.declared.ids.Lit.{Lit}
use Rattle.lv_base.specs.declared.ids.ClauseId.{ClauseId}
use Rattle.lv_clauses.specs.Literals.{is_clause}
use Rattle.lv_clauses.specs.ClauseMap.{Slots, clause_at}
use Rattle.lv_clauses.proofs.LiteralLemmas.{Contains-nil}
use Rattle.lv_ltms.specs.declared.watchers.Watch.{Watch}
use Rattle.lv_ltms.specs.declared.propagation.Pair.{Pair}
use Rattle.lv_ltms.specs.declared.propagation.Progress.{Progress}
use Rattle.lv_ltms.specs.Labelled.{Labelled}
use Rattle.lv_ltms.specs.Watching.{Rows, lit_at, with_watch, Fits, IsThreaded, IsWatching}
use Rattle.lv_ltms.specs.Standing.{PutsSlot, TellsEmpty, IsNetwork, IsLooked, IsFalsified, Picks, Settles, true_before}
use Rattle.lv_ltms.proofs.AddLemmas.{threaded_same, threaded_fits, threaded_empty, threaded_added, added_clauses, over_watching, added_watching, added_falsified, tells_added, gone_is, gone_set, gone_watching}
use Rattle.lv_ltms.proofs.FindLemmas.{some_is}
use Rattle.lv_ltms.proofs.LabelLemmas.{Grows-self}
use Rattle.lv_ltms.proofs.MeetLemmas.{clause_range}
use Rattle.lv_ltms.proofs.RowLemmas.{put_lit_same, put_lit_other}
use Rattle.lv_ltms.proofs.VisitLemmas.{watching_more, labels_grown}

fits_lit : (rows fitted : Rows) → Fits rows fitted → (i : ℕ) → lit_at fitted i ≡ lit_at rows i
fits_lit rows fitted fits i = ap (λ (w : Watch). w.lit) (fits.same i)

module _ (bools : ℕ) (slots : Slots) (near far : Rows) (labels : Labelled) (done : ℕ) (network : IsNetwork bools slots near far labels) (looked : IsLooked slots near far labels done) (fit_near fit_far : Rows) (fits : Fits near fit_near) (fits2 : Fits far fit_far) where
  pub fitted_network : IsNetwork bools slots fit_near fit_far labels
  fitted_network =
      record {
        clauses = network.clauses;
        near_rows = threaded_fits near fit_near slots bools fits network.near_rows;
        far_rows = threaded_fits far fit_far slots bools fits2 network.far_rows;
        are_labels = network.are_labels;
      }

  pub fitted_looked : IsLooked slots fit_near fit_far labels done
  fitted_looked =
      record {
        place = looked.place;
        watching =
            watching_more slots (lit_at near) (lit_at far) (lit_at fit_near) (lit_at fit_far) (true_before done labels.trail) (true_before done labels.trail) labels labels [] (fits_lit near fit_near fits) (fits_lit far fit_far fits2)
            (Grows-self labels network.are_labels.agrees) looked.watching;
      }

  module _ (after : Slots) (id : ClauseId) (c : List Lit) (vacant : clause_at slots id.0 ≡ None) (puts : PutsSlot slots after id.0 (Some c)) (clause : IsTrue (is_clause bools c)) (near_room : id.0 < length fit_near.watches) (far_room : id.0 < length fit_far.watches) where
    -- a clause without literals came
    pub blank_network : c ≡ [] → IsNetwork bools after fit_near fit_far labels
    blank_network e =
        let blank : PutsSlot slots after id.0 (Some []) = subst (λ (x : List Lit). PutsSlot slots after id.0 (Some x)) e puts in
        record {
          clauses = added_clauses bools slots after id.0 c puts clause network.clauses;
          near_rows = threaded_empty fit_near slots after bools id fitted_network.near_rows near_room vacant blank;
          far_rows = threaded_empty fit_far slots after bools id fitted_network.far_rows far_room vacant blank;
          are_labels = network.are_labels;
        }

    pub blank_looked : c ≡ [] → IsLooked after fit_near fit_far labels done
    blank_looked e =
        record {
          place = looked.place;
          watching =
              over_watching slots after id.0 (lit_at fit_near) (lit_at fit_far) (lit_at fit_near) (lit_at fit_far) (true_before done labels.trail) (true_before done labels.trail) labels labels puts.others (λ i differs. refl) (λ i differs. refl) (λ l f. f)
              (Grows-self labels network.are_labels.agrees) fitted_looked.watching (λ d m at h. absurd (nothing d m at h)) (λ d m at h. absurd (nothing d m at h)) (λ d m at h f. absurd (nothing d m at h));
        }
      where
        nothing : (d : List Lit) (m : Lit) → clause_at after id.0 ≡ Some d → Contains d m → ⊥
        nothing d m at h = Contains-nil m (subst (λ (x : List Lit). Contains x m) (sym (some_is (sym puts.changed ∙ at)) ∙ e) h)

    pub blank_told : c ≡ [] → clause_at after id.0 ≡ Some []
    blank_told e = puts.changed ∙ ap Some e

    pub kept_falsified : (f : Option ClauseId) → IfSome f (λ i. IsFalsified slots labels.marks i.0) → IfSome f (λ i. IsFalsified after labels.marks i.0)
    kept_falsified None h = tt
    kept_falsified (Some i) h =
        record { clause = h.clause; present = puts.others i.0 (λ same. cc (sym h.present ∙ ap (clause_at slots) same ∙ vacant)) ∙ h.present; all_false = h.all_false }

    -- a clause came that watches two literals
    module _ (pair : Pair) (picks : Picks c labels.marks pair) (new : Labelled) (was is : Progress) (same_done : done ≡ was.done) (settles : Settles id pair labels new was is) where
      near_in : pair.near.var.0 < bools
      near_in = clause_range bools c pair.near clause picks.near

      far_in : pair.far.var.0 < bools
      far_in = clause_range bools c pair.far clause picks.far

      pub pair_network : IsNetwork (length new.marks) after (with_watch fit_near id pair.near) (with_watch fit_far id pair.far) new
      pair_network =
          subst (λ (n : ℕ). IsNetwork n after (with_watch fit_near id pair.near) (with_watch fit_far id pair.far) new) (sym (settles.grows.marks ∙ network.are_labels.marks))
          (record {
            clauses = added_clauses bools slots after id.0 c puts clause network.clauses;
            near_rows = threaded_added fit_near slots after bools id fitted_network.near_rows near_room vacant c pair.near pair.near puts picks.near near_in;
            far_rows = threaded_added fit_far slots after bools id fitted_network.far_rows far_room vacant c pair.near pair.far puts picks.near far_in;
            are_labels = labels_grown bools labels new network.are_labels settles.grows;
          })

      pub pair_looked : IsLooked after (with_watch fit_near id pair.near) (with_watch fit_far id pair.far) new is.done
      pair_looked =
          let told =
          added_watching slots after id c pair (lit_at fit_near) (lit_at fit_far) (lit_at (with_watch fit_near id pair.near)) (lit_at (with_watch fit_far id pair.far)) labels new was is puts picks settles bools network.are_labels
          (subst (λ (n : ℕ). n ≤ length labels.trail) same_done looked.place)
          (subst (λ (n : ℕ). IsWatching slots (lit_at fit_near) (lit_at fit_far) (true_before n labels.trail) (true_before n labels.trail) labels.marks []) same_done fitted_looked.watching)
          (λ i differs. put_lit_other fit_near id pair.near near_room i differs) (λ i differs. put_lit_other fit_far id pair.far far_room i differs) (put_lit_same fit_near id pair.near near_room) (put_lit_same fit_far id pair.far far_room) in
          record { place = told.0; watching = told.1 }

      pub pair_falsified : IfSome was.conflict (λ i. IsFalsified slots labels.marks i.0) → IfSome is.conflict (λ i. IsFalsified after new.marks i.0)
      pair_falsified known =
          added_falsified slots after id c pair (lit_at fit_near) (lit_at fit_far) (lit_at (with_watch fit_near id pair.near)) (lit_at (with_watch fit_far id pair.far)) labels new was is puts picks settles bools network.are_labels
          (subst (λ (n : ℕ). n ≤ length labels.trail) same_done looked.place)
          (subst (λ (n : ℕ). IsWatching slots (lit_at fit_near) (lit_at fit_far) (true_before n labels.trail) (true_before n labels.trail) labels.marks []) same_done fitted_looked.watching)
          (λ i differs. put_lit_other fit_near id pair.near near_room i differs) (λ i differs. put_lit_other fit_far id pair.far far_room i differs) (put_lit_same fit_near id pair.near near_room) (put_lit_same fit_far id pair.far far_room)
          vacant known

      pub pair_told : (f : Option ClauseId) → TellsEmpty slots f → TellsEmpty after f
      pair_told f told = tells_added slots after id.0 c pair.near f vacant puts picks.near told

-- a clause went
module _ (bools : ℕ) (slots after : Slots) (near far new_near new_far : Rows) (labels : Labelled) (done : ℕ) (id : ℕ) (network : IsNetwork bools slots near far labels) (looked : IsLooked slots near far labels done) (puts : PutsSlot slots after id None)
    (near_is : IsThreaded new_near (set slots id None) bools) (far_is : IsThreaded new_far (set slots id None) bools) (same_near : (i : ℕ) → lit_at new_near i ≡ lit_at near i) (same_far : (i : ℕ) → lit_at new_far i ≡ lit_at far i) where
  pub gone_network : IsNetwork bools after new_near new_far labels
  gone_network =
      record {
        clauses = λ i c at. network.clauses i c (gone_is slots after id puts i c at);
        near_rows = threaded_same new_near (set slots id None) after bools (gone_set slots after id puts) near_is;
        far_rows = threaded_same new_far (set slots id None) after bools (gone_set slots after id puts) far_is;
        are_labels = network.are_labels;
      }

  pub gone_looked : IsLooked after new_near new_far labels done
  gone_looked =
      record {
        place = looked.place;
        watching = gone_watching slots after id puts (lit_at near) (lit_at far) (lit_at new_near) (lit_at new_far) (true_before done labels.trail) labels.marks same_near same_far looked.watching;
      }
