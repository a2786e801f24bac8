-- One item more of what is gone through: states, goals and conflicts.
use Rattle.std.proofs.Common.{◌≡◌, ℕ, zero, suc, ◌+◌, ◌<◌, ◌≤◌, Bool, true, false, ◌&&◌, not, List, [], ◌∷◌, ◌++◌, length, map, drop, take, get_or, slice_get, Some, ⊎_elim, refl, sym, subst, ◌∙◌, ap, arith}
use Rattle.std.specs.List.{list_all}
use Rattle.std.proofs.lemmas.List.{append_assoc, drop_more, drop_all}
use Rattle.lv_base.specs.declared.search.Pair.{Pair}
use Rattle.lv_base.specs.Tree.{Tree}
use Rattle.lv_model.specs.declared.plant.Plant.{Plant}
use Rattle.lv_model.specs.declared.state.State.{State}
use Rattle.lv_model.specs.declared.state.TrackedState.{TrackedState}
use Rattle.lv_model.specs.WellFormed.{is_well_formed}
use Rattle.lv_meaning.proofs.Among.{all_among}
use Rattle.lv_meaning.specs.declared.aim.Aim.{Aim}
use Rattle.lv_meaning.specs.Recovers.{reaches, can_miss}
use Rattle.lv_cert_writing.specs.BlockLines.{derived_of}
use Rattle.lv_cert_writing.specs.declared.derivation.Derivation.{Derivation}
use Rattle.lv_cert.specs.declared.line.Line.{Line}
use Rattle.lv_cert_laws.proofs.Options.{got_among}
use Rattle.lv_cert_laws.specs.lv_cert_meaning.Certifying.{IsAsked}
use Rattle.lv_cert_recovery.specs.Keeping.{IsReason, AreValues}
use Rattle.lv_cert_recovery.specs.Leading.{excluding, standing, LeadsOn, Excludes, ExcludesAll, ReachFromAll, AddsCounter}
use Rattle.lv_cert_recovery.specs.Telling.{AreUnmissed, NeverMisses, MissesLeft}
use Rattle.lv_cert_recovery.proofs.AskingLemmas.{all_fitting}
use Rattle.lv_cert_recovery.proofs.GivingLemmas.{got_at}
use Rattle.lv_cert_recovery.proofs.KeepingLemmas.{IsStopped, reason_stops}
use Rattle.lv_cert_recovery.proofs.LeadingLemmas.{leads_both}
use Rattle.lv_cert_recovery.proofs.TellingLemmas.{never_more, never_misses}

-- a line and then others
pub joined : (old mid new more : List Line) (l same : Line) → mid ≡ old ++ l ∷ [] → l ≡ same → new ≡ mid ++ more → new ≡ old ++ (same ∷ more)
joined old mid new more l same first is then =
    then ∙ ap (λ (ls : List Line). ls ++ more) (first ∙ ap (λ (x : Line). old ++ x ∷ []) is) ∙ append_assoc old (same ∷ []) more

-- what stands at a place of a list that is another
pub there : {X : Type 0} (items all : List X) → items ≡ all → (i : ℕ) (x : X) → i < length items → x ≡ get_or items i x → slice_get all i ≡ Some x
there items all same i x below is = sym (ap (λ xs. slice_get xs i) same) ∙ got_at items i x below is

-- a test that the first of what is left passes
pub test_more : {X : Type 0} (f : X → Bool) (xs : List X) (i : ℕ) (x : X) → i < length xs → x ≡ get_or xs i x → f x ≡ true → list_all f (drop i xs) ≡ list_all f xs
    → list_all f (drop (i + 1) xs) ≡ list_all f xs
test_more f xs i x below is passes left =
    ap (λ b. b && list_all f (drop (i + 1) xs)) (sym passes ∙ ap f is) ∙ sym (ap (list_all f) (drop_more xs i x below)) ∙ left

module _ (plant : Plant) (aim : Aim) where
  module _ (s : State) (pairs : List Pair) (h : is_well_formed plant ≡ true) (of : IsAsked plant aim) where
    pub left_more : (items : List Tree) → items ≡ aim.goals → (i : ℕ) (g : Tree) → i < length items → g ≡ get_or items i g → (ds : List Derivation) → AreUnmissed plant aim s pairs g (map derived_of ds)
        → MissesLeft plant aim s pairs (drop i items) items → MissesLeft plant aim s pairs (drop (i + 1) items) items
    left_more items same i g below is ds are left =
        record {
          on =
              λ none.
              never_more plant aim s pairs h of.fits.present (all_fitting plant aim.goals of.fits.goals) g (drop (i + 1) items) items (got_among aim.goals i g (there items aim.goals same i g below is))
              (map derived_of ds) are
              (λ more. left.on (subst (NeverMisses plant aim s pairs) (sym (drop_more items i g below ∙ ap (λ (x : Tree). x ∷ drop (i + 1) items) (sym is))) more)) none;
        }

    pub left_none : (items : List Tree) → items ≡ aim.goals → (i : ℕ) → length items ≤ i → MissesLeft plant aim s pairs (drop i items) items → can_miss plant aim s pairs ≡ false
    left_none items same i past left =
        never_misses plant aim s pairs
        (subst (NeverMisses plant aim s pairs) same (left.on (subst (NeverMisses plant aim s pairs) (sym (drop_all i items past)) (record { each = λ w. refl }))))

  -- where the values reach the goals from each state, they are all of a command set
  pub block_values : (pairs : List Pair) → IsReason plant aim pairs → (old mid : List Line) → ReachFromAll plant aim pairs old mid → AreValues plant pairs
  block_values pairs is old mid all =
      let stop : IsStopped plant aim pairs = reason_stops plant aim pairs is in
      ⊎_elim
      (λ never.
      let clash : true ≡ false = sym (all_among (λ (s : TrackedState). reaches plant aim s.state pairs) aim.tracked stop.state all.all stop.among) ∙ never in
      absurd (cc clash))
      (λ both. both.1) stop.cases

  -- and then from some state they can miss one
  pub block_on : (pairs : List Pair) → IsReason plant aim pairs → (old mid new : List Line) → ReachFromAll plant aim pairs old mid → (pushed : Bool) → AddsCounter plant aim pairs mid new pushed
      → Excludes plant aim pairs old new
  block_on pairs is old mid new all true added = subst (λ (ls : List Line). Excludes plant aim pairs ls new) all.same added
  block_on pairs is old mid new all false added =
      let stop : IsStopped plant aim pairs = reason_stops plant aim pairs is in
      ⊎_elim
      (λ never.
      let clash : true ≡ false = sym (all_among (λ (s : TrackedState). reaches plant aim s.state pairs) aim.tracked stop.state all.all stop.among) ∙ never in
      absurd (cc clash))
      (λ both.
      let clash : true ≡ false =
      sym (all_among (λ (s : TrackedState). not (can_miss plant aim s.state pairs)) aim.tracked stop.state added.all stop.among) ∙ ap not both.0 in
      absurd (cc clash))
      stop.cases

  -- one block more
  pub blocks_more : (kept : List (List Pair)) (i : ℕ) (c : List Pair) → i < length kept → c ≡ get_or kept i c → (old mid new : List Line) → ExcludesAll plant aim (take i kept) old mid
      → Excludes plant aim c mid new → ExcludesAll plant aim (take (i + 1) kept) old new
  blocks_more kept i c below is old mid new before one =
      record {
        on =
            λ listed.
            subst (λ (all : List (List Pair)). LeadsOn plant aim (standing excluding listed []) (standing excluding listed all) old new) (sym (taken kept i below is))
            (leads_both plant aim (standing excluding listed []) (standing excluding listed (take i kept)) (standing excluding listed (take i kept ++ c ∷ [])) old mid new (before.on listed)
            (one.on listed (take i kept)));
      }
    where
      taken : (xs : List (List Pair)) (n : ℕ) → n < length xs → c ≡ get_or xs n c → take (n + 1) xs ≡ take n xs ++ c ∷ []
      taken [] n less at = absurd (omega (arith, less))
      taken (x ∷ xs) zero less at = let one : zero + 1 ≡ 1 = omega arith in ap (λ m. take m (x ∷ xs)) one ∙ ap (λ (y : List Pair). y ∷ []) (sym at)
      taken (x ∷ xs) (suc n) less at =
          let next : suc n + 1 ≡ suc (n + 1) = omega arith in ap (λ m. take m (x ∷ xs)) next ∙ ap (λ (ys : List (List Pair)). x ∷ ys) (taken xs n (omega (arith, less)) at)
