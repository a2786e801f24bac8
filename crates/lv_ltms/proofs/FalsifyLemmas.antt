-- One link more of the trail is looked at: the clauses that watch its negation are gone along on both sides.
use Rattle.std.proofs.Common.{◌≡◌, ℕ, ◌+◌, ◌<◌, ◌≤◌, Bool, true, false, ◌||◌, List, [], length, get_or, Option, Some, None, refl, sym, ap, ◌∙◌, arith, inl, inr, Contains}
use Rattle.lv_base.specs.declared.ids.Lit.{Lit}
use Rattle.lv_base.specs.declared.ids.ClauseId.{ClauseId}
use Rattle.lv_clauses.specs.Literals.{neg}
use Rattle.lv_clauses.specs.ClauseMap.{Slots, clause_at}
use Rattle.lv_clauses.specs.Marks.{Marks, is_marked}
use Rattle.lv_clauses.proofs.LiteralLemmas.{neg_neg}
use Rattle.lv_ltms.specs.declared.labels.Link.{Link}
use Rattle.lv_ltms.specs.Trail.{same_lit}
use Rattle.lv_ltms.specs.Labelled.{Labelled, Grows, GoesOn}
use Rattle.lv_ltms.specs.Watching.{Rows, lit_at, IsGuarded, AreGuarded, IsWatching, AreMembers}
use Rattle.lv_ltms.specs.Standing.{IsNetwork, IsLooked, AreTrue, true_before}
use Rattle.lv_ltms.specs.Visiting.{Visits}
use Rattle.lv_ltms.proofs.CountLemmas.{HasMore, same_lit-self}
use Rattle.lv_ltms.proofs.LabelLemmas.{Grows-len, Grows-then, before_kept, before_has, before_more}
use Rattle.lv_ltms.proofs.TrailLemmas.{same_lit-equal, or_cases}
use Rattle.lv_ltms.proofs.VisitLemmas.{guarded_more, watching_swap}

-- what was looked at further is looked at as far as before
pub watching_less : (slots : Slots) (near far : ℕ → Lit) (truth other less fewer : Lit → Bool) (marks : Marks) (fallen : List Lit) → ((l : Lit) → less l ≡ true → truth l ≡ true) → ((l : Lit) → fewer l ≡ true → other l ≡ true)
    → IsWatching slots near far truth other marks fallen → IsWatching slots near far less fewer marks fallen
watching_less slots near far truth other less fewer marks fallen a b is =
    record {
      near_side = guarded_more slots near far near far truth less marks marks fallen (λ i. refl) (λ i. refl) a (λ l e. e) is.near_side;
      far_side = guarded_more slots far near far near other fewer marks marks fallen (λ i. refl) (λ i. refl) b (λ l e. e) is.far_side;
      settled = is.settled;
    }

pub near_members : (slots : Slots) (near far : ℕ → Lit) (truth : Lit → Bool) (marks : Marks) (fallen : List Lit) → AreGuarded slots near far truth marks fallen → AreMembers slots near
near_members slots near far truth marks fallen is = record { member = λ id c m at h. (is.guarded id c m at h).member }

pub network_swap : (bools : ℕ) (slots : Slots) (near far : Rows) (labels : Labelled) → IsNetwork bools slots near far labels → IsNetwork bools slots far near labels
network_swap bools slots near far labels is = record { clauses = is.clauses; near_rows = is.far_rows; far_rows = is.near_rows; are_labels = is.are_labels }

-- labels that grew are looked at as far as before
pub looked_grown : (slots : Slots) (near far : Rows) (old new : Labelled) (at : ℕ) → Grows old new → at ≤ length old.trail → IsWatching slots (lit_at near) (lit_at far) (true_before at old.trail) (true_before at old.trail) new.marks []
    → IsLooked slots near far new at
looked_grown slots near far old new at grows within is =
    record {
      place = omega (arith, within, Grows-len old new grows);
      watching =
          watching_less slots (lit_at near) (lit_at far) (true_before at old.trail) (true_before at old.trail) (true_before at new.trail) (true_before at new.trail) new.marks []
          (λ l e. sym (before_kept old new at grows within l) ∙ e) (λ l e. sym (before_kept old new at grows within l) ∙ e) is;
    }

module _ (slots : Slots) (bools : ℕ) (near far : Rows) (old : Labelled) (at : ℕ) (link d : Link) (network : IsNetwork bools slots near far old) (looked : IsLooked slots near far old at) (within : at < length old.trail)
    (is_link : get_or old.trail at d ≡ link) where
  abbrev pub turned_lit : Lit
  turned_lit = neg link.lit

  more : HasMore (true_before at old.trail) (true_before (at + 1) old.trail) link.lit
  more = before_more old.trail at link d network.are_labels.agrees.once within is_link

  link_true : is_marked old.marks link.lit ≡ true
  link_true = network.are_labels.agrees.same link.lit ∙ before_has (at + 1) old.trail link.lit (more.grown link.lit ∙ ap (λ b. true_before at old.trail link.lit || b) (same_lit-self link.lit) ∙ or_true (true_before at old.trail link.lit))
    where
      or_true : (b : Bool) → (b || true) ≡ true
      or_true true = refl
      or_true false = refl

  pub turned_true : is_marked old.marks (neg turned_lit) ≡ true
  turned_true = ap (is_marked old.marks) (neg_neg link.lit) ∙ link_true

  true_at : (n : ℕ) → AreTrue (true_before n old.trail) old.marks
  true_at n = record { marked = λ l e. network.are_labels.agrees.same l ∙ before_has n old.trail l e }

  -- where each clause that watches the negation has its other literal true, the link was looked at
  guarded_turned : (one two : ℕ → Lit) (marks : Marks) → ((id : ℕ) (c : List Lit) (m : Lit) → clause_at slots id ≡ Some c → Contains c m → one id ≡ turned_lit → is_marked marks (two id) ≡ true)
      → AreGuarded slots one two (true_before at old.trail) marks [] → AreGuarded slots one two (true_before (at + 1) old.trail) marks []
  guarded_turned one two marks turned is =
      record {
        guarded =
            λ id c m there h.
            let was : IsGuarded c (one id) (two id) (true_before at old.trail) marks [] = is.guarded id c m there h in
            record {
              member = was.member;
              lone = was.lone;
              held =
                  λ e f. elim (or_cases (true_before at old.trail (neg (one id))) (same_lit link.lit (neg (one id))) (sym (more.grown (neg (one id))) ∙ e)) [
                    | inl before ↦ was.held before f
                    | inr same ↦ turned id c m there h (sym (neg_neg (one id)) ∙ ap neg (sym (same_lit-equal link.lit (neg (one id)) same)))
                  ];
            };
      }

  module _ (near1 : Rows) (mid : Labelled) (found : Option ClauseId) (visits : Visits slots (lit_at near) (lit_at near1) (lit_at far) old mid turned_lit found) (goes : GoesOn slots old mid) where
    first_watching : IsWatching slots (lit_at near1) (lit_at far) (true_before at old.trail) (true_before at old.trail) mid.marks []
    first_watching = visits.kept (true_before at old.trail) (true_before at old.trail) (true_at at) (true_at at) looked.watching

    pub first_looked : IsLooked slots near1 far mid at
    first_looked = looked_grown slots near1 far old mid at goes.grows looked.place first_watching

    pub first_turned : is_marked mid.marks (neg turned_lit) ≡ true
    first_turned = goes.grows.kept (neg turned_lit) turned_true

    pub first_members : AreMembers slots (lit_at near1)
    first_members = near_members slots (lit_at near1) (lit_at far) (true_before at old.trail) mid.marks [] first_watching.near_side

    module _ (none : found ≡ None) (far1 : Rows) (new : Labelled) (found2 : Option ClauseId) (visits2 : Visits slots (lit_at far) (lit_at far1) (lit_at near1) mid new turned_lit found2) (goes2 : GoesOn slots mid new) where
      further : IsWatching slots (lit_at near1) (lit_at far) (true_before (at + 1) old.trail) (true_before at old.trail) mid.marks []
      further = record { near_side = guarded_turned (lit_at near1) (lit_at far) mid.marks (visits.turned none) first_watching.near_side; far_side = first_watching.far_side; settled = first_watching.settled }

      still_true : (n : ℕ) → AreTrue (true_before n old.trail) mid.marks
      still_true n = record { marked = λ l e. goes.grows.kept l ((true_at n).marked l e) }

      second_watching : IsWatching slots (lit_at far1) (lit_at near1) (true_before at old.trail) (true_before (at + 1) old.trail) new.marks []
      second_watching =
          visits2.kept (true_before at old.trail) (true_before (at + 1) old.trail) (still_true at) (still_true (at + 1))
          (watching_swap slots (lit_at near1) (lit_at far) (true_before (at + 1) old.trail) (true_before at old.trail) mid.marks [] further)

      grows_all : Grows old new
      grows_all = Grows-then old mid new goes.grows goes2.grows

      pub second_looked : IsLooked slots near1 far1 new at
      second_looked =
          looked_grown slots near1 far1 old new at grows_all looked.place
          (watching_less slots (lit_at near1) (lit_at far1) (true_before (at + 1) old.trail) (true_before at old.trail) (true_before at old.trail) (true_before at old.trail) new.marks []
          (λ l e. more.grown l ∙ ap (λ b. b || same_lit link.lit l) e) (λ l e. e)
          (watching_swap slots (lit_at far1) (lit_at near1) (true_before at old.trail) (true_before (at + 1) old.trail) new.marks [] second_watching))

      pub second_further : found2 ≡ None → IsLooked slots near1 far1 new (at + 1)
      second_further none2 =
          looked_grown slots near1 far1 old new (at + 1) grows_all (omega (arith, within))
          (record {
            near_side = second_watching.far_side;
            far_side = guarded_turned (lit_at far1) (lit_at near1) new.marks (visits2.turned none2) second_watching.near_side;
            settled =
                (watching_swap slots (lit_at far1) (lit_at near1) (true_before at old.trail) (true_before (at + 1) old.trail) new.marks [] second_watching).settled;
          })
