-- From a system to its network, and back.
use Rattle.std.proofs.Common.{◌≡◌, ℕ, ◌<◌, ◌≤◌, Bool, true, false, nat_lt, List, [], length, get_or, replicate, count_by, is_none, suc, zero, Option, Some, None, IsTrue, IsSome, IfSome, refl, sym, ap, subst, ◌∙◌, arith, inl, inr}
use Rattle.std.proofs.lemmas.Bool.Decides.{nat_tests}
use Rattle.std.proofs.lemmas.List.{length-set, length-replicate}
use Rattle.lv_base.specs.declared.ids.Lit.{Lit}
use Rattle.lv_base.specs.declared.ids.ClauseId.{ClauseId}
use Rattle.lv_clauses.specs.Literals.{neg, in_range}
use Rattle.lv_clauses.specs.ClauseMap.{Slots, clause_at}
use Rattle.lv_clauses.specs.Marks.{Marks, nothing, is_marked, marked, is_free}
use Rattle.lv_clauses.proofs.LiteralLemmas.{Contains-nil}
use Rattle.lv_clauses.proofs.MarkLemmas.{is_marked-marked_cases, is_marked-nothing}
use Rattle.lv_ltms.specs.declared.labels.Link.{Link}
use Rattle.lv_ltms.specs.declared.labels.Reason.{Reason}
use Rattle.lv_ltms.specs.declared.labels.Reason.TheVariants.{Assumed, Clause}
use Rattle.lv_ltms.specs.declared.network.Network.{Network}
use Rattle.lv_ltms.specs.declared.watchers.Next.{Next}
use Rattle.lv_ltms.specs.Trail.{IsDerivation, IsReason, start, next}
use Rattle.lv_ltms.specs.Labelled.{Labelled, Grows, GoesOn, with_link}
use Rattle.lv_ltms.specs.Watching.{Rows, last, clause_of, lit_at, heads_of, IsThreaded}
use Rattle.lv_ltms.specs.Standing.{IsNetwork, IsLooked, IsFalsified, PutsSlot, true_before}
use Rattle.lv_ltms.specs.Networks.{IsAlive, IsRested}
use Rattle.lv_ltms.specs.Revising.{AreMarked, AreFixed}
use Rattle.lv_ltms.specs.System.{System, IsKept}
use Rattle.lv_ltms.proofs.CountLemmas.{count_yes}
use Rattle.lv_ltms.proofs.LabelLemmas.{Grows-push, pushed_has, has_not_free, neg_not_free}
use Rattle.lv_ltms.proofs.FalsifyLemmas.{looked_grown}
use Rattle.lv_ltms.proofs.RestLemmas.{stops_falsified}
use Rattle.lv_ltms.proofs.ShakenLemmas.{derivation_to, assumed_more, assumed_here, derivation_assumed}
use Rattle.lv_ltms.proofs.VisitLemmas.{watching_more}

pub alive_of : {bools : ℕ} {assumed : Marks} {trail : List Link} {space : ℕ} (n : Network)
    → IsKept (record { bools = bools; clauses = n.arena; assumed = assumed; trail = trail }) n.near n.far n.labels n.progress.done n.progress.conflict n.empty space → IsAlive n
alive_of n kept =
    record {
      network = subst (λ (m : ℕ). IsNetwork m n.arena n.near n.far n.labels) (sym kept.network.are_labels.marks) kept.network;
      looked = kept.looked;
      falsified = stops_falsified n.arena n.labels n.progress.done n.progress.conflict kept.stops;
      tells_empty = kept.tells_empty;
    }

pub kept_of : (n : Network) (bools : ℕ) (assumed : Marks) (space : ℕ) → IsRested n → length n.labels.marks ≡ bools → length assumed ≡ bools → IsDerivation n.arena (is_marked assumed) n.labels.trail → AreMarked (is_marked assumed) n.labels
    → bools ≤ space → IsKept (record { bools = bools; clauses = n.arena; assumed = assumed; trail = n.labels.trail }) n.near n.far n.labels n.progress.done n.progress.conflict n.empty space
kept_of n bools assumed space rested size len derivation assumptions room =
    record {
      assumed = len;
      trail = refl;
      network = subst (λ (m : ℕ). IsNetwork m n.arena n.near n.far n.labels) size rested.alive.network;
      looked = rested.alive.looked;
      stops = rested.stops;
      tells_empty = rested.alive.tells_empty;
      derivation = derivation;
      assumptions = assumptions;
      room = room;
    }

pub fixed_of : (assumed : Marks) (labels : Labelled) → AreMarked (is_marked assumed) labels → AreFixed (is_marked assumed) labels
fixed_of assumed labels is = record { fixed = λ l a. has_not_free labels.marks l (is.marked l a) }

-- what was derived is where a clause is there more
pub derivation_added : (slots after : Slots) (id : ℕ) (c : List Lit) (assumed : Lit → Bool) (trail : List Link) → clause_at slots id ≡ None → PutsSlot slots after id (Some c) → IsDerivation slots assumed trail → IsDerivation after assumed trail
derivation_added slots after id c assumed trail vacant puts derived = derivation_to slots after assumed assumed derived (λ before k h is. by_reason before k k.reason is)
  where
    by_reason : (before : List Link) (k : Link) (r : Reason) → IsReason slots assumed before k.lit r → IsReason after assumed before k.lit r
    by_reason before k Assumed is = is
    by_reason before k (Clause i) is =
        record {
          clause = is.clause;
          present = puts.others i.0 (λ same. cc (sym is.present ∙ ap (clause_at slots) same ∙ vacant)) ∙ is.present;
          member = is.member;
          others = is.others;
        }

-- a clause that is false stays so under more marks
pub falsified_grown : (slots : Slots) (old new : Labelled) (f : Option ClauseId) → Grows old new → IfSome f (λ id. IsFalsified slots old.marks id.0) → IfSome f (λ id. IsFalsified slots new.marks id.0)
falsified_grown slots old new None grows h = tt
falsified_grown slots old new (Some id) grows h = record { clause = h.clause; present = h.present; all_false = λ m g. grows.kept (neg m) (h.all_false m g) }

below : (bools : ℕ) (l : Lit) → IsTrue (in_range bools l) → l.var.0 < bools
below bools l e = within (l.var.0) bools e
  where
    within : (a b : ℕ) → nat_lt a b ≡ true → a < b
    within a b f = grind (arith, nat_tests)

module _ {s : System} {near far : Rows} {labels : Labelled} {done : ℕ} {conflict empty : Option ClauseId} {space : ℕ} (kept : IsKept s near far labels done conflict empty space) (lit : Lit) (range : IsTrue (in_range s.bools lit)) (free : IsTrue (is_free s.assumed lit)) where
  pub assume_within : lit.var.0 < length s.assumed
  assume_within = omega (arith, below s.bools lit range, kept.assumed)

  over : IsDerivation s.clauses (is_marked (marked s.assumed lit)) labels.trail
  over = derivation_assumed kept (is_marked (marked s.assumed lit)) labels.trail kept.derivation (λ k h e. assumed_more kept lit assume_within free k.lit e)

  -- the literal is marked already
  pub known_kept : is_marked labels.marks lit ≡ true → IsKept (record { bools = s.bools; clauses = s.clauses; assumed = marked s.assumed lit; trail = labels.trail }) near far labels done conflict empty space
  known_kept known =
      record {
        assumed = length-set s.assumed lit.var.0 (Some lit.sign) ∙ kept.assumed;
        trail = refl;
        network = kept.network;
        looked = kept.looked;
        stops = kept.stops;
        tells_empty = kept.tells_empty;
        derivation = over;
        assumptions =
            record {
              marked = λ l e. elim (is_marked-marked_cases s.assumed lit l e) [ inl same ↦ ap (is_marked labels.marks) same ∙ known | inr old ↦ kept.assumptions.marked l old ];
            };
        room = kept.room;
      }

  -- each assumption has its boolean marked
  pub assume_fixed : is_marked labels.marks (neg lit) ≡ true → AreFixed (is_marked (marked s.assumed lit)) labels
  assume_fixed turned =
      record {
        fixed = λ l e. elim (is_marked-marked_cases s.assumed lit l e) [
          | inl same ↦ ap (is_free labels.marks) same ∙ neg_not_free labels.marks lit turned
          | inr old ↦ has_not_free labels.marks l (kept.assumptions.marked l old)
        ];
      }

  -- the literal is marked now
  module _ (p : is_marked labels.marks lit ≡ false) (q : is_marked labels.marks (neg lit) ≡ false) where
    abbrev pub assume_link : Link
    assume_link = record { lit = lit; reason = Assumed }

    pub assume_inside : lit.var.0 < length labels.marks
    assume_inside = omega (arith, below s.bools lit range, kept.network.are_labels.marks)

    pub assume_supports : lit.var.0 < length labels.supports
    assume_supports = omega (arith, below s.bools lit range, kept.network.are_labels.supports)

    pub assume_grows : Grows labels (with_link labels assume_link)
    assume_grows = Grows-push labels assume_link assume_inside assume_supports p q kept.network.are_labels.agrees

    pub assume_network : IsNetwork (length (with_link labels assume_link).marks) s.clauses near far (with_link labels assume_link)
    assume_network =
        subst (λ (n : ℕ). IsNetwork n s.clauses near far (with_link labels assume_link)) (sym (assume_grows.marks ∙ kept.network.are_labels.marks))
        (record {
          clauses = kept.network.clauses;
          near_rows = kept.network.near_rows;
          far_rows = kept.network.far_rows;
          are_labels = record { marks = assume_grows.marks ∙ kept.network.are_labels.marks; supports = assume_grows.supports ∙ kept.network.are_labels.supports; agrees = assume_grows.agrees };
        })

    pub assume_looked : IsLooked s.clauses near far (with_link labels assume_link) done
    assume_looked =
        looked_grown s.clauses near far labels (with_link labels assume_link) done assume_grows kept.looked.place
        (watching_more s.clauses (lit_at near) (lit_at far) (lit_at near) (lit_at far) (true_before done labels.trail) (true_before done labels.trail) labels (with_link labels assume_link) [] (λ i. refl) (λ i. refl) assume_grows kept.looked.watching)

    pub assume_falsified : IfSome conflict (λ id. IsFalsified s.clauses (with_link labels assume_link).marks id.0)
    assume_falsified = falsified_grown s.clauses labels (with_link labels assume_link) conflict assume_grows (stops_falsified s.clauses labels done conflict kept.stops)

    pub assume_derivation : (after : Labelled) → GoesOn s.clauses (with_link labels assume_link) after → IsDerivation s.clauses (is_marked (marked s.assumed lit)) after.trail
    assume_derivation after goes = goes.derivation (is_marked (marked s.assumed lit)) (next labels.trail assume_link over (assumed_here kept lit assume_within free) refl)

    pub assume_marked : (after : Labelled) → GoesOn s.clauses (with_link labels assume_link) after → AreMarked (is_marked (marked s.assumed lit)) after
    assume_marked after goes =
        record {
          marked =
              λ l e.
              goes.grows.kept l
              (elim (is_marked-marked_cases s.assumed lit l e) [
                | inl same_lit ↦ ap (is_marked (with_link labels assume_link).marks) same_lit ∙ pushed_has labels assume_link assume_inside assume_supports p q kept.network.are_labels.agrees
                | inr old ↦ assume_grows.kept l (kept.assumptions.marked l old)
              ]);
        }

-- a new system
all_none : (n : ℕ) → count_by is_none (nothing n) ≡ n
all_none zero = refl
all_none (suc n) = omega (arith, count_yes {X = Option Bool} is_none None (nothing n) refl, all_none n)

no_head : (n k : ℕ) → get_or (replicate {A = Next} n last) k last ≡ last
no_head zero k = refl
no_head (suc n) zero = refl
no_head (suc n) (suc k) = no_head n k

abbrev pub blank_rows : ℕ → Rows
blank_rows bools = record { of_true = replicate bools last; of_false = replicate bools last; watches = [] }

abbrev pub blank_labels : ℕ → Labelled
blank_labels bools = record { marks = nothing bools; supports = replicate bools Assumed; trail = [] }

blank_threaded : (bools : ℕ) → IsThreaded (blank_rows bools) [] bools
blank_threaded bools =
    record {
      list = λ l. [];
      row = λ l. ap clause_of (by_sign l.sign l.var.0);
      exact = λ l id. refl;
      of_true = length-replicate {A = Next} bools last;
      of_false = length-replicate {A = Next} bools last;
      room = λ id some. absurd (no_some id some);
    }
  where
    by_sign : (b : Bool) (v : ℕ) → get_or (heads_of (blank_rows bools) b) v last ≡ last
    by_sign true v = no_head bools v
    by_sign false v = no_head bools v

    no_some : (id : ℕ) → IsSome (clause_at [] id) → ⊥
    no_some id some = cc some

pub new_kept : (bools space : ℕ) (assumed : Marks) (arena : Slots) (near far : Rows) (labels : Labelled) (done : ℕ) (conflict empty : Option ClauseId) → bools ≤ space → assumed ≡ nothing bools → arena ≡ [] → near ≡ blank_rows bools → far ≡ blank_rows bools
    → labels ≡ blank_labels bools → done ≡ 0 → conflict ≡ None → empty ≡ None → IsKept (record { bools = bools; clauses = arena; assumed = assumed; trail = labels.trail }) near far labels done conflict empty space
new_kept bools space assumed arena near far labels done conflict empty within ea ec en ef el ed ek ee =
    subst (λ (x : Marks). IsKept (record { bools = bools; clauses = arena; assumed = x; trail = labels.trail }) near far labels done conflict empty space) (sym ea)
    (subst (λ (x : Slots). IsKept (record { bools = bools; clauses = x; assumed = nothing bools; trail = labels.trail }) near far labels done conflict empty space) (sym ec)
    (subst (λ (x : Rows). IsKept (record { bools = bools; clauses = []; assumed = nothing bools; trail = labels.trail }) x far labels done conflict empty space) (sym en)
    (subst (λ (x : Rows). IsKept (record { bools = bools; clauses = []; assumed = nothing bools; trail = labels.trail }) (blank_rows bools) x labels done conflict empty space) (sym ef)
    (subst (λ (x : Labelled). IsKept (record { bools = bools; clauses = []; assumed = nothing bools; trail = x.trail }) (blank_rows bools) (blank_rows bools) x done conflict empty space) (sym el)
    (subst (λ (x : ℕ). IsKept (record { bools = bools; clauses = []; assumed = nothing bools; trail = [] }) (blank_rows bools) (blank_rows bools) (blank_labels bools) x conflict empty space) (sym ed)
    (subst (λ (x : Option ClauseId). IsKept (record { bools = bools; clauses = []; assumed = nothing bools; trail = [] }) (blank_rows bools) (blank_rows bools) (blank_labels bools) 0 x empty space) (sym ek)
    (subst (λ (x : Option ClauseId). IsKept (record { bools = bools; clauses = []; assumed = nothing bools; trail = [] }) (blank_rows bools) (blank_rows bools) (blank_labels bools) 0 None x space) (sym ee) blank)))))))
  where
    blank : IsKept (record { bools = bools; clauses = []; assumed = nothing bools; trail = [] }) (blank_rows bools) (blank_rows bools) (blank_labels bools) 0 None None space
    blank =
        record {
          assumed = length-replicate {A = Option Bool} bools None;
          trail = refl;
          network =
              record {
                clauses = λ id c at. absurd (cc at);
                near_rows = blank_threaded bools;
                far_rows = blank_threaded bools;
                are_labels =
                    record {
                      marks = length-replicate {A = Option Bool} bools None;
                      supports = length-replicate {A = Reason} bools Assumed;
                      agrees =
                          record {
                            same = λ l. is_marked-nothing bools l;
                            once = refl;
                            room = omega (arith, all_none bools, length-replicate {A = Option Bool} bools None);
                            backed = λ k h. absurd (Contains-nil k h);
                          };
                    };
              };
          looked =
              record {
                place = omega arith;
                watching =
                    record {
                      near_side = record { guarded = λ id c m at h. absurd (cc at) };
                      far_side = record { guarded = λ id c m at h. absurd (cc at) };
                      settled = record { settled = λ id c m at h e f. absurd (cc at) };
                    };
              };
          stops = refl;
          tells_empty = record { never = λ id at. cc at };
          derivation = start;
          assumptions = record { marked = λ l e. absurd (cc (is_marked-nothing bools l, e)) };
          room = within;
        }
