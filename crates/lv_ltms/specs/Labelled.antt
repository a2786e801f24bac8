-- Labels: a mark or none for each boolean, the support of each label, and the trail of the literals marked.
use Rattle.std.specs.Prelude.{◌≡◌, ℕ, ◌+◌, Bool, true, false, nat_eq, not, ◌&&◌, List, [], ◌∷◌, ◌++◌, length, drop, is_none, Option, Some, None, if◌then◌else◌, count_by, slice_index_or, slice_set, Contains}
use Rattle.std.specs.List.{list_any}
use Rattle.lv_base.specs.declared.ids.Lit.{Lit}
use Rattle.lv_base.specs.declared.ids.ClauseId.{ClauseId}
use Rattle.lv_clauses.specs.Literals.{same_var}
use Rattle.lv_clauses.specs.ClauseMap.{Slots}
use Rattle.lv_clauses.specs.Marks.{Marks, is_marked, marked, is_free}
use Rattle.lv_ltms.specs.declared.labels.Link.{Link}
use Rattle.lv_ltms.specs.declared.labels.Reason.{Reason}
use Rattle.lv_ltms.specs.declared.labels.Reason.TheVariants.{Assumed, Clause}
use Rattle.lv_ltms.specs.Trail.{trail_has, IsDerivation}

-- a mark or none for each boolean, the support of each that is marked, and the trail of the literals marked
pub record Labelled : Type 0 where
  pub marks : Marks
  pub supports : List Reason
  pub trail : List Link

-- the support kept for the literal's boolean
abbrev pub support_at : List Reason → Lit → Reason
support_at supports l = slice_index_or supports l.var.0 Assumed

-- the support kept for the literal's boolean, if that is marked
abbrev pub support_if_marked : Marks → List Reason → Lit → Option Reason
support_if_marked marks supports l = if is_free marks l then None else Some (support_at supports l)

-- a link of the literal's boolean is on the trail
abbrev pub has_boolean : List Link → Lit → Bool
has_boolean trail l = list_any (λ (k : Link). same_var k.lit l) trail

-- no boolean stands twice
abbrev pub is_once : List Link → Bool
is_once [] = true
is_once (k ∷ ks) = not (has_boolean ks k.lit) && is_once ks

-- the clause of this number is the link's reason
abbrev pub is_reason : ClauseId → Reason → Bool
is_reason id Assumed = false
is_reason id (Clause other) = nat_eq other.0 id.0

abbrev pub gives : ClauseId → Link → Bool
gives id link = is_reason id link.reason

-- the literals marked are those on the trail, each boolean once, with the supports kept
pub record Agrees (marks : Marks) (supports : List Reason) (trail : List Link) : Type 0 where
  pub same : (l : Lit) → is_marked marks l ≡ trail_has trail l
  pub once : is_once trail ≡ true
  pub room : length trail + count_by is_none marks ≡ length marks
  pub backed : (k : Link) → Contains trail k → support_at supports k.lit ≡ k.reason

-- labels of so many booleans
pub record AreLabels (bools : ℕ) (labels : Labelled) : Type 0 where
  pub marks : length labels.marks ≡ bools
  pub supports : length labels.supports ≡ bools
  pub agrees : Agrees labels.marks labels.supports labels.trail

-- the labels with one literal more
abbrev pub with_link : Labelled → Link → Labelled
with_link labels link =
    record {
      marks = marked labels.marks link.lit;
      supports = slice_set labels.supports link.lit.var.0 link.reason;
      trail = labels.trail ++ link ∷ [];
    }

-- the labels with the boolean of this literal unmarked
abbrev pub without_mark : Labelled → Lit → Labelled
without_mark labels l = record { marks = slice_set labels.marks l.var.0 None; supports = labels.supports; trail = labels.trail }

-- the new labels have all that the old ones have, in the same order
pub record Grows (old new : Labelled) : Type 0 where
  pub agrees : Agrees new.marks new.supports new.trail
  pub kept : (l : Lit) → is_marked old.marks l ≡ true → is_marked new.marks l ≡ true
  pub front : new.trail ≡ old.trail ++ drop (length old.trail) new.trail
  pub marks : length new.marks ≡ length old.marks
  pub supports : length new.supports ≡ length old.supports

-- the new labels go on from the old ones by clauses present
pub record GoesOn (clauses : Slots) (old new : Labelled) : Type 0 where
  pub grows : Grows old new
  pub derivation : (assumed : Lit → Bool) → IsDerivation clauses assumed old.trail → IsDerivation clauses assumed new.trail
