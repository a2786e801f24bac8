-- Assumptions that come for a while, and what is read off meanwhile.
use Rattle.std.specs.Prelude.{◌≡◌, ◌<◌, ℕ, Bool, true, ◌||◌, List, [], ◌∷◌, ◌++◌, filter, length}
use Rattle.lv_base.specs.declared.ids.Lit.{Lit}
use Rattle.lv_clauses.specs.Literals.{in_range}
use Rattle.lv_clauses.specs.Marks.{Marks, is_marked, is_free, marked}
use Rattle.lv_ltms.specs.declared.labels.Link.{Link}
use Rattle.lv_ltms.specs.Trail.{same_lit, trail_has}
use Rattle.lv_ltms.specs.System.{System, IsRefuted, IsWholeTrail, in_list}
use Rattle.lv_reply.specs.declared.labels.Label.{Label}
use Rattle.lv_reply.specs.declared.labels.Moment.TheVariants.{Now, Next}
use Rattle.lv_labels.specs.declared.values.Values.{Values}
use Rattle.lv_labels.specs.declared.labelling.Labelling.{Labelling}
use Rattle.lv_labels.specs.declared.labelling.Labelling.TheVariants.{Contradiction, Labels}
use Rattle.lv_labels.specs.Values.{literal_at}
use Rattle.lv_labels.specs.Labels.{labels_from}

-- a true literal of one of so many booleans
pub record IsClaim (bools : ℕ) (l : Lit) : Type 0 where
  pub within : l.var.0 < bools
  pub positive : l.sign ≡ true

-- only true literals are assumed, and there is a mark or none for each boolean
pub record AreTrue (s : System) : Type 0 where
  pub positive : (l : Lit) → is_marked s.assumed l ≡ true → l.sign ≡ true
  pub whole : length s.assumed ≡ s.bools

-- the new marks have the literal too
pub record Joins (old : Marks) (l : Lit) (new : Marks) : Type 0 where
  pub marks : (m : Lit) → is_marked new m ≡ (is_marked old m || same_lit l m)

-- the marks are the first ones with these literals, each of which was unmarked when it came, in order
pub data IsOver (base : Marks) : List Lit → Marks → Type 0 where
  none : IsOver base [] base
  more : {added : List Lit} {top : Marks} → (before : List Lit) (below : Marks) (l : Lit) → IsOver base before below → in_range (length below) l ≡ true
      → is_free below l ≡ true → added ≡ before ++ l ∷ [] → top ≡ marked below l → IsOver base added top

-- the marks are some with these literals
pub record IsStacked (added : List Lit) (top : Marks) : Type 0 where
  pub base : Marks
  pub over : IsOver base added top

-- the label's literal is on the trail
abbrev pub is_on_trail : List Link → Values → Label → Bool
is_on_trail trail values x = trail_has trail (literal_at values x.moment x.var.0 x.val.0)

-- the system isn't refuted, and the labels are those that are on its trail, in order
pub record AreRead (s : System) (values : Values) (labels : List Label) : Type 0 where
  pub consistent : ¬ IsRefuted s
  pub whole : IsWholeTrail s
  pub listed : labels ≡ filter (is_on_trail s.trail values) (labels_from Now 0 values.before.sizes ++ labels_from Next 0 values.after.sizes)

abbrev pub IsRead : System → Values → Labelling → Type 0
IsRead s values Contradiction = IsRefuted s
IsRead s values (Labels labels) = AreRead s values labels

-- a system of the same clauses, in which the literals are assumed too
pub record IsUnder (s : System) (lits : List Lit) (t : System) : Type 0 where
  pub clauses : t.clauses ≡ s.clauses
  pub assumed : (m : Lit) → is_marked t.assumed m ≡ (is_marked s.assumed m || in_list lits m)

-- what is read off such a system
pub record IsToldUnder (s : System) (lits : List Lit) (values : Values) (told : Labelling) : Type 0 where
  pub system : System
  pub under : IsUnder s lits system
  pub read : IsRead system values told
