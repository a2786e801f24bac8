-- A line that may come at a place, in the words of the tables.
use Rattle.std.proofs.Common.{◌≡◌, ℕ, ◌+◌, ◌≤◌, Bool, true, false, not, nat_le, nat_lt, nat_eq, ◌||◌, [], ◌∷◌, length, Option, Some, None, if◌then◌else◌, refl, ap, subst, ◌∙◌, arith}
use Rattle.std.specs.Cmp.Lexicographic.{pointwise}
use Rattle.std.proofs.lemmas.Bool.{le-leb, leb-true}
use Rattle.std.specs.Option.{option_map_or}
use Rattle.lv_cert.specs.declared.line.Question.{Question}
use Rattle.lv_cert.specs.declared.line.Question.TheVariants as question
use Rattle.lv_cert.specs.declared.line.Moment.TheVariants as moment
use Rattle.lv_cert.specs.declared.line.Line.{Line}
use Rattle.lv_cert.specs.declared.line.Line.TheVariants as line
use Rattle.lv_cert.specs.declared.line.Head.TheVariants as head
use Rattle.lv_cert.specs.declared.order.Listing.{Listing}
use Rattle.lv_cert.specs.declared.order.Task.{Task}
use Rattle.lv_cert.specs.declared.order.Stage.{Stage}
use Rattle.lv_cert.specs.declared.order.Witness.{Witness}
use Rattle.lv_cert.specs.declared.order.Witness.TheVariants as witness
use Rattle.lv_cert.specs.declared.order.Place.{Place}
use Rattle.lv_cert.specs.declared.order.Place.TheVariants as place
use Rattle.lv_cert.specs.Order.{has_pairs, splits, after_splits, after_blocks, after_first_clause, after_clauses, after_start, after_named, after_asked, after_states, after_listing, after_facts, after_known_facts, after_known, after_goals, after_good, after_proof, after_refuted, after_stage, after_refuting, after_now, after_witness, after_next, place_after}
use Rattle.lv_cert_laws.specs.Tables.{is_start, is_end, is_now, is_next, is_clause, is_values, is_shown, row_of, is_single, is_from, row_behind, may_follow}

-- the first row that may come at a place

abbrev pub row_of_witness : Witness → ℕ
row_of_witness (witness.OfListed l) = 7
row_of_witness (witness.OfGood s) = 8
row_of_witness witness.OfCounter = 9

abbrev pub row_at : Place → ℕ
row_at place.Start = 0
row_at (place.Named q) = 1
row_at place.Asked = 2
row_at (place.States k n) = 3
row_at (place.Facts k n) = 5
row_at (place.Listings l) = 7
row_at (place.Known n) = 3
row_at (place.KnownFacts s n) = 5
row_at (place.Goals t) = 6
row_at (place.Good s) = 8
row_at (place.Proof s) = 8
row_at (place.Refuted s) = 8
row_at (place.Refuting s) = 8
row_at (place.Now w) = row_of_witness w
row_at (place.Next w) = row_of_witness w
row_at (place.Clauses q) = 9
row_at (place.MoreClauses q) = 9
row_at (place.Blocks q) = 9
row_at (place.Splits q) = 10
row_at place.Done = 12

-- what may stand right behind the line that led to a place
abbrev pub due : Place → Line → Bool
due (place.Now w) m = is_now m
due (place.Next w) m = is_next m
due (place.Refuted s) m = is_clause m
due (place.Clauses q) m = is_clause m
due (place.Refuting s) m = not (is_values m)
due (place.MoreClauses q) m = not (is_values m)
due _ m = not (is_shown m)

abbrev pub ends_at : Place → Bool
ends_at place.Done = true
ends_at _ = false

-- a line that leads to a place, from this row on
pub record Leads (row : ℕ) (l : Line) (q : Place) : Type 0 where
  pub from : is_from row (row_of l) ≡ true
  pub behind : nat_le (row_behind row (is_single l) (row_of l)) (row_at q) ≡ true
  pub follows : (m : Line) → may_follow l m ≡ due q m
  pub ends : is_end l ≡ ends_at q

-- the same of one that shows nothing
pub record Opens (row : ℕ) (l : Line) (q : Place) : Type 0 where
  pub leads : Leads row l q
  pub plain : is_shown l ≡ false

-- and from a place
pub record Comes (p : Place) (l : Line) (q : Place) : Type 0 where
  pub leads : Leads (row_at p) l q
  pub due_is : due p l ≡ true

-- earlier rows

pub le_true : (a b : ℕ) → a ≤ b → nat_le a b ≡ true
le_true a b h = le-leb a b h

pub true_le : (a b : ℕ) → nat_le a b ≡ true → a ≤ b
true_le a b h = leb-true a b h

earlier_from : (row later : ℕ) (at : Option ℕ) → row ≤ later → is_from later at ≡ true → is_from row at ≡ true
earlier_from row later None h e = refl
earlier_from row later (Some at) h e = let there : later ≤ at = true_le later at e in le_true row at (omega arith)

earlier_behind : (row later most : ℕ) (single : Bool) (at : Option ℕ) → row ≤ later → nat_le (row_behind later single at) most ≡ true → nat_le (row_behind row single at) most ≡ true
earlier_behind row later most single None h e = let there : later ≤ most = true_le later most e in le_true row most (omega arith)
earlier_behind row later most true (Some at) h e = e
earlier_behind row later most false (Some at) h e = e

pub leads_earlier : (row later : ℕ) (l : Line) (q : Place) → row ≤ later → Leads later l q → Leads row l q
leads_earlier row later l q h leads =
    record {
      from = earlier_from row later (row_of l) h leads.from;
      behind = earlier_behind row later (row_at q) (is_single l) (row_of l) h leads.behind;
      follows = leads.follows;
      ends = leads.ends;
    }

opens_earlier : (row later : ℕ) (l : Line) (q : Place) → row ≤ later → Opens later l q → Opens row l q
opens_earlier row later l q h opens = record { leads = leads_earlier row later l q h opens.leads; plain = opens.plain }

-- what shows nothing may stand where something that shows need not

not_values : (l : Line) → is_shown l ≡ false → not (is_values l) ≡ true
not_values l plain = by (is_values l) (is_clause l) plain
  where
    by : (v c : Bool) → (v || c) ≡ false → not v ≡ true
    by true c e = absurd (cc e)
    by false c e = refl

not_shown : (l : Line) → is_shown l ≡ false → not (is_shown l) ≡ true
not_shown l plain = ap not plain

-- what comes of a choice

some_is : (x q : Place) → Some x ≡ Some q → x ≡ q
some_is x q e = ap (λ o. option_map_or (λ z. z) o x) e

chosen : (b : Bool) (x q : Place) → (if b then Some x else None) ≡ Some q → x ≡ q
chosen true x q e = some_is x q e
chosen false x q e = absurd (cc e)

taken : (b : Bool) (o : Option Place) (q : Place) → (if b then o else None) ≡ Some q → o ≡ Some q
taken true o q e = e
taken false o q e = absurd (cc e)

to : (row : ℕ) (l : Line) (x q : Place) → x ≡ q → Opens row l x → Opens row l q
to row l x q e opens = subst (Opens row l) e opens

come : (p : Place) (l : Line) (x q : Place) → x ≡ q → Comes p l x → Comes p l q
come p l x q e comes = subst (Comes p l) e comes

-- splits, and the end
opens_splits : (question : Question) (l : Line) (q : Place) → after_splits question l ≡ Some q → Opens 10 l q
opens_splits question (line.Split zone evidence) q e =
    to 10 (line.Split zone evidence) (place.Splits question) q (chosen (splits question evidence) (place.Splits question) q e)
    (record { leads = record { from = refl; behind = refl; follows = λ m. refl; ends = refl }; plain = refl })
opens_splits question line.End q e =
    to 10 line.End place.Done q (some_is place.Done q e) (record { leads = record { from = refl; behind = refl; follows = λ m. refl; ends = refl }; plain = refl })
opens_splits question _ q e = absurd (cc e)

-- conflicts and counterexamples before them
opens_blocks : (question : Question) (l : Line) (q : Place) → after_blocks question l ≡ Some q → Opens 9 l q
opens_blocks question (line.Numbers head.Conflict ns) q e =
    to 9 (line.Numbers head.Conflict ns) (place.Clauses question) q (chosen (has_pairs question (length ns)) (place.Clauses question) q e)
    (record { leads = record { from = refl; behind = refl; follows = λ m. refl; ends = refl }; plain = refl })
opens_blocks question.Diagnosis (line.Numbers head.Counter ns) q e = absurd (cc e)
opens_blocks question.Recovery (line.Numbers head.Counter ns) q e =
    to 9 (line.Numbers head.Counter ns) (place.Now witness.OfCounter) q (some_is (place.Now witness.OfCounter) q e)
    (record { leads = record { from = refl; behind = refl; follows = λ m. refl; ends = refl }; plain = refl })
opens_blocks question (line.Split zone evidence) q e = opens_earlier 9 10 (line.Split zone evidence) q (omega arith) (opens_splits question (line.Split zone evidence) q e)
opens_blocks question line.End q e = opens_earlier 9 10 line.End q (omega arith) (opens_splits question line.End q e)
opens_blocks question _ q e = absurd (cc e)

-- what is listed before them
opens_listing : (l : Listing) (m : Line) (q : Place) → after_listing l m ≡ Some q → Opens 7 m q
opens_listing l (line.Numbers head.Listed ns) q e =
    to 7 (line.Numbers head.Listed ns) (place.Now (witness.OfListed (record { most = l.most; listed = l.listed + 1 }))) q
    (chosen (nat_lt l.listed l.most) (place.Now (witness.OfListed (record { most = l.most; listed = l.listed + 1 }))) q e)
    (record { leads = record { from = refl; behind = refl; follows = λ m. refl; ends = refl }; plain = refl })
opens_listing l (line.Numbers head.Conflict ns) q e = opens_earlier 7 9 (line.Numbers head.Conflict ns) q (omega arith) (opens_blocks question.Diagnosis (line.Numbers head.Conflict ns) q e)
opens_listing l (line.Split zone evidence) q e = opens_earlier 7 9 (line.Split zone evidence) q (omega arith) (opens_blocks question.Diagnosis (line.Split zone evidence) q e)
opens_listing l line.End q e = opens_earlier 7 9 line.End q (omega arith) (opens_blocks question.Diagnosis line.End q e)
opens_listing l _ q e = absurd (cc e)

opens_facts : (k n : ℕ) (l : Line) (q : Place) → after_facts k n l ≡ Some q → Opens 5 l q
opens_facts k n (line.Fact m x v) q e =
    to 5 (line.Fact m x v) (place.Facts k (n + 1)) q (chosen (nat_lt n 1024) (place.Facts k (n + 1)) q e)
    (record { leads = record { from = refl; behind = refl; follows = λ m. refl; ends = refl }; plain = refl })
opens_facts k n (line.Numbers h ns) q e = opens_earlier 5 7 (line.Numbers h ns) q (omega arith) (opens_listing (record { most = k; listed = 0 }) (line.Numbers h ns) q e)
opens_facts k n (line.Split zone evidence) q e = opens_earlier 5 7 (line.Split zone evidence) q (omega arith) (opens_listing (record { most = k; listed = 0 }) (line.Split zone evidence) q e)
opens_facts k n line.End q e = opens_earlier 5 7 line.End q (omega arith) (opens_listing (record { most = k; listed = 0 }) line.End q e)
opens_facts k n _ q e = absurd (cc e)

opens_states : (k n : ℕ) (l : Line) (q : Place) → after_states k n l ≡ Some q → Opens 3 l q
opens_states k n (line.Numbers head.State ns) q e =
    to 3 (line.Numbers head.State ns) (place.States k (n + 1)) q (chosen (nat_lt n 64) (place.States k (n + 1)) q e)
    (record { leads = record { from = refl; behind = refl; follows = λ m. refl; ends = refl }; plain = refl })
opens_states k n (line.Numbers head.Control ns) q e =
    to 3 (line.Numbers head.Control ns) (place.Facts k 0) q (chosen (nat_lt 0 n) (place.Facts k 0) q e)
    (record { leads = record { from = refl; behind = refl; follows = λ m. refl; ends = refl }; plain = refl })
opens_states k n _ q e = absurd (cc e)

opens_known_facts : (s n : ℕ) (l : Line) (q : Place) → after_known_facts s n l ≡ Some q → Opens 5 l q
opens_known_facts s n (line.Fact moment.Now x v) q e =
    to 5 (line.Fact moment.Now x v) (place.KnownFacts s (n + 1)) q (chosen (nat_lt n 1024) (place.KnownFacts s (n + 1)) q e)
    (record { leads = record { from = refl; behind = refl; follows = λ m. refl; ends = refl }; plain = refl })
opens_known_facts s n (line.Goal text) q e =
    to 5 (line.Goal text) (place.Goals (record { states = s; goals = 1 })) q (some_is (place.Goals (record { states = s; goals = 1 })) q e)
    (record { leads = record { from = refl; behind = refl; follows = λ m. refl; ends = refl }; plain = refl })
opens_known_facts s n _ q e = absurd (cc e)

opens_known : (n : ℕ) (l : Line) (q : Place) → after_known n l ≡ Some q → Opens 3 l q
opens_known n (line.Numbers head.State ns) q e =
    to 3 (line.Numbers head.State ns) (place.Known (n + 1)) q (chosen (nat_lt n 64) (place.Known (n + 1)) q e)
    (record { leads = record { from = refl; behind = refl; follows = λ m. refl; ends = refl }; plain = refl })
opens_known n l q e = opens_earlier 3 5 l q (omega arith) (opens_known_facts n 0 l q (taken (nat_lt 0 n) (after_known_facts n 0 l) q e))

opens_good : (s : Stage) (l : Line) (q : Place) → after_good s l ≡ Some q → Opens 8 l q
opens_good s (line.Numbers head.Good ns) q e =
    to 8 (line.Numbers head.Good ns) (place.Now (witness.OfGood s)) q (chosen (pointwise nat_eq ns (s.state ∷ [])) (place.Now (witness.OfGood s)) q e)
    (record { leads = record { from = refl; behind = refl; follows = λ m. refl; ends = refl }; plain = refl })
opens_good s _ q e = absurd (cc e)

opens_proof : (s : Stage) (l : Line) (q : Place) → after_proof s l ≡ Some q → Opens 8 l q
opens_proof s (line.Numbers head.Proof ns) q e =
    to 8 (line.Numbers head.Proof ns) (place.Refuted s) q (chosen (pointwise nat_eq ns (s.state ∷ s.goal ∷ [])) (place.Refuted s) q e)
    (record { leads = record { from = refl; behind = refl; follows = λ m. refl; ends = refl }; plain = refl })
opens_proof s _ q e = absurd (cc e)

opens_goals : (t : Task) (l : Line) (q : Place) → after_goals t l ≡ Some q → Opens 6 l q
opens_goals t (line.Goal text) q e =
    to 6 (line.Goal text) (place.Goals (record { states = t.states; goals = t.goals + 1 })) q (chosen (nat_lt t.goals 64) (place.Goals (record { states = t.states; goals = t.goals + 1 })) q e)
    (record { leads = record { from = refl; behind = refl; follows = λ m. refl; ends = refl }; plain = refl })
opens_goals t (line.Numbers head.Recovery ns) q e =
    to 6 (line.Numbers head.Recovery ns) (place.Good (record { task = t; state = 1; goal = 1 })) q (some_is (place.Good (record { task = t; state = 1; goal = 1 })) q e)
    (record { leads = record { from = refl; behind = refl; follows = λ m. refl; ends = refl }; plain = refl })
opens_goals t l q e = opens_earlier 6 9 l q (omega arith) (opens_blocks question.Recovery l q e)

opens_stage : (s : Stage) (l : Line) (q : Place) → after_stage s l ≡ Some q → Opens 8 l q
opens_stage s l q e = by (nat_lt s.goal s.task.goals) (nat_lt s.state s.task.states) e
  where
    by : (more_goals more_states : Bool)
        → (if more_goals then after_proof (record { task = s.task; state = s.state; goal = s.goal + 1 }) l
        else if more_states then after_good (record { task = s.task; state = s.state + 1; goal = 1 }) l
        else after_blocks question.Recovery l) ≡ Some q
        → Opens 8 l q
    by true more_states h = opens_proof (record { task = s.task; state = s.state; goal = s.goal + 1 }) l q h
    by false true h = opens_good (record { task = s.task; state = s.state + 1; goal = 1 }) l q h
    by false false h = opens_earlier 8 9 l q (omega arith) (opens_blocks question.Recovery l q h)

-- a line that may come at a place

plainly : (p : Place) (l : Line) (q : Place) → due p l ≡ not (is_shown l) → Opens (row_at p) l q → Comes p l q
plainly p l q is opens = record { leads = opens.leads; due_is = is ∙ not_shown l opens.plain }

behind_clauses : (p : Place) (l : Line) (q : Place) → due p l ≡ not (is_values l) → Opens (row_at p) l q → Comes p l q
behind_clauses p l q is opens = record { leads = opens.leads; due_is = is ∙ not_values l opens.plain }

comes_start : (l : Line) (q : Place) → after_start l ≡ Some q → Comes place.Start l q
comes_start (line.Certificate question) q e =
    come place.Start (line.Certificate question) (place.Named question) q (some_is (place.Named question) q e)
    (record { leads = record { from = refl; behind = refl; follows = λ m. refl; ends = refl }; due_is = refl })
comes_start _ q e = absurd (cc e)

comes_named : (question : Question) (l : Line) (q : Place) → after_named question l ≡ Some q → Comes (place.Named question) l q
comes_named question.Diagnosis (line.Model name) q e =
    come (place.Named question.Diagnosis) (line.Model name) place.Asked q (some_is place.Asked q e)
    (record { leads = record { from = refl; behind = refl; follows = λ m. refl; ends = refl }; due_is = refl })
comes_named question.Recovery (line.Model name) q e =
    come (place.Named question.Recovery) (line.Model name) (place.Known 0) q (some_is (place.Known 0) q e)
    (record { leads = record { from = refl; behind = refl; follows = λ m. refl; ends = refl }; due_is = refl })
comes_named question _ q e = absurd (cc e)

comes_asked : (l : Line) (q : Place) → after_asked l ≡ Some q → Comes place.Asked l q
comes_asked (line.Numbers head.Limit (k ∷ [])) q e =
    come place.Asked (line.Numbers head.Limit (k ∷ [])) (place.States k 0) q (some_is (place.States k 0) q e)
    (record { leads = record { from = refl; behind = refl; follows = λ m. refl; ends = refl }; due_is = refl })
comes_asked (line.Distinct k) q e =
    come place.Asked (line.Distinct k) (place.States k 0) q (some_is (place.States k 0) q e)
    (record { leads = record { from = refl; behind = refl; follows = λ m. refl; ends = refl }; due_is = refl })
comes_asked _ q e = absurd (cc e)

comes_now : (w : Witness) (l : Line) (q : Place) → after_now w l ≡ Some q → Comes (place.Now w) l q
comes_now w (line.Numbers head.Now ns) q e =
    come (place.Now w) (line.Numbers head.Now ns) (place.Next w) q (some_is (place.Next w) q e)
    (record { leads = record { from = refl; behind = le_true (row_of_witness w) (row_of_witness w) (omega arith); follows = λ m. refl; ends = refl }; due_is = refl })
comes_now w _ q e = absurd (cc e)

comes_next : (w : Witness) (l : Line) (q : Place) → after_next w l ≡ Some q → Comes (place.Next w) l q
comes_next w (line.Numbers head.Next ns) q e = come (place.Next w) (line.Numbers head.Next ns) (after_witness w) q (some_is (after_witness w) q e) (by w)
  where
    by : (v : Witness) → Comes (place.Next v) (line.Numbers head.Next ns) (after_witness v)
    by (witness.OfListed listing) = record { leads = record { from = refl; behind = refl; follows = λ m. refl; ends = refl }; due_is = refl }
    by (witness.OfGood stage) = record { leads = record { from = refl; behind = refl; follows = λ m. refl; ends = refl }; due_is = refl }
    by witness.OfCounter = record { leads = record { from = refl; behind = refl; follows = λ m. refl; ends = refl }; due_is = refl }
comes_next w _ q e = absurd (cc e)

comes_first_clause : (question : Question) (l : Line) (q : Place) → after_first_clause question l ≡ Some q → Comes (place.Clauses question) l q
comes_first_clause question (line.Clause literals hints) q e =
    come (place.Clauses question) (line.Clause literals hints) (place.MoreClauses question) q (some_is (place.MoreClauses question) q e)
    (record { leads = record { from = refl; behind = refl; follows = λ m. refl; ends = refl }; due_is = refl })
comes_first_clause question _ q e = absurd (cc e)

comes_clauses : (question : Question) (l : Line) (q : Place) → after_clauses question l ≡ Some q → Comes (place.MoreClauses question) l q
comes_clauses question (line.Clause literals hints) q e =
    come (place.MoreClauses question) (line.Clause literals hints) (place.MoreClauses question) q (some_is (place.MoreClauses question) q e)
    (record { leads = record { from = refl; behind = refl; follows = λ m. refl; ends = refl }; due_is = refl })
comes_clauses question l q e = behind_clauses (place.MoreClauses question) l q refl (opens_blocks question l q e)

comes_refuted : (s : Stage) (l : Line) (q : Place) → after_refuted s l ≡ Some q → Comes (place.Refuted s) l q
comes_refuted s (line.Clause literals hints) q e =
    come (place.Refuted s) (line.Clause literals hints) (place.Refuting s) q (some_is (place.Refuting s) q e)
    (record { leads = record { from = refl; behind = refl; follows = λ m. refl; ends = refl }; due_is = refl })
comes_refuted s _ q e = absurd (cc e)

comes_refuting : (s : Stage) (l : Line) (q : Place) → after_refuting s l ≡ Some q → Comes (place.Refuting s) l q
comes_refuting s (line.Clause literals hints) q e =
    come (place.Refuting s) (line.Clause literals hints) (place.Refuting s) q (some_is (place.Refuting s) q e)
    (record { leads = record { from = refl; behind = refl; follows = λ m. refl; ends = refl }; due_is = refl })
comes_refuting s l q e = behind_clauses (place.Refuting s) l q refl (opens_stage s l q e)

pub comes : (p : Place) (l : Line) (q : Place) → place_after p l ≡ Some q → Comes p l q
comes place.Start l q e = comes_start l q e
comes (place.Named question) l q e = comes_named question l q e
comes place.Asked l q e = comes_asked l q e
comes (place.States k n) l q e = plainly (place.States k n) l q refl (opens_states k n l q e)
comes (place.Facts k n) l q e = plainly (place.Facts k n) l q refl (opens_facts k n l q e)
comes (place.Listings listing) l q e = plainly (place.Listings listing) l q refl (opens_listing listing l q e)
comes (place.Known n) l q e = plainly (place.Known n) l q refl (opens_known n l q e)
comes (place.KnownFacts s n) l q e = plainly (place.KnownFacts s n) l q refl (opens_known_facts s n l q e)
comes (place.Goals t) l q e = plainly (place.Goals t) l q refl (opens_goals t l q e)
comes (place.Good s) l q e = plainly (place.Good s) l q refl (opens_good s l q e)
comes (place.Proof s) l q e = plainly (place.Proof s) l q refl (opens_proof s l q e)
comes (place.Refuted s) l q e = comes_refuted s l q e
comes (place.Refuting s) l q e = comes_refuting s l q e
comes (place.Now w) l q e = comes_now w l q e
comes (place.Next w) l q e = comes_next w l q e
comes (place.Clauses question) l q e = comes_first_clause question l q e
comes (place.MoreClauses question) l q e = comes_clauses question l q e
comes (place.Blocks question) l q e = plainly (place.Blocks question) l q refl (opens_blocks question l q e)
comes (place.Splits question) l q e = plainly (place.Splits question) l q refl (opens_splits question l q e)
comes place.Done l q e = absurd (cc e)

-- the first line
pub begins : (l : Line) (q : Place) → place_after place.Start l ≡ Some q → is_start l ≡ true
begins (line.Certificate question) q e = refl
begins _ q e = absurd (cc e)
