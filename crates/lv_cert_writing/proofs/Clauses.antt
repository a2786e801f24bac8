-- The clause lines of a block: each is good where it follows from the clauses before it.
use Rattle.std.proofs.Common.{◌≡◌, ℕ, zero, suc, ◌+◌, ◌-◌, ◌^◌, ◌<◌, ◌≤◌, Bool, true, false, nat_eq, nat_lt, nat_le, List, [], ◌∷◌, ◌++◌, length, map, slice_get, Option, Some, None, cond, refl, sym, subst, ◌∙◌, ap, arith}
use Rattle.std.specs.List.{list_all}
use Rattle.std.specs.Option.{option_and_then}
use Rattle.std.proofs.lemmas.Bool.{and_parts, and_from, lt-ltb, leb-true}
use Rattle.std.proofs.lemmas.Bool.Decides.{nat_tests}
use Rattle.std.proofs.lemmas.List.{append_assoc, append-nil, length-append}
use Rattle.lv_base.specs.declared.ids.Lit.{Lit}
use Rattle.lv_clauses.specs.declared.marks.Finding.{Finding}
use Rattle.lv_clauses.specs.declared.marks.Finding.TheVariants.{AllFalse, Unit, Open}
use Rattle.lv_clauses.specs.Marks.{Marks, look_at, marked, nothing}
use Rattle.lv_clauses.specs.Literals.{distinct}
use Rattle.lv_clauses.specs.Following.{goes_on, goes_on_from, denied}
use Rattle.lv_model.specs.declared.plant.Plant.{Plant}
use Rattle.lv_system.specs.lv_compile.Booleans.{bool_count}
use Rattle.lv_system.specs.lv_compile.FormulaClauses.{Clauses}
use Rattle.lv_system.specs.lv_compile.ModelClauses.{model_clauses}
use Rattle.lv_cert.specs.declared.line.Question.{Question}
use Rattle.lv_cert.specs.declared.line.Literal.{Literal}
use Rattle.lv_cert.specs.declared.line.Line.{Line}
use Rattle.lv_cert.specs.declared.line.Line.TheVariants as line
use Rattle.lv_cert.specs.declared.order.Place.{Place}
use Rattle.lv_cert.specs.declared.order.Place.TheVariants.{Done}
use Rattle.lv_cert.specs.Order.{place_after, place_behind}
use Rattle.lv_cert.specs.Form.{is_formed, is_formed_literal, is_formed_hint, is_within_limit}
use Rattle.lv_cert_meaning.specs.Following.{names_boolean, literal_of, numbered, is_last, ends_well, follows}
use Rattle.lv_cert_meaning.specs.Deriving.{Derived, clause_of_line, derives, ends_empty as lines_end_empty}
use Rattle.lv_cert_meaning.specs.Judging.{Judged, ends_empty_after}
use Rattle.lv_cert_writing.specs.Lines.{clause_line, clause_lines}
use Rattle.lv_cert_writing.specs.Ending.{Ends, BeginApart}
use Rattle.lv_cert_writing.proofs.Ending.{line_first}
use Rattle.lv_cert_writing.proofs.Numbers.{within}

-- a hint that has a clause is one of so many numbers
numbered_within : (clauses : List (List Lit)) (h : ℕ) (c : List Lit) → numbered clauses h ≡ Some c → (0 < h) × (h ≤ length clauses)
numbered_within clauses h c e = by (nat_eq h 0) refl e
  where
    got : (cs : List (List Lit)) (k : ℕ) → slice_get cs k ≡ Some c → k < length cs
    got [] k is = absurd (cc is)
    got (x ∷ xs) zero is = omega arith
    got (x ∷ xs) (suc k) is = let rest = got xs k is in omega (arith, rest)

    by : (b : Bool) → nat_eq h 0 ≡ b → cond b None (slice_get clauses (h - 1)) ≡ Some c → (0 < h) × (h ≤ length clauses)
    by true is at = absurd (cc at)
    by false is at =
        let some : 0 < h = grind (arith, nat_tests, is) in
        let inside = got clauses (h - 1) at in
        (some, omega (arith, some, inside))

-- numbers of lists that aren't too long are within the limit
module _ (clauses : List (List Lit)) (few : length clauses ≤ 10 ^ 30) where
  hints_formed : (hs : List ℕ) (marks : Marks) → ends_well clauses hs marks ≡ true → list_all is_formed_hint hs ≡ true
  hints_formed [] marks well = refl
  hints_formed (h ∷ hs) marks well = by (λ l. hints_formed hs (marked marks l)) (numbered clauses h) refl well
    where
      formed : (c : List Lit) → numbered clauses h ≡ Some c → is_formed_hint h ≡ true
      formed c is =
          let two = numbered_within clauses h c is in
          and_from (is_within_limit h) (nat_lt 0 h) (within h (length clauses) two.1 few) (lt-ltb 0 h two.0)

      last : (gs : List ℕ) → is_last gs ≡ true → list_all is_formed_hint gs ≡ true
      last [] e = refl
      last (g ∷ gs) e = absurd (cc e)

      found : ((l : Lit) → ends_well clauses hs (marked marks l) ≡ true → list_all is_formed_hint hs ≡ true) → (c : List Lit) → numbered clauses h ≡ Some c → (f : Finding) → goes_on marks (is_last hs) (ends_well clauses hs) f ≡ true → list_all is_formed_hint (h ∷ hs) ≡ true
      found rest c is AllFalse e = and_from (is_formed_hint h) (list_all is_formed_hint hs) (formed c is) (last hs e)
      found rest c is (Unit l) e = and_from (is_formed_hint h) (list_all is_formed_hint hs) (formed c is) (rest l e)
      found rest c is Open e = absurd (cc e)

      by : ((l : Lit) → ends_well clauses hs (marked marks l) ≡ true → list_all is_formed_hint hs ≡ true) → (o : Option (List Lit)) → numbered clauses h ≡ o → goes_on_from marks (is_last hs) (ends_well clauses hs) o ≡ true → list_all is_formed_hint (h ∷ hs) ≡ true
      by rest None is e = absurd (cc e)
      by rest (Some c) is e = found rest c is (look_at marks c) e

literals_formed : (bools : ℕ) (ls : List Literal) → bools ≤ 10 ^ 30 → list_all (names_boolean bools) ls ≡ true → list_all is_formed_literal ls ≡ true
literals_formed bools [] few h = refl
literals_formed bools (l ∷ ls) few h =
    let two = and_parts (names_boolean bools l) (list_all (names_boolean bools) ls) h in
    let own = and_parts (nat_lt 0 l.number) (nat_le l.number bools) two.0 in
    let most : l.number ≤ bools = leb-true l.number bools own.1 in
    and_from (is_formed_literal l) (list_all is_formed_literal ls)
    (and_from (is_within_limit l.number) (nat_lt 0 l.number) (within l.number bools most few) own.0) (literals_formed bools ls few two.1)

clause_formed : (bools : ℕ) (clauses : List (List Lit)) (d : Derived) → bools ≤ 10 ^ 30 → length clauses ≤ 10 ^ 30 → follows bools clauses d.literals d.hints ≡ true → is_formed (clause_line d) ≡ true
clause_formed bools clauses d few_bools few h =
    let two = and_parts (list_all (names_boolean bools) d.literals) _ h in
    let more = and_parts (distinct (map literal_of d.literals)) (ends_well clauses d.hints (denied (nothing bools) (map literal_of d.literals))) two.1 in
    and_from (list_all is_formed_literal d.literals) (list_all is_formed_hint d.hints) (literals_formed bools d.literals few_bools two.0)
    (hints_formed clauses few d.hints (denied (nothing bools) (map literal_of d.literals)) more.1)

-- where a clause may come, and where more may
pub record TakesClauses (first more : Place) : Type 0 where
  pub begins : (ls : List Literal) (hs : List ℕ) → place_after first (line.Clause ls hs) ≡ Some more

-- a block that ends in the empty clause does so in front of what doesn't begin with a clause
pub ends_before : (is_empty : Bool) (ds : List Derived) (rest : List Line) → BeginApart rest → lines_end_empty ds ≡ true → ends_empty_after is_empty (clause_lines ds ++ rest) ≡ true
ends_before is_empty [] rest apart h = absurd (cc h)
ends_before is_empty (d ∷ []) rest apart h = apart.same (nat_eq (length d.literals) 0) ∙ h
ends_before is_empty (d ∷ (e ∷ more)) rest apart h = ends_before (nat_eq (length d.literals) 0) (e ∷ more) rest apart h

-- what stands in the block behind these lines
abbrev pub with_own : Judged → List Derived → Judged
with_own j ds = record j { own = j.own ++ map clause_of_line ds }

module _ (question : Question) (plant : Plant) (few_bools : bool_count plant ≤ 10 ^ 30) (final : Judged) (rest : List Line) where
  pub clauses_first : (more : Place) → TakesClauses more more → (ds : List Derived) (j : Judged) → length (model_clauses plant ++ j.own) + length ds ≤ 10 ^ 30
      → derives (bool_count plant) (model_clauses plant ++ j.own) ds ≡ true → Ends question plant more (with_own j ds) rest final → Ends question plant more j (clause_lines ds ++ rest) final
  clauses_first more takes [] j few good ends = subst (λ (own : Clauses). Ends question plant more (record j { own = own }) rest final) (append-nil j.own) ends
  clauses_first more takes (d ∷ ds) j few good ends =
      let two = and_parts (follows (bool_count plant) (model_clauses plant ++ j.own) d.literals d.hints) (derives (bool_count plant) ((model_clauses plant ++ j.own) ++ clause_of_line d ∷ []) ds) good in
      let next : Judged = record j { own = j.own ++ clause_of_line d ∷ [] } in
      let same : (model_clauses plant ++ j.own) ++ clause_of_line d ∷ [] ≡ model_clauses plant ++ (j.own ++ clause_of_line d ∷ []) = append_assoc (model_clauses plant) j.own (clause_of_line d ∷ []) in
      let long = length-append (model_clauses plant ++ j.own) (clause_of_line d ∷ []) in
      let one : length (clause_of_line d ∷ []) ≡ 1 = refl in
      let room = ap length (sym same) in
      line_first question plant final more more j next (clause_line d) (clause_lines ds ++ rest)
      (ap (λ b. cond b (Some next) None) two.0) (takes.begins d.literals d.hints)
      (λ w. clause_formed (bool_count plant) (model_clauses plant ++ j.own) d few_bools (omega (arith, few)) two.0)
      (clauses_first more takes ds next (omega (arith, few, long, room)) (ap (λ cs. derives (bool_count plant) cs ds) (sym same) ∙ two.1)
      (subst (λ (own : Clauses). Ends question plant more (record j { own = own }) rest final) (sym (append_assoc j.own (clause_of_line d ∷ []) (map clause_of_line ds))) ends))

  -- a block's clauses, of which there is one at least
  pub block_first : (first more : Place) → TakesClauses first more → TakesClauses more more → (ds : List Derived) (j : Judged) → length (model_clauses plant ++ j.own) + length ds ≤ 10 ^ 30
      → derives (bool_count plant) (model_clauses plant ++ j.own) ds ≡ true → lines_end_empty ds ≡ true → Ends question plant more (with_own j ds) rest final
      → Ends question plant first j (clause_lines ds ++ rest) final
  block_first first more begin takes [] j few good some ends = absurd (cc some)
  block_first first more begin takes (d ∷ ds) j few good some ends =
      let all = clauses_first more takes (d ∷ ds) j few good ends in
      record { judged = all.judged; ordered = begin_ordered all.ordered; formed = all.formed }
    where
      begin_ordered : place_behind more (clause_lines (d ∷ ds) ++ rest) ≡ Some Done → place_behind first (clause_lines (d ∷ ds) ++ rest) ≡ Some Done
      begin_ordered h =
          ap (option_and_then (λ next. place_behind next (clause_lines ds ++ rest))) (begin.begins d.literals d.hints ∙ sym (takes.begins d.literals d.hints)) ∙ h
