-- The function that tells a line's form tells the one that the line has.
use Rattle.std.proofs.Common.{◌≡◌, ℕ, zero, suc, ◌+◌, ◌*◌, Bool, true, false, ◌&&◌, nat_eq, cond, List, [], ◌∷◌, length, drop, Option, Some, None, option_map, refl, sym, ◌∙◌, ap, subst, arith, codes}
use Rattle.std.specs.Option.{option_and_then, option_map_or}
use Rattle.std.proofs.lemmas.Bool.{and_parts, eqb-true, eq-eqb, false_from_ne_true}
use Rattle.std.specs.Cmp.Lexicographic.{same_text}
use Rattle.lv_base.specs.Names.{is_named}
use Rattle.lv_formula_text.specs.lv_text.declared.lexer.TokenKind.{TokenKind}
use Rattle.lv_formula_text.specs.lv_text.declared.lexer.TokenKind.TheVariants.{Word}
use Rattle.lv_formula_text.specs.lv_text.Lexemes.{Lexeme, says, word_at, is_word}
use Rattle.lv_formula_text.specs.PhraseTree.{PhraseTree}
use Rattle.lv_formula_text.proofs.Complete.{phrase_complete}
use Rattle.lv_formula_text.proofs.Sound.{phrase_sound}
use Rattle.lv_reader.specs.declared.keyword.Keyword.{Keyword}
use Rattle.lv_reader.specs.declared.keyword.Keyword.TheVariants.{ModelWord, DomainWord, TypeWord, ClassWord, ModeWord, LawWord, InWord, StepWord, FaultWord, EndWord, PartWord, PriceWord, VersionWord}
use Rattle.lv_reader.specs.declared.statement.Repair.{Repair}
use Rattle.lv_reader.specs.declared.statement.Statement.{Statement}
use Rattle.lv_reader.specs.declared.statement.Statement.TheVariants.{ModelLine, DomainLine, TypeLine, VariableLine, ModeLine, LawLine, InLine, StepLine, FaultLine, FaultsLine, RepairLine, EndLine, PartLine, PriceLine, VersionLine}
use Rattle.lv_reader.specs.declared.words.NameAndNames.{NameAndNames}
use Rattle.lv_reader.specs.declared.words.TwoNames.{TwoNames}
use Rattle.lv_reader.specs.declared.words.ThreeNames.{ThreeNames}
use Rattle.lv_reader.specs.Words.{is_arrow, is_equals, has_kind_at, only_numeral, only_name, name_and_names, two_names, three_names, one_or_more, both_ends, bare_target, repair_of, priced_names, numeral_at, HasGuard}
use Rattle.lv_reader.specs.Statements.{word_of, HasShape}
use Rattle.lv_reader.proofs.Choices.{told_if, told_then, told_of}
use Rattle.lv_checker.specs.Forms.{formula_at, guard_at, in_form, step_with, step_form, fault_with, fault_from, fault_form, faults_with, faults_to, faults_form, repair_with, repair_behind, repair_from, repair_form, from_one, any_fault, price_with, form_by}

-- the statement begins with the word, and the rest of the line has its form
pub record HasShapeBy (word : Keyword) (line : List Lexeme) (s : Statement) : Type 0 where
  pub word_is : word_of s ≡ word
  pub shape : HasShape line s

-- guards
nothing_said : (line : List Lexeme) (i : ℕ) (text : List ℕ) → length line ≡ i → says text line i ≡ true → ⊥
nothing_said [] i text e h = (cc)
nothing_said (l ∷ ls) zero text e h = absurd (omega arith)
nothing_said (l ∷ ls) (suc i) text e h = nothing_said ls i text (omega arith) h

no_end : (line : List Lexeme) (i : ℕ) (text : List ℕ) → says text line i ≡ true → nat_eq (length line) i ≡ false
no_end line i text said = false_from_ne_true (nat_eq (length line) i) (λ e. nothing_said line i text (eqb-true (length line) i e) said)

guard_sound : (line : List Lexeme) (i : ℕ) (g : Option PhraseTree) → guard_at line i ≡ Some g → HasGuard line i g
guard_sound line i g e = by_end (nat_eq (length line) i) refl e
  where
    by_when : (o : Option PhraseTree) → (b : Bool) → says (codes "when") line i ≡ b → cond b (option_map (λ (f : PhraseTree). Some f) (formula_at line (i + 1))) None ≡ Some g → HasGuard line i g
    by_when o true said e =
        let told = told_of (λ (f : PhraseTree). Some f) (formula_at line (i + 1)) e in
        subst (HasGuard line i) told.2 (said, phrase_sound (drop (i + 1) line) told.0 told.1)
    by_when o false said e = absurd (cc e)

    by_end : (b : Bool) → nat_eq (length line) i ≡ b
        → cond b (Some None) (cond (says (codes "when") line i) (option_map (λ (f : PhraseTree). Some f) (formula_at line (i + 1))) None) ≡ Some g → HasGuard line i g
    by_end true is e =
        let none : None ≡ g = cc e in
        subst (HasGuard line i) none (eqb-true (length line) i is)
    by_end false is e = by_when g (says (codes "when") line i) refl e

guard_complete : (line : List Lexeme) (i : ℕ) (g : Option PhraseTree) → HasGuard line i g → guard_at line i ≡ Some g
guard_complete line i None h = rw (eq-eqb (length line) i h) refl
guard_complete line i (Some f) h = rw (no_end line i (codes "when") h.0, h.0, phrase_complete (drop (i + 1) line) f h.1) refl

-- a word at a place is no arrow there
word_no_arrow : (line : List Lexeme) (i : ℕ) (name : List ℕ) → word_at line i ≡ Some name → has_kind_at is_arrow line i ≡ true → ⊥
word_no_arrow [] zero name e h = (cc)
word_no_arrow [] (suc i) name e h = (cc)
word_no_arrow (l ∷ ls) zero name e h = by l.kind e h
  where
    by : (k : TokenKind) → cond (is_word k) (Some l.text) None ≡ Some name → is_arrow k ≡ true → ⊥
    by Word e h = (cc)
    by k e h = (cc)
word_no_arrow (l ∷ ls) (suc i) name e h = word_no_arrow ls i name e h

no_bare_arrow : (line : List Lexeme) (ends : TwoNames) → both_ends line ≡ Some ends → has_kind_at is_arrow line 1 ≡ false
no_bare_arrow line ends e =
    let both = told_if (has_kind_at is_arrow line 2) (option_and_then (λ a. option_map (λ b. record { first = a; second = b }) (word_at line 3)) (word_at line 1)) e in
    let one = told_then (λ a. option_map (λ b. record { first = a; second = b }) (word_at line 3)) (word_at line 1) both.1 in
    false_from_ne_true (has_kind_at is_arrow line 1) (λ h. word_no_arrow line 1 one.0 one.1 h)

-- where a fault without a repair ends or has its guard, no repair stands
two_words_said : (line : List Lexeme) (i : ℕ) → says (codes "repair") line i ≡ true → says (codes "when") line i ≡ true → ⊥
two_words_said line i h k = by (word_at line i) h k
  where
    by : (o : Option (List ℕ)) → option_map_or (is_named (codes "repair")) o false ≡ true → option_map_or (is_named (codes "when")) o false ≡ true → ⊥
    by (Some word) h k =
        let first : word ≡ codes "repair" = same_text word (codes "repair") (sym h) in
        let other : word ≡ codes "when" = same_text word (codes "when") (sym k) in
        let long : 6 ≡ 4 = ap (λ (ws : List ℕ). length ws) (sym first ∙ other) in
        omega (arith, long)
    by None h k = (cc)

no_repair : (line : List Lexeme) (g : Option PhraseTree) → HasGuard line 6 g → says (codes "repair") line 6 ≡ false
no_repair line None h = false_from_ne_true (says (codes "repair") line 6) (λ said. nothing_said line 6 (codes "repair") h said)
no_repair line (Some f) h = false_from_ne_true (says (codes "repair") line 6) (λ said. two_words_said line 6 said h.0)

repair_said : (line : List Lexeme) (repair : Repair) → repair_of line ≡ Some repair → says (codes "repair") line 6 ≡ true
repair_said line repair e =
    let both = told_if (says (codes "repair") line 6 && has_kind_at is_equals line 8) (option_and_then (λ c. option_map (λ v. record { control = c; value = v }) (word_at line 9)) (word_at line 7)) e in
    (and_parts (says (codes "repair") line 6) (has_kind_at is_equals line 8) both.0).0

arrow_said : (line : List Lexeme) (target : List ℕ) → bare_target line ≡ Some target → has_kind_at is_arrow line 1 ≡ true
arrow_said line target e = (told_if (has_kind_at is_arrow line 1) (word_at line 2) e).0

-- the form that a line has is told
pub complete : (line : List Lexeme) (s : Statement) → HasShape line s → form_by (word_of s) line ≡ Some s
unfolding form_by
complete line (ModelLine name) h = rw h refl
complete line (DomainLine name values) h = rw h refl
complete line (TypeLine name) h = rw h refl
complete line (VariableLine class name domain) h = rw h refl
complete line (ModeLine name) h = rw h refl
complete line (LawLine f) h = rw (phrase_complete (drop 1 line) f h) refl
complete line (InLine modes f) h = rw (h.0, phrase_complete (drop (2 * length modes) line) f h.1) refl
complete line (StepLine source target guard) h = rw (h.0, guard_complete line 4 (Some guard) h.1) refl
complete line (FaultLine source target cost guard) h =
    rw (no_bare_arrow line (record { first = source; second = target }) h.0, no_repair line guard h.3, h.1, h.0, h.2, guard_complete line 6 guard h.3) refl
complete line (FaultsLine target cost guard) h = rw (h.1, h.0, h.2, guard_complete line 5 guard h.3, arrow_said line target h.0) refl
complete line (RepairLine source target cost repair guard) h =
    rw (h.1, h.0, h.2, h.3, guard_complete line 10 guard h.4, no_bare_arrow line (record { first = source; second = target }) h.0, repair_said line repair h.3) refl
complete line EndLine h = rw (eq-eqb (length line) 1 h) refl
complete line (PartLine name kind start) h = rw h refl
complete line (PriceLine part control value cost) h = rw (h.0, h.1) refl
complete line (VersionLine n) h = rw h refl

-- faults
fault_sound : (line : List Lexeme) (s : Statement) → fault_form line ≡ Some s → HasShapeBy FaultWord line s
fault_sound line s e =
    let cost = told_if (says (codes "cost") line 4) (option_and_then (fault_from line) (both_ends line)) e in
    let ends = told_then (fault_from line) (both_ends line) cost.1 in
    let number = told_then (fault_with line ends.0) (numeral_at line 5) ends.2 in
    let guard = told_of (FaultLine ends.0.first ends.0.second number.0) (guard_at line 6) number.2 in
    subst (HasShapeBy FaultWord line) guard.2 (record { word_is = refl; shape = (ends.1, cost.0, number.1, guard_sound line 6 guard.0 guard.1) })

faults_sound : (line : List Lexeme) (s : Statement) → faults_form line ≡ Some s → HasShapeBy FaultWord line s
faults_sound line s e =
    let cost = told_if (says (codes "cost") line 3) (option_and_then (faults_to line) (bare_target line)) e in
    let target = told_then (faults_to line) (bare_target line) cost.1 in
    let number = told_then (faults_with line target.0) (numeral_at line 4) target.2 in
    let guard = told_of (FaultsLine target.0 number.0) (guard_at line 5) number.2 in
    subst (HasShapeBy FaultWord line) guard.2 (record { word_is = refl; shape = (target.1, cost.0, number.1, guard_sound line 5 guard.0 guard.1) })

repair_sound : (line : List Lexeme) (s : Statement) → repair_form line ≡ Some s → HasShapeBy FaultWord line s
repair_sound line s e =
    let cost = told_if (says (codes "cost") line 4) (option_and_then (repair_from line) (both_ends line)) e in
    let ends = told_then (repair_from line) (both_ends line) cost.1 in
    let number = told_then (repair_behind line ends.0) (numeral_at line 5) ends.2 in
    let repair = told_then (repair_with line ends.0 number.0) (repair_of line) number.2 in
    let guard = told_of (RepairLine ends.0.first ends.0.second number.0 repair.0) (guard_at line 10) repair.2 in
    subst (HasShapeBy FaultWord line) guard.2 (record { word_is = refl; shape = (ends.1, cost.0, number.1, repair.1, guard_sound line 10 guard.0 guard.1) })

any_fault_sound : (line : List Lexeme) (s : Statement) → any_fault line ≡ Some s → HasShapeBy FaultWord line s
any_fault_sound line s e = by_arrow (has_kind_at is_arrow line 1) e
  where
    by_repair : (b : Bool) → cond b (repair_form line) (fault_form line) ≡ Some s → HasShapeBy FaultWord line s
    by_repair true e = repair_sound line s e
    by_repair false e = fault_sound line s e

    by_arrow : (b : Bool) → cond b (faults_form line) (from_one line) ≡ Some s → HasShapeBy FaultWord line s
    by_arrow true e = faults_sound line s e
    by_arrow false e = by_repair (says (codes "repair") line 6) e

step_sound : (line : List Lexeme) (s : Statement) (ends : TwoNames) → both_ends line ≡ Some ends → (o : Option (Option PhraseTree)) → guard_at line 4 ≡ o → step_with ends o ≡ Some s → HasShapeBy StepWord line s
step_sound line s ends both (Some (Some guard)) is e =
    let same : StepLine ends.first ends.second guard ≡ s = cc e in
    subst (HasShapeBy StepWord line) same (record { word_is = refl; shape = (both, guard_sound line 4 (Some guard) is) })
step_sound line s ends both (Some None) is e = absurd (cc e)
step_sound line s ends both None is e = absurd (cc e)

-- the form that is told is the line's
pub sound : (word : Keyword) (line : List Lexeme) (s : Statement) → form_by word line ≡ Some s → HasShapeBy word line s
unfolding form_by
sound ModelWord line s e =
    let name = told_of ModelLine (only_name line) e in
    subst (HasShapeBy ModelWord line) name.2 (record { word_is = refl; shape = name.1 })
sound DomainWord line s e =
    let names = told_of (λ (n : NameAndNames). DomainLine n.name n.others) (name_and_names line) e in
    subst (HasShapeBy DomainWord line) names.2 (record { word_is = refl; shape = names.1 })
sound TypeWord line s e =
    let name = told_of TypeLine (only_name line) e in
    subst (HasShapeBy TypeWord line) name.2 (record { word_is = refl; shape = name.1 })
sound (ClassWord class) line s e =
    let names = told_of (λ (n : TwoNames). VariableLine class n.first n.second) (two_names line) e in
    subst (HasShapeBy (ClassWord class) line) names.2 (record { word_is = refl; shape = names.1 })
sound ModeWord line s e =
    let name = told_of ModeLine (only_name line) e in
    subst (HasShapeBy ModeWord line) name.2 (record { word_is = refl; shape = name.1 })
sound LawWord line s e =
    let f = told_of LawLine (formula_at line 1) e in
    subst (HasShapeBy LawWord line) f.2 (record { word_is = refl; shape = phrase_sound (drop 1 line) f.0 f.1 })
sound InWord line s e =
    let modes = told_then (in_form line) (one_or_more line) e in
    let f = told_of (InLine modes.0) (formula_at line (2 * length modes.0)) modes.2 in
    subst (HasShapeBy InWord line) f.2 (record { word_is = refl; shape = (modes.1, phrase_sound (drop (2 * length modes.0) line) f.0 f.1) })
sound StepWord line s e =
    let ends = told_then (step_form line) (both_ends line) e in
    step_sound line s ends.0 ends.1 (guard_at line 4) refl ends.2
sound FaultWord line s e = any_fault_sound line s e
sound EndWord line s e =
    let long = told_if (nat_eq (length line) 1) (Some EndLine) e in
    let same : EndLine ≡ s = cc long.1 in
    subst (HasShapeBy EndWord line) same (record { word_is = refl; shape = eqb-true (length line) 1 long.0 })
sound PartWord line s e =
    let names = told_of (λ (n : ThreeNames). PartLine n.first n.second n.third) (three_names line) e in
    subst (HasShapeBy PartWord line) names.2 (record { word_is = refl; shape = names.1 })
sound PriceWord line s e =
    let names = told_then (price_with line) (priced_names line) e in
    let cost = told_of (PriceLine names.0.first names.0.second names.0.third) (numeral_at line 6) names.2 in
    subst (HasShapeBy PriceWord line) cost.2 (record { word_is = refl; shape = (names.1, cost.1) })
sound VersionWord line s e =
    let n = told_of VersionLine (only_numeral line) e in
    subst (HasShapeBy VersionWord line) n.2 (record { word_is = refl; shape = n.1 })
