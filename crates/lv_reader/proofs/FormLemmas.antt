-- A statement is the only one whose form its tokens have.
use Rattle.std.proofs.Common.{◌≡◌, ℕ, zero, suc, ◌+◌, ◌*◌, false, ◌&&◌, cond, List, [], ◌∷◌, length, drop, true, Option, Some, None, option_map, refl, sym, subst, ◌∙◌, ap, ap₂, arith, codes}
use Rattle.std.proofs.lemmas.Bool.{and_parts}
use Rattle.std.specs.Option.{option_and_then, option_map_or}
use Rattle.lv_base.specs.Names.{is_named}
use Rattle.lv_base.specs.declared.names.Class.{Class}
use Rattle.lv_text.specs.declared.lexer.TokenKind.{TokenKind}
use Rattle.lv_text.specs.declared.lexer.TokenKind.TheVariants.{Word}
use Rattle.lv_text.specs.Lexemes.{Lexeme, says, word_at, is_word}
use Rattle.lv_formula_text.specs.PhraseTree.{PhraseTree}
use Rattle.std.specs.Cmp.Lexicographic.{same_text}
use Rattle.lv_formula_text.specs.Grammar.{IsFormula}
use Rattle.lv_formula_text.proofs.GrammarLemmas.{formula_one}
use Rattle.lv_reader.specs.declared.keyword.Keyword.TheVariants.{InWord, StepWord, FaultWord}
use Rattle.lv_reader.specs.declared.version.Version.{Version}
use Rattle.lv_reader.specs.declared.statement.Repair.{Repair}
use Rattle.lv_reader.specs.declared.statement.Statement.{Statement}
use Rattle.lv_reader.specs.declared.statement.Statement.TheVariants.{ModelLine, DomainLine, TypeLine, VariableLine, ModeLine, LawLine, InLine, StepLine, FaultLine, FaultsLine, RepairLine, EndLine, PartLine, PriceLine, VersionLine}
use Rattle.lv_reader.specs.Keywords.{keyword_of}
use Rattle.lv_reader.specs.Words.{is_arrow, is_equals, has_kind_at, one_or_more, both_ends, bare_target, repair_of, EndsInFormula, EndsInNone, HasGuard, HasNoGuard}
use Rattle.lv_reader.specs.declared.words.NameAndNames.{NameAndNames}
use Rattle.lv_reader.specs.declared.words.TwoNames.{TwoNames}
use Rattle.lv_reader.specs.declared.words.ThreeNames.{ThreeNames}
use Rattle.lv_reader.specs.Statements.{word_of, has_form_of, HasShape, HasForm, HasNoForm, HasNoFormIn}
use Rattle.lv_reader.proofs.Choices.{told_if, told_then}

some_is_one : {A : Type 0} {x y : A} → Some x ≡ Some y → x ≡ y
some_is_one h = (cc)

-- two answers of one question
told_once : {A : Type 0} {o : Option A} {x y : A} → o ≡ Some x → o ≡ Some y → x ≡ y
told_once e f = some_is_one (sym e ∙ f)

-- behind the modes of a line there is no formula
pub no_in_formula : (line : List Lexeme) (modes : List (List ℕ)) (place : ℕ) → keyword_of line ≡ Some InWord → one_or_more line ≡ Some modes → place ≡ 2 * length modes → EndsInNone line place → HasNoForm line
no_in_formula line modes place known named at no_formula = record { none = λ s form. by_form s (told_once form.word known) form.shape }
  where
    by_form : (s : Statement) → word_of s ≡ InWord → HasShape line s → ⊥
    by_form (InLine xs f) is shape =
        let same : 2 * length xs ≡ place = ap (λ (ns : List (List ℕ)). 2 * length ns) (told_once shape.0 named) ∙ sym at in
        no_formula.none f (subst (λ n. EndsInFormula line n f) same shape.1)
    by_form s is shape = (cc)

pub no_step_guard : (line : List Lexeme) → keyword_of line ≡ Some StepWord → HasNoGuard line 4 → HasNoForm line
no_step_guard line known no_guard = record { none = λ s form. by_form s (told_once form.word known) form.shape }
  where
    by_form : (s : Statement) → word_of s ≡ StepWord → HasShape line s → ⊥
    by_form (StepLine source target guard) is shape = no_guard.none (Some guard) shape.1
    by_form s is shape = (cc)

-- no word stands behind the end of a line
nothing_said : (line : List Lexeme) (i : ℕ) (text : List ℕ) → length line ≡ i → says text line i ≡ true → ⊥
nothing_said [] i text e h = (cc)
nothing_said (l ∷ ls) zero text e h = absurd (omega arith)
nothing_said (l ∷ ls) (suc i) text e h = nothing_said ls i text (omega arith) h

guard_one : (line : List Lexeme) (i : ℕ) (g h : Option PhraseTree) → HasGuard line i g → HasGuard line i h → g ≡ h
guard_one line i None None a b = refl
guard_one line i None (Some h) a b = absurd (nothing_said line i (codes "when") a b.0)
guard_one line i (Some g) None a b = absurd (nothing_said line i (codes "when") b a.0)
guard_one line i (Some g) (Some h) a b = ap Some (formula_one (drop (i + 1) line) g h a.1 b.1)

-- a word at a place is no arrow there
word_no_arrow : (line : List Lexeme) (i : ℕ) (name : List ℕ) → word_at line i ≡ Some name → has_kind_at is_arrow line i ≡ true → ⊥
word_no_arrow [] zero name e h = (cc)
word_no_arrow [] (suc i) name e h = (cc)
word_no_arrow (l ∷ ls) zero name e h = by l.kind e h
  where
    by : (k : TokenKind) → cond (is_word k) (Some l.text) None ≡ Some name → is_arrow k ≡ true → ⊥
    by Word e h = (cc)
    by k e h = (cc)
word_no_arrow (l ∷ ls) (suc i) name e h = word_no_arrow ls i name e h

-- a fault from one mode has no arrow behind its first word, and one from each mode has
pub no_bare_target : (line : List Lexeme) (ends : TwoNames) (target : List ℕ) → both_ends line ≡ Some ends → bare_target line ≡ Some target → ⊥
no_bare_target line ends target e f =
    let bare = told_if (has_kind_at is_arrow line 1) (word_at line 2) f in
    let both = told_if (has_kind_at is_arrow line 2) (option_and_then (λ a. option_map (λ b. record { first = a; second = b }) (word_at line 3)) (word_at line 1)) e in
    let one = told_then (λ a. option_map (λ b. record { first = a; second = b }) (word_at line 3)) (word_at line 1) both.1 in
    word_no_arrow line 1 one.0 one.1 bare.0

-- one word isn't two
two_words_said : (text other : List ℕ) (line : List Lexeme) (i : ℕ) → ((word : List ℕ) → is_named text word ≡ true → is_named other word ≡ true → ⊥)
    → says text line i ≡ true → says other line i ≡ true → ⊥
two_words_said text other line i apart h k = by (word_at line i) h k
  where
    by : (o : Option (List ℕ)) → option_map_or (is_named text) o false ≡ true → option_map_or (is_named other) o false ≡ true → ⊥
    by (Some word) h k = apart word h k
    by None h k = (cc)

repair_no_when : (word : List ℕ) → is_named (codes "repair") word ≡ true → is_named (codes "when") word ≡ true → ⊥
repair_no_when word h k =
    let first : word ≡ codes "repair" = same_text word (codes "repair") (sym h) in
    let other : word ≡ codes "when" = same_text word (codes "when") (sym k) in
    let long : 6 ≡ 4 = ap (λ (ws : List ℕ). length ws) (sym first ∙ other) in
    omega (arith, long)

-- where a repair stands, a fault without one doesn't end, and has no guard
repair_excludes : (line : List Lexeme) (guard : Option PhraseTree) → says (codes "repair") line 6 ≡ true → HasGuard line 6 guard → ⊥
repair_excludes line None said g = nothing_said line 6 (codes "repair") g said
repair_excludes line (Some f) said g = two_words_said (codes "repair") (codes "when") line 6 repair_no_when said g.0

pub no_repair : (line : List Lexeme) (repair : Repair) (guard : Option PhraseTree) → repair_of line ≡ Some repair → HasGuard line 6 guard → ⊥
no_repair line repair guard e g =
    let both = told_if (says (codes "repair") line 6 && has_kind_at is_equals line 8) (option_and_then (λ c. option_map (λ v. record { control = c; value = v }) (word_at line 9)) (word_at line 7)) e in
    repair_excludes line guard (and_parts (says (codes "repair") line 6) (has_kind_at is_equals line 8) both.0).0 g

-- a fault with a word before its arrow and a repair behind its cost is of no other form
module _ (line : List Lexeme) (known : keyword_of line ≡ Some FaultWord) (bare : has_kind_at is_arrow line 1 ≡ false) (said : says (codes "repair") line 6 ≡ true)
    (no_shape : (source target : List ℕ) (cost : ℕ) (repair : Repair) (guard : Option PhraseTree) → HasShape line (RepairLine source target cost repair guard) → ⊥) where
  by_form : (s : Statement) → word_of s ≡ FaultWord → HasShape line s → ⊥
  by_form (FaultLine source target cost guard) is shape = repair_excludes line guard said shape.3
  by_form (FaultsLine target cost guard) is shape = let told = told_if (has_kind_at is_arrow line 1) (word_at line 2) shape.0 in let arrow = told.0 in (cc)
  by_form (RepairLine source target cost repair guard) is shape = no_shape source target cost repair guard shape
  by_form s is shape = (cc)

  no_fault_form : HasNoForm line
  no_fault_form = record { none = λ s form. by_form s (told_once form.word known) form.shape }

pub no_repair_named : (line : List Lexeme) → keyword_of line ≡ Some FaultWord → has_kind_at is_arrow line 1 ≡ false → says (codes "repair") line 6 ≡ true → repair_of line ≡ None → HasNoForm line
no_repair_named line known bare said e = no_fault_form line known bare said (λ source target cost repair guard shape. let told = shape.3 in (cc))

pub no_repair_guard : (line : List Lexeme) → keyword_of line ≡ Some FaultWord → has_kind_at is_arrow line 1 ≡ false → says (codes "repair") line 6 ≡ true → HasNoGuard line 10 → HasNoForm line
no_repair_guard line known bare said h = no_fault_form line known bare said (λ source target cost repair guard shape. h.none guard shape.4)

shape_one : (line : List Lexeme) (s t : Statement) → word_of s ≡ word_of t → HasShape line s → HasShape line t → s ≡ t
shape_one line (ModelLine a) (ModelLine b) w h k = ap ModelLine (told_once h k)
shape_one line (DomainLine a xs) (DomainLine b ys) w h k = ap (λ (n : NameAndNames). DomainLine n.name n.others) (told_once h k)
shape_one line (TypeLine a) (TypeLine b) w h k = ap TypeLine (told_once h k)
shape_one line (VariableLine c a x) (VariableLine d b y) w h k =
    let classes : c ≡ d = (cc) in
    ap₂ (λ (k : Class) (n : TwoNames). VariableLine k n.first n.second) classes (told_once h k)
shape_one line (ModeLine a) (ModeLine b) w h k = ap ModeLine (told_once h k)
shape_one line (LawLine f) (LawLine g) w h k = ap LawLine (formula_one (drop 1 line) f g h k)
shape_one line (InLine xs f) (InLine ys g) w h k =
    let modes : xs ≡ ys = told_once h.0 k.0 in
    let place : 2 * length ys ≡ 2 * length xs = ap (λ (ns : List (List ℕ)). 2 * length ns) (sym modes) in
    ap₂ InLine modes (formula_one (drop (2 * length xs) line) f g h.1 (subst (λ n. IsFormula (drop n line) g) place k.1))
shape_one line (StepLine a x f) (StepLine b y g) w h k =
    let ends = told_once h.0 k.0 in
    let guards : f ≡ g = some_is_one (guard_one line 4 (Some f) (Some g) h.1 k.1) in
    ap₂ (λ (n : TwoNames) (p : PhraseTree). StepLine n.first n.second p) ends guards
shape_one line (FaultLine a x m f) (FaultLine b y n g) w h k =
    let ends = told_once h.0 k.0 in
    let costs = told_once h.2 k.2 in
    let guards : f ≡ g = guard_one line 6 f g h.3 k.3 in
    ap₂ (λ (e : TwoNames) (r : ℕ × Option PhraseTree). FaultLine e.first e.second r.0 r.1) ends (ap₂ (λ (p : ℕ) (q : Option PhraseTree). (p, q)) costs guards)
shape_one line (FaultsLine a m f) (FaultsLine b n g) w h k =
    let costs = told_once h.2 k.2 in
    let guards : f ≡ g = guard_one line 5 f g h.3 k.3 in
    ap₂ (λ (e : List ℕ) (r : ℕ × Option PhraseTree). FaultsLine e r.0 r.1) (told_once h.0 k.0) (ap₂ (λ (p : ℕ) (q : Option PhraseTree). (p, q)) costs guards)
shape_one line (RepairLine a x m r f) (RepairLine b y n s g) w h k =
    let ends = told_once h.0 k.0 in
    let costs = told_once h.2 k.2 in
    let repairs : r ≡ s = told_once h.3 k.3 in
    let guards : f ≡ g = guard_one line 10 f g h.4 k.4 in
    ap₂ (λ (e : TwoNames) (p : ℕ). RepairLine e.first e.second p r f) ends costs ∙ ap₂ (λ (p : Repair) (q : Option PhraseTree). RepairLine b y n p q) repairs guards
shape_one line (FaultLine a x m f) (FaultsLine b n g) w h k = absurd (no_bare_target line _ b h.0 k.0)
shape_one line (FaultsLine b n g) (FaultLine a x m f) w h k = absurd (no_bare_target line _ b k.0 h.0)
shape_one line (FaultLine a x m f) (RepairLine b y n r g) w h k = absurd (no_repair line r f k.3 h.3)
shape_one line (RepairLine b y n r g) (FaultLine a x m f) w h k = absurd (no_repair line r f h.3 k.3)
shape_one line (FaultsLine b n g) (RepairLine a x m r f) w h k = absurd (no_bare_target line _ b k.0 h.0)
shape_one line (RepairLine a x m r f) (FaultsLine b n g) w h k = absurd (no_bare_target line _ b h.0 k.0)
shape_one line EndLine EndLine w h k = refl
shape_one line (PartLine a x p) (PartLine b y q) w h k = ap (λ (n : ThreeNames). PartLine n.first n.second n.third) (told_once h k)
shape_one line (PriceLine a x p m) (PriceLine b y q n) w h k =
    ap₂ (λ (e : ThreeNames) (r : ℕ). PriceLine e.first e.second e.third r) (told_once h.0 k.0) (told_once h.1 k.1)
shape_one line (VersionLine m) (VersionLine n) w h k = ap VersionLine (told_once h k)
shape_one line s t w h k = absurd (cc)

pub form_one : (line : List Lexeme) (s t : Statement) → HasForm line s → HasForm line t → s ≡ t
form_one line s t f g = shape_one line s t (told_once f.word g.word) f.shape g.shape

-- a form that the version doesn't have, and no other
pub not_of_version : (version : Version) (line : List Lexeme) (s : Statement) → HasForm line s → has_form_of version s ≡ false → HasNoFormIn version line
not_of_version version line s form other = record {
  none = λ t has known.
      let same : s ≡ t = form_one line s t form has in
      let told : has_form_of version s ≡ true = ap (has_form_of version) same ∙ known in
      (cc);
}

-- lexemes that have no form have none in any version
pub none_in_version : (version : Version) (line : List Lexeme) → HasNoForm line → HasNoFormIn version line
none_in_version version line h = record { none = λ s form known. h.none s form }
