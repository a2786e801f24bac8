-- The tokens of a line, by the statement that they are.
use Rattle.std.proofs.Common.{◌≡◌, ℕ, zero, suc, ◌*◌, ◌++◌, cond, Bool, refl, sym, subst, true, false, ◌&&◌, nat_eq, nat_le, List, [], ◌∷◌, length, drop, map, All, Some, option_map, ap, ap₂, ◌∙◌, arith, codes}
use Rattle.std.proofs.lemmas.Bool.{and_parts}
use Rattle.std.proofs.lemmas.Bool.Decides.{nat_tests}
use Rattle.std.proofs.lemmas.List.{drop_all}
use Rattle.std.specs.Option.{option_and_then}
use Rattle.lv_text.specs.declared.lexer.TokenKind.TheVariants.{Arrow, Equals, Or, Dot}
use Rattle.lv_text.specs.Lexemes.{Lexeme, word_at, word_of, says}
use Rattle.lv_text.specs.Laws.{IsLexeme}
use Rattle.lv_formula_text.specs.Spacing.{symbol, word}
use Rattle.std.proofs.lemmas.List.Elements.{All-head, All-tail, All-drop}
use Rattle.std.specs.List.{list_all, flat_map}
use Rattle.lv_formula_text.specs.PhraseTree.{PhraseTree}
use Rattle.lv_formula_text.specs.Canonical.{tokens_of}
use Rattle.lv_formula_text.specs.Laws.{is_flat}
use Rattle.lv_formula_text.proofs.Standing.{canonical_back}
use Rattle.lv_formula_text.specs.Grammar.{IsFormula}
use Rattle.lv_reader.proofs.FormulaFirst.{no_sign_first}
use Rattle.lv_reader.specs.CanonicalTokens.{alternative_tokens, mode_tokens, repair_tokens}
use Rattle.lv_reader.specs.Statements.{HasShape}
use Rattle.lv_reader.specs.declared.statement.Statement.TheVariants.{InLine}
use Rattle.lv_reader.specs.declared.statement.Repair.{Repair}
use Rattle.lv_reader.specs.declared.words.NameAndNames.{NameAndNames}
use Rattle.lv_reader.specs.declared.words.TwoNames.{TwoNames}
use Rattle.lv_reader.specs.declared.words.ThreeNames.{ThreeNames}
use Rattle.lv_reader.specs.Words.{is_arrow, is_equals, is_dot, is_or, has_kind_at, words_of, free_word_at, numeral_at, only_numeral, alternatives, alternative_first, one_or_more, bare_target, repair_of, EndsInFormula, only_name, name_and_names, two_names, three_names, both_ends, priced_names}
use Rattle.lv_reader.proofs.Choices.{told_if, told_then, told_of}
use Rattle.lv_reader.proofs.Places.{word_next, free_word, says_next, arrow_next, equals_next, dot_next, or_first, word_itself, words_are}

-- no more tokens
ends : (ts : List Lexeme) (n : ℕ) → nat_eq (length ts) n ≡ true → drop n ts ≡ []
ends ts n e = let is : length ts ≡ n = grind (arith, nat_tests) in drop_all n ts (omega arith)

-- a token in front
pub ahead : (t : Lexeme) {xs ys : List Lexeme} → xs ≡ ys → t ∷ xs ≡ t ∷ ys
ahead t e = ap (λ ts. t ∷ ts) e

pub one_name : (ts : List Lexeme) (name : List ℕ) → only_name ts ≡ Some name → drop 1 ts ≡ word name ∷ []
one_name ts name e =
    let told = told_if (nat_eq (length ts) 2) (word_at ts 1) e in
    word_next ts 1 name told.1 ∙ ahead (word name) (ends ts 2 told.0)

pub names_then : (ts : List Lexeme) (name : List ℕ) (values : List (List ℕ)) → name_and_names ts ≡ Some (record { name = name; others = values }) → drop 1 ts ≡ word name ∷ map word values
names_then ts name values e =
    let told = told_if (nat_le 3 (length ts)) (option_and_then (λ n. option_map (λ ns. record { name = n; others = ns }) (words_of (drop 2 ts))) (word_at ts 1)) e in
    let first = told_then (λ n. option_map (λ ns. record { name = n; others = ns }) (words_of (drop 2 ts))) (word_at ts 1) told.1 in
    let others = told_of (λ ns. record { name = first.0; others = ns }) (words_of (drop 2 ts)) first.2 in
    let names : first.0 ≡ name = ap (λ (n : NameAndNames). n.name) others.2 in
    let same : others.0 ≡ values = ap (λ (n : NameAndNames). n.others) others.2 in
    word_next ts 1 first.0 first.1 ∙ ap₂ (λ (n : List ℕ) (rest : List Lexeme). word n ∷ rest) names (words_are (drop 2 ts) others.0 others.1 ∙ ap (map word) same)

pub two_words : (ts : List Lexeme) (first second : List ℕ) → two_names ts ≡ Some (record { first = first; second = second }) → drop 1 ts ≡ word first ∷ word second ∷ []
two_words ts first second e =
    let told = told_if (nat_eq (length ts) 3) (option_and_then (λ a. option_map (λ b. record { first = a; second = b }) (word_at ts 2)) (free_word_at ts 1)) e in
    let one = told_then (λ a. option_map (λ b. record { first = a; second = b }) (word_at ts 2)) (free_word_at ts 1) told.1 in
    let two = told_of (λ b. record { first = one.0; second = b }) (word_at ts 2) one.2 in
    let a : one.0 ≡ first = ap (λ (n : TwoNames). n.first) two.2 in
    let b : two.0 ≡ second = ap (λ (n : TwoNames). n.second) two.2 in
    word_next ts 1 first (free_word ts 1 first (one.1 ∙ ap Some a))
    ∙ ahead (word first) (word_next ts 2 second (two.1 ∙ ap Some b) ∙ ahead (word second) (ends ts 3 told.0))

pub three_words : (ts : List Lexeme) (first second third : List ℕ) → three_names ts ≡ Some (record { first = first; second = second; third = third })
    → drop 1 ts ≡ word first ∷ word second ∷ word third ∷ []
three_words ts first second third e =
    let told = told_if (nat_eq (length ts) 4) (option_and_then (λ a. option_and_then (λ b. option_map (λ c. record { first = a; second = b; third = c }) (word_at ts 3)) (word_at ts 2)) (free_word_at ts 1)) e in
    let one = told_then (λ a. option_and_then (λ b. option_map (λ c. record { first = a; second = b; third = c }) (word_at ts 3)) (word_at ts 2)) (free_word_at ts 1) told.1 in
    let two = told_then (λ b. option_map (λ c. record { first = one.0; second = b; third = c }) (word_at ts 3)) (word_at ts 2) one.2 in
    let three = told_of (λ c. record { first = one.0; second = two.0; third = c }) (word_at ts 3) two.2 in
    let a : one.0 ≡ first = ap (λ (n : ThreeNames). n.first) three.2 in
    let b : two.0 ≡ second = ap (λ (n : ThreeNames). n.second) three.2 in
    let c : three.0 ≡ third = ap (λ (n : ThreeNames). n.third) three.2 in
    word_next ts 1 first (free_word ts 1 first (one.1 ∙ ap Some a))
    ∙ ahead (word first) (word_next ts 2 second (two.1 ∙ ap Some b) ∙ ahead (word second) (word_next ts 3 third (three.1 ∙ ap Some c) ∙ ahead (word third) (ends ts 4 told.0)))

pub move_words : (ts : List Lexeme) (source target : List ℕ) → All IsLexeme ts → both_ends ts ≡ Some (record { first = source; second = target })
    → drop 1 ts ≡ word source ∷ symbol Arrow ∷ word target ∷ drop 4 ts
move_words ts source target h e =
    let told = told_if (has_kind_at is_arrow ts 2) (option_and_then (λ a. option_map (λ b. record { first = a; second = b }) (word_at ts 3)) (word_at ts 1)) e in
    let one = told_then (λ a. option_map (λ b. record { first = a; second = b }) (word_at ts 3)) (word_at ts 1) told.1 in
    let two = told_of (λ b. record { first = one.0; second = b }) (word_at ts 3) one.2 in
    let a : one.0 ≡ source = ap (λ (n : TwoNames). n.first) two.2 in
    let b : two.0 ≡ target = ap (λ (n : TwoNames). n.second) two.2 in
    word_next ts 1 source (one.1 ∙ ap Some a)
    ∙ ahead (word source) (arrow_next ts 2 h told.0 ∙ ahead (symbol Arrow) (word_next ts 3 target (two.1 ∙ ap Some b)))

pub price_words : (ts : List Lexeme) (part control value : List ℕ) → All IsLexeme ts → priced_names ts ≡ Some (record { first = part; second = control; third = value })
    → (drop 1 ts ≡ word part ∷ symbol Dot ∷ word control ∷ symbol Equals ∷ word value ∷ drop 6 ts) × (drop 7 ts ≡ [])
price_words ts part control value h e =
    let told = told_if (nat_eq (length ts) 7 && (has_kind_at is_dot ts 2 && has_kind_at is_equals ts 4)) (option_and_then (λ a. option_and_then (λ b. option_map (λ c. record { first = a; second = b; third = c }) (word_at ts 5)) (word_at ts 3)) (word_at ts 1)) e in
    let tests = and_parts (nat_eq (length ts) 7) (has_kind_at is_dot ts 2 && has_kind_at is_equals ts 4) told.0 in
    let signs = and_parts (has_kind_at is_dot ts 2) (has_kind_at is_equals ts 4) tests.1 in
    let one = told_then (λ a. option_and_then (λ b. option_map (λ c. record { first = a; second = b; third = c }) (word_at ts 5)) (word_at ts 3)) (word_at ts 1) told.1 in
    let two = told_then (λ b. option_map (λ c. record { first = one.0; second = b; third = c }) (word_at ts 5)) (word_at ts 3) one.2 in
    let three = told_of (λ c. record { first = one.0; second = two.0; third = c }) (word_at ts 5) two.2 in
    let a : one.0 ≡ part = ap (λ (n : ThreeNames). n.first) three.2 in
    let b : two.0 ≡ control = ap (λ (n : ThreeNames). n.second) three.2 in
    let c : three.0 ≡ value = ap (λ (n : ThreeNames). n.third) three.2 in (
      word_next ts 1 part (one.1 ∙ ap Some a)
          ∙ ahead (word part) (dot_next ts 2 h signs.0
          ∙ ahead (symbol Dot) (word_next ts 3 control (two.1 ∙ ap Some b)
          ∙ ahead (word control) (equals_next ts 4 h signs.1
          ∙ ahead (symbol Equals) (word_next ts 5 value (three.1 ∙ ap Some c))))),
      ends ts 7 tests.0,
    )

-- a number and no more
pub numeral_ahead : (ts : List Lexeme) (n : ℕ) → only_numeral ts ≡ Some n → (numeral_at ts 1 ≡ Some n) × (drop 2 ts ≡ [])
numeral_ahead ts n e = let told = told_if (nat_eq (length ts) 2) (numeral_at ts 1) e in (told.1, ends ts 2 told.0)

pub target_words : (ts : List Lexeme) (target : List ℕ) → All IsLexeme ts → bare_target ts ≡ Some target → drop 1 ts ≡ symbol Arrow ∷ word target ∷ drop 3 ts
target_words ts target h e =
    let told = told_if (has_kind_at is_arrow ts 1) (word_at ts 2) e in
    arrow_next ts 1 h told.0 ∙ ahead (symbol Arrow) (word_next ts 2 target told.1)

pub repair_words : (ts : List Lexeme) (r : Repair) → All IsLexeme ts → repair_of ts ≡ Some r → drop 6 ts ≡ repair_tokens r ++ drop 10 ts
repair_words ts r h e =
    let told = told_if (says (codes "repair") ts 6 && has_kind_at is_equals ts 8) (option_and_then (λ c. option_map (λ v. record { control = c; value = v }) (word_at ts 9)) (word_at ts 7)) e in
    let tests = and_parts (says (codes "repair") ts 6) (has_kind_at is_equals ts 8) told.0 in
    let one = told_then (λ c. option_map (λ v. record { control = c; value = v }) (word_at ts 9)) (word_at ts 7) told.1 in
    let two = told_of (λ v. record { control = one.0; value = v }) (word_at ts 9) one.2 in
    let a : one.0 ≡ r.control = ap (λ (n : Repair). n.control) two.2 in
    let b : two.0 ≡ r.value = ap (λ (n : Repair). n.value) two.2 in
    says_next (codes "repair") ts 6 tests.0
    ∙ ahead (word (codes "repair")) (word_next ts 7 r.control (one.1 ∙ ap Some a)
    ∙ ahead (word r.control) (equals_next ts 8 h tests.1 ∙ ahead (symbol Equals) (word_next ts 9 r.value (two.1 ∙ ap Some b))))

-- names with signs between them, and what stands behind them, which doesn't go on with a sign
pub record AreAhead (ls : List Lexeme) (names : List (List ℕ)) : Type 0 where
  pub tokens : ls ≡ flat_map alternative_tokens names ++ drop (2 * length names) ls
  pub ends : alternatives (drop (2 * length names) ls) ≡ Some []

two_more : (n : ℕ) (t u : Lexeme) (ls : List Lexeme) → drop (2 * suc n) (t ∷ u ∷ ls) ≡ drop (2 * n) ls
two_more n t u ls = let e : 2 * suc n ≡ suc (suc (2 * n)) = omega arith in ap (λ k. drop k (t ∷ u ∷ ls)) e

mutual
  others_ahead : (ls : List Lexeme) (names : List (List ℕ)) → All IsLexeme ls → alternatives ls ≡ Some names → AreAhead ls names
  others_ahead [] names h e = let none : [] ≡ names = cc in subst (AreAhead []) none (record { tokens = refl; ends = refl })
  others_ahead (sign ∷ ls) names h e = by (is_or sign.kind) refl e (λ is told. behind_sign sign ls names h is told)
    where
      by : (b : Bool) → is_or sign.kind ≡ b → cond b (alternative_first ls) (Some []) ≡ Some names
          → (is_or sign.kind ≡ true → alternative_first ls ≡ Some names → AreAhead (sign ∷ ls) names) → AreAhead (sign ∷ ls) names
      by true is e behind = behind is e
      by false is e behind =
          let none : [] ≡ names = cc in
          subst (AreAhead (sign ∷ ls)) none (record { tokens = refl; ends = ap (λ b. cond b (alternative_first ls) (Some [])) is })

  behind_sign : (sign : Lexeme) (ls : List Lexeme) (names : List (List ℕ)) → All IsLexeme (sign ∷ ls) → is_or sign.kind ≡ true → alternative_first ls ≡ Some names → AreAhead (sign ∷ ls) names
  behind_sign sign [] names h is e = absurd (cc)
  behind_sign sign (l ∷ ls) names h is e =
      let one = told_then (λ n. option_map (λ ns. n ∷ ns) (alternatives ls)) (word_of l) e in
      let two = told_of (λ ns. one.0 ∷ ns) (alternatives ls) one.2 in
      let rest = others_ahead ls two.0 (All-tail IsLexeme l ls (All-tail IsLexeme sign (l ∷ ls) h)) two.1 in
      let first : sign ≡ symbol Or = or_first sign (All-head IsLexeme sign (l ∷ ls) h) is in
      let name : l ≡ word one.0 = word_itself l one.0 one.1 in
      let back = two_more (length two.0) sign l ls in
      subst (AreAhead (sign ∷ l ∷ ls)) two.2
      (record {
        tokens = ap₂ (λ (s t : Lexeme). s ∷ t ∷ ls) first name
            ∙ ap (λ xs. symbol Or ∷ word one.0 ∷ xs) (rest.tokens ∙ ap (λ xs. flat_map alternative_tokens two.0 ++ xs) (sym back));
        ends = ap alternatives back ∙ rest.ends;
      })

first_ahead : (ls : List Lexeme) (names : List (List ℕ)) → All IsLexeme ls → alternative_first ls ≡ Some names
    → (ls ≡ mode_tokens names ++ drop (2 * length names) (symbol Or ∷ ls)) × (alternatives (drop (2 * length names) (symbol Or ∷ ls)) ≡ Some [])
first_ahead [] names h e = absurd (cc)
first_ahead (l ∷ ls) names h e =
    let one = told_then (λ n. option_map (λ ns. n ∷ ns) (alternatives ls)) (word_of l) e in
    let two = told_of (λ ns. one.0 ∷ ns) (alternatives ls) one.2 in
    let rest = others_ahead ls two.0 (All-tail IsLexeme l ls h) two.1 in
    let name : l ≡ word one.0 = word_itself l one.0 one.1 in
    let back = two_more (length two.0) (symbol Or) l ls in
    subst (λ (ns : List (List ℕ)). (l ∷ ls ≡ mode_tokens ns ++ drop (2 * length ns) (symbol Or ∷ l ∷ ls)) × (alternatives (drop (2 * length ns) (symbol Or ∷ l ∷ ls)) ≡ Some [])) two.2 (
      ap₂ (λ (t : Lexeme) (xs : List Lexeme). t ∷ xs) name (rest.tokens ∙ ap (λ xs. flat_map alternative_tokens two.0 ++ xs) (sym back)),
      ap alternatives back ∙ rest.ends,
    )

-- there is one name at least
none_named : (ls : List Lexeme) (names : List (List ℕ)) → alternative_first ls ≡ Some names → length names ≡ 0 → ⊥
none_named [] names e z = (cc)
none_named (l ∷ ls) names e z =
    let one = told_then (λ n. option_map (λ ns. n ∷ ns) (alternatives ls)) (word_of l) e in
    let two = told_of (λ ns. one.0 ∷ ns) (alternatives ls) one.2 in
    let same : length (one.0 ∷ two.0) ≡ length names = ap (λ (ns : List (List ℕ)). length ns) two.2 in
    omega (arith, same, z)

-- the first lexeme doesn't count for what stands behind it
other_first : (ts : List Lexeme) (n : ℕ) (names : List (List ℕ)) → one_or_more ts ≡ Some names → n ≡ length names → drop (2 * n) (symbol Or ∷ drop 1 ts) ≡ drop (2 * n) ts
other_first [] n names e is = absurd (cc)
other_first (t ∷ ts) zero names e is = absurd (none_named ts names e (sym is))
other_first (t ∷ ts) (suc n) names e is =
    let two : 2 * suc n ≡ suc (suc (2 * n)) = omega arith in
    ap (λ k. drop k (symbol Or ∷ ts)) two ∙ ap (λ k. drop k (t ∷ ts)) (sym two)

pub modes_ahead : (ts : List Lexeme) (modes : List (List ℕ)) → All IsLexeme ts → one_or_more ts ≡ Some modes → drop 1 ts ≡ mode_tokens modes ++ drop (2 * length modes) ts
modes_ahead ts modes h e =
    (first_ahead (drop 1 ts) modes (All-drop IsLexeme 1 ts h) e).0 ∙ ap (λ xs. mode_tokens modes ++ xs) (other_first ts (length modes) modes e refl)

others_flat : (names : List (List ℕ)) → list_all is_flat (flat_map alternative_tokens names) ≡ true
others_flat [] = refl
others_flat (n ∷ ns) = others_flat ns

pub modes_flat : (modes : List (List ℕ)) → list_all is_flat (word (codes "in") ∷ mode_tokens modes) ≡ true
modes_flat [] = refl
modes_flat (m ∷ ms) = others_flat ms

-- names with signs between them are read as far as they go
others_read : (names : List (List ℕ)) (us : List Lexeme) → alternatives us ≡ Some [] → alternatives (flat_map alternative_tokens names ++ us) ≡ Some names
others_read [] us e = e
others_read (n ∷ ns) us e = ap (λ o. option_map (λ ms. n ∷ ms) o) (others_read ns us e)

others_over : (names : List (List ℕ)) (us : List Lexeme) → drop (2 * length names) (flat_map alternative_tokens names ++ us) ≡ us
others_over [] us = refl
others_over (n ∷ ns) us = two_more (length ns) (symbol Or) (word n) (flat_map alternative_tokens ns ++ us) ∙ others_over ns us

pub modes_again : (ts : List Lexeme) (modes : List (List ℕ)) (f : PhraseTree) → All IsLexeme ts → one_or_more ts ≡ Some modes → EndsInFormula ts (2 * length modes) f
    → HasShape (word (codes "in") ∷ (mode_tokens modes ++ tokens_of f)) (InLine modes f)
modes_again ts [] f h e d = absurd (none_named (drop 1 ts) [] e refl)
modes_again ts (m ∷ ms) f h e d =
    let back = canonical_back (drop (2 * length (m ∷ ms)) ts) f d in
    let over : drop (2 * suc (length ms)) (word (codes "in") ∷ word m ∷ (flat_map alternative_tokens ms ++ tokens_of f)) ≡ tokens_of f =
    two_more (length ms) (word (codes "in")) (word m) (flat_map alternative_tokens ms ++ tokens_of f) ∙ others_over ms (tokens_of f) in
    (ap (λ o. option_map (λ ns. m ∷ ns) o) (others_read ms (tokens_of f) (no_sign_first (tokens_of f) f back)), subst (λ us. IsFormula us f) (sym over) back)
