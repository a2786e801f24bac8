-- A goal's text is read back as its formula.
use Rattle.std.proofs.Common.{◌≡◌, ℕ, ◌≤◌, Bool, true, false, ◌&&◌, cond, nat_lt, List, [], ◌∷◌, ◌++◌, length, take, drop, Some, Result, Ok, Err, All, refl, sym, ap, subst, ◌∙◌, arith, length-append, codes}
use Rattle.std.specs.List.{list_all}
use Rattle.std.proofs.lemmas.Bool.Decides.{nat_tests}
use Rattle.std.proofs.lemmas.List.{take-append-drop}
use Rattle.std.proofs.lemmas.List.Elements.{All-drop}
use Rattle.lv_base.specs.declared.limits.TheConstants.{LINE_BYTES}
use Rattle.lv_text.specs.Tokens.{long_line, all_tokens}
use Rattle.lv_text.specs.Lexemes.{Lexeme, reads, reading_by, line_reading}
use Rattle.lv_text.specs.Laws.{IsLexeme}
use Rattle.lv_text.proofs.ReadBack.{lexemes_have}
use Rattle.lv_base.specs.Fits.{fits}
use Rattle.lv_base.specs.Tree.{Tree}
use Rattle.lv_model.specs.declared.plant.Plant.{Plant}
use Rattle.lv_model.specs.Ranges.{plant_ranges}
use Rattle.lv_formula_text.specs.PhraseTree.{PhraseTree}
use Rattle.lv_formula_text.specs.Grammar.{IsFormula}
use Rattle.lv_formula_text.specs.Nesting.{is_too_deep}
use Rattle.lv_formula_text.specs.Spacing.{is_wordlike, spaced}
use Rattle.lv_formula_text.specs.Canonical.{tokens_of, canonical_text}
use Rattle.lv_formula_text.specs.Laws.{is_flat}
use Rattle.lv_formula_text.specs.Resolving.{resolved}
use Rattle.lv_formula_text.specs.declared.resolver.NameFault.{NameFault}
use Rattle.lv_formula_text.specs.declared.resolver.NameFault.TheVariants as name_fault
use Rattle.lv_formula_text.proofs.FittingLemmas.{resolved_fits}
use Rattle.lv_formula_text.proofs.Omissions.{omits_all, omits_no_longer}
use Rattle.lv_formula_text.proofs.Canonicals.{canonical_omits, canonical_shallow}
use Rattle.lv_formula_text.proofs.Standing.{canonical_back}
use Rattle.lv_formula_text.proofs.SpacedLines.{spaced_again, line_no_shorter}
use Rattle.lv_formula_text.specs.Descent.{phrase_of}
use Rattle.lv_formula_text.proofs.Sound.{phrase_sound}
use Rattle.lv_formula_text.proofs.Complete.{phrase_complete}
use Rattle.lv_reply.specs.declared.reply.Refusal.TheVariants.{TooComplex}
use Rattle.lv_model_names.specs.declared.lists.Lists.{Lists}
use Rattle.lv_model_names.specs.Lists.{lists_of}
use Rattle.lv_model_names.specs.Names.{names_over, plant_names}
use Rattle.lv_model_names.proofs.ScopeLemmas.{scope_fits}
use Rattle.lv_session_request.specs.Goals.{with_refusal, formula_of, is_simple, simple, AreRead, ReadsBack, IsGoalIn}

-- a line that reads as tokens is short enough
line_short : (line : List ℕ) (ts : List Lexeme) → line_reading line ≡ reads ts → length line ≤ LINE_BYTES
line_short line ts h = by (nat_lt LINE_BYTES (length line)) refl h
  where
    by : (c : Bool) → nat_lt LINE_BYTES (length line) ≡ c → reading_by line (cond c long_line (all_tokens line)) ≡ reads ts → length line ≤ LINE_BYTES
    by true is e = absurd (cc)
    by false is e = grind (arith, nat_tests)

-- without the tokens in front a text is no longer
tail_shorter : (after : Bool) (t : Lexeme) (ts : List Lexeme) → length (spaced false ts) ≤ length (spaced after (t ∷ ts))
tail_shorter after t ts =
    let gap = cond (after && is_wordlike t.kind) (codes " ") [] in
    let a = length-append gap (t.text ++ spaced (is_wordlike t.kind) ts) in
    let b = length-append t.text (spaced (is_wordlike t.kind) ts) in
    let c = no_gap ts in
    omega (arith, a, b, c)
  where
    no_gap : (us : List Lexeme) → length (spaced false us) ≤ length (spaced (is_wordlike t.kind) us)
    no_gap [] = omega arith
    no_gap (u ∷ us) =
        let gap = cond (is_wordlike t.kind && is_wordlike u.kind) (codes " ") [] in
        let a = length-append gap (u.text ++ spaced (is_wordlike u.kind) us) in
        omega (arith, a)

two_shorter : (ts : List Lexeme) → length (spaced false (drop 2 ts)) ≤ length (spaced false ts)
two_shorter [] = omega arith
two_shorter (a ∷ []) = omega arith
two_shorter (a ∷ b ∷ ts) =
    let first = tail_shorter false b ts in
    let second = tail_shorter false a (b ∷ ts) in
    omega (arith, first, second)

pub reads_back : (ts : List Lexeme) (f : PhraseTree) → is_too_deep ts ≡ false → AreRead ts → list_all is_flat (take 2 ts) ≡ true → phrase_of (drop 2 ts) ≡ Some f → ReadsBack f
reads_back ts f shallow read flat is =
    let own : All IsLexeme (drop 2 ts) = All-drop IsLexeme 2 ts (lexemes_have read.line ts read.reading) in
    let derived : IsFormula (drop 2 ts) f = phrase_sound (drop 2 ts) f is in
    let omits = canonical_omits (drop 2 ts) f own derived in
    let shorter : length (canonical_text f) ≤ length (spaced false (drop 2 ts)) = omits_no_longer false omits in
    let behind = two_shorter ts in
    let whole = line_no_shorter read.line ts read.reading in
    let short = line_short read.line ts read.reading in
    record {
      reading = spaced_again (tokens_of f) (omits_all IsLexeme omits own) (omega (arith, shorter, behind, whole, short));
      shallow = canonical_shallow (take 2 ts) [] (drop 2 ts) f flat refl own derived (ap is_too_deep (take-append-drop 2 ts) ∙ shallow);
      read = phrase_complete (tokens_of f) f (canonical_back (drop 2 ts) f derived);
    }

-- a formula that resolves fits
of_phrase : (r : Result Tree NameFault) (f : Tree) → with_refusal r ≡ Ok f → r ≡ Ok f
of_phrase (Ok g) f h = let e : g ≡ f = cc h in ap Ok e
of_phrase (Err name_fault.UnknownName) f h = absurd (cc h)
of_phrase (Err name_fault.NoFit) f h = absurd (cc h)

-- of few clauses is the formula itself, and it gives few
few_clauses : (lists : Lists) (f g : Tree) → simple lists f ≡ Ok g → (f ≡ g) × (is_simple lists g ≡ true)
few_clauses lists f g h = by (is_simple lists f) refl h
  where
    by : (b : Bool) → is_simple lists f ≡ b → cond b (Ok f) (Err TooComplex) ≡ Ok g → (f ≡ g) × (is_simple lists g ≡ true)
    by true is e = let same : f ≡ g = cc e in (same, ap (is_simple lists) (sym same) ∙ is)
    by false is e = absurd (cc)

pub goal_is_in : (plant : Plant) (lists : Lists) (name text : List ℕ) (phrase : PhraseTree) (f g : Tree) → lists ≡ lists_of plant → ReadsBack phrase → formula_of plant lists phrase ≡ Ok f
    → simple lists f ≡ Ok g → text ≡ canonical_text phrase → IsGoalIn plant (record { name = name; text = text; formula = g })
goal_is_in plant lists name text phrase f g same back is few printed =
    let parts = few_clauses lists f g few in
    let own : resolved (plant_names plant) phrase ≡ Ok f =
    ap (λ (l : Lists). resolved (names_over plant l.ranges) phrase) (sym same) ∙ of_phrase (resolved (names_over plant lists.ranges) phrase) f is in
    record {
      fits = subst (λ (t : Tree). fits (plant_ranges plant) t ≡ true) parts.0 (resolved_fits (plant_names plant) (plant_ranges plant) (scope_fits plant) phrase f own);
      phrase = phrase;
      text = printed;
      reads_back = back;
      stands_for = own ∙ ap Ok parts.0;
      simple = ap (λ (l : Lists). is_simple l g) (sym same) ∙ parts.1;
    }
