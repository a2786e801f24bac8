-- Each statement is printed as tokens of that statement.
use Rattle.std.proofs.Common.{◌≡◌, ℕ, ◌+◌, ◌*◌, length, ◌<◌, true, ◌&&◌, nat_le, List, [], ◌∷◌, ◌++◌, drop, All, Option, Some, None, refl, ap, subst, ◌∙◌, arith, decimal, codes}
use Rattle.std.proofs.lemmas.Bool.{and_parts, and_from}
use Rattle.std.proofs.lemmas.Bool.Decides.{nat_tests}
use Rattle.std.proofs.lemmas.List.{drop_all}
use Rattle.std.proofs.lemmas.List.Folds.{list_all-append}
use Rattle.std.proofs.lemmas.List.Elements.{All-cons, All-head, All-tail, All-append}
use Rattle.std.specs.List.{list_all}
use Rattle.lv_base.specs.declared.limits.TheConstants.{LEAST_FAULT_COST, FAULT_COST, PRICE}
use Rattle.lv_text.specs.declared.lexer.TokenKind.{TokenKind}
use Rattle.lv_text.specs.declared.lexer.TokenKind.TheVariants.{Number, Arrow, Equals, Dot}
use Rattle.lv_text.specs.Lexemes.{Lexeme}
use Rattle.lv_text.specs.Laws.{IsLexeme}
use Rattle.lv_text.specs.Numbers.{number_in_range}
use Rattle.lv_formula_text.specs.PhraseTree.{PhraseTree}
use Rattle.lv_formula_text.specs.Spacing.{symbol, word}
use Rattle.lv_formula_text.specs.Canonical.{tokens_of}
use Rattle.lv_formula_text.specs.Laws.{is_flat}
use Rattle.lv_formula_text.proofs.Omissions.{all_front, all_back}
use Rattle.lv_formula_text.proofs.Standing.{canonical_back}
use Rattle.lv_reader.specs.declared.words.TheConstants.{OVER_EVERY_LIMIT}
use Rattle.lv_reader.specs.declared.keyword.Keyword.TheVariants.{ModelWord, DomainWord, TypeWord, ClassWord, ModeWord, LawWord, InWord, StepWord, FaultWord, EndWord, PartWord, PriceWord, VersionWord}
use Rattle.lv_reader.specs.declared.statement.Repair.{Repair}
use Rattle.lv_reader.specs.declared.version.TheConstants.{NEWEST}
use Rattle.lv_reader.specs.declared.version.Version.TheVariants.{Two}
use Rattle.lv_reader.specs.declared.statement.Statement.{Statement}
use Rattle.lv_reader.specs.declared.statement.Statement.TheVariants.{ModelLine, DomainLine, TypeLine, VariableLine, ModeLine, LawLine, InLine, StepLine, FaultLine, FaultsLine, RepairLine, EndLine, PartLine, PriceLine, VersionLine}
use Rattle.lv_reader.specs.Keywords.{keyword_of}
use Rattle.lv_reader.specs.Words.{capped, HasGuard}
use Rattle.lv_reader.specs.Statements.{IsStatement}
use Rattle.lv_reader.specs.CanonicalTokens.{number, class_word, named_tokens, mode_tokens, repair_tokens, move_tokens}
use Rattle.lv_reader.proofs.Numerals.{number_no_longer, number_told, number_is_lexeme}
use Rattle.lv_reader.proofs.Places.{says_next, IsNumeralAt, numeral_next}
use Rattle.lv_reader.proofs.Keywords.{keyword_first}
use Rattle.lv_reader.proofs.Reprinting.{Reprints, same_tokens, alike_itself, alike_behind, Derives, IsCut, cut_tokens}
use Rattle.lv_reader.proofs.CanonicalForms.{ahead, one_name, names_then, two_words, three_words, modes_ahead, modes_flat, modes_again, move_words, target_words, repair_words, price_words, numeral_ahead}

-- the first word of canonical tokens
law_word : (us : List Lexeme) → keyword_of (word (codes "law") ∷ us) ≡ Some LawWord
unfolding keyword_of
law_word us = refl

in_word : (us : List Lexeme) → keyword_of (word (codes "in") ∷ us) ≡ Some InWord
unfolding keyword_of
in_word us = refl

step_word : (us : List Lexeme) → keyword_of (word (codes "step") ∷ us) ≡ Some StepWord
unfolding keyword_of
step_word us = refl

fault_word : (us : List Lexeme) → keyword_of (word (codes "fault") ∷ us) ≡ Some FaultWord
unfolding keyword_of
fault_word us = refl

price_word : (us : List Lexeme) → keyword_of (word (codes "price") ∷ us) ≡ Some PriceWord
unfolding keyword_of
price_word us = refl

-- where the front stays as it is
kept : (ts front tail : List Lexeme) (f : Option PhraseTree) → ts ≡ front ++ tail → Derives tail f → list_all is_flat front ≡ true → All IsLexeme ts → IsCut ts front front tail f
kept ts front tail f is d flat h = record {
  whole = is;
  derives = d;
  alike = alike_itself front;
  flat = flat;
  plain = flat;
  lexemes = all_front IsLexeme front tail (subst (All IsLexeme) is h);
}

-- the token of a text of digits
abbrev digits : List ℕ → Lexeme
digits text = record { kind = Number; text = text }

flat_around : (front : List Lexeme) (text : List ℕ) (back : List Lexeme) → list_all is_flat front ≡ true → list_all is_flat back ≡ true → list_all is_flat (front ++ digits text ∷ back) ≡ true
flat_around front text back a b = list_all-append is_flat front (digits text ∷ back) ∙ and_from _ _ a b

-- where a number in it is printed
counted : (ts front back tail : List Lexeme) (f : Option PhraseTree) (text : List ℕ) (n : ℕ) → ts ≡ (front ++ digits text ∷ back) ++ tail → Derives tail f
    → list_all is_flat front ≡ true → list_all is_flat back ≡ true → All IsLexeme ts → capped (number_in_range text) ≡ n → n < OVER_EVERY_LIMIT
    → IsCut ts (front ++ digits text ∷ back) (front ++ number n ∷ back) tail f
counted ts front back tail f text n is d flat plain h value small =
    let all : All IsLexeme (front ++ digits text ∷ back) = all_front IsLexeme (front ++ digits text ∷ back) tail (subst (All IsLexeme) is h) in
    let others : All IsLexeme (digits text ∷ back) = all_back IsLexeme front (digits text ∷ back) all in
    let one : IsLexeme (digits text) = All-head IsLexeme (digits text) back others in
    record {
      whole = is;
      derives = d;
      alike = alike_behind front (digits text ∷ back) (number n ∷ back) (refl, number_no_longer text n one.kind value small, alike_itself back);
      flat = flat_around front text back flat plain;
      plain = flat_around front (decimal n) back flat plain;
      lexemes = All-append IsLexeme front (number n ∷ back) (all_front IsLexeme front (digits text ∷ back) all)
          (All-cons IsLexeme (number n) back (number_is_lexeme n small) (All-tail IsLexeme (digits text) back others));
    }

digits_next : (ts : List Lexeme) (i n : ℕ) → (there : IsNumeralAt ts i n) → drop i ts ≡ digits there.token.text ∷ drop (i + 1) ts
digits_next ts i n there = there.there ∙ ap (λ (k : TokenKind). record { kind = k; text = there.token.text } ∷ drop (i + 1) ts) there.kind

fault_small : (cost : ℕ) → (nat_le LEAST_FAULT_COST cost && nat_le cost FAULT_COST) ≡ true → cost < OVER_EVERY_LIMIT
fault_small cost e = let le = (and_parts (nat_le LEAST_FAULT_COST cost) (nat_le cost FAULT_COST) e).1 in grind (arith, nat_tests, le)

price_small : (cost : ℕ) → nat_le cost PRICE ≡ true → cost < OVER_EVERY_LIMIT
price_small cost e = grind (arith, nat_tests)

reprinted_law : (ts : List Lexeme) (f : PhraseTree) → All IsLexeme ts → IsStatement Two ts (LawLine f) → Reprints ts (LawLine f)
reprinted_law ts f h is =
    let back = word (codes "law") ∷ [] in
    cut_tokens ts back back (drop 1 ts) (Some f) (LawLine f)
    (kept ts back (drop 1 ts) (Some f) (keyword_first ts LawWord is.form.word) is.form.shape refl h) refl h is.shallow
    (record { word = law_word (tokens_of f); shape = canonical_back (drop 1 ts) f is.form.shape })

reprinted_in : (ts : List Lexeme) (modes : List (List ℕ)) (f : PhraseTree) → All IsLexeme ts → IsStatement Two ts (InLine modes f) → Reprints ts (InLine modes f)
reprinted_in ts modes f h is =
    let back = word (codes "in") ∷ mode_tokens modes in
    let tail = drop (2 * length modes) ts in
    let whole : ts ≡ (word (codes "in") ∷ mode_tokens modes) ++ drop (2 * length modes) ts =
    keyword_first ts InWord is.form.word ∙ ahead (word (codes "in")) (modes_ahead ts modes h is.form.shape.0) in
    cut_tokens ts back back tail (Some f) (InLine modes f)
    (kept ts back tail (Some f) whole is.form.shape.1 (modes_flat modes) h) refl h is.shallow
    (record { word = in_word (mode_tokens modes ++ tokens_of f); shape = modes_again ts modes f h is.form.shape.0 is.form.shape.1 })

reprinted_step : (ts : List Lexeme) (source target : List ℕ) (f : PhraseTree) → All IsLexeme ts → IsStatement Two ts (StepLine source target f) → Reprints ts (StepLine source target f)
reprinted_step ts source target f h is =
    let back = move_tokens (codes "step") source target ++ word (codes "when") ∷ [] in
    let guard : HasGuard ts 4 (Some f) = is.form.shape.1 in
    let whole = keyword_first ts StepWord is.form.word
    ∙ ahead (word (codes "step")) (move_words ts source target h is.form.shape.0
    ∙ ap (λ rest. word source ∷ symbol Arrow ∷ word target ∷ rest) (says_next (codes "when") ts 4 guard.0)) in
    cut_tokens ts back back (drop 5 ts) (Some f) (StepLine source target f)
    (kept ts back (drop 5 ts) (Some f) whole guard.1 refl h) refl h is.shallow
    (record { word = step_word _; shape = (refl, (refl, canonical_back (drop 5 ts) f guard.1)) })

-- a fault up to its cost
fault_front : (ts : List Lexeme) (source target : List ℕ) (cost : ℕ) (f : Option PhraseTree) → All IsLexeme ts → IsStatement Two ts (FaultLine source target cost f) → (there : IsNumeralAt ts 5 cost)
    → ts ≡ word (codes "fault") ∷ word source ∷ symbol Arrow ∷ word target ∷ word (codes "cost") ∷ digits there.token.text ∷ drop 6 ts
fault_front ts source target cost f h is there =
    keyword_first ts FaultWord is.form.word
    ∙ ahead (word (codes "fault")) (move_words ts source target h is.form.shape.0
    ∙ ap (λ rest. word source ∷ symbol Arrow ∷ word target ∷ rest) (says_next (codes "cost") ts 4 is.form.shape.1 ∙ ahead (word (codes "cost")) (digits_next ts 5 cost there)))

reprinted_fault : (ts : List Lexeme) (source target : List ℕ) (cost : ℕ) (f : Option PhraseTree) → All IsLexeme ts → IsStatement Two ts (FaultLine source target cost f)
    → Reprints ts (FaultLine source target cost f)
reprinted_fault ts source target cost None h is =
    let small = fault_small cost is.number in
    let there = numeral_next ts 5 cost is.form.shape.2 in
    let front = move_tokens (codes "fault") source target ++ word (codes "cost") ∷ [] in
    let text = there.token.text in
    let end : drop 6 ts ≡ [] = let long = is.form.shape.3 in drop_all 6 ts (omega arith) in
    cut_tokens ts (front ++ digits text ∷ []) (front ++ number cost ∷ []) (drop 6 ts) None (FaultLine source target cost None)
    (counted ts front [] (drop 6 ts) None text cost (fault_front ts source target cost None h is there) end refl refl h there.value small) refl h is.shallow
    (record { word = fault_word _; shape = (refl, refl, ap Some (number_told cost small), refl) })
reprinted_fault ts source target cost (Some f) h is =
    let small = fault_small cost is.number in
    let there = numeral_next ts 5 cost is.form.shape.2 in
    let guard : HasGuard ts 6 (Some f) = is.form.shape.3 in
    let front = move_tokens (codes "fault") source target ++ word (codes "cost") ∷ [] in
    let text = there.token.text in
    let whole = fault_front ts source target cost (Some f) h is there
    ∙ ap (λ rest. (front ++ digits text ∷ []) ++ rest) (says_next (codes "when") ts 6 guard.0) in
    cut_tokens ts (front ++ digits text ∷ word (codes "when") ∷ []) (front ++ number cost ∷ word (codes "when") ∷ []) (drop 7 ts) (Some f) (FaultLine source target cost (Some f))
    (counted ts front (word (codes "when") ∷ []) (drop 7 ts) (Some f) text cost whole guard.1 refl refl h there.value small) refl h is.shallow
    (record { word = fault_word _; shape = (refl, refl, ap Some (number_told cost small), (refl, canonical_back (drop 7 ts) f guard.1)) })

-- a fault from each other mode up to its cost
faults_front : (ts : List Lexeme) (target : List ℕ) (cost : ℕ) (f : Option PhraseTree) → All IsLexeme ts → IsStatement Two ts (FaultsLine target cost f) → (there : IsNumeralAt ts 4 cost)
    → ts ≡ word (codes "fault") ∷ symbol Arrow ∷ word target ∷ word (codes "cost") ∷ digits there.token.text ∷ drop 5 ts
faults_front ts target cost f h is there =
    keyword_first ts FaultWord is.form.word
    ∙ ahead (word (codes "fault")) (target_words ts target h is.form.shape.0
    ∙ ap (λ rest. symbol Arrow ∷ word target ∷ rest) (says_next (codes "cost") ts 3 is.form.shape.1 ∙ ahead (word (codes "cost")) (digits_next ts 4 cost there)))

reprinted_faults : (ts : List Lexeme) (target : List ℕ) (cost : ℕ) (f : Option PhraseTree) → All IsLexeme ts → IsStatement Two ts (FaultsLine target cost f)
    → Reprints ts (FaultsLine target cost f)
reprinted_faults ts target cost None h is =
    let small = fault_small cost is.number in
    let there = numeral_next ts 4 cost is.form.shape.2 in
    let front = word (codes "fault") ∷ symbol Arrow ∷ word target ∷ word (codes "cost") ∷ [] in
    let text = there.token.text in
    let end : drop 5 ts ≡ [] = let long = is.form.shape.3 in drop_all 5 ts (omega arith) in
    cut_tokens ts (front ++ digits text ∷ []) (front ++ number cost ∷ []) (drop 5 ts) None (FaultsLine target cost None)
    (counted ts front [] (drop 5 ts) None text cost (faults_front ts target cost None h is there) end refl refl h there.value small) refl h is.shallow
    (record { word = fault_word _; shape = (refl, refl, ap Some (number_told cost small), refl) })
reprinted_faults ts target cost (Some f) h is =
    let small = fault_small cost is.number in
    let there = numeral_next ts 4 cost is.form.shape.2 in
    let guard : HasGuard ts 5 (Some f) = is.form.shape.3 in
    let front = word (codes "fault") ∷ symbol Arrow ∷ word target ∷ word (codes "cost") ∷ [] in
    let text = there.token.text in
    let whole = faults_front ts target cost (Some f) h is there
    ∙ ap (λ rest. (front ++ digits text ∷ []) ++ rest) (says_next (codes "when") ts 5 guard.0) in
    cut_tokens ts (front ++ digits text ∷ word (codes "when") ∷ []) (front ++ number cost ∷ word (codes "when") ∷ []) (drop 6 ts) (Some f) (FaultsLine target cost (Some f))
    (counted ts front (word (codes "when") ∷ []) (drop 6 ts) (Some f) text cost whole guard.1 refl refl h there.value small) refl h is.shallow
    (record { word = fault_word _; shape = (refl, refl, ap Some (number_told cost small), (refl, canonical_back (drop 6 ts) f guard.1)) })

-- a fault with a repair up to this
repair_front : (ts : List Lexeme) (source target : List ℕ) (cost : ℕ) (r : Repair) (f : Option PhraseTree) → All IsLexeme ts → IsStatement Two ts (RepairLine source target cost r f)
    → (there : IsNumeralAt ts 5 cost)
    → ts ≡ (move_tokens (codes "fault") source target ++ (word (codes "cost") ∷ [])) ++ digits there.token.text ∷ (repair_tokens r ++ drop 10 ts)
repair_front ts source target cost r f h is there =
    keyword_first ts FaultWord is.form.word
    ∙ ahead (word (codes "fault")) (move_words ts source target h is.form.shape.0
    ∙ ap (λ rest. word source ∷ symbol Arrow ∷ word target ∷ rest)
    (says_next (codes "cost") ts 4 is.form.shape.1 ∙ ahead (word (codes "cost")) (digits_next ts 5 cost there ∙ ahead (digits there.token.text) (repair_words ts r h is.form.shape.3))))

reprinted_repair : (ts : List Lexeme) (source target : List ℕ) (cost : ℕ) (r : Repair) (f : Option PhraseTree) → All IsLexeme ts → IsStatement Two ts (RepairLine source target cost r f)
    → Reprints ts (RepairLine source target cost r f)
reprinted_repair ts source target cost r None h is =
    let small = fault_small cost is.number in
    let there = numeral_next ts 5 cost is.form.shape.2 in
    let front = move_tokens (codes "fault") source target ++ word (codes "cost") ∷ [] in
    let text = there.token.text in
    let end : drop 10 ts ≡ [] = let long = is.form.shape.4 in drop_all 10 ts (omega arith) in
    cut_tokens ts (front ++ digits text ∷ repair_tokens r) (front ++ number cost ∷ repair_tokens r) (drop 10 ts) None (RepairLine source target cost r None)
    (counted ts front (repair_tokens r) (drop 10 ts) None text cost (repair_front ts source target cost r None h is there) end refl refl h there.value small) refl h is.shallow
    (record { word = fault_word _; shape = (refl, refl, ap Some (number_told cost small), refl, refl) })
reprinted_repair ts source target cost r (Some f) h is =
    let small = fault_small cost is.number in
    let there = numeral_next ts 5 cost is.form.shape.2 in
    let guard : HasGuard ts 10 (Some f) = is.form.shape.4 in
    let front = move_tokens (codes "fault") source target ++ word (codes "cost") ∷ [] in
    let text = there.token.text in
    let back = repair_tokens r ++ word (codes "when") ∷ [] in
    let whole = repair_front ts source target cost r (Some f) h is there
    ∙ ap (λ rest. front ++ digits text ∷ (repair_tokens r ++ rest)) (says_next (codes "when") ts 10 guard.0) in
    cut_tokens ts (front ++ digits text ∷ back) (front ++ number cost ∷ back) (drop 11 ts) (Some f) (RepairLine source target cost r (Some f))
    (counted ts front back (drop 11 ts) (Some f) text cost whole guard.1 refl refl h there.value small) refl h is.shallow
    (record { word = fault_word _; shape = (refl, refl, ap Some (number_told cost small), refl, (refl, canonical_back (drop 11 ts) f guard.1)) })

version_small : (n : ℕ) → (nat_le 1 n && nat_le n NEWEST) ≡ true → n < OVER_EVERY_LIMIT
version_small n e = let le = (and_parts (nat_le 1 n) (nat_le n NEWEST) e).1 in grind (arith, nat_tests, le)

version_word : (us : List Lexeme) → keyword_of (word (codes "version") ∷ us) ≡ Some VersionWord
unfolding keyword_of
version_word us = refl

reprinted_version : (ts : List Lexeme) (n : ℕ) → All IsLexeme ts → IsStatement Two ts (VersionLine n) → Reprints ts (VersionLine n)
reprinted_version ts n h is =
    let small = version_small n is.number in
    let told = numeral_ahead ts n is.form.shape in
    let there = numeral_next ts 1 n told.0 in
    let front = word (codes "version") ∷ [] in
    let text = there.token.text in
    let whole = keyword_first ts VersionWord is.form.word ∙ ahead (word (codes "version")) (digits_next ts 1 n there) in
    cut_tokens ts (front ++ digits text ∷ []) (front ++ number n ∷ []) (drop 2 ts) None (VersionLine n)
    (counted ts front [] (drop 2 ts) None text n whole told.1 refl refl h there.value small) refl h is.shallow
    (record { word = version_word _; shape = ap Some (number_told n small) })

reprinted_price : (ts : List Lexeme) (part control value : List ℕ) (cost : ℕ) → All IsLexeme ts → IsStatement Two ts (PriceLine part control value cost) → Reprints ts (PriceLine part control value cost)
reprinted_price ts part control value cost h is =
    let small = price_small cost is.number in
    let there = numeral_next ts 6 cost is.form.shape.1 in
    let words = price_words ts part control value h is.form.shape.0 in
    let front = named_tokens (codes "price") part ++ (symbol Dot ∷ word control ∷ symbol Equals ∷ word value ∷ []) in
    let text = there.token.text in
    let whole = keyword_first ts PriceWord is.form.word
    ∙ ahead (word (codes "price")) (words.0 ∙ ap (λ rest. word part ∷ symbol Dot ∷ word control ∷ symbol Equals ∷ word value ∷ rest) (digits_next ts 6 cost there)) in
    cut_tokens ts (front ++ digits text ∷ []) (front ++ number cost ∷ []) (drop 7 ts) None (PriceLine part control value cost)
    (counted ts front [] (drop 7 ts) None text cost whole words.1 refl refl h there.value small) refl h is.shallow
    (record { word = price_word _; shape = (refl, ap Some (number_told cost small)) })

pub reprinted : (ts : List Lexeme) (s : Statement) → All IsLexeme ts → IsStatement Two ts s → Reprints ts s
reprinted ts (ModelLine name) h is =
    same_tokens ts (ModelLine name) h is.shallow is.form (keyword_first ts ModelWord is.form.word ∙ ahead (word (codes "model")) (one_name ts name is.form.shape))
reprinted ts (DomainLine name values) h is =
    same_tokens ts (DomainLine name values) h is.shallow is.form (keyword_first ts DomainWord is.form.word ∙ ahead (word (codes "domain")) (names_then ts name values is.form.shape))
reprinted ts (TypeLine name) h is =
    same_tokens ts (TypeLine name) h is.shallow is.form (keyword_first ts TypeWord is.form.word ∙ ahead (word (codes "type")) (one_name ts name is.form.shape))
reprinted ts (VariableLine class name domain) h is =
    same_tokens ts (VariableLine class name domain) h is.shallow is.form (keyword_first ts (ClassWord class) is.form.word ∙ ahead (word (class_word class)) (two_words ts name domain is.form.shape))
reprinted ts (ModeLine name) h is =
    same_tokens ts (ModeLine name) h is.shallow is.form (keyword_first ts ModeWord is.form.word ∙ ahead (word (codes "mode")) (one_name ts name is.form.shape))
reprinted ts (LawLine f) h is = reprinted_law ts f h is
reprinted ts (InLine modes f) h is = reprinted_in ts modes f h is
reprinted ts (StepLine source target f) h is = reprinted_step ts source target f h is
reprinted ts (FaultLine source target cost f) h is = reprinted_fault ts source target cost f h is
reprinted ts (FaultsLine target cost f) h is = reprinted_faults ts target cost f h is
reprinted ts (RepairLine source target cost r f) h is = reprinted_repair ts source target cost r f h is
reprinted ts EndLine h is =
    let long = is.form.shape in
    same_tokens ts EndLine h is.shallow is.form (keyword_first ts EndWord is.form.word ∙ ahead (word (codes "end")) (drop_all 1 ts (omega arith)))
reprinted ts (PartLine name kind start) h is =
    same_tokens ts (PartLine name kind start) h is.shallow is.form (keyword_first ts PartWord is.form.word ∙ ahead (word (codes "part")) (three_words ts name kind start is.form.shape))
reprinted ts (PriceLine part control value cost) h is = reprinted_price ts part control value cost h is
reprinted ts (VersionLine n) h is = reprinted_version ts n h is
