-- The name of an accepted model is one word.
use Rattle.std.proofs.Common.{◌≡◌, ◌+◌, ℕ, Bool, true, false, cond, nat_eq, nat_lt, List, [], ◌∷◌, ◌++◌, length, slice_get, Option, Some, None, is_some, Result, Ok, Err, All, refl, sym, ap, subst, ◌∙◌}
use Rattle.std.specs.List.{list_all}
use Rattle.std.specs.Cmp.Derive.{both_true}
use Rattle.std.proofs.lemmas.Bool.{and_parts}
use Rattle.lv_run_words.specs.lv_text.declared.lexer.TokenKind.{TokenKind}
use Rattle.lv_run_words.specs.lv_text.declared.lexer.TokenKind.TheVariants as token
use Rattle.lv_run_words.specs.lv_text.Kinds.{has_kind}
use Rattle.lv_run_words.specs.lv_text.Laws.{IsLexeme}
use Rattle.lv_run_words.specs.lv_text.Lexemes.{Lexeme, Reading, reads, has_bad_byte, is_too_long, line_reading, is_word as is_word_kind, word_of, word_at}
use Rattle.lv_run_words.proofs.lv_text.ReadBack.{lexemes_have}
use Rattle.lv_base.specs.declared.ids.ValId.{ValId}
use Rattle.lv_base.specs.declared.ids.VarId.{VarId}
use Rattle.lv_model.specs.declared.plant.Plant.{Plant}
use Rattle.lv_model.proofs.Reading.{All-at}
use Rattle.lv_certcheck.specs.lv_cert.Words.{is_word}
use Rattle.lv_plant.proofs.lv_session.lv_session_request.WordLaws.{word_is_one}
use Rattle.lv_reader.specs.declared.code.ModelCode.{ModelCode}
use Rattle.lv_reader.specs.declared.code.ModelCode.TheVariants.{UnknownName, NoFit, Misplaced, LimitPassed, NotEnded, NoPart}
use Rattle.lv_reader.specs.declared.statement.Statement.{Statement}
use Rattle.lv_reader.specs.declared.statement.Statement.TheVariants.{ModelLine, DomainLine, TypeLine, VariableLine, ModeLine, LawLine, InLine, StepLine, FaultLine, FaultsLine, RepairLine, EndLine, PartLine, PriceLine, VersionLine}
use Rattle.lv_reader.specs.declared.statement.NumberedStatement.{NumberedStatement}
use Rattle.lv_reader.specs.declared.statement.ModelText.{ModelText}
use Rattle.lv_reader.specs.Statements.{HasShape}
use Rattle.lv_reader.specs.declared.version.Version.{Version}
use Rattle.lv_reader.specs.Versions.{version_in, gives_version, stated}
use Rattle.lv_reader.specs.Lines.{Says, SaysOf}
use Rattle.lv_reader.specs.Texts.{AreStatements, none_left, one_more, numbered}
use Rattle.lv_checker.specs.lv_model_entries.declared.draft.Draft.{Draft}
use Rattle.lv_checker.specs.lv_model_entries.declared.draft.TypeDraft.{TypeDraft}
use Rattle.lv_checker.specs.lv_model_entries.declared.draft.Entry.{Entry}
use Rattle.lv_checker.specs.lv_model_entries.declared.draft.Entry.TheVariants.{Named, NewDomain, TypeBegins, NewVariable, NewMode, TypeLaw, ModeLaws, NewMove, NewMoves, TypeEnds, NewPart, SystemLaw, NewPrice}
use Rattle.lv_checker.specs.lv_model_entries.Places.{type_place, mode_of_type, variable_numbered, part_of_name}
use Rattle.lv_checker.specs.lv_model_entries.Scopes.{variable_of_part, value_of_system}
use Rattle.lv_checker.specs.lv_model_entries.Entries.{known, system_formula, has_control, priced_entry, outside_entry, entry_where}
use Rattle.lv_checker.specs.Faults.{judged}
use Rattle.lv_checker.specs.Drafts.{empty, with_type, type_with, is_end, with_where, with_entry}
use Rattle.lv_checker.specs.Checking.{Checked, fine, faulty, checked_by, after, all_added, finished, checked}
use Rattle.lv_checker.specs.Verdicts.{Verdict, IsVerdict, not_read, is_checked, accepted, refused, verdict_of}
use Rattle.lv_checker.proofs.FitsLists.{chained, guarded}
use Rattle.lv_checker.proofs.FitsEntries.{known_parts, ok_parts, judged_parts}

-- the name that a statement gives the model is one word
abbrev names_one : Statement → Bool
names_one (ModelLine name) = is_word name
names_one s = true

abbrev says_one : NumberedStatement → Bool
says_one s = names_one s.statement

lexeme_one : (l : Lexeme) (name : List ℕ) → IsLexeme l → word_of l ≡ Some name → is_word name ≡ true
lexeme_one l name fact h =
    let two = guarded (is_word_kind l.kind) (Some l.text) name h in
    let same : l.text ≡ name = cc two.1 in
    subst (λ (text : List ℕ). is_word text ≡ true) same (by l.kind two.0 fact.kind)
  where
    by : (k : TokenKind) → is_word_kind k ≡ true → has_kind k l.text ≡ true → is_word l.text ≡ true
    by token.Word w h = word_is_one l.text h
    by token.Number w h = absurd (cc w)
    by token.Iff w h = absurd (cc w)
    by token.Implies w h = absurd (cc w)
    by token.Arrow w h = absurd (cc w)
    by token.Equals w h = absurd (cc w)
    by token.Not w h = absurd (cc w)
    by token.And w h = absurd (cc w)
    by token.Or w h = absurd (cc w)
    by token.Open w h = absurd (cc w)
    by token.Close w h = absurd (cc w)
    by token.Dot w h = absurd (cc w)

shape_one : (ls : List Lexeme) → All IsLexeme ls → (s : Statement) → HasShape ls s → names_one s ≡ true
shape_one ls facts (ModelLine name) h =
    let there = guarded (nat_eq (length ls) 2) (word_at ls 1) name h in
    let one = chained word_of (slice_get ls 1) name there.1 in
    lexeme_one one.0 name (All-at IsLexeme ls 1 one.0 facts one.1) one.2
shape_one ls facts (DomainLine name values) h = refl
shape_one ls facts (TypeLine name) h = refl
shape_one ls facts (VariableLine class name domain) h = refl
shape_one ls facts (ModeLine name) h = refl
shape_one ls facts (LawLine f) h = refl
shape_one ls facts (InLine modes f) h = refl
shape_one ls facts (StepLine source target guard) h = refl
shape_one ls facts (FaultLine source target cost guard) h = refl
shape_one ls facts (FaultsLine target cost guard) h = refl
shape_one ls facts (RepairLine source target cost repair guard) h = refl
shape_one ls facts EndLine h = refl
shape_one ls facts (PartLine name kind start) h = refl
shape_one ls facts (PriceLine part control value cost) h = refl
shape_one ls facts (VersionLine n) h = refl

line_one : (v : Version) (line : List ℕ) (s : Statement) → Says v line (Some s) → names_one s ≡ true
line_one v line s says = by (line_reading line) refl says
  where
    by : (r : Reading) → line_reading line ≡ r → SaysOf v r (Some s) → names_one s ≡ true
    by (reads ls) e h = shape_one ls (lexemes_have line ls e) s h.form.shape
    by (has_bad_byte place) e h = absurd h
    by is_too_long e h = absurd h

said_one : (known : Option Version) (before : ℕ) (line : List ℕ) (ss : List NumberedStatement) (said : Option Statement) → Says (version_in known) line said → list_all says_one ss ≡ true
    → list_all says_one (numbered before (stated known said) ++ ss) ≡ true
said_one known before line ss None says h = h
said_one known before line ss (Some s) says h = by (gives_version known s)
  where
    by : (b : Bool) → list_all says_one (numbered before (cond b None (Some s)) ++ ss) ≡ true
    by true = h
    by false = both_true (line_one (version_in known) line s says) h

statements_one : {known : Option Version} {before : ℕ} {ls : List (List ℕ)} {ss : List NumberedStatement} → AreStatements known before ls ss → list_all says_one ss ≡ true
statements_one none_left = refl
statements_one (one_more {known} {before} {line} {lines} {ss} said says are f) =
    subst (λ (xs : List NumberedStatement). list_all says_one xs ≡ true) (sym f) (said_one known (before + 1) line ss said says (statements_one are))

-- the name that an entry gives is the statement's
module _ (d : Draft) (name : List ℕ) where
  own_name : (s : Statement) → outside_entry d s ≡ Ok (Named name) → names_one s ≡ true → is_word name ≡ true
  unfolding outside_entry
  own_name (ModelLine n) h one = by d.has_begun h
    where
      by : (b : Bool) → cond b (Err Misplaced) (Ok (Named n)) ≡ Ok (Named name) → is_word name ≡ true
      by true e = absurd (cc e)
      by false e = let same : n ≡ name = cc e in subst (λ (w : List ℕ). is_word w ≡ true) same one
  own_name (DomainLine n values) h one = absurd (cc h)
  own_name (TypeLine n) h one = absurd (cc h)
  own_name (LawLine f) h one = let a = ok_parts (system_formula d f) (λ g. Ok (SystemLaw g)) (Named name) h in absurd (cc a.2)
  own_name (PartLine n kind start) h one =
      let a = known_parts (type_place d.plant.types kind) UnknownName _ (Named name) h in
      let b = known_parts (mode_of_type d.plant.types a.0 start) UnknownName _ (Named name) a.2 in
      let c = known_parts (variable_numbered (length d.ranges)) LimitPassed (λ x. Ok (NewPart (record { name = n; kind = a.0; start = b.0; first = x }))) (Named name) b.2 in
      absurd (cc c.2)
  own_name (PriceLine part control value cost) h one =
      let a = known_parts (part_of_name d.plant.parts part) UnknownName _ (Named name) h in
      let b = known_parts (variable_of_part d.plant.types control a.0) UnknownName _ (Named name) a.2 in
      absurd (controlled b.0 (has_control d.plant.types control a.0) b.2)
    where
      priced : (v : ValId) (x : VarId) (b : Bool) → cond b (Ok (NewPrice (record { control = x; value = v; cost = record { 0 = cost } }))) (Err NoFit) ≡ Ok (Named name) → ⊥
      priced v x true e = absurd (cc e)
      priced v x false e = absurd (cc e)

      controlled : (x : VarId) (b : Bool) → cond b (known (value_of_system d x value) NoFit (λ v. priced_entry v x cost)) (Err NoFit) ≡ Ok (Named name) → ⊥
      controlled x true e = let c = known_parts (value_of_system d x value) NoFit (λ v. priced_entry v x cost) (Named name) e in priced c.0 x (nat_lt 0 c.0.0) c.2
      controlled x false e = absurd (cc e)
  own_name (VariableLine class n domain) h one = absurd (cc h)
  own_name (ModeLine n) h one = absurd (cc h)
  own_name (InLine modes f) h one = absurd (cc h)
  own_name (StepLine source target f) h one = absurd (cc h)
  own_name (FaultLine source target cost guard) h one = absurd (cc h)
  own_name (FaultsLine target cost guard) h one = absurd (cc h)
  own_name (RepairLine source target cost repair guard) h one = absurd (cc h)
  own_name EndLine h one = absurd (cc h)
  own_name (VersionLine n) h one = absurd (cc h)

-- the draft's plant has a name of one word
abbrev IsNamed : Draft → Type 0
IsNamed d = is_word d.plant.name ≡ true

where_named : (d : Draft) (o : Option TypeDraft) (s : Statement) (e : Entry) → entry_where d o s ≡ Ok e → names_one s ≡ true → IsNamed d
    → IsNamed (with_where (record d { has_begun = true }) o e)
where_named d (Some t) s e h one is = by (is_end e)
  where
    begun : Draft
    begun = record d { has_begun = true }

    by : (b : Bool) → IsNamed (cond b (with_type begun t) (record begun { current = Some (type_with d.plant.domains t e) }))
    by true = is
    by false = is
where_named d None s (Named name) h one is = own_name d name s h one
where_named d None s (NewDomain x) h one is = is
where_named d None s (TypeBegins name) h one is = is
where_named d None s (NewVariable v) h one is = is
where_named d None s (NewMode name n) h one is = is
where_named d None s (TypeLaw f) h one is = is
where_named d None s (ModeLaws fs) h one is = is
where_named d None s (NewMove line m) h one is = is
where_named d None s (NewMoves line ms) h one is = is
where_named d None s TypeEnds h one is = is
where_named d None s (NewPart p) h one is = is
where_named d None s (SystemLaw f) h one is = is
where_named d None s (NewPrice x) h one is = is

all_named : (d : Draft) (ss : List NumberedStatement) (end : Draft) → IsNamed d → list_all says_one ss ≡ true → all_added d ss ≡ fine end → IsNamed end
all_named d [] end is one h = let e : d ≡ end = cc h in subst IsNamed e is
all_named d (s ∷ ss) end is one h = by (judged d s.statement) refl h (λ e f k. all_named (with_entry d e) ss end f two.1 k)
  where
    two : (names_one s.statement ≡ true) × (list_all says_one ss ≡ true)
    two = and_parts (names_one s.statement) (list_all says_one ss) one

    by : (r : Result Entry ModelCode) → judged d s.statement ≡ r → after (checked_by r s.line (λ entry. fine (with_entry d entry))) (λ e. all_added e ss) ≡ fine end
        → ((e : Entry) → IsNamed (with_entry d e) → all_added (with_entry d e) ss ≡ fine end → IsNamed end) → IsNamed end
    by (Ok e) has h rest = rest e (where_named d d.current s.statement e (judged_parts d s.statement e has).0 two.0 is) h
    by (Err code) has h rest = absurd (cc)

finished_name : (lines : ℕ) (d : Draft) (plant : Plant) → finished lines d ≡ fine plant → d.plant ≡ plant
finished_name lines d plant h = by (is_some d.current) (nat_eq (length d.plant.parts) 0) h
  where
    by : (a b : Bool) → cond a (faulty NotEnded (lines + 1)) (cond b (faulty NoPart (lines + 1)) (fine d.plant)) ≡ fine plant → d.plant ≡ plant
    by true b h = absurd (cc)
    by false true h = absurd (cc)
    by false false h = cc h

checked_is : (text : ModelText) → checked text ≡ after (all_added empty text.statements) (finished text.lines)
unfolding checked
checked_is text = refl

checked_name : (text : ModelText) (plant : Plant) → list_all says_one text.statements ≡ true → (c : Checked Draft) → all_added empty text.statements ≡ c → after c (finished text.lines) ≡ fine plant
    → is_word plant.name ≡ true
checked_name text plant one (fine d) added h =
    subst (λ (p : Plant). is_word p.name ≡ true) (finished_name text.lines d plant h) (all_named empty text.statements d refl one added)
checked_name text plant one (faulty code line) added h = absurd (cc)

accepted_found : (c : Checked Plant) (plant : Plant) → accepted plant ≡ verdict_of c → c ≡ fine plant
accepted_found (fine q) plant h = let same : q ≡ plant = cc h in ap (λ (p : Plant). fine p) same
accepted_found (faulty code line) plant h = absurd (cc)

not_refused : (w : Verdict) (plant : Plant) (code : ModelCode) (line : ℕ) → w ≡ accepted plant → w ≡ refused code line → ⊥
not_refused w plant code line a b = absurd (cc)

pub accepted_name : (bytes : List ℕ) (plant : Plant) → IsVerdict bytes (accepted plant) → is_word plant.name ≡ true
accepted_name bytes plant v = by v refl
  where
    by : {w : Verdict} → IsVerdict bytes w → w ≡ accepted plant → is_word plant.name ≡ true
    by {w} (not_read code line why e) is = absurd (not_refused w plant code line is e)
    by (is_checked text read e) is =
        checked_name text plant (statements_one read.statements) (all_added empty text.statements) refl (sym (checked_is text) ∙ accepted_found (checked text) plant (sym is ∙ e))
