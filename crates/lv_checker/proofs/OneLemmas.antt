-- A text of the first version: each line gives one formula or one move, numbered as the moves are.
use Rattle.std.proofs.Common.{◌≡◌, ◌+◌, ℕ, Bool, true, false, nat_eq, List, [], ◌∷◌, length, map, Option, Some, None, Result, Ok, Err, if◌then◌else◌, refl, sym, ap, subst, ◌∙◌, arith}
use Rattle.std.specs.List.{list_all}
use Rattle.std.proofs.lemmas.Bool.{and_parts, eqb-true}
use Rattle.std.proofs.lemmas.List.{length-map, length_push}
use Rattle.lv_base.specs.declared.ids.ValId.{ValId}
use Rattle.lv_model.specs.declared.plant.Domain.{Domain}
use Rattle.lv_model.specs.declared.plant.ComponentType.{ComponentType}
use Rattle.lv_model.specs.declared.plant.Move.{Move}
use Rattle.lv_reader.specs.declared.code.ModelCode.{ModelCode}
use Rattle.lv_reader.specs.declared.code.ModelCode.TheVariants.{UnknownName, LimitPassed, NotEnded}
use Rattle.lv_reader.specs.declared.version.Version.TheVariants.{One}
use Rattle.lv_reader.specs.declared.statement.Statement.{Statement}
use Rattle.lv_reader.specs.declared.statement.Statement.TheVariants.{ModelLine, DomainLine, TypeLine, VariableLine, ModeLine, LawLine, InLine, StepLine, FaultLine, FaultsLine, RepairLine, EndLine, PartLine, PriceLine, VersionLine}
use Rattle.lv_reader.specs.declared.statement.NumberedStatement.{NumberedStatement}
use Rattle.lv_reader.specs.Statements.{has_form_of}
use Rattle.lv_model_entries.specs.declared.draft.Draft.{Draft}
use Rattle.lv_model_entries.specs.declared.draft.TypeDraft.{TypeDraft}
use Rattle.lv_model_entries.specs.declared.draft.Entry.{Entry}
use Rattle.lv_model_entries.specs.declared.draft.Entry.TheVariants.{Named, NewDomain, TypeBegins, NewVariable, NewMode, TypeLaw, ModeLaws, NewMove, NewMoves, TypeEnds, NewPart, SystemLaw, NewPrice}
use Rattle.lv_model_entries.specs.Places.{placed, domain_place, mode_place}
use Rattle.lv_model_entries.specs.Entries.{type_formula, mode_places, law_in, step_of, fault_of, line_number, guard_in, inside_entry, entry_where}
use Rattle.lv_checker.specs.Faults.{judged}
use Rattle.lv_checker.specs.Drafts.{empty, stay_in, with_move_in_place, type_with, with_where, with_entry}
use Rattle.lv_checker.specs.Checking.{fine, checked_by, after, all_added}
use Rattle.lv_checker.specs.VersionOne.{AddsOne, NumbersMoves, is_of_one, VersionOneIsKept}
use Rattle.lv_checker.proofs.FitsLists.{placed_is}
use Rattle.lv_checker.proofs.FitsMoves.{put_is, put_length}
use Rattle.lv_checker.proofs.FitsEntries.{known_parts, ok_parts, done, same_ok, judged_parts}

places_length : (t : ComponentType) (names : List (List ℕ)) (ms : List ValId) → mode_places t names ≡ Ok ms → length ms ≡ length names
places_length t [] ms h = let e : [] ≡ ms = cc h in ap (λ (xs : List ValId). length xs) (sym e)
places_length t (n ∷ ns) ms h =
    let one = known_parts (mode_place t n) UnknownName _ ms h in
    let two = ok_parts (mode_places t ns) (λ xs. Ok (one.0 ∷ xs)) ms one.2 in
    let same = ap (λ (xs : List ValId). length xs) (same_ok (one.0 ∷ two.0) ms two.2) in
    let rest = places_length t ns two.0 two.1 in
    omega (arith, same, rest)

module _ (domains : List Domain) (t : TypeDraft) where
  ended : (b : Bool) (e : Entry) → (if b then Err NotEnded else done TypeEnds) ≡ Ok e → AddsOne t e
  ended true e h = absurd (cc)
  ended false e h = subst (AddsOne t) (same_ok TypeEnds e h) tt

  one_added : (s : Statement) (e : Entry) → has_form_of One s ≡ true → inside_entry domains t s ≡ Ok e → AddsOne t e
  unfolding inside_entry
  one_added (VariableLine class name domain) e of h = let one = known_parts (domain_place domains domain) UnknownName _ e h in subst (AddsOne t) (same_ok _ e one.2) tt
  one_added (ModeLine name) e of h = let one = known_parts (placed (length t.lists.modes)) LimitPassed (λ n. Ok (NewMode name n)) e h in subst (AddsOne t) (same_ok _ e one.2) tt
  one_added (LawLine f) e of h = let one = ok_parts (type_formula domains t.lists f) (λ g. Ok (TypeLaw g)) e h in subst (AddsOne t) (same_ok _ e one.2) tt
  one_added (InLine modes f) e of h =
      let one = ok_parts (mode_places t.lists modes) _ e h in
      let two = ok_parts (type_formula domains t.lists f) (λ g. Ok (ModeLaws (map (law_in g) one.0))) e one.2 in
      subst (AddsOne t) (same_ok _ e two.2) (length-map one.0 (law_in two.0) ∙ places_length t.lists modes one.0 one.1 ∙ eqb-true (length modes) 1 of)
  one_added (StepLine source target f) e of h =
      let one = known_parts (mode_place t.lists source) UnknownName _ e h in
      let two = known_parts (mode_place t.lists target) UnknownName _ e one.2 in
      let three = ok_parts (type_formula domains t.lists f) _ e two.2 in
      let four = known_parts (line_number t) LimitPassed (λ n. Ok (NewMove n (step_of one.0 two.0 three.0 n))) e three.2 in
      subst (AddsOne t) (same_ok _ e four.2) (sym (placed_is (t.lines + 1) four.0 four.1))
  one_added (FaultLine source target cost guard) e of h =
      let one = known_parts (mode_place t.lists source) UnknownName _ e h in
      let two = known_parts (mode_place t.lists target) UnknownName _ e one.2 in
      let three = ok_parts (guard_in domains t.lists guard) _ e two.2 in
      let four = known_parts (line_number t) LimitPassed (λ n. Ok (NewMove n (fault_of one.0 two.0 cost three.0 n))) e three.2 in
      subst (AddsOne t) (same_ok _ e four.2) (sym (placed_is (t.lines + 1) four.0 four.1))
  one_added (FaultsLine target cost guard) e of h = absurd (cc)
  one_added (RepairLine source target cost repair guard) e of h = absurd (cc)
  one_added EndLine e of h = ended (nat_eq (length t.lists.modes) 0) e h
  one_added (ModelLine name) e of h = absurd (cc)
  one_added (DomainLine name values) e of h = absurd (cc)
  one_added (TypeLine name) e of h = absurd (cc)
  one_added (PartLine name kind start) e of h = absurd (cc)
  one_added (PriceLine part control value cost) e of h = absurd (cc)
  one_added (VersionLine n) e of h = absurd (cc)

  put_longer : (m : Move) → length (with_move_in_place m t.lists.moves) ≡ length t.lists.moves + 1
  put_longer m = ap (λ (xs : List Move). length xs) (put_is m t.lists.moves) ∙ put_length m t.lists.moves

  moves_numbered : (line : ℕ) (ms : List Move) → NumbersMoves (Some t) → length ms ≡ 1 → line ≡ t.lines + 1 → NumbersMoves (Some (type_with domains t (NewMoves line ms)))
  moves_numbered line [] h one next = absurd (cc)
  moves_numbered line (m ∷ []) h one next = let longer = put_longer m in omega (arith, h, next, longer)
  moves_numbered line (m ∷ n ∷ ms) h one next = absurd (omega (arith, one))

  type_numbered : (e : Entry) → NumbersMoves (Some t) → AddsOne t e → NumbersMoves (Some (type_with domains t e))
  type_numbered (NewVariable v) h one = h
  type_numbered (NewMode name n) h one =
      let longer = put_longer (stay_in n) in
      let more = length_push t.lists.modes name in
      omega (arith, h, longer, more)
  type_numbered (TypeLaw f) h one = h
  type_numbered (ModeLaws fs) h one = h
  type_numbered (NewMove line m) h one = moves_numbered line (m ∷ []) h refl one
  type_numbered (NewMoves line ms) h one = moves_numbered line ms h one.0 one.1
  type_numbered (Named name) h one = h
  type_numbered (NewDomain x) h one = h
  type_numbered (TypeBegins name) h one = h
  type_numbered TypeEnds h one = h
  type_numbered (NewPart p) h one = h
  type_numbered (SystemLaw f) h one = h
  type_numbered (NewPrice p) h one = h

where_numbered : (d : Draft) (o : Option TypeDraft) → d.current ≡ o → (s : Statement) (e : Entry) → entry_where d o s ≡ Ok e → has_form_of One s ≡ true → NumbersMoves o
    → NumbersMoves (with_where (record d { has_begun = true }) o e).current
where_numbered d None is s (TypeBegins name) h of k = refl
where_numbered d None is s (Named name) h of k = subst NumbersMoves (sym is) tt
where_numbered d None is s (NewDomain x) h of k = subst NumbersMoves (sym is) tt
where_numbered d None is s (NewVariable v) h of k = subst NumbersMoves (sym is) tt
where_numbered d None is s (NewMode name n) h of k = subst NumbersMoves (sym is) tt
where_numbered d None is s (TypeLaw f) h of k = subst NumbersMoves (sym is) tt
where_numbered d None is s (ModeLaws fs) h of k = subst NumbersMoves (sym is) tt
where_numbered d None is s (NewMove line m) h of k = subst NumbersMoves (sym is) tt
where_numbered d None is s (NewMoves line ms) h of k = subst NumbersMoves (sym is) tt
where_numbered d None is s TypeEnds h of k = subst NumbersMoves (sym is) tt
where_numbered d None is s (NewPart p) h of k = subst NumbersMoves (sym is) tt
where_numbered d None is s (SystemLaw f) h of k = subst NumbersMoves (sym is) tt
where_numbered d None is s (NewPrice x) h of k = subst NumbersMoves (sym is) tt
where_numbered d (Some t) is s TypeEnds h of k = tt
where_numbered d (Some t) is s (Named name) h of k = k
where_numbered d (Some t) is s (NewDomain x) h of k = k
where_numbered d (Some t) is s (TypeBegins name) h of k = k
where_numbered d (Some t) is s (NewVariable v) h of k = k
where_numbered d (Some t) is s (NewMode name n) h of k = type_numbered d.plant.domains t (NewMode name n) k tt
where_numbered d (Some t) is s (TypeLaw f) h of k = k
where_numbered d (Some t) is s (ModeLaws fs) h of k = k
where_numbered d (Some t) is s (NewMove line m) h of k = type_numbered d.plant.domains t (NewMove line m) k (one_added d.plant.domains t s (NewMove line m) of h)
where_numbered d (Some t) is s (NewMoves line ms) h of k = type_numbered d.plant.domains t (NewMoves line ms) k (one_added d.plant.domains t s (NewMoves line ms) of h)
where_numbered d (Some t) is s (NewPart p) h of k = k
where_numbered d (Some t) is s (SystemLaw f) h of k = k
where_numbered d (Some t) is s (NewPrice x) h of k = k

all_numbered : (d : Draft) (ss : List NumberedStatement) (end : Draft) → NumbersMoves d.current → list_all is_of_one ss ≡ true → all_added d ss ≡ fine end → NumbersMoves end.current
all_numbered d [] end k of h = let e : d ≡ end = cc h in subst (λ (x : Draft). NumbersMoves x.current) e k
all_numbered d (s ∷ ss) end k of h = by (judged d s.statement) refl h (λ e next f. all_numbered (with_entry d e) ss end next two.1 f)
  where
    two : (has_form_of One s.statement ≡ true) × (list_all is_of_one ss ≡ true)
    two = and_parts (has_form_of One s.statement) (list_all is_of_one ss) of

    by : (r : Result Entry ModelCode) → judged d s.statement ≡ r → after (checked_by r s.line (λ entry. fine (with_entry d entry))) (λ e. all_added e ss) ≡ fine end
        → ((e : Entry) → NumbersMoves (with_entry d e).current → all_added (with_entry d e) ss ≡ fine end → NumbersMoves end.current) → NumbersMoves end.current
    by (Ok e) is h rest = rest e (where_numbered d d.current refl s.statement e (judged_parts d s.statement e is).0 two.0 k) h
    by (Err code) is h rest = absurd (cc)

pub one_is_kept : VersionOneIsKept
one_is_kept = record { adds_one = one_added; numbers = λ ss d of h. all_numbered empty ss d tt of h }
