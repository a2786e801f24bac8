-- One step of a log after the other becomes a line, or is left out.
use Rattle.std.proofs.Common.{◌≡◌, ◌<◌, ◌+◌, ℕ, Bool, true, false, nat_eq, nat_lt, List, [], ◌∷◌, ◌++◌, length, map, take, drop, Option, Some, None, option_map, slice_get, slice_index, Contains, refl, sym, ap, ap₂, subst, ◌∙◌, arith, inl, inr, if◌then◌else◌}
use Rattle.std.specs.List.{list_all}
use Rattle.std.proofs.lemmas.Bool.{and_parts, and_from, cases_eq}
use Rattle.std.proofs.lemmas.Bool.Decides.{nat_tests}
use Rattle.std.proofs.lemmas.List.{append_assoc, append-nil, map-append, get_or_append_left, length-append, length-map}
use Rattle.std.proofs.Math.Seq.{get_or-append_seam}
use Rattle.lv_base.specs.declared.ids.Lit.{Lit}
use Rattle.lv_clauses.specs.ClauseMap.{ClauseMap}
use Rattle.lv_clauses.specs.Literals.{neg}
use Rattle.lv_clauses.specs.declared.log.Hint.{Hint}
use Rattle.lv_clauses.specs.declared.log.Hint.TheVariants.{Given, Earlier}
use Rattle.lv_clauses.specs.declared.log.Step.{Step}
use Rattle.lv_clauses.specs.Following.{first_bad_after, follows_by_hints}
use Rattle.lv_clauses.proofs.SoundLemmas.{first_bad-next}
use Rattle.lv_cert.specs.declared.line.Literal.{Literal}
use Rattle.lv_cert_meaning.specs.Following.{literal_of, numbered, follows}
use Rattle.lv_cert_meaning.specs.Deriving.{Derived, clause_of_line, derives, ends_empty, refutes}
use Rattle.lv_cert_writing.specs.declared.derivation.Derivation.{Derivation}
use Rattle.lv_cert_writing.specs.Needed.{is_marked, has_named}
use Rattle.lv_cert_writing.specs.BlockLines.{line_of, unit_number, last_line, derived_of, IsDenied, IsRefuting}
use Rattle.lv_cert_writing.proofs.PlaceLemmas.{slice_get-take, below_front, numbered-more, numbered-last}
use Rattle.lv_cert_writing.proofs.BlockLineLemmas.{literals_back, HasNumber, follows_too, denied_follows}

-- one line more
pub derives-more : (bools : ℕ) (clauses : List (List Lit)) (ds : List Derived) (d : Derived) → derives bools clauses ds ≡ true
    → follows bools (clauses ++ map clause_of_line ds) d.literals d.hints ≡ true → derives bools clauses (ds ++ d ∷ []) ≡ true
derives-more bools clauses [] d e follow = and_from (follows bools clauses d.literals d.hints) true (subst (λ (cs : List (List Lit)). follows bools cs d.literals d.hints ≡ true) (append-nil clauses) follow) refl
derives-more bools clauses (f ∷ ds) d e follow =
    let parts = and_parts (follows bools clauses f.literals f.hints) (derives bools (clauses ++ clause_of_line f ∷ []) ds) e in
    and_from (follows bools clauses f.literals f.hints) (derives bools (clauses ++ clause_of_line f ∷ []) (ds ++ d ∷ [])) parts.0
    (derives-more bools (clauses ++ clause_of_line f ∷ []) ds d parts.1
    (subst (λ (cs : List (List Lit)). follows bools cs d.literals d.hints ≡ true) (sym (append_assoc clauses (clause_of_line f ∷ []) (map clause_of_line ds))) follow))

pub ends_empty-more : (ds : List Derived) (d : Derived) → ends_empty (ds ++ d ∷ []) ≡ nat_eq (length d.literals) 0
ends_empty-more [] d = refl
ends_empty-more (f ∷ []) d = refl
ends_empty-more (f ∷ (g ∷ ds)) d = ends_empty-more (g ∷ ds) d

-- what the steps before a place came to: lines that follow, and for each step that is marked the number of its line
pub record IsSoFar (set : ClauseMap) (clauses : List (List Lit)) (log : List Step) (needed : List Bool) (place : ℕ) (lines : List Derivation) (placed : List ℕ) : Type 0 where
  pub len : length placed ≡ place
  pub rest : first_bad_after set (take place log) (drop place log) ≡ None
  pub derived : derives set.bools clauses (map derived_of lines) ≡ true
  pub named : (k : ℕ) (s : Step) → k < place → slice_get log k ≡ Some s → is_marked needed k ≡ true
      → numbered (clauses ++ map clause_of_line (map derived_of lines)) (slice_index placed k) ≡ Some s.clause

module _ (set : ClauseMap) (clauses : List (List Lit)) (numbers units : List ℕ) (log : List Step) (needed : List Bool) (is : IsRefuting set clauses numbers units log needed) where
  pub none_so_far : (lines : List Derivation) (placed : List ℕ) → lines ≡ [] → placed ≡ [] → IsSoFar set clauses log needed 0 lines placed
  none_so_far lines placed e f =
      record {
        len = ap (λ (ns : List ℕ). length ns) f;
        rest = is.valid;
        derived = ap (λ (ls : List Derivation). derives set.bools clauses (map derived_of ls)) e;
        named = λ k s below got marked. absurd (omega (arith, below));
      }

  module _ (place : ℕ) (lines : List Derivation) (placed : List ℕ) (far : IsSoFar set clauses log needed place lines placed) (s : Step) (at : slice_get log place ≡ Some s) where
    abbrev now : List (List Lit)
    now = clauses ++ map clause_of_line (map derived_of lines)

    goes : (if follows_by_hints set (take place log) s then first_bad_after set (take (place + 1) log) (drop (place + 1) log) else Some place) ≡ None
    goes = sym (first_bad-next set log place s at) ∙ far.rest

    -- the step follows, and so do those behind it
    good : (follows_by_hints set (take place log) s ≡ true) × (first_bad_after set (take (place + 1) log) (drop (place + 1) log) ≡ None)
    good = by (follows_by_hints set (take place log) s) refl
      where
        by : (b : Bool) → follows_by_hints set (take place log) s ≡ b → (follows_by_hints set (take place log) s ≡ true) × (first_bad_after set (take (place + 1) log) (drop (place + 1) log) ≡ None)
        by true e = (e, sym (ap (λ b. if b then first_bad_after set (take (place + 1) log) (drop (place + 1) log) else Some place) e) ∙ goes)
        by false e = absurd (cc (sym (ap (λ b. if b then first_bad_after set (take (place + 1) log) (drop (place + 1) log) else Some place) e) ∙ goes))

    has_number : (h : Hint) → has_named needed place h ≡ true → HasNumber set.slots (take place log) now numbers placed h
    has_number (Given id) has = record { number = λ c e. numbered-more clauses (map clause_of_line (map derived_of lines)) (slice_index numbers id.0) c (is.given.each id.0 c e) }
    has_number (Earlier k) has = record { number = λ c e. by c (slice_get (take place log) k) refl e }
      where
        by : (c : List Lit) (o : Option Step) → slice_get (take place log) k ≡ o → option_map (λ (t : Step). t.clause) (slice_get (take place log) k) ≡ Some c → numbered now (slice_index placed k) ≡ Some c
        by c None none e = absurd (cc (sym (ap (option_map (λ (t : Step). t.clause)) none) ∙ e))
        by c (Some t) got e =
            let below : k < place = below_front place log k t got in
            let before : nat_lt k place ≡ true = grind (arith, nat_tests, below) in
            let marked : is_marked needed k ≡ true = rw before at has in
            far.named k t below (slice_get-take place log k t got) marked ∙ sym (ap (option_map (λ (u : Step). u.clause)) got) ∙ e

    -- it is left out
    pub left_out : is_marked needed place ≡ false → (more : List ℕ) → more ≡ placed ++ 0 ∷ [] → IsSoFar set clauses log needed (place + 1) lines more
    left_out unmarked more added =
        record {
          len = let long = ap (λ (ns : List ℕ). length ns) added in let far_len = far.len in omega (arith, long, far_len, length-append placed (0 ∷ []));
          rest = good.1;
          derived = far.derived;
          named = named;
        }
      where
        named : (k : ℕ) (t : Step) → k < place + 1 → slice_get log k ≡ Some t → is_marked needed k ≡ true → numbered now (slice_index more k) ≡ Some t.clause
        named k t below got marked = elim (cases_eq k place) [
          | inl same ↦ absurd (cc (sym marked ∙ ap (is_marked needed) same ∙ unmarked))
          | inr other ↦
              let before : k < place = omega (arith, below, other) in
              let inside : k < length placed = let far_len = far.len in omega (arith, before, far_len) in
              ap (numbered now) (ap (λ (ns : List ℕ). slice_index ns k) added ∙ get_or_append_left placed (0 ∷ []) 0 k inside) ∙ far.named k t before got marked
        ]

    -- it becomes a line
    pub taken : list_all (has_named needed place) s.hints ≡ true → (line : Derivation) → line ≡ line_of numbers placed s → (lines_more : List Derivation) → lines_more ≡ lines ++ line ∷ []
        → (n : ℕ) → n ≡ length clauses + length lines_more → (placed_more : List ℕ) → placed_more ≡ placed ++ n ∷ [] → IsSoFar set clauses log needed (place + 1) lines_more placed_more
    taken has line made lines_more added n count placed_more noted =
        record {
          len = let long = ap (λ (ns : List ℕ). length ns) noted in let far_len = far.len in omega (arith, long, far_len, length-append placed (n ∷ []));
          rest = good.1;
          derived = subst (λ (es : List Derived). derives set.bools clauses es ≡ true) (sym more) (derives-more set.bools clauses (map derived_of lines) (derived_of line) far.derived follow);
          named = named;
        }
      where
        more : map derived_of lines_more ≡ map derived_of lines ++ derived_of line ∷ []
        more = ap (map derived_of) added ∙ map-append derived_of lines (line ∷ [])

        follow : follows set.bools now (derived_of line).literals (derived_of line).hints ≡ true
        follow =
            subst (λ (l : Derivation). follows set.bools now l.literals l.hints ≡ true) (sym made)
            (follows_too set.slots (take place log) now numbers placed needed place has_number set.bools s has good.0)

        clause_is : clause_of_line (derived_of line) ≡ s.clause
        clause_is = ap (λ (l : Derivation). map literal_of l.literals) made ∙ literals_back s.clause

        now_more : clauses ++ map clause_of_line (map derived_of lines_more) ≡ now ++ s.clause ∷ []
        now_more =
            ap (λ (es : List Derived). clauses ++ map clause_of_line es) more
            ∙ ap (λ (cs : List (List Lit)). clauses ++ cs) (map-append clause_of_line (map derived_of lines) (derived_of line ∷ []))
            ∙ ap (λ (c : List Lit). clauses ++ (map clause_of_line (map derived_of lines) ++ c ∷ [])) clause_is
            ∙ sym (append_assoc clauses (map clause_of_line (map derived_of lines)) (s.clause ∷ []))

        last : n ≡ length now + 1
        last =
            let long = ap (λ (ls : List Derivation). length ls) added in
            omega (arith, count, long, length-append lines (line ∷ []), length-append clauses (map clause_of_line (map derived_of lines)), length-map (map derived_of lines) clause_of_line, length-map lines derived_of)

        named : (k : ℕ) (t : Step) → k < place + 1 → slice_get log k ≡ Some t → is_marked needed k ≡ true
            → numbered (clauses ++ map clause_of_line (map derived_of lines_more)) (slice_index placed_more k) ≡ Some t.clause
        named k t below got marked = ap₂ (λ (cs : List (List Lit)) (ns : List ℕ). numbered cs (slice_index ns k)) now_more noted ∙ elim (cases_eq k place) [
          | inl same ↦
              let one : Some s ≡ Some t = sym at ∙ sym (ap (slice_get log) same) ∙ got in
              let step : s ≡ t = cc one in
              let far_len = far.len in
              let end : k ≡ length placed = omega (arith, same, far_len) in
              ap (numbered (now ++ s.clause ∷ [])) (ap (slice_index (placed ++ n ∷ [])) end ∙ get_or-append_seam placed n [] 0)
              ∙ numbered-last now s.clause n last
              ∙ ap (λ (u : Step). Some u.clause) step
          | inr other ↦
              let before : k < place = omega (arith, below, other) in
              let far_len = far.len in
              let inside : k < length placed = omega (arith, before, far_len) in
              ap (numbered (now ++ s.clause ∷ [])) (get_or_append_left placed (n ∷ []) 0 k inside)
              ∙ numbered-more now (s.clause ∷ []) (slice_index placed k) t.clause (far.named k t before got marked)
        ]

    -- the last one becomes the line of the empty clause
    pub last_taken : list_all (has_named needed place) s.hints ≡ true → IsDenied clauses units s.clause → (line : Derivation) → line ≡ last_line numbers units placed s → (lines_more : List Derivation) → lines_more ≡ lines ++ line ∷ []
        → refutes set.bools clauses (map derived_of lines_more) ≡ true
    last_taken has denied_all line made lines_more added =
        and_from (derives set.bools clauses (map derived_of lines_more)) (ends_empty (map derived_of lines_more))
        (ap (derives set.bools clauses) more ∙ derives-more set.bools clauses (map derived_of lines) (derived_of line) far.derived follow)
        (ap ends_empty more ∙ ends_empty-more (map derived_of lines) (derived_of line) ∙ ap (λ (ls : List Literal). nat_eq (length ls) 0) (ap (λ (l : Derivation). l.literals) made))
      where
        more : map derived_of lines_more ≡ map derived_of lines ++ derived_of line ∷ []
        more = ap (map derived_of) added ∙ map-append derived_of lines (line ∷ [])

        there : (m : Lit) → Contains s.clause m → numbered now (unit_number units m) ≡ Some (neg m ∷ [])
        there m h = numbered-more clauses (map clause_of_line (map derived_of lines)) (unit_number units m) (neg m ∷ []) (denied_all.each m h)

        follow : follows set.bools now (derived_of line).literals (derived_of line).hints ≡ true
        follow =
            subst (λ (l : Derivation). follows set.bools now l.literals l.hints ≡ true) (sym made)
            (denied_follows set.slots (take place log) now numbers placed needed place has_number units set.bools s has there good.0)
