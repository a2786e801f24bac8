-- What a block states, assumed or added to a set one after the other, and what is then told of the set.
use Rattle.std.proofs.Common.{◌≡◌, ◌≢◌, ◌<◌, ◌+◌, ℕ, Bool, true, false, not, ◌&&◌, ◌||◌, List, [], ◌∷◌, ◌++◌, length, get_or, replicate, Some, Contains, refl, sym, ap, subst, ◌∙◌, arith, inl, inr, slice_index, slice_set}
use Rattle.std.specs.List.{list_all}
use Rattle.std.proofs.lemmas.Bool.{and_from, and_parts}
use Rattle.std.proofs.lemmas.Bool.Decides.{nat_tests}
use Rattle.std.proofs.lemmas.List.{append_assoc, append-nil, length-append, length-map, length-replicate, length-set, get_or-set_same, get_or-set_other}
use Rattle.std.proofs.lemmas.List.Elements.{Contains-push_cases}
use Rattle.std.proofs.lemmas.List.Folds.{list_all-append}
use Rattle.lv_base.specs.declared.ids.Lit.{Lit}
use Rattle.lv_clauses.specs.Literals.{same_var, in_range, distinct, is_clause, lit_holds, clause_holds}
use Rattle.lv_clauses.specs.ClauseMap.{ClauseMap, clause_at, satisfies}
use Rattle.lv_clauses.proofs.LiteralLemmas.{present_holds, Contains-nil, Contains-head, Contains-tail}
use Rattle.lv_system.specs.System.{SystemValue}
use Rattle.lv_system.proofs.NumberingLemmas.{all_present_hold}
use Rattle.lv_cert_meaning.specs.Blocks.{clauses_of}
use Rattle.lv_cert_meaning.specs.Following.{numbered}
use Rattle.lv_cert_writing.specs.BlockNumbers.{HaveNumbers}
use Rattle.lv_cert_writing.specs.StatedClauses.{AddsOne, AreStated}
use Rattle.lv_cert_writing.proofs.BlockNumberLemmas.{numbers_more}
use Rattle.lv_cert_writing.proofs.PlaceLemmas.{numbered-more, numbered-last}

-- a clause of one literal is that literal alone, in range
pub single : (c : List Lit) (d : Lit) → length c ≡ 1 → c ≡ get_or c 0 d ∷ []
single [] d e = absurd (cc e)
single (l ∷ []) d e = refl
single (l ∷ (m ∷ ms)) d e = absurd (omega (arith, e))

pub single_within : (bools : ℕ) (c : List Lit) (d : Lit) → length c ≡ 1 → is_clause bools c ≡ true → in_range bools (get_or c 0 d) ≡ true
single_within bools [] d e h = absurd (cc e)
single_within bools (l ∷ ls) d e h = (and_parts (in_range bools l) (list_all (in_range bools) ls) (and_parts (list_all (in_range bools) (l ∷ ls)) (distinct (l ∷ ls)) h).0).0

-- before anything is stated
pub none_stated : (first : ClauseMap) (kept : List ℕ) (models : ℕ) (assumed : List Lit) (units : List ℕ) → assumed ≡ [] → units ≡ replicate first.bools 0 → AreStated first kept models [] first kept assumed units
none_stated first kept models assumed units none fresh =
    record {
      bools = refl;
      hold = λ values sat all. refl;
      clause = ap (is_clause first.bools) none;
      whole = ap (λ (us : List ℕ). length us) fresh ∙ length-replicate first.bools 0;
      taken = λ l h. absurd (Contains-nil l (subst (λ (ls : List Lit). Contains ls l) none h));
      numbered_are = λ clauses long have. subst (λ (cs : List (List Lit)). HaveNumbers first.slots cs kept) (sym (append-nil clauses)) have;
      units_are = λ clauses long. record { each = λ l h. absurd (Contains-nil l (subst (λ (ls : List Lit). Contains ls l) none h)) };
    }

module _ (first : ClauseMap) (kept : List ℕ) (models : ℕ) (own : List (List Lit)) (set : ClauseMap) (numbers : List ℕ) (assumed : List Lit) (units : List ℕ) (far : AreStated first kept models own set numbers assumed units) (c : List Lit) where
  -- what stands in front keeps its numbers
  front : (clauses : List (List Lit)) → (clauses ++ own) ++ c ∷ [] ≡ clauses ++ (own ++ c ∷ [])
  front clauses = append_assoc clauses own (c ∷ [])

  units_front : (clauses : List (List Lit)) (l : Lit) → length clauses ≡ models → Contains assumed l → numbered (clauses ++ (own ++ c ∷ [])) (slice_index units l.var.0) ≡ Some (l ∷ [])
  units_front clauses l long h =
      ap (λ (cs : List (List Lit)). numbered cs (slice_index units l.var.0)) (sym (front clauses))
      ∙ numbered-more (clauses ++ own) (c ∷ []) (slice_index units l.var.0) (l ∷ []) ((far.units_are clauses long).each l h)

  behind : (number : ℕ) → number ≡ models + length own + 1 → (clauses : List (List Lit)) → length clauses ≡ models → number ≡ length (clauses ++ own) + 1
  behind number count clauses long = omega (arith, count, long, length-append clauses own)

  -- the clause is added
  pub one_added : (new : ClauseMap) (more : List ℕ) (number : ℕ) → number ≡ models + length own + 1 → AddsOne set new numbers more c number → AreStated first kept models (own ++ c ∷ []) new more assumed units
  one_added new more number count adds =
      record {
        bools = adds.puts.bools ∙ far.bools;
        hold =
            λ values sat all. list_all-append (clause_holds values) own (c ∷ [])
            ∙ and_from (list_all (clause_holds values) own) (clause_holds values c && true) (far.hold values (before values sat) all)
            (and_from (clause_holds values c) true (present_holds values new.slots adds.id c sat adds.puts.changed) refl);
        clause = ap (λ (n : ℕ). is_clause n assumed) adds.puts.bools ∙ far.clause;
        whole = far.whole ∙ sym adds.puts.bools;
        taken = far.taken;
        numbered_are =
            λ clauses long have.
            subst (λ (cs : List (List Lit)). HaveNumbers new.slots cs more) (front clauses)
            (numbers_more (clauses ++ own) c set new adds.id numbers more number (behind number count clauses long) adds.puts adds.keeps (far.numbered_are clauses long have));
        units_are = λ clauses long. record { each = λ l h. units_front clauses l long h };
      }
    where
      before : (values : List Bool) → satisfies values new.slots ≡ true → satisfies values set.slots ≡ true
      before values sat =
          all_present_hold values set.slots
          (λ n d at.
          let other : n ≢ adds.id = λ same. absurd (cc (sym at ∙ ap (clause_at set.slots) same ∙ adds.vacant)) in
          present_holds values new.slots n d sat (adds.puts.others n other ∙ at))

  -- the clause's one literal is assumed, of whose boolean nothing was
  module _ (l : Lit) (alone : c ≡ l ∷ []) (free : slice_index units l.var.0 ≡ 0) (within : in_range set.bools l ≡ true) (number : ℕ) (count : number ≡ models + length own + 1) where
    below : l.var.0 < length units
    below = let whole = far.whole in let in_set : l.var.0 < set.bools = grind (arith, nat_tests, within) in omega (arith, whole, in_set)

    apart : (m : Lit) → Contains assumed m → m.var.0 ≢ l.var.0
    apart m h same = far.taken m h (ap (slice_index units) same ∙ free)

    all_apart : (ms : List Lit) → ((m : Lit) → Contains ms m → m.var.0 ≢ l.var.0) → distinct ms ≡ true → distinct (ms ++ l ∷ []) ≡ true
    all_apart [] each once = refl
    all_apart (m ∷ ms) each once =
        let two = and_parts (list_all (λ (n : Lit). not (same_var m n)) ms) (distinct ms) once in
        let differs : m.var.0 ≢ l.var.0 = each m (Contains-head m ms) in
        let other : not (same_var m l) ≡ true = grind (arith, nat_tests, differs) in
        and_from (list_all (λ (n : Lit). not (same_var m n)) (ms ++ l ∷ [])) (distinct (ms ++ l ∷ []))
        (list_all-append (λ (n : Lit). not (same_var m n)) ms (l ∷ []) ∙ and_from (list_all (λ (n : Lit). not (same_var m n)) ms) (not (same_var m l) && true) two.0 (and_from (not (same_var m l)) true other refl))
        (all_apart ms (λ n h. each n (Contains-tail m n ms h)) two.1)

    clause_more : is_clause set.bools (assumed ++ l ∷ []) ≡ true
    clause_more =
        let two = and_parts (list_all (in_range set.bools) assumed) (distinct assumed) far.clause in
        and_from (list_all (in_range set.bools) (assumed ++ l ∷ [])) (distinct (assumed ++ l ∷ []))
        (list_all-append (in_range set.bools) assumed (l ∷ []) ∙ and_from (list_all (in_range set.bools) assumed) (in_range set.bools l && true) two.0 (and_from (in_range set.bools l) true within refl))
        (all_apart assumed apart two.1)

    now : slice_index (slice_set units l.var.0 number) l.var.0 ≡ number
    now = get_or-set_same units l.var.0 number 0 below

    as_before : (m : Lit) → Contains assumed m → slice_index (slice_set units l.var.0 number) m.var.0 ≡ slice_index units m.var.0
    as_before m h = get_or-set_other units l.var.0 m.var.0 number 0 (apart m h)

    pub one_assumed : (assumed_more : List Lit) (units_more : List ℕ) → assumed_more ≡ assumed ++ l ∷ [] → units_more ≡ slice_set units l.var.0 number → AreStated first kept models (own ++ c ∷ []) set numbers assumed_more units_more
    one_assumed assumed_more units_more joined noted =
        subst (λ (ls : List Lit). AreStated first kept models (own ++ c ∷ []) set numbers ls units_more) (sym joined)
        (subst (λ (us : List ℕ). AreStated first kept models (own ++ c ∷ []) set numbers (assumed ++ l ∷ []) us) (sym noted)
        (record {
          bools = far.bools;
          hold = hold;
          clause = clause_more;
          whole = length-set units l.var.0 number ∙ far.whole;
          taken = taken;
          numbered_are = λ clauses long have. record {
            each =
                λ id d at. ap (λ (cs : List (List Lit)). numbered cs (slice_index numbers id)) (sym (front clauses))
                ∙ numbered-more (clauses ++ own) (c ∷ []) (slice_index numbers id) d ((far.numbered_are clauses long have).each id d at);
          };
          units_are = λ clauses long. record { each = named clauses long };
        }))
      where
        hold : (values : List Bool) → satisfies values set.slots ≡ true → list_all (lit_holds values) (assumed ++ l ∷ []) ≡ true → list_all (clause_holds values) (own ++ c ∷ []) ≡ true
        hold values sat all =
            let two = and_parts (list_all (lit_holds values) assumed) (lit_holds values l && true) (sym (list_all-append (lit_holds values) assumed (l ∷ [])) ∙ all) in
            let last = and_parts (lit_holds values l) true two.1 in
            let holds : clause_holds values c ≡ true = ap (clause_holds values) alone ∙ ap (λ (b : Bool). b || false) last.0 in
            list_all-append (clause_holds values) own (c ∷ [])
            ∙ and_from (list_all (clause_holds values) own) (clause_holds values c && true) (far.hold values sat two.0) (and_from (clause_holds values c) true holds refl)

        taken : (m : Lit) → Contains (assumed ++ l ∷ []) m → slice_index (slice_set units l.var.0 number) m.var.0 ≢ 0
        taken m h = elim (Contains-push_cases assumed l m h) [
          | inl before ↦ λ none. far.taken m before (sym (as_before m before) ∙ none)
          | inr last ↦ λ none. absurd (let here : number ≡ 0 = sym now ∙ ap (λ (k : Lit). slice_index (slice_set units l.var.0 number) k.var.0) last ∙ none in omega (arith, here, count))
        ]

        named : (clauses : List (List Lit)) → length clauses ≡ models → (m : Lit) → Contains (assumed ++ l ∷ []) m → numbered (clauses ++ (own ++ c ∷ [])) (slice_index (slice_set units l.var.0 number) m.var.0) ≡ Some (m ∷ [])
        named clauses long m h = elim (Contains-push_cases assumed l m h) [
          | inl before ↦ ap (numbered (clauses ++ (own ++ c ∷ []))) (as_before m before) ∙ units_front clauses m long before
          | inr last ↦
              ap (λ (k : Lit). numbered (clauses ++ (own ++ c ∷ [])) (slice_index (slice_set units l.var.0 number) k.var.0)) (sym last)
              ∙ ap (numbered (clauses ++ (own ++ c ∷ []))) now
              ∙ ap (λ (cs : List (List Lit)). numbered cs number) (sym (front clauses))
              ∙ numbered-last (clauses ++ own) c number (behind number count clauses long)
              ∙ ap (λ (d : List Lit). Some d) alone
              ∙ ap (λ (k : Lit). Some (k ∷ [])) last
        ]

pub clause_count : (s : SystemValue) → length (clauses_of s) ≡ length s.ids
clause_count s = simp length-map
