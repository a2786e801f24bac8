-- Numbers that are kept for the clauses of a set.
use Rattle.std.proofs.Common.{◌≡◌, ◌<◌, ◌+◌, ℕ, true, false, ◌||◌, nat_eq, List, [], ◌∷◌, ◌++◌, length, get_or, take, Option, Some, unwrap_or, option_map, is_some, slice_get, slice_index, sym, ap, ◌∙◌, arith, inl, inr}
use Rattle.std.specs.List.{list_any}
use Rattle.std.proofs.lemmas.Bool.{cases_eq}
use Rattle.std.proofs.lemmas.Bool.Decides.{nat_tests}
use Rattle.std.proofs.Math.Bool.{or-false}
use Rattle.std.proofs.lemmas.List.Folds.{list_any_more}
use Rattle.std.proofs.lemmas.Option.{slice_get-map, slice_get_within, get_or_from_slice_get}
use Rattle.lv_base.specs.declared.ids.Lit.{Lit}
use Rattle.lv_base.specs.declared.ids.ClauseId.{ClauseId}
use Rattle.lv_clauses.specs.ClauseMap.{ClauseMap, clause_at, Puts}
use Rattle.lv_model.specs.declared.plant.Plant.{Plant}
use Rattle.lv_system.specs.Numbering.{clause_of, has_number}
use Rattle.lv_system.specs.System.{SystemValue, IsSystemOf}
use Rattle.lv_cert_meaning.specs.Following.{numbered}
use Rattle.lv_cert_meaning.specs.Blocks.{clauses_of}
use Rattle.lv_cert_writing.specs.BlockNumbers.{HaveNumbers, AreSystemNumbers, Keeps}
use Rattle.lv_cert_writing.proofs.PlaceLemmas.{by_place, numbered-more, numbered-last}

-- the next clause of a system
pub number_next : (s : SystemValue) (n : ℕ) (old new : List ℕ) (id : ClauseId) (number : ℕ) → slice_get s.ids n ≡ Some id → number ≡ n + 1 → Keeps old new id.0 number
    → AreSystemNumbers s (take n s.ids) old → AreSystemNumbers s (take (n + 1) s.ids) new
number_next s n old new id number at count keeps are = record { each = each }
  where
    each : (i : ℕ) (c : List Lit) → list_any (has_number i) (take (n + 1) s.ids) ≡ true → clause_at s.set.slots i ≡ Some c → numbered (clauses_of s) (slice_index new i) ≡ Some c
    each i c listed present = elim (cases_eq i id.0) [
      | inl same ↦
          let clause : clause_of s.set.slots id ≡ Some c = ap (clause_at s.set.slots) (sym same) ∙ present in
          ap (λ k. numbered (clauses_of s) (slice_index new k)) same
          ∙ ap (numbered (clauses_of s)) keeps.kept
          ∙ by_place (clauses_of s) number n count
          ∙ slice_get-map (λ (j : ClauseId). unwrap_or (clause_of s.set.slots j) []) s.ids n
          ∙ ap (option_map (λ (j : ClauseId). unwrap_or (clause_of s.set.slots j) [])) at
          ∙ ap (λ (o : Option (List Lit)). Some (unwrap_or o [])) clause
      | inr other ↦
          let within : n < length s.ids = slice_get_within s.ids n id at in
          let here : get_or s.ids n id ≡ id = get_or_from_slice_get s.ids n id id at in
          let differs : nat_eq id.0 i ≡ false = grind (arith, nat_tests, other) in
          let before : list_any (has_number i) (take n s.ids) ≡ true =
          sym (or-false (list_any (has_number i) (take n s.ids)))
          ∙ ap (λ b. list_any (has_number i) (take n s.ids) || b) (sym differs ∙ sym (ap (has_number i) here))
          ∙ sym (list_any_more (has_number i) s.ids n id within)
          ∙ listed in
          ap (numbered (clauses_of s)) (keeps.others i other) ∙ are.each i c before present
    ]

-- all clauses of a plant's system
pub all_numbered : (plant : Plant) (s : SystemValue) (numbers : List ℕ) → IsSystemOf plant s → AreSystemNumbers s s.ids numbers → HaveNumbers s.set.slots (clauses_of s) numbers
all_numbered plant s numbers is are = record { each = λ i c at. are.each i c (is.numbered.all i (ap is_some at)) at }

-- one clause more
pub numbers_more : (clauses : List (List Lit)) (c : List Lit) (old new : ClauseMap) (id : ℕ) (numbers more : List ℕ) (number : ℕ) → number ≡ length clauses + 1 → Puts old new id (Some c)
    → Keeps numbers more id number → HaveNumbers old.slots clauses numbers → HaveNumbers new.slots (clauses ++ c ∷ []) more
numbers_more clauses c old new id numbers more number count puts keeps have = record { each = each }
  where
    each : (i : ℕ) (d : List Lit) → clause_at new.slots i ≡ Some d → numbered (clauses ++ c ∷ []) (slice_index more i) ≡ Some d
    each i d at = elim (cases_eq i id) [
      | inl same ↦
          ap (λ k. numbered (clauses ++ c ∷ []) (slice_index more k)) same
          ∙ ap (numbered (clauses ++ c ∷ [])) keeps.kept
          ∙ numbered-last clauses c number count
          ∙ sym puts.changed
          ∙ ap (clause_at new.slots) (sym same)
          ∙ at
      | inr other ↦
          ap (numbered (clauses ++ c ∷ [])) (keeps.others i other)
          ∙ numbered-more clauses (c ∷ []) (slice_index numbers i) d (have.each i d (sym (puts.others i other) ∙ at))
    ]
