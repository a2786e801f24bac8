-- Readers of files in memory: what is left of each slot as one is added or goes on.
use Rattle.std.proofs.Common.{◌≡◌, ◌≢◌, ℕ, ◌+◌, ◌<◌, ◌≤◌, Bool, true, false, List, [], ◌∷◌, ◌++◌, length, set, take, drop, Option, None, Some, refl, sym, ◌∙◌, ap, subst, arith, length-append, length-take, if◌then◌else◌}
use Rattle.std.specs.Prelude.{slice_get, IsTrue, IsSome, unwrap_or, nat_lt}
use Rattle.std.specs.Option.{option_map, option_and_then}
use Rattle.std.specs.List.{position_or_len}
use Rattle.std.proofs.lemmas.Option.{cond_some}
use borrow.Author.Tests.{ltb-true}
use Rattle.std.proofs.lemmas.List.{take-append-drop, drop-drop, nil_from_length}
use Rattle.std.proofs.Math.Seq.{take-append_seam}
use Rattle.lv_io.specs.declared.Role.{Role}
use Rattle.lv_io.specs.declared.Slot.{Slot}
use Rattle.lv_io.specs.declared.mem_shelf.Reader.{Reader}
use Rattle.lv_io.specs.Outside.{Reads}
use Rattle.lv_io.specs.Slots.{is_slot}
use Rattle.lv_io.specs.Memory.{File, is_named, place_of, bytes_at, file_of, left_of, roles_of, rest_of}
use Rattle.lv_io.proofs.Places.{get_front, get_end, get_set_same, get_set_other, get_there}
use Rattle.lv_io.proofs.Answered.{same_slot, slot_within, slot_stays, slot_added, roles_kept}

abbrev pub role_at : Reader → Role
role_at reader = reader.role

-- the first `n` bytes of what is left come to the front of the buffer
pub piece_read : (bytes : Option (List ℕ)) (at n : ℕ) (front after : List ℕ)
    → front ≡ take n (unwrap_or (option_map (drop at) bytes) [])
    → n ≤ length (unwrap_or (option_map (drop at) bytes) [])
    → (n ≡ 0 → 0 < length (front ++ after) → length (unwrap_or (option_map (drop at) bytes) []) ≡ 0)
    → Reads (front ++ after) (option_map (drop at) bytes) (option_map (drop (at + n)) bytes) n
piece_read None at n front after is within empty = record {
  within = omega (arith, within);
  taken = refl;
  at_end = λ none room. tt;
}
piece_read (Some bytes) at n front after is within empty =
    let count : length front ≡ n = ap length is ∙ length-take n (drop at bytes) ∙ omega (arith, within) in
    let first : take n (front ++ after) ≡ front =
    ap (λ (k : ℕ). take k (front ++ after)) (sym count) ∙ take-append_seam front after in
    record {
      within = rw length-append (omega (arith, count));
      taken = ap Some
          (sym (take-append-drop n (drop at bytes))
          ∙ ap (λ (back : List ℕ). take n (drop at bytes) ++ back) (drop-drop n at bytes)
          ∙ ap (λ (fore : List ℕ). fore ++ drop (at + n) bytes) (sym (first ∙ is)));
      at_end = λ none room.
          let stays : at + n ≡ at = omega (arith, none) in ap (λ (k : ℕ). drop k bytes) stays
          ∙ nil_from_length (drop at bytes) (empty none room);
    }

-- what is left of a slot that was answered
pub rest_here : (files : List File) (readers : List Reader) (slot : Slot) (reader : Reader)
    → IsTrue (is_slot (roles_of readers) slot)
    → slice_get readers slot.index ≡ Some reader
    → rest_of files readers slot ≡ left_of files reader
rest_here files readers slot reader known here =
    ap (λ (b : Bool). if b then option_and_then (left_of files) (slice_get readers slot.index) else None) known
    ∙ ap (option_and_then (left_of files)) here

-- a new reader leaves what is left of the slots before
pub rest_stays : (files : List File) (readers more : List Reader) (s : Slot)
    → IsTrue (is_slot (roles_of readers) s)
    → rest_of files (readers ++ more) s ≡ rest_of files readers s
rest_stays files readers more s known =
    let within : s.index < length readers = slot_within role_at readers s known in
    ap (λ (b : Bool). if b then option_and_then (left_of files) (slice_get (readers ++ more) s.index) else None)
    (slot_stays role_at readers more s within)
    ∙ ap (λ (o : Option Reader). if is_slot (roles_of readers) s then option_and_then (left_of files) o else None)
    (get_front readers more s.index within)

-- what is left of a new reader's slot
pub rest_added : (files : List File) (readers : List Reader) (reader : Reader) (slot : Slot)
    → slot ≡ record { index = length readers; role = reader.role }
    → rest_of files (readers ++ reader ∷ []) slot ≡ left_of files reader
rest_added files readers reader slot is =
    rest_here files (readers ++ reader ∷ []) slot reader (slot_added role_at readers reader slot is)
    (ap (λ (s : Slot). slice_get (readers ++ reader ∷ []) s.index) is ∙ get_end readers reader)

rest_if : (b : Bool) (x y : Option (List ℕ)) → (b ≡ true → x ≡ y) → (if b then x else None) ≡ (if b then y else None)
rest_if true x y same = same refl
rest_if false x y same = refl

-- what is left of a slot whose reader was written
pub rest_written : (files : List File) (readers : List Reader) (slot : Slot) (reader next : Reader)
    → IsTrue (is_slot (roles_of readers) slot)
    → slice_get readers slot.index ≡ Some reader
    → next.role ≡ reader.role
    → rest_of files (set readers slot.index next) slot ≡ left_of files next
rest_written files readers slot reader next known here same =
    rest_here files (set readers slot.index next) slot next
    (ap (λ (roles : List Role). is_slot roles slot) (roles_kept role_at readers slot.index reader next here same) ∙ known)
    (get_set_same readers slot.index next (slot_within role_at readers slot known))

-- what is left of every other slot
pub rest_others : (files : List File) (readers : List Reader) (slot : Slot) (reader next : Reader)
    → IsTrue (is_slot (roles_of readers) slot)
    → slice_get readers slot.index ≡ Some reader
    → next.role ≡ reader.role
    → (s : Slot) → s ≢ slot
    → rest_of files (set readers slot.index next) s ≡ rest_of files readers s
rest_others files readers slot reader next known here same s other =
    ap (λ (roles : List Role). if is_slot roles s then option_and_then (left_of files) (slice_get (set readers slot.index next) s.index) else None)
    (roles_kept role_at readers slot.index reader next here same)
    ∙ rest_if (is_slot (roles_of readers) s) _ _
    (λ answered. ap (option_and_then (left_of files))
    (get_set_other readers slot.index s.index next
    (λ place. other (same_slot (roles_of readers) s slot answered known place))))

some_mapped : {X Y : Type 0} (f : X → Y) (o : Option X) → IsSome o → IsSome (option_map f o)
some_mapped f None there = absurd (cc)
some_mapped f (Some x) there = refl

-- a name that has a place has a file
pub file_there : (files : List File) (name : List ℕ) (place : ℕ)
    → place_of files name ≡ Some place
    → IsSome (file_of files name)
file_there files name place is =
    let there = cond_some (nat_lt (position_or_len (is_named name) files) (length files)) _ _ is in
    let within : place < length files = subst (λ (n : ℕ). n < length files) there.1 (ltb-true _ _ there.0) in
    subst (λ (o : Option ℕ). IsSome (option_and_then (bytes_at files) o)) (sym is)
    (some_mapped (λ (file : File). file.1.items) (slice_get files place) (get_there files place within))

-- no file where the name has no place
pub file_missing : (files : List File) (name : List ℕ) → place_of files name ≡ None → file_of files name ≡ None
file_missing files name is = ap (option_and_then (bytes_at files)) is
