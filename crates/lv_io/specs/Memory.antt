-- Files in memory: what a name is looked up as, and what is left to a reader.
use Rattle.std.specs.Global.{Global, Vec}
use Rattle.std.specs.Prelude.{ℕ, Bool, List, Option, None, String, string_bytes, drop, map, min, max, position, slice_get, nat_eq, if◌then◌else◌}
use Rattle.std.specs.Option.{option_map, option_and_then}
use Rattle.std.specs.Cmp.Lexicographic.{pointwise}
use Rattle.lv_io.specs.declared.Role.{Role}
use Rattle.lv_io.specs.declared.Slot.{Slot}
use Rattle.lv_io.specs.declared.mem_shelf.Reader.{Reader}
use Rattle.lv_io.specs.Slots.{is_slot}

-- a name, and the bytes of the file of that name
abbrev pub File : Type 0
File = String Global × Vec ℕ

-- the file has this name
abbrev pub is_named : List ℕ → File → Bool
is_named name file = pointwise nat_eq (string_bytes file.0) name

-- the place of the first file of this name
abbrev pub place_of : List File → List ℕ → Option ℕ
place_of files name = position (is_named name) files

-- the bytes of the file at a place
abbrev pub bytes_at : List File → ℕ → Option (List ℕ)
bytes_at files place = option_map (λ (file : File). file.1.items) (slice_get files place)

-- the bytes of the first file of this name
abbrev pub file_of : List File → List ℕ → Option (List ℕ)
file_of files name = option_and_then (bytes_at files) (place_of files name)

-- what is left to a reader
abbrev pub left_of : List File → Reader → Option (List ℕ)
left_of files reader = option_map (drop reader.at) (bytes_at files reader.file)

-- the roles of readers, in order
abbrev pub roles_of : List Reader → List Role
roles_of readers = map (λ (reader : Reader). reader.role) readers

-- what is left of a slot
abbrev pub rest_of : List File → List Reader → Slot → Option (List ℕ)
rest_of files readers slot =
    if is_slot (roles_of readers) slot then option_and_then (left_of files) (slice_get readers slot.index) else None

-- how many of `left` bytes one read gives into `room`, where at most `piece` come at a time, and at least one
abbrev pub piece_of : ℕ → ℕ → ℕ → ℕ
piece_of piece room left = min (min room (max piece 1)) left
