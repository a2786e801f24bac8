-- What a shelf in memory tells.
use Rattle.std.specs.Prelude.{ℕ, Bool, List, Option}
use Rattle.lv_io.specs.declared.Role.{Role}
use Rattle.lv_io.specs.declared.Slot.{Slot}
use Rattle.lv_io.specs.declared.mem_shelf.MemShelf.{MemShelf}
use Rattle.lv_io.specs.Counts.{count_of}
use Rattle.lv_io.specs.Slots.{is_slot}
use Rattle.lv_io.specs.Memory.{file_of, roles_of, rest_of}

-- the bytes of the file of a name
abbrev pub mem_file : MemShelf → List ℕ → Option (List ℕ)
mem_file shelf = file_of shelf.files.items

-- what is left of a slot
abbrev pub mem_rest : MemShelf → Slot → Option (List ℕ)
mem_rest shelf = rest_of shelf.files.items shelf.readers.items

-- the slot was answered
abbrev pub mem_knows : MemShelf → Slot → Bool
mem_knows shelf = is_slot (roles_of shelf.readers.items)

-- the faults of a role
abbrev pub mem_faults : MemShelf → Role → ℕ
mem_faults shelf = count_of shelf.faults
