-- The opens that a shelf keeps.
use Rattle.std.specs.Prelude.{string_bytes}
use Rattle.lv_io.specs.Outside.{Opened}
use Rattle.lv_io.specs.declared.shelf_log.Entry.{Entry}

-- an entry as the open that it records
abbrev pub opened_of : Entry → Opened
opened_of entry = record { role = entry.role; name = string_bytes entry.name }
